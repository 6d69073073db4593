use Rattle.lvs_sync_codec.proofs.Again.{new_again, old_again}
use Rattle.lvs_sync_codec.proofs.laws.written_is_read_again.Goals as goal

pub returns : goal.returns
returns c = record { version_1 = new_again; version_0 = old_again }
