use Rattle.lvs_laws.proofs.SaveLines.{words_said}
use Rattle.lvs_laws.proofs.save.words_give_sayable_commands.Goals as goal

pub returns : goal.returns
returns c = words_said
