use Rattle.std.proofs.Common.{ap, ◌∙◌}
use Rattle.lvs_model.specs.Scripts.{script_of}
use Rattle.lvs_tidy.proofs.ReadAgain.{script_again}
use Rattle.lvs_tidy.proofs.Spaces.{if_ok}
use Rattle.lvs_tidy.proofs.printing.print_script.Goals as goal

pub returns-clause-read : goal.returns-clause-read
returns-clause-read c = λ given e. if_ok c.script_bytes.result (λ text is. ap script_of is ∙ script_again given c.args.script.now e) c.script_bytes.ensures
