use Rattle.std.proofs.Common.{◌∙◌, ap, sym, arith}
use Rattle.lvs_model.specs.MessageReading.{are_options}
use Rattle.lvs_sync_codec.proofs.Skipping.{pass_option, miss_option, empty_option}
use Rattle.lvs_sync_codec.proofs.options.after_option.Goals as goal
use Rattle.lvs_sync_codec.proofs.options.after_option.Goals.{then-size-eq0-via-then-size-eq0, then-size-eq0-via-else-size-eq0+then-bytes-size}

pub returns-clause-rest : goal.returns-clause-rest
returns-clause-rest c =
    pass_option c.from-size.result c.args.bytes.now (sym c.from-size.ensures) (omega arith) c.if-bytes-size.false
    ∙ ap (are_options 0) (sym c.rest_from.ensures)

pub returns-then-size-eq0-clause-rest : goal.returns-then-size-eq0-clause-rest
returns-then-size-eq0-clause-rest c =
    elim c.then-size-eq0.branch [
      | then-size-eq0-via-then-size-eq0 w ↦ empty_option c.args.bytes.now (omega arith) (sym c.from-size.ensures ∙ w.if-size-eq0.true)
      | then-size-eq0-via-else-size-eq0+then-bytes-size w ↦ miss_option c.from-size.result c.args.bytes.now (sym c.from-size.ensures) (omega arith) (omega arith) (omega arith)
    ]
