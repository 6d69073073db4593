use Rattle.std.proofs.Common.{◌∙◌, ap, sym, Ok, rules}
use Rattle.lvs_model.specs.Captured.{captured as spec_captured}
use Rattle.lvs_pcap.specs.Reading.{IsRefusal}
use Rattle.lvs_pcap.proofs.FrameLemmas.{script_made, script_refused}
use Rattle.lvs_pcap.proofs.WithinLemmas.{within_captured}
use Rattle.lvs_pcap.proofs.captured_script.captured.Goals as goal

pub returns-in_err-rounds-clause-refused : goal.returns-in_err-rounds-clause-refused
returns-in_err-rounds-clause-refused c =
    let is : IsRefusal (spec_captured c.args.net c.args.bits c.args.step c.args.script.now c.args.capture) c.in_err-rounds.field-0.0 = script_refused c.args.net c.args.bits c.args.step c.args.script.now c.args.capture c.in_err-rounds.field-0.0 (rw (c.as_slice.ensures, c.into_vec-frames.ensures) at c.in_err-rounds.ensures.refused) in
    search rules

pub returns-clause-ok : goal.returns-clause-ok
returns-clause-ok c =
    script_made c.args.net c.args.bits c.args.step c.args.script.now c.args.capture c.in_ok-rounds.rounds.items (rw (c.as_slice.ensures, c.into_vec-frames.ensures) at c.in_ok-rounds.ensures.ok) ∙ ap Ok (sym c.in_ok-append_rounds.ensures.ok)

pub returns-clause-within : goal.returns-clause-within
returns-clause-within c = λ within are.
    within_captured c.args.net c.args.bits c.args.step c.args.script.now c.append_rounds.new.script c.args.capture (script_made c.args.net c.args.bits c.args.step c.args.script.now c.args.capture c.in_ok-rounds.rounds.items (rw (c.as_slice.ensures, c.into_vec-frames.ensures) at c.in_ok-rounds.ensures.ok) ∙ ap Ok (sym c.in_ok-append_rounds.ensures.ok)) within are
