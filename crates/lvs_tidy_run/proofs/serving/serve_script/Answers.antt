use Rattle.std.proofs.Common.{◌≡◌, ℕ, List, Result, Ok, Err, sym, ap, ◌∙◌, subst}
use Rattle.lvs_tidy_run.specs.declared.words.Asked.{Asked}
use Rattle.lvs_tidy_run.specs.Answers.{IsAnswer}
use Rattle.lvs_tidy_run.specs.Made.{script_made}
use Rattle.lvs_tidy_run.proofs.AnswerLemmas.{late, finished_of, fault_of, nothing_of, error_is}
use Rattle.lvs_tidy_run.proofs.serving.serve_script.Goals as goal

pub returns-in-Ok-read_input-clause-printed : goal.returns-in-Ok-read_input-clause-printed
returns-in-Ok-read_input-clause-printed g c = λ is.
    let answer = subst (λ (b : List ℕ). IsAnswer (script_made c.in-Ok.given b) (g.K.Sink.written c.args.sink.now) (g.K.Sink.written c.print_made.new.sink) c.print_made.result) c.deref.ensures.value c.print_made.ensures.answer in
    let all = finished_of (script_made c.in-Ok.given c.in-Ok-read_input.input.items) (g.K.Sink.written c.args.sink.now) (g.K.Sink.written c.print_made.new.sink) c.print_made.result answer is in
    (c.in-Ok.given, c.in-Ok-read_input.input.items, all.0, (record { asked_for = sym c.in-Ok.ensures.value; read = c.in-Ok-read_input.ensures.whole; end = c.in-Ok-read_input.ensures.end }), all.1, all.2, c.print_made.ensures.again is all.0 (ap (script_made c.in-Ok.given) c.deref.ensures.value ∙ all.1))

pub returns-in-Ok-read_input-clause-write_fault : goal.returns-in-Ok-read_input-clause-write_fault
returns-in-Ok-read_input-clause-write_fault g c = λ is.
    let answer = subst (λ (b : List ℕ). IsAnswer (script_made c.in-Ok.given b) (g.K.Sink.written c.args.sink.now) (g.K.Sink.written c.print_made.new.sink) c.print_made.result) c.deref.ensures.value c.print_made.ensures.answer in
    let all = fault_of (script_made c.in-Ok.given c.in-Ok-read_input.input.items) (g.K.Sink.written c.args.sink.now) (g.K.Sink.written c.print_made.new.sink) c.print_made.result answer is in
    (c.in-Ok.given, c.in-Ok-read_input.input.items, all.0, (record { asked_for = sym c.in-Ok.ensures.value; read = c.in-Ok-read_input.ensures.whole; end = c.in-Ok-read_input.ensures.end }), all.1, all.2)

pub returns-in-Ok-read_input-clause-nothing : goal.returns-in-Ok-read_input-clause-nothing
returns-in-Ok-read_input-clause-nothing g c = λ other calm.
    nothing_of (script_made c.in-Ok.given c.deref.result.now) (g.K.Sink.written c.args.sink.now) (g.K.Sink.written c.print_made.new.sink) c.print_made.result c.print_made.ensures.answer other calm

pub returns-in-Ok-read_input-clause-words : goal.returns-in-Ok-read_input-clause-words
returns-in-Ok-read_input-clause-words g c = λ at. (
  λ e. absurd ((late (script_made c.in-Ok.given c.deref.result.now) (g.K.Sink.written c.args.sink.now) (g.K.Sink.written c.print_made.new.sink) c.print_made.result c.print_made.ensures.answer).words at e),
  λ f. let never : ◌≡◌ {A = Result Asked ℕ} (Ok c.in-Ok.given) (Err at) = c.in-Ok.ensures.value ∙ f in absurd cc,
)

pub returns-in-Ok-read_input-clause-too_long : goal.returns-in-Ok-read_input-clause-too_long
returns-in-Ok-read_input-clause-too_long g c = λ is.
    absurd ((late (script_made c.in-Ok.given c.deref.result.now) (g.K.Sink.written c.args.sink.now) (g.K.Sink.written c.print_made.new.sink) c.print_made.result c.print_made.ensures.answer).too_long is)

pub returns-in-Ok-read_input-clause-source_rose : goal.returns-in-Ok-read_input-clause-source_rose
returns-in-Ok-read_input-clause-source_rose g c = λ is.
    absurd ((late (script_made c.in-Ok.given c.deref.result.now) (g.K.Sink.written c.args.sink.now) (g.K.Sink.written c.print_made.new.sink) c.print_made.result c.print_made.ensures.answer).read_fault is)

pub returns-in-Err-read_input-clause-short : goal.returns-in-Err-read_input-clause-short
returns-in-Err-read_input-clause-short g c = λ long room.
    c.in-Err-read_input.ensures.short (λ e. long (error_is _ _ e)) (λ e. room (error_is _ _ e))
