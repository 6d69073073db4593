use Rattle.std.proofs.Common.{◌≡◌, ℕ, List, Result, Ok, Err, map, sym, ◌∙◌, subst}
use Rattle.std.specs.Prelude.{string_bytes}
use Rattle.lvs_types.specs.declared.program.ProgramCommand.{ProgramCommand}
use Rattle.lvs_model.specs.Tasks.{task_of}
use Rattle.lvs_run.specs.Answers.{IsAnswer}
use Rattle.lvs_run.specs.Words.{called_of}
use Rattle.lvs_run.proofs.AnswerLemmas.{completed_of, first_of, refusal_of, cut_of, memory_of, given_memory, nothing_of, late, complete_after, refused_after}
use Rattle.lvs_run.proofs.program.serve.Goals as goal

pub returns-in-Ok-read_input-clause-headline : goal.returns-in-Ok-read_input-clause-headline
returns-in-Ok-read_input-clause-headline g c = λ is.
    let all = completed_of c.in-Ok.command (task_of c.in-Ok.command c.in-Ok-read_input.input.items) (g.K.Sink.written c.args.sink.now) (g.K.Sink.written c.perform_threaded.new.sink) c.perform_threaded.result.status c.perform_threaded.result.rounds.items (subst (λ (b : List ℕ). IsAnswer c.in-Ok.command (task_of c.in-Ok.command b) (g.K.Sink.written c.args.sink.now) (g.K.Sink.written c.perform_threaded.new.sink) c.perform_threaded.result.status c.perform_threaded.result.rounds.items) c.deref.ensures.value c.perform_threaded.ensures.answer) is in
    (c.in-Ok.command, c.in-Ok-read_input.input.items, all.0, (record { asked_for = sym c.in-Ok.ensures.value; read = c.in-Ok-read_input.ensures.read }), all.1, all.2)

pub returns-in-Ok-read_input-clause-first : goal.returns-in-Ok-read_input-clause-first
returns-in-Ok-read_input-clause-first g c = λ is.
    let all = first_of c.in-Ok.command (task_of c.in-Ok.command c.in-Ok-read_input.input.items) (g.K.Sink.written c.args.sink.now) (g.K.Sink.written c.perform_threaded.new.sink) c.perform_threaded.result.status c.perform_threaded.result.rounds.items (subst (λ (b : List ℕ). IsAnswer c.in-Ok.command (task_of c.in-Ok.command b) (g.K.Sink.written c.args.sink.now) (g.K.Sink.written c.perform_threaded.new.sink) c.perform_threaded.result.status c.perform_threaded.result.rounds.items) c.deref.ensures.value c.perform_threaded.ensures.answer) is in
    (c.in-Ok.command, c.in-Ok-read_input.input.items, all.0, (record { asked_for = sym c.in-Ok.ensures.value; read = c.in-Ok-read_input.ensures.read }), all.1, all.2)

pub returns-in-Ok-read_input-clause-refusal : goal.returns-in-Ok-read_input-clause-refusal
returns-in-Ok-read_input-clause-refusal g c = λ is.
    (c.in-Ok.command, c.in-Ok-read_input.input.items, (record { asked_for = sym c.in-Ok.ensures.value; read = c.in-Ok-read_input.ensures.read }), refusal_of c.in-Ok.command (task_of c.in-Ok.command c.in-Ok-read_input.input.items) (g.K.Sink.written c.args.sink.now) (g.K.Sink.written c.perform_threaded.new.sink) c.perform_threaded.result.status c.perform_threaded.result.rounds.items (subst (λ (b : List ℕ). IsAnswer c.in-Ok.command (task_of c.in-Ok.command b) (g.K.Sink.written c.args.sink.now) (g.K.Sink.written c.perform_threaded.new.sink) c.perform_threaded.result.status c.perform_threaded.result.rounds.items) c.deref.ensures.value c.perform_threaded.ensures.answer) is)

pub returns-in-Ok-read_input-clause-complete : goal.returns-in-Ok-read_input-clause-complete
returns-in-Ok-read_input-clause-complete g c = λ command input task good told short is calm quiet.
    complete_after (called_of (map string_bytes c.args.words.now)) (g.S.Source.left c.args.source.now) (g.S.Source.left c.read_input.new.source) (g.K.Sink.written c.args.sink.now) (g.K.Sink.written c.perform_threaded.new.sink) c.in-Ok.command command c.in-Ok-read_input.input.items input task c.perform_threaded.result.status c.perform_threaded.result.rounds.items (record { asked_for = sym c.in-Ok.ensures.value; read = c.in-Ok-read_input.ensures.read }) good told is (subst (λ (b : List ℕ). IsAnswer c.in-Ok.command (task_of c.in-Ok.command b) (g.K.Sink.written c.args.sink.now) (g.K.Sink.written c.perform_threaded.new.sink) c.perform_threaded.result.status c.perform_threaded.result.rounds.items) c.deref.ensures.value c.perform_threaded.ensures.answer) (λ fault. quiet (c.perform_threaded.ensures.rose fault))

pub returns-in-Ok-read_input-clause-refused_too : goal.returns-in-Ok-read_input-clause-refused_too
returns-in-Ok-read_input-clause-refused_too g c = λ command input refused good told short is calm.
    refused_after (called_of (map string_bytes c.args.words.now)) (g.S.Source.left c.args.source.now) (g.S.Source.left c.read_input.new.source) (g.K.Sink.written c.args.sink.now) (g.K.Sink.written c.perform_threaded.new.sink) c.in-Ok.command command c.in-Ok-read_input.input.items input refused c.perform_threaded.result.status c.perform_threaded.result.rounds.items (record { asked_for = sym c.in-Ok.ensures.value; read = c.in-Ok-read_input.ensures.read }) good told is (subst (λ (b : List ℕ). IsAnswer c.in-Ok.command (task_of c.in-Ok.command b) (g.K.Sink.written c.args.sink.now) (g.K.Sink.written c.perform_threaded.new.sink) c.perform_threaded.result.status c.perform_threaded.result.rounds.items) c.deref.ensures.value c.perform_threaded.ensures.answer)

pub returns-in-Ok-read_input-clause-write_fault : goal.returns-in-Ok-read_input-clause-write_fault
returns-in-Ok-read_input-clause-write_fault g c = λ is.
    let all = cut_of c.in-Ok.command (task_of c.in-Ok.command c.in-Ok-read_input.input.items) (g.K.Sink.written c.args.sink.now) (g.K.Sink.written c.perform_threaded.new.sink) c.perform_threaded.result.status c.perform_threaded.result.rounds.items (subst (λ (b : List ℕ). IsAnswer c.in-Ok.command (task_of c.in-Ok.command b) (g.K.Sink.written c.args.sink.now) (g.K.Sink.written c.perform_threaded.new.sink) c.perform_threaded.result.status c.perform_threaded.result.rounds.items) c.deref.ensures.value c.perform_threaded.ensures.answer) is in
    (c.in-Ok.command, c.in-Ok-read_input.input.items, all.0, (record { asked_for = sym c.in-Ok.ensures.value; read = c.in-Ok-read_input.ensures.read }), all.1, all.2)

pub returns-in-Ok-read_input-clause-no_memory : goal.returns-in-Ok-read_input-clause-no_memory
returns-in-Ok-read_input-clause-no_memory g c = λ is.
    given_memory (called_of (map string_bytes c.args.words.now)) (g.S.Source.left c.args.source.now) (g.S.Source.left c.read_input.new.source) c.in-Ok.command c.in-Ok-read_input.input.items (g.K.Sink.written c.args.sink.now) (g.K.Sink.written c.perform_threaded.new.sink) c.perform_threaded.result.rounds.items (record { asked_for = sym c.in-Ok.ensures.value; read = c.in-Ok-read_input.ensures.read }) (memory_of c.in-Ok.command (task_of c.in-Ok.command c.in-Ok-read_input.input.items) (g.K.Sink.written c.args.sink.now) (g.K.Sink.written c.perform_threaded.new.sink) c.perform_threaded.result.status c.perform_threaded.result.rounds.items (subst (λ (b : List ℕ). IsAnswer c.in-Ok.command (task_of c.in-Ok.command b) (g.K.Sink.written c.args.sink.now) (g.K.Sink.written c.perform_threaded.new.sink) c.perform_threaded.result.status c.perform_threaded.result.rounds.items) c.deref.ensures.value c.perform_threaded.ensures.answer) is)

pub returns-in-Ok-read_input-clause-nothing : goal.returns-in-Ok-read_input-clause-nothing
returns-in-Ok-read_input-clause-nothing g c = λ other calm room.
    nothing_of c.in-Ok.command (task_of c.in-Ok.command c.in-Ok-read_input.input.items) (g.K.Sink.written c.args.sink.now) (g.K.Sink.written c.perform_threaded.new.sink) c.perform_threaded.result.status c.perform_threaded.result.rounds.items (subst (λ (b : List ℕ). IsAnswer c.in-Ok.command (task_of c.in-Ok.command b) (g.K.Sink.written c.args.sink.now) (g.K.Sink.written c.perform_threaded.new.sink) c.perform_threaded.result.status c.perform_threaded.result.rounds.items) c.deref.ensures.value c.perform_threaded.ensures.answer) other calm room

pub returns-in-Ok-read_input-clause-words : goal.returns-in-Ok-read_input-clause-words
returns-in-Ok-read_input-clause-words g c = λ at. (
  λ e. absurd ((late c.in-Ok.command (task_of c.in-Ok.command c.in-Ok-read_input.input.items) (g.K.Sink.written c.args.sink.now) (g.K.Sink.written c.perform_threaded.new.sink) c.perform_threaded.result.status c.perform_threaded.result.rounds.items (subst (λ (b : List ℕ). IsAnswer c.in-Ok.command (task_of c.in-Ok.command b) (g.K.Sink.written c.args.sink.now) (g.K.Sink.written c.perform_threaded.new.sink) c.perform_threaded.result.status c.perform_threaded.result.rounds.items) c.deref.ensures.value c.perform_threaded.ensures.answer)).words at e),
  λ f. let never : ◌≡◌ {A = Result ProgramCommand ℕ} (Ok c.in-Ok.command) (Err at) = c.in-Ok.ensures.value ∙ f in cc,
)

pub returns-in-Ok-read_input-clause-too_long : goal.returns-in-Ok-read_input-clause-too_long
returns-in-Ok-read_input-clause-too_long g c = λ is. absurd ((late c.in-Ok.command (task_of c.in-Ok.command c.in-Ok-read_input.input.items) (g.K.Sink.written c.args.sink.now) (g.K.Sink.written c.perform_threaded.new.sink) c.perform_threaded.result.status c.perform_threaded.result.rounds.items (subst (λ (b : List ℕ). IsAnswer c.in-Ok.command (task_of c.in-Ok.command b) (g.K.Sink.written c.args.sink.now) (g.K.Sink.written c.perform_threaded.new.sink) c.perform_threaded.result.status c.perform_threaded.result.rounds.items) c.deref.ensures.value c.perform_threaded.ensures.answer)).too_long is)

pub returns-in-Ok-read_input-clause-source_rose : goal.returns-in-Ok-read_input-clause-source_rose
returns-in-Ok-read_input-clause-source_rose g c = λ is. absurd ((late c.in-Ok.command (task_of c.in-Ok.command c.in-Ok-read_input.input.items) (g.K.Sink.written c.args.sink.now) (g.K.Sink.written c.perform_threaded.new.sink) c.perform_threaded.result.status c.perform_threaded.result.rounds.items (subst (λ (b : List ℕ). IsAnswer c.in-Ok.command (task_of c.in-Ok.command b) (g.K.Sink.written c.args.sink.now) (g.K.Sink.written c.perform_threaded.new.sink) c.perform_threaded.result.status c.perform_threaded.result.rounds.items) c.deref.ensures.value c.perform_threaded.ensures.answer)).read_fault is)
