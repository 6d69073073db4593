-- What a pair has done, put together from what its two sides did.
use Rattle.std.proofs.Common.{◌≡◌, ℕ, ◌+◌, ◌^◌, ◌<◌, ◌≤◌, min, List, [], ◌∷◌, ◌++◌, length, take, drop, sym, refl, ap, ◌∙◌, subst, append_assoc, arith}
use Rattle.std.specs.Prelude.{All}
use Rattle.std.proofs.Math.Seq.{take-length}
use Rattle.lvs_types.specs.declared.pair.MasterStep.{MasterStep}
use Rattle.lvs_types.specs.declared.pair.PairEnd.{PairEnd}
use Rattle.lvs_types.specs.declared.pair.PairEnd.TheVariants.{Finished, NoMemory}
use Rattle.lvs_model.specs.Pairs.{delivered}
use Rattle.lvs_pair.specs.Acting.{handed, coming, IsReady, HasActed, HasEnded, HasStopped, IsOutboxOf, WaitsForRoom}
use Rattle.lvs_pair.specs.Ends.{RelayIs, DrainedIs}
use Rattle.lvs_pair.specs.Learning.{EndsAs, HasLearntSome, LearntBy}
use Rattle.lvs_pair.specs.Pairing.{acted, items_of, learnt_of, sent_by, IsStartOf, IsStepInRange}
use Rattle.lvs_pair.specs.Playing.{arriving, HasFinished, HasBrokenOff, HasPlayed}
use Rattle.lvs_pair.specs.declared.backup.Backup.{Backup}
use Rattle.lvs_pair.specs.declared.master.Master.{Master}
use Rattle.lvs_pair.specs.declared.outbox.Outbox.{Outbox}
use Rattle.lvs_pair.specs.declared.pair.Pair.{Pair}
use Rattle.lvs_pair.proofs.Follows.{items_both, whole_of}
use Rattle.lvs_pair.proofs.Learns.{some_of_part}

-- what the pair has after it is what its two sides have
pub record IsMadeOf (after : Pair) (m : Master) (b : Backup) : Type 0 where
  pub acts : after.acts ≡ m.acts.items
  pub master : after.master.state ≡ m.core.state
  pub learnt : after.learnt ≡ b.learnt.items
  pub backup : after.backup.state ≡ b.core.state

-- what the sender posted is what was taken, and then what was left
pub record IsDrainedOf (rest : DrainedIs) (m : Master) (taken left : List (List ℕ)) : Type 0 where
  pub cut : m.outbox.sender.posted ≡ taken ++ left
  pub posted : rest.posted ≡ m.outbox.sender.posted

many : (capacity : ℕ) (posted waiting : List (List ℕ)) → WaitsForRoom capacity posted waiting → min capacity (length (posted ++ waiting)) ≤ length posted
many capacity posted [] room = let same : length (posted ++ []) ≡ length posted = ap length (whole_of posted) in omega arith
many capacity posted (w ∷ waiting) room = let enough : capacity ≤ length posted = room (omega arith) in omega arith

-- all that was handed in
handed_is : (rest : DrainedIs) (m : Master) (taken left : List (List ℕ)) → IsDrainedOf rest m taken left → taken ++ (left ++ m.outbox.waiting.items) ≡ handed m.outbox
handed_is rest m taken left d = sym (append_assoc taken left m.outbox.waiting.items) ∙ ap (λ l. l ++ m.outbox.waiting.items) (sym d.cut)

posted_first : (rest : DrainedIs) (m : Master) (taken left : List (List ℕ)) → IsDrainedOf rest m taken left → rest.posted ++ m.outbox.waiting.items ≡ handed m.outbox
posted_first rest m taken left d = ap (λ l. l ++ m.outbox.waiting.items) d.posted

finished : (before after : Pair) (r : RelayIs) (rest : DrainedIs) (m : Master) (b : Backup) (taken left : List (List ℕ)) → IsMadeOf after m b → IsDrainedOf rest m taken left
    → HasActed before.master.state before.counts before.steps m → IsOutboxOf r m.outbox → rest.left ≡ [] → LearntBy Finished before.backup.state (items_of (taken ++ (left ++ m.outbox.waiting.items))) b → HasFinished before r after rest
finished before after r rest m b taken left made d acted of none learnt =
    let all : handed m.outbox ≡ arriving before after = acted.handed ∙ ap (λ a. delivered (sent_by a) before.counts) (sym made.acts) in
    let first : rest.posted ++ m.outbox.waiting.items ≡ arriving before after = posted_first rest m taken left d ∙ all in
    let enough : min r.capacity (length (rest.posted ++ m.outbox.waiting.items)) ≤ length rest.posted =
    many r.capacity rest.posted m.outbox.waiting.items (subst (λ p. WaitsForRoom r.capacity p m.outbox.waiting.items) (sym d.posted) of.room) in
    record {
      acts = (λ i. (made.acts i, made.master i)) ∙ acted.acts;
      learnt = (λ i. (made.learnt i, made.backup i)) ∙ learnt.book ∙ ap (λ l. learnt_of before.backup.state (items_of l)) (handed_is rest m taken left d ∙ all);
      posted = (m.outbox.waiting.items, first);
      many = subst (λ l. min r.capacity (length l) ≤ length rest.posted) first enough;
      left = none;
    }

-- the master took the first of its steps, and handed in the first of its messages
record HasDone (before : Pair) (m : Master) : Type 0 where
  pub count : ℕ
  pub acts : (m.acts.items, m.core.state) ≡ acted before.master.state (take count before.steps)
  pub handed : IsStartOf (handed m.outbox) (delivered (sent_by m.acts.items) before.counts)

has_done : (led : PairEnd) (before : Pair) (r : RelayIs) (m : Master) → HasEnded before.master.state before.counts before.steps r m led → HasDone before m
has_done Finished before r m ended = record {
  count = length before.steps;
  acts = ended.0.acts ∙ ap (acted before.master.state) (sym (take-length before.steps));
  handed = ([], whole_of (handed m.outbox) ∙ ended.0.handed);
}
has_done NoMemory before r m ended = record { count = ended.0.count; acts = ended.0.acts; handed = ended.0.handed }

broken_off : (before after : Pair) (rest : DrainedIs) (m : Master) (b : Backup) (taken left : List (List ℕ)) → IsMadeOf after m b → IsDrainedOf rest m taken left
    → HasDone before m → HasLearntSome before.backup.state (items_of (taken ++ (left ++ m.outbox.waiting.items))) b → HasBrokenOff before after rest
broken_off before after rest m b taken left made d done learnt =
    let more = done.handed.0 in
    let all : handed m.outbox ++ more ≡ arriving before after = done.handed.1 ∙ ap (λ a. delivered (sent_by a) before.counts) (sym made.acts) in
    let part = taken ++ (left ++ m.outbox.waiting.items) in
    let items : items_of part ++ items_of more ≡ items_of (arriving before after) =
    items_both part more ∙ ap (λ l. items_of (l ++ more)) (handed_is rest m taken left d) ∙ ap items_of all in
    let some = some_of_part before.backup.state (items_of part) (items_of more) (items_of (arriving before after)) b items learnt in
    record {
      steps = done.count;
      acts = (λ i. (made.acts i, made.master i)) ∙ done.acts;
      items = some.count;
      learnt = (λ i. (made.learnt i, made.backup i)) ∙ some.learnt.book;
      posted = (m.outbox.waiting.items ++ more, sym (append_assoc rest.posted m.outbox.waiting.items more) ∙ ap (λ l. l ++ more) (posted_first rest m taken left d) ∙ all);
    }

pub played : (end led followed : PairEnd) (before after : Pair) (r : RelayIs) (rest : DrainedIs) (m : Master) (b : Backup) (taken left : List (List ℕ)) → IsMadeOf after m b → IsDrainedOf rest m taken left
    → HasEnded before.master.state before.counts before.steps r m led → EndsAs led followed rest.left end → LearntBy end before.backup.state (items_of (taken ++ (left ++ m.outbox.waiting.items))) b → HasPlayed before r after rest end
played Finished led followed before after r rest m b taken left made d ended ends learnt =
    let both = subst (HasEnded before.master.state before.counts before.steps r m) ends.0 ended in
    finished before after r rest m b taken left made d both.0 both.1 ends.2 learnt
played NoMemory led followed before after r rest m b taken left made d ended ends learnt =
    broken_off before after rest m b taken left made d (has_done led before r m ended) learnt

-- before anything is sent
pub coming_all : (out : Outbox) (counts : List ℕ) → out.at ≡ 0 → out.counts ≡ counts → coming out ≡ counts
coming_all out counts at same = λ i. drop (at i) (same i)

waits_for_none : (capacity : ℕ) (posted waiting : List (List ℕ)) → waiting ≡ [] → WaitsForRoom capacity posted waiting
waits_for_none capacity posted waiting none = subst (WaitsForRoom capacity posted) (sym none) (λ waits. omega arith)

pub ready : (r : RelayIs) (steps : List MasterStep) (m : Master) → m.outbox.sender.relay ≡ r.id → m.outbox.sender.posted ≡ [] → m.outbox.waiting.items ≡ [] → m.outbox.at ≡ 0 → 0 < length m.outbox.counts
    → m.acts.items ≡ [] → All IsStepInRange steps → length steps < 2 ^ 40 → m.core.steps < 2 ^ 40 → IsReady r steps m
ready r steps m relay posted waiting at counts acts in_range few young = record {
  outbox = record {
    relay = relay;
    counted = subst (λ n. n < length m.outbox.counts) (sym at) counts;
    room = waits_for_none r.capacity m.outbox.sender.posted m.outbox.waiting.items waiting;
  };
  acts = acts;
  handed = λ i. posted i ++ waiting i;
  in_range = in_range;
  young = omega arith;
}
