-- What a master has done, step by step.
use Rattle.std.proofs.Common.{◌≡◌, ℕ, suc, ◌+◌, ◌<◌, ◌≤◌, min, get_or, List, [], ◌∷◌, ◌++◌, length, take, drop, flat_map, replicate, slice_index, sym, refl, ap, ◌∙◌, subst, append_assoc, arith}
use Rattle.std.specs.Prelude.{Result, Ok, Err, OnOk, OnErr}
use Rattle.std.proofs.lemmas.List.{take-append-drop, flat_map_more}
use Rattle.std.proofs.Math.Seq.{take-length, take-suc}
use Rattle.lvs_types.specs.declared.pair.MasterAct.{MasterAct}
use Rattle.lvs_types.specs.declared.pair.MasterStep.{MasterStep}
use Rattle.lvs_model.specs.Pairs.{delivered, later_counts}
use Rattle.lvs_model.specs.State.{State}
use Rattle.lvs_pair.specs.Acting.{handed, coming, HasActed, HasStopped, Takes, Stops}
use Rattle.lvs_pair.specs.Pairing.{act_of, acted, messages_of_act, sent_by, counts_after, IsStartOf}
use Rattle.lvs_pair.specs.declared.master.Master.{Master}
use Rattle.lvs_pair.proofs.Answers.{start_then}
use Rattle.lvs_pair.proofs.Learns.{first_ones, first_of_part}

abbrev after_step : List MasterAct × State → MasterStep → List MasterAct × State
after_step so_far step = let now = act_of so_far.1 step in (so_far.0 ++ now.0 ∷ [], now.1)

acted_more : (s : State) (steps : List MasterStep) (step : MasterStep) → acted s (steps ++ step ∷ []) ≡ after_step (acted s steps) step
acted_more s [] step = refl
acted_more s (first ∷ steps) step = ap (λ (later : List MasterAct × State). ((act_of s first).0 ∷ later.0, later.1)) (acted_more (act_of s first).1 steps step)

acts_more : (s t t' : State) (before : List MasterStep) (step : MasterStep) (old new : List MasterAct) (act : MasterAct)
    → (old, t) ≡ acted s before → new ≡ old ++ act ∷ [] → (act, t') ≡ act_of t step → (new, t') ≡ acted s (before ++ step ∷ [])
acts_more s t t' before step old new act so_far grown is =
    let made : (new, t') ≡ after_step (old, t) step = λ i. ((grown ∙ ap (λ a. old ++ a ∷ []) (λ j. (is j).0)) i, (is i).1) in
    made ∙ ap (λ p. after_step p step) so_far ∙ sym (acted_more s before step)

-- messages after others have the counts that these left
delivered_more : (xs ys : List (List ℕ)) (counts : List ℕ) → delivered (xs ++ ys) counts ≡ delivered xs counts ++ delivered ys (counts_after xs counts)
delivered_more [] ys counts = refl
delivered_more (x ∷ xs) ys counts = ap (λ l. replicate (slice_index counts 0) x ++ l) (delivered_more xs ys (later_counts counts))
    ∙ sym (append_assoc (replicate (slice_index counts 0) x) (delivered xs (later_counts counts)) (delivered ys (counts_after xs (later_counts counts))))

counts_more : (xs ys : List (List ℕ)) (counts : List ℕ) → counts_after (xs ++ ys) counts ≡ counts_after ys (counts_after xs counts)
counts_more [] ys counts = refl
counts_more (x ∷ xs) ys counts = counts_more xs ys (later_counts counts)

sent_more : (acts : List MasterAct) (act : MasterAct) (new : List MasterAct) → new ≡ acts ++ act ∷ [] → sent_by acts ++ messages_of_act act ≡ sent_by new
sent_more acts act new grown = flat_map_more messages_of_act [] acts act ∙ ap sent_by (sym grown)

all_of : {X : Type 0} (xs : List X) → xs ++ [] ≡ xs
all_of [] = refl
all_of (x ∷ xs) = ap (λ l. x ∷ l) (all_of xs)

-- what is due after one act more
due_more : (acts new : List MasterAct) (act : MasterAct) (counts : List ℕ) → new ≡ acts ++ act ∷ []
    → delivered (sent_by acts) counts ++ delivered (messages_of_act act) (counts_after (sent_by acts) counts) ≡ delivered (sent_by new) counts
due_more acts new act counts grown = sym (delivered_more (sent_by acts) (messages_of_act act) counts) ∙ ap (λ m. delivered m counts) (sent_more acts act new grown)

pub takes : (old new : Master) (step : MasterStep) (act : MasterAct) → new.acts.items ≡ old.acts.items ++ act ∷ [] → (act, new.core.state) ≡ act_of old.core.state step
    → handed new.outbox ≡ handed old.outbox ++ delivered (messages_of_act act) (coming old.outbox) → coming new.outbox ≡ counts_after (messages_of_act act) (coming old.outbox) → Takes old new step
takes old new step act grown is all later = λ s counts before h. record {
  acts = acts_more s old.core.state new.core.state before step old.acts.items new.acts.items act h.acts grown is;
  handed = all ∙ (λ i. h.handed i ++ delivered (messages_of_act act) (h.coming i)) ∙ due_more old.acts.items new.acts.items act counts grown;
  coming = later ∙ ap (counts_after (messages_of_act act)) h.coming ∙ sym (counts_more (sent_by old.acts.items) (messages_of_act act) counts) ∙ ap (λ m. counts_after m counts) (sent_more old.acts.items act new.acts.items grown);
}

pub stops_within : (old new : Master) (step : MasterStep) (act : MasterAct) → new.acts.items ≡ old.acts.items ++ act ∷ [] → (act, new.core.state) ≡ act_of old.core.state step
    → IsStartOf (handed new.outbox) (handed old.outbox ++ delivered (messages_of_act act) (coming old.outbox)) → Stops old new step
stops_within old new step act grown is start = λ s counts before h. record {
  count = length (before ++ step ∷ []);
  acts = acts_more s old.core.state new.core.state before step old.acts.items new.acts.items act h.acts grown is ∙ ap (acted s) (sym (take-length (before ++ step ∷ [])));
  handed = (start.0, start.1 ∙ (λ i. h.handed i ++ delivered (messages_of_act act) (h.coming i)) ∙ due_more old.acts.items new.acts.items act counts grown);
}

pub stops_before : (old new : Master) (step : MasterStep) → new.acts.items ≡ old.acts.items → new.core.state ≡ old.core.state → handed new.outbox ≡ handed old.outbox → Stops old new step
stops_before old new step same same' all = λ s counts before h. record {
  count = length before;
  acts = (λ i. (same i, same' i)) ∙ h.acts ∙ ap (acted s) (sym (first_ones before (step ∷ [])));
  handed = ([], all_of (handed new.outbox) ∙ all ∙ h.handed ∙ ap (λ a. delivered (sent_by a) counts) (sym same));
}

pub takes_on : {T E : Type 0} (r : Result T E) (old new : Master) (step : MasterStep) (act : MasterAct) → new.acts.items ≡ old.acts.items ++ act ∷ [] → (act, new.core.state) ≡ act_of old.core.state step
    → OnOk r (handed new.outbox ≡ handed old.outbox ++ delivered (messages_of_act act) (coming old.outbox)) → OnOk r (coming new.outbox ≡ counts_after (messages_of_act act) (coming old.outbox)) → OnOk r (Takes old new step)
takes_on (Ok x) old new step act grown is all later = takes old new step act grown is all later
takes_on (Err e) old new step act grown is all later = tt

pub stops_on : {T E : Type 0} (r : Result T E) (old new : Master) (step : MasterStep) (act : MasterAct) → new.acts.items ≡ old.acts.items ++ act ∷ [] → (act, new.core.state) ≡ act_of old.core.state step
    → OnErr r (IsStartOf (handed new.outbox) (handed old.outbox ++ delivered (messages_of_act act) (coming old.outbox))) → OnErr r (Stops old new step)
stops_on (Ok x) old new step act grown is start = tt
stops_on (Err e) old new step act grown is start = stops_within old new step act grown is start

-- where a step of many stopped it
pub stopped_at : (s : State) (counts : List ℕ) (steps : List MasterStep) (i : ℕ) (step d : MasterStep) (m : Master) → i < length steps → step ≡ get_or steps i d → HasStopped s counts (take i steps ++ step ∷ []) m → HasStopped s counts steps m
stopped_at s counts steps i step d m there is h = let part = take i steps ++ step ∷ [] in
    let whole : part ++ drop (suc i) steps ≡ steps = ap (λ l. l ++ drop (suc i) steps) (ap (λ y. take i steps ++ y ∷ []) is ∙ sym (take-suc steps i d there)) ∙ take-append-drop (suc i) steps in record {
      count = min h.count (length part);
      acts = h.acts ∙ ap (acted s) (first_of_part part (drop (suc i) steps) steps h.count whole);
      handed = h.handed;
    }

pub acted_to : (s : State) (counts : List ℕ) (steps : List MasterStep) (i : ℕ) (step d : MasterStep) (m : Master) → i < length steps → step ≡ get_or steps i d → HasActed s counts (take i steps ++ step ∷ []) m → HasActed s counts (take (i + 1) steps) m
acted_to s counts steps i step d m there is h = let next : suc i ≡ i + 1 = omega arith in
    subst (λ l. HasActed s counts l m) (ap (λ y. take i steps ++ y ∷ []) is ∙ sym (take-suc steps i d there) ∙ ap (λ n. take n steps) next) h
