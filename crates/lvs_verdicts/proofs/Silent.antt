-- The clock's items at places without a line are acts that print nothing.
use Rattle.std.proofs.Common.{◌≡◌, ℕ, zero, suc, ◌+◌, ◌≤◌, Bool, true, false, cond, List, [], ◌∷◌, ◌++◌, Result, Ok, Err, length, take, drop, set, refl, sym, ◌∙◌, subst, arith}
use Rattle.lvs_types.specs.declared.item.Item.{Item}
use Rattle.lvs_types.specs.declared.reply.Reply.{Reply}
use Rattle.lvs_types.specs.declared.book.Noted.{Noted}
use Rattle.lvs_model.specs.State.{State}
use Rattle.lvs_model.specs.Step.{step}
use Rattle.lvs_model.specs.Report.{is_printed, act_line, acts_text}
use Rattle.lvs_model.specs.Progress.{Queue, act_words, run_silently, clock_of, skipped}
use Rattle.lvs_verdicts.proofs.Walks.{queue_at, UsesUp}

abbrev Ran : Type 0
Ran = Result State (List ℕ)

-- acts that print nothing lead from these lists and this state at a place to those at another
pub record Fills (queues later : List Queue) (place next_place : ℕ) (s t : State) : Type 0 where
  pub quiet : List Noted
  pub walk : (acts : List Noted) (left : State) → UsesUp later t acts left → UsesUp queues s (quiet ++ acts) left
  pub text : (acts : List Noted) → acts_text place (quiet ++ acts) ≡ acts_text next_place acts

abbrev clock_act : ℕ → Item → Reply → Noted
clock_act number first answer = record { actor = 0; number = number; item = first; reply = answer }

fills_none : (queues : List Queue) (place : ℕ) (s t : State) → s ≡ t → Fills queues queues place place s t
fills_none queues place s t same = record {
  quiet = [];
  walk = λ acts left walk. subst (λ (u : State). UsesUp queues u acts left) (sym same) walk;
  text = λ acts. refl;
}

silent_text : (b : Bool) (line rest : List ℕ) → b ≡ false → cond b line [] ++ rest ≡ rest
silent_text true line rest is = absurd cc
silent_text false line rest is = refl

fills_more : (queues later : List Queue) (place next_place next : ℕ) (s t : State) (first : Item) (items : List Item) → is_printed (step s first).0 ≡ false → Fills (queue_at (next + 1) items ∷ queues) later (place + 1) next_place (step s first).1 t → Fills (queue_at next (first ∷ items) ∷ queues) later place next_place s t
fills_more queues later place next_place next s t first items silent rest =
    let own = clock_act next first (step s first).0 in
    record {
      quiet = own ∷ rest.quiet;
      walk = λ acts left walk. (items, refl, refl, rest.walk acts left walk);
      text = λ acts. silent_text (is_printed (step s first).0) (act_line place own) (acts_text (place + 1) (rest.quiet ++ acts)) silent ∙ rest.text acts;
    }

first_silent : (b : Bool) (words : List ℕ) (ran : Ran) (t : State) → cond b (Err words) ran ≡ Ok t → (b ≡ false) × (ran ≡ Ok t)
first_silent true words ran t is = absurd cc
first_silent false words ran t is = (refl, is)

fills_clock : (count place next : ℕ) (s t : State) (items : List Item) (queues : List Queue) → count ≤ length items → run_silently place next s (take count items) ≡ Ok t → Fills (queue_at next items ∷ queues) (queue_at (next + count) (drop count items) ∷ queues) place (place + count) s t
fills_clock zero place next s t items queues few is =
    let number : next ≡ next + 0 = omega arith in
    let at : place ≡ place + 0 = omega arith in
    subst (λ (n : ℕ). Fills (queue_at next items ∷ queues) (queue_at n items ∷ queues) place (place + 0) s t) number
    (subst (λ (n : ℕ). Fills (queue_at next items ∷ queues) (queue_at next items ∷ queues) place n s t) at (fills_none (queue_at next items ∷ queues) place s t cc))
fills_clock (suc count) place next s t [] queues few is = absurd (omega arith)
fills_clock (suc count) place next s t (first ∷ items) queues few is =
    let own = step s first in
    let both = first_silent (is_printed own.0) (act_words place 0 next own.0) (run_silently (place + 1) (next + 1) own.1 (take count items)) t is in
    let rest = fills_clock count (place + 1) (next + 1) own.1 t items queues (omega arith) both.1 in
    let number : next + 1 + count ≡ next + suc count = omega arith in
    let at : place + 1 + count ≡ place + suc count = omega arith in
    subst (λ (n : ℕ). Fills (queue_at next (first ∷ items) ∷ queues) (queue_at n (drop count items) ∷ queues) place (place + suc count) s t) number
    (subst (λ (n : ℕ). Fills (queue_at next (first ∷ items) ∷ queues) (queue_at (next + 1 + count) (drop count items) ∷ queues) place n s t) at (fills_more queues _ place (place + 1 + count) next s t first items both.0 rest))

-- before the first round there is no list, and nothing to fill
pub fills : (count place : ℕ) (s t : State) (queues : List Queue) → count ≤ length (clock_of queues).items → run_silently place (clock_of queues).next s (take count (clock_of queues).items) ≡ Ok t → Fills queues (set queues 0 (skipped count (clock_of queues))) place (place + count) s t
fills zero place s t [] few is =
    let at : place ≡ place + 0 = omega arith in
    subst (λ (n : ℕ). Fills [] [] place n s t) at (fills_none [] place s t cc)
fills (suc count) place s t [] few is = absurd (omega arith)
fills count place s t (clock ∷ queues) few is = fills_clock count place clock.next s t clock.items queues few is
