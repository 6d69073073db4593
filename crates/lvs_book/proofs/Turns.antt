-- Draw, look, turn and raise keep the rule.
use Rattle.std.proofs.Common.{◌≡◌, ◌≢◌, ℕ, ◌+◌, ◌%◌, ◌^◌, ◌<◌, ◌≤◌, eqb, List, [], ◌∷◌, ◌⊎◌, length, get_or, set, refl, sym, ap, ◌∙◌, subst, arith, inl, inr}
use mathlib.Core.Option.{Option, some, none}
use mathlib.Core.Logic.{dite}
use native.Mathlib.Decide.{ℕ_discrete}
use Rattle.std.proofs.Math.Nat.{mod-add-mod}
use lib.ListN.{get_elem?}
use Rattle.atomic_table.specs.Table.{State, Me, Act, keeps, takes, gives, put_back, rest, Allows, Valid, stepped, carried_after}
use Rattle.atomic_table.proofs.Lists.{set_again, one_turn}
use Rattle.lvs_book.specs.declared.view.Phase.{Phase}
use Rattle.lvs_book.specs.declared.view.Phase.TheVariants.{Out, Waiting, Turn}
use Rattle.lvs_book.specs.declared.view.View.{View}
use Rattle.lvs_book.specs.Sums.{total, one_if, between}
use Rattle.lvs_book.specs.Lanes.{AllFrom, Own}
use Rattle.lvs_book.specs.Rule.{has_ticket, waits, works, ticket, waiting, working, lane, lane_count, Sound, Slot, Kept}
use Rattle.lvs_book.specs.Steps.{ticket_of, MayLeave, in_phase, at_rest, drawn, looked, turned, raised}
use Rattle.lvs_book.proofs.Sums.{total_set, total_same, at_le_total, total_lt, between_more, between_less, between_le, one_if_eq}
use Rattle.lvs_book.proofs.Lanes.{of_one}
use Rattle.lvs_book.proofs.Facts.{each_set, works_le, idle_turns, gives_all, at_home, in_line, few_wait, once_below, slot_out, alone}

module _ {S O A : Type 0} (origin : S → O) (acts : S → List A) (names : A → List ℕ) (n : ℕ) (o : O) where
  abbrev V : Type 0
  V = View O A

  abbrev Rule : State S V → Type 0
  Rule = Kept origin acts names n o

  pub draws : (slots id : ℕ) (me : Me S V) → me.0.phase ≡ Out → 0 < length me.0.lanes → Allows Rule slots id me 0 (λ x. (x + 1) % 2 ^ 64) (drawn me)
  draws slots id me out has_lane s r _ at _ = let all : ℕ = total waiting s.views in let last : ℕ = r.served + all in let w : V = in_phase me.0 (Waiting last) in let vs : List V = set s.views id w in
      let none_yet : waits me.0.phase ≡ 0 = ap waits out in
      let more : total waiting vs + waits me.0.phase ≡ all + 1 = total_set waiting s.views id me.0 w at in
      let up : last + 1 ≡ r.served + total waiting vs = omega arith in
      let old = r.each id me.0 at in (
        w,
        keeps,
        tt,
        record {
          served = r.served;
          log = r.log;
          few = r.few;
          all = total_same lane_count s.views id me.0 w at refl ∙ r.all;
          once = λ k. total_same (lane k) s.views id me.0 w at refl ∙ r.once k;
          words = ap (λ (ws : List ℕ). set ws 0 ((get_or ws 0 0 + 1) % 2 ^ 64)) r.words ∙ ap (λ (z : ℕ). z ∷ r.served % 2 ^ 64 ∷ length r.log % 2 ^ 64 ∷ []) (mod-add-mod last (2 ^ 64) 1 ∙ ap (λ (z : ℕ). z % 2 ^ 64) up);
          tickets = λ t. let idle : has_ticket t me.0.phase ≡ 0 = ap (has_ticket t) out in let e = total_set (ticket t) s.views id me.0 w at in let b = between_more r.served last t (omega arith) in let k = r.tickets t in
              subst (λ (z : ℕ). total (ticket t) vs ≡ between r.served z t) up (omega arith);
          slot = subst (Slot origin acts names s.homes r.log o) (sym (total_same working s.views id me.0 w at (ap works out))) r.slot;
          each = each_set (Sound origin acts names r.served r.log o) s.views id w (tt, omega arith, old.2, old.3) (λ j v _. r.each j v);
          within = r.within;
        },
        (last, ap (λ (ws : List ℕ). get_or ws 0 0) r.words, refl),
      )

  -- what a step may do, in a state that meets the rule
  abbrev Moves : State S V → ℕ → Me S V → ℕ → (ℕ → ℕ) → (ℕ → Me S V → Type 0) → Type 0
  Moves s id me i f then = (w : V) × (a : Act S) × Valid s.homes me.1 a × Rule (stepped s i (f (get_or s.words i 0)) id me.1 w a) × then (get_or s.words i 0) (w, carried_after me.1 a)

  -- the word that is only read
  unread : (s : State S V) (r : Rule s) → set s.words 1 (get_or s.words 1 0) ≡ s.words
  unread s r = ap (λ (ws : List ℕ). set ws 1 (get_or ws 1 0)) r.words ∙ sym r.words

  looks_on : (id : ℕ) (me : Me S V) (s : State S V) → Rule s → get_elem? s.views id ≡ some me.0 → get_or s.words 1 0 ≢ ticket_of me.0.phase % 2 ^ 64 → Moves s id me 1 (λ x. x) (looked me)
  looks_on id me s r at miss = (me.0, keeps, tt, subst Rule (λ i. record { words = sym (unread s r) i; homes = s.homes; views = sym (set_again s.views id me.0 at) i }) r, (miss, refl))

  takes_turn : (id : ℕ) (me : Me S V) (t : ℕ) → me.0.phase ≡ Waiting t → me.1 ≡ [] → (s : State S V) → Rule s → get_elem? s.views id ≡ some me.0 → get_or s.words 1 0 ≡ ticket_of me.0.phase % 2 ^ 64
      → Moves s id me 1 (λ x. x) (turned origin acts names me)
  takes_turn id me t is_waiting bare s r at hit = let v : V = me.0 in let mine : ticket_of v.phase ≡ t = ap ticket_of is_waiting in let old = r.each id v at in let served : ℕ = r.served in
      let found : get_or s.words 1 0 ≡ served % 2 ^ 64 = ap (λ (ws : List ℕ). get_or ws 1 0) r.words in
      let one : has_ticket t v.phase ≡ 1 = ap (has_ticket t) is_waiting ∙ one_if_eq t t refl in
      let b = in_line origin acts names n o s r id v t at one in let c = few_wait origin acts names n o s r in
      let is : served ≡ t = one_turn served t (2 ^ 64) b.0 (omega arith) (sym found ∙ hit ∙ ap (λ (z : ℕ). z % 2 ^ 64) mine) in
      let less = total_lt working (ticket served) s.views id v (λ j u e. works_le origin acts names served r.log u.phase (r.each j u e).0) at (subst (λ (p : Phase A). works p < has_ticket served p) (sym is_waiting) (let o = one_if_eq t served (sym is) in omega arith)) in
      let k = r.tickets served in let top = between_le served (served + total waiting s.views) served in
      let h = at_home origin acts names o s.homes r.log (total working s.views) r.slot (omega arith) in
      let y : S = h.0 in let w : V = in_phase v (Turn (ticket_of v.phase) (acts y)) in let vs : List V = set s.views id w in
      let same_wait : total waiting vs ≡ total waiting s.views = total_same waiting s.views id v w at (ap waits is_waiting) in (
        w,
        takes 0 y,
        ap (λ (hs : List (Option S)). get_elem? hs 0) h.1,
        record {
          served = served;
          log = r.log;
          few = r.few;
          all = total_same lane_count s.views id v w at refl ∙ r.all;
          once = λ k. total_same (lane k) s.views id v w at refl ∙ r.once k;
          words = unread s r ∙ r.words ∙ ap (λ (z : ℕ). (served + z) % 2 ^ 64 ∷ served % 2 ^ 64 ∷ length r.log % 2 ^ 64 ∷ []) (sym same_wait);
          tickets = λ u. total_same (ticket u) s.views id v w at (ap (has_ticket u) is_waiting ∙ ap (λ (z : ℕ). one_if (eqb z u)) (sym mine)) ∙ r.tickets u ∙ ap (λ (z : ℕ). between served (served + z) u) (sym same_wait);
          slot = let e = total_set working s.views id v w at in let z : works v.phase ≡ 0 = ap works is_waiting in
              let busy : total working vs ≡ 1 = omega arith in subst (λ (hs : List (Option S)). Slot origin acts names (set hs 0 none) r.log o (total working vs)) (sym h.1) busy;
          each = each_set (Sound origin acts names served r.log o) s.views id w ((mine ∙ sym is, h.3), subst (λ (p : Phase A). waits p ≤ length v.lanes) is_waiting old.1, old.2, old.3) (λ j u _. r.each j u);
          within = r.within;
        },
        (
          hit,
          (
            y,
            (λ i. (w, (0, y) ∷ bare i)),
            subst (λ (x : O). AllFrom x v.lanes) (sym h.2) old.2,
            subst (λ (l : List A). Own names l v.lanes) (sym h.3) old.3,
            λ i. let a = at_le_total (lane i) s.views id v at in let b = once_below origin acts names n o s r i in omega arith,
          ),
        ),
      )

  pub looks : (slots id : ℕ) (me : Me S V) (t : ℕ) → me.0.phase ≡ Waiting t → me.1 ≡ [] → Allows Rule slots id me 1 (λ x. x) (λ r m. turned origin acts names me r m ⊎ looked me r m)
  looks slots id me t is_waiting bare s r _ at _ = dite (ℕ_discrete (get_or s.words 1 0) (ticket_of me.0.phase % 2 ^ 64))
      (λ hit. let k = takes_turn id me t is_waiting bare s r at hit in (k.0, k.1, k.2, k.3, inl k.4))
      (λ miss. let k = looks_on id me s r at miss in (k.0, k.1, k.2, k.3, inr k.4))

  pub raises : (slots id : ℕ) (me : Me S V) → MayLeave origin acts names me → Allows Rule slots id me 1 (λ x. (x + 1) % 2 ^ 64) (raised me)
  raises slots id me may s r _ at _ = let v : V = me.0 in let y : S = may.0 in let old = r.each id v at in let served : ℕ = r.served in let l = gives_all origin acts names served r.log (acts y) v.phase may.2 old.0 in
      let w : V = at_rest v.lanes in let vs : List V = set s.views id w in let all : ℕ = total waiting s.views in
      let busy = l.1 in let up = l.2 in let gone = slot_out origin acts names n o s r id v at busy in
      let fewer : total waiting vs + waits v.phase ≡ all + 0 = total_set waiting s.views id v w at in
      let same_end : (served + 1) + total waiting vs ≡ served + all = omega arith in
      let origin_is : origin y ≡ o = of_one (origin y) o v.lanes (omega arith) may.3 old.2 in (
        w,
        gives,
        tt,
        record {
          served = served + 1;
          log = r.log;
          few = r.few;
          all = total_same lane_count s.views id v w at refl ∙ r.all;
          once = λ k. total_same (lane k) s.views id v w at refl ∙ r.once k;
          words = ap (λ (ws : List ℕ). set ws 1 ((get_or ws 1 0 + 1) % 2 ^ 64)) r.words ∙ (λ i. (sym same_end i) % 2 ^ 64 ∷ mod-add-mod served (2 ^ 64) 1 i ∷ length r.log % 2 ^ 64 ∷ []);
          tickets = λ t. let e = total_set (ticket t) s.views id v w at in let h = l.3 t in let b = between_less served (served + all) t (omega arith) in let k = r.tickets t in
              subst (λ (z : ℕ). total (ticket t) vs ≡ between (served + 1) z t) (sym same_end) (omega arith);
          slot = let e = total_set working s.views id v w at in let one = gone.1 in let none_works : total working vs ≡ 0 = omega arith in
              subst (λ (z : List (Option S) × List (ℕ × S)). Slot origin acts names (put_back z.0 z.1) r.log o (total working vs)) (λ i. (sym gone.0 i, sym may.1 i)) (origin_is, l.0, none_works);
          each = each_set (Sound origin acts names (served + 1) r.log o) s.views id w (tt, omega arith, old.2, old.3)
              (λ j u other there. let k = r.each j u there in (idle_turns origin acts names served (served + 1) r.log r.log u.phase (alone origin acts names n o s r id v at busy j u other there) k.0, k.1, k.2, k.3));
          within = r.within;
        },
        (λ i. (w, rest (may.1 i))),
      )
