-- The seats of a round stay in order, and a round with every seat at its end is whole.
use Rattle.std.proofs.Common.{◌≡◌, ℕ, zero, suc, ◌+◌, ◌<◌, Bool, true, false, not, List, [], ◌∷◌, length, map, drop, refl, sym, ap, subst, ◌∙◌, arith}
use Rattle.std.specs.Prelude.{slice_index_or}
use Rattle.lvs_types.specs.declared.item.Item.{Item}
use Rattle.lvs_types.specs.declared.book.RoundBook.{RoundBook}
use Rattle.lvs_model.specs.Books.{IsWhole}
use Rattle.lvs_shared.specs.declared.origin.Opened.{Opened}
use Rattle.lvs_shared.specs.Rounds.{DirectorSeen}
use Rattle.lvs_shared.specs.Seats.{SeatSeen, AreSeats, AreAtEnd, new_seats}

-- what was handed out and came back: each has the number that it had
pub numbers_kept : {A : Type 0} (number : A → ℕ) (old new : List A) → length new ≡ length old → ((i : ℕ) (d : A) → i < length old → (job : A) × ((e : A) → slice_index_or old i e ≡ job) × (number (slice_index_or new i d) ≡ number job)) → map number new ≡ map number old
numbers_kept number [] [] len each = refl
numbers_kept number [] (t ∷ new) len each = absurd (omega (arith, len))
numbers_kept number (s ∷ old) [] len each = absurd (omega (arith, len))
numbers_kept number (s ∷ old) (t ∷ new) len each =
    let at = each 0 t (omega arith) in
    let same : number t ≡ number s = at.2 ∙ ap number (sym (at.1 s)) in
    ap (λ n. n ∷ map number new) same ∙ ap (λ l. number s ∷ l) (numbers_kept number old new (omega (arith, len)) (λ i d lt. each (suc i) d (omega (arith, lt))))

-- seats of the same actors in the same order
pub seats_kept : (old new : List SeatSeen) (first actors : ℕ) → map (λ (s : SeatSeen). s.actor) new ≡ map (λ (s : SeatSeen). s.actor) old → AreSeats first actors old → AreSeats first actors new
seats_kept [] [] first actors same are = are
seats_kept [] (t ∷ new) first actors same are = absurd (omega (arith, ap length same))
seats_kept (s ∷ old) [] first actors same are = absurd (omega (arith, ap length same))
seats_kept (s ∷ old) (t ∷ new) first actors same are =
    let at : t.actor ≡ s.actor = ap (λ l. slice_index_or l 0 0) same in
    let later : map (λ (x : SeatSeen). x.actor) new ≡ map (λ (x : SeatSeen). x.actor) old = ap (λ l. drop 1 l) same in
    (at ∙ are.0, seats_kept old new (suc first) actors later are.1)

new_in_order : (d : DirectorSeen) (first : ℕ) (lists : List (List Item)) → AreSeats first (first + length lists) (new_seats d.book d.origin first lists)
new_in_order d first [] = omega arith
new_in_order d first (items ∷ lists) =
    (refl, subst (λ (n : ℕ). AreSeats (suc first) n (new_seats d.book d.origin (suc first) lists)) (omega arith) (new_in_order d (suc first) lists))

-- the seats of an opening are in order, of the actors that the book's name tells
pub seats_begun : (d : DirectorSeen) (named : Opened) (seats : List SeatSeen) → d.origin ≡ named → seats ≡ new_seats d.book d.origin 0 d.origin.plan.lists → AreSeats 0 (length named.plan.lists) seats
seats_begun d named seats same new =
    subst (λ (x : Opened). AreSeats 0 (length x.plan.lists) seats) same
    (subst (λ (s : List SeatSeen). AreSeats 0 (length d.origin.plan.lists) s) (sym new) (subst (λ (n : ℕ). AreSeats 0 n (new_seats d.book d.origin 0 d.origin.plan.lists)) (omega arith) (new_in_order d 0 d.origin.plan.lists)))

-- a director whose seats are at their ends leaves a whole book of the opening's plan
pub whole_of : (d opening : DirectorSeen) (book : RoundBook) (end : Bool) (lent seats : List SeatSeen) → d ≡ opening → end ≡ true → lent ≡ seats → (end ≡ true → AreAtEnd lent) → (AreAtEnd seats → IsWhole d.origin.plan book) → IsWhole opening.origin.plan book
whole_of d opening book end lent seats same is lends ends whole =
    let P : DirectorSeen → Type 0 = λ x. IsWhole x.origin.plan book in
    subst P same (whole (subst (λ (s : List SeatSeen). AreAtEnd s) lends (ends is)))
