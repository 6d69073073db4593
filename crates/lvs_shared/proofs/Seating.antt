-- A seat, when one act is added.
use Rattle.std.proofs.Common.{◌≡◌, ℕ, zero, suc, ◌+◌, ◌<◌, List, [], ◌∷◌, length, drop, sym, ap, ◌∙◌, subst, arith}
use Rattle.atomic_table.specs.Seated.{TableId}
use Rattle.lvs_book.specs.Passes.{Held, with_act}
use Rattle.lvs_types.specs.declared.item.Item.{Item}
use Rattle.lvs_shared.specs.declared.origin.Act.{Act}
use Rattle.lvs_shared.specs.declared.origin.Opened.{Opened}
use Rattle.lvs_shared.specs.Openings.{begun, list_of}
use Rattle.lvs_shared.specs.Works.{IsOwn}
use Rattle.lvs_shared.specs.Seats.{SeatSeen, IsSeat}
use Rattle.lvs_shared.proofs.Histories.{length_snoc}

drop_next : (n : ℕ) (l : List Item) (x : Item) (xs : List Item) → drop n l ≡ x ∷ xs → drop (suc n) l ≡ xs
drop_next zero [] x xs e = absurd cc
drop_next zero (y ∷ ys) x xs e = grind (arith, e)
drop_next (suc n) [] x xs e = absurd cc
drop_next (suc n) (y ∷ ys) x xs e = drop_next n ys x xs e

-- the seat's next item
pub seat_next : (z : TableId) (o : Opened) (s : SeatSeen) (item : Item) (rest : List Item) → IsSeat z o s → s.left ≡ item ∷ rest → IsOwn s.pass (record { actor = s.actor; number = s.number; item = item })
seat_next z o s item rest seat popped = record {
  lane = seat.lane ∙ ap (λ (q : Opened). (begun q).buckets + s.actor) (sym seat.origin);
  next = record {
    actor = subst (λ (q : Opened). s.actor < length q.plan.lists) (sym seat.origin) seat.actor;
    number = seat.number;
    rest = rest;
    item = ap (λ (q : Opened). drop s.number (list_of q s.actor)) seat.origin ∙ seat.left ∙ popped;
  };
}

pub seat_more : (z : TableId) (o : Opened) (s s' : SeatSeen) (a : Act) (item : Item) → IsSeat z o s → s.left ≡ item ∷ s'.left → s'.actor ≡ s.actor → s'.number ≡ s.number + 1 → s'.pass ≡ with_act a s.pass → IsSeat z o s'
seat_more z o s s' a item seat popped same number one = record {
  opened = seat.opened;
  book = ap (λ (p : Held Opened Act). p.book) one ∙ seat.book;
  origin = ap (λ (p : Held Opened Act). p.origin) one ∙ seat.origin;
  lane = ap (λ (p : Held Opened Act). p.lane) one ∙ seat.lane ∙ ap (λ (k : ℕ). (begun o).buckets + k) (sym same);
  actor = subst (λ (k : ℕ). k < length o.plan.lists) (sym same) seat.actor;
  number = number ∙ ap (λ (k : ℕ). k + 1) seat.number ∙ sym (length_snoc s.pass.acts a) ∙ sym (ap (λ (p : Held Opened Act). length p.acts) one);
  left = ap (λ (k : ℕ). drop k (list_of o s'.actor)) (number ∙ (let e : s.number + 1 ≡ suc s.number = omega arith in e)) ∙ ap (λ (k : ℕ). drop (suc s.number) (list_of o k)) same ∙ drop_next s.number (list_of o s.actor) item s'.left (seat.left ∙ popped);
  young = let e = ap length popped in omega (arith, seat.young, e, number);
}
