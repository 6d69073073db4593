-- One more item in a list of placed items.
use Rattle.std.proofs.Common.{◌≡◌, ℕ, ◌+◌, ◌==◌, Bool, true, false, cond, List, [], ◌∷◌, ◌++◌, length, sym, ◌∙◌, ap, append_assoc, append-nil, length-append, subst, arith}
use Rattle.lvs_types.specs.declared.item.Item.{Item}
use Rattle.lvs_types.specs.declared.book.Placed.{Placed}
use Rattle.lvs_model.specs.Plans.{actor_of, items_of_actor, placed_after}
use Rattle.std.proofs.lemmas.List.{map-append}
use Rattle.std.proofs.lemmas.List.Elements.{filter-append}
use Rattle.lvs_script.specs.Placing.{IsPlaced, items_placed}

pub placed_append : (before xs ys : List Item) → placed_after before (xs ++ ys) ≡ placed_after before xs ++ placed_after (before ++ xs) ys
placed_append before [] ys = ap (λ (b : List Item). placed_after b ys) (sym (append-nil before))
placed_append before (x ∷ xs) ys =
    ap (λ (more : List Placed). record { actor = actor_of x; number = length (items_of_actor (actor_of x) before); item = x } ∷ more)
    (placed_append (before ++ x ∷ []) xs ys ∙ ap (λ (b : List Item). placed_after (before ++ x ∷ []) xs ++ placed_after b ys) (append_assoc before (x ∷ []) xs))

abbrev pub act_of : ℕ → ℕ → Item → Placed
act_of actor number item = record { actor = actor; number = number; item = item }

filter_by : (b c : Bool) (item : Item) → b ≡ c → cond b (item ∷ []) [] ≡ cond c (item ∷ []) []
filter_by b c item is = ap (λ (d : Bool). cond d (item ∷ []) []) is

count_more : (actor : ℕ) (item : Item) (items : List Item) (n : ℕ) → (actor_of item == actor) ≡ true → n ≡ length (items_of_actor actor items) → n + 1 ≡ length (items_of_actor actor (items ++ item ∷ []))
count_more actor item items n is count =
    let split : items_of_actor actor (items ++ item ∷ []) ≡ items_of_actor actor items ++ item ∷ [] = filter-append (λ (i : Item). actor_of i == actor) items (item ∷ []) ∙ ap (λ (more : List Item). items_of_actor actor items ++ more) (filter_by (actor_of item == actor) true item is) in
    omega (arith, ap length split, length-append (items_of_actor actor items) (item ∷ []))

count_same : (actor : ℕ) (item : Item) (items : List Item) (n : ℕ) → (actor_of item == actor) ≡ false → n ≡ length (items_of_actor actor items) → n ≡ length (items_of_actor actor (items ++ item ∷ []))
count_same actor item items n is count =
    let split : items_of_actor actor (items ++ item ∷ []) ≡ items_of_actor actor items ++ [] = filter-append (λ (i : Item). actor_of i == actor) items (item ∷ []) ∙ ap (λ (more : List Item). items_of_actor actor items ++ more) (filter_by (actor_of item == actor) false item is) in
    count ∙ sym (ap length (split ∙ append-nil (items_of_actor actor items)))

all_more : (old : List Placed) (item : Item) (n : ℕ) → n ≡ length (items_of_actor (actor_of item) (items_placed old)) → old ≡ placed_after [] (items_placed old) → old ++ act_of (actor_of item) n item ∷ [] ≡ placed_after [] (items_placed old ++ item ∷ [])
all_more old item n count all =
    ap (λ (k : ℕ). old ++ act_of (actor_of item) k item ∷ []) count
    ∙ ap (λ (front : List Placed). front ++ act_of (actor_of item) (length (items_of_actor (actor_of item) (items_placed old))) item ∷ []) all
    ∙ sym (placed_append [] (items_placed old) (item ∷ []))

items_more : (old : List Placed) (actor n : ℕ) (item : Item) → items_placed (old ++ act_of actor n item ∷ []) ≡ items_placed old ++ item ∷ []
items_more old actor n item = map-append (λ (p : Placed). p.item) old (act_of actor n item ∷ [])

-- what holds of the items before and one more holds of the placed list
placed_by : (old : List Placed) (actor n : ℕ) (item : Item) (clock control sync worker : ℕ) → actor_of item ≡ actor → n ≡ length (items_of_actor actor (items_placed old)) → old ≡ placed_after [] (items_placed old) → clock + control + sync + worker ≡ length old + 1 → clock ≡ length (items_of_actor 0 (items_placed old ++ item ∷ [])) → control ≡ length (items_of_actor 1 (items_placed old ++ item ∷ [])) → sync ≡ length (items_of_actor 2 (items_placed old ++ item ∷ [])) → worker ≡ length (items_of_actor 3 (items_placed old ++ item ∷ [])) → IsPlaced (old ++ act_of actor n item ∷ []) clock control sync worker
placed_by old actor n item clock control sync worker is count all few k c s w =
    let items = sym (items_more old actor n item) in
    let more : old ++ act_of actor n item ∷ [] ≡ placed_after [] (items_placed old ++ item ∷ []) =
    ap (λ (a : ℕ). old ++ act_of a n item ∷ []) (sym is) ∙ all_more old item n (count ∙ ap (λ (a : ℕ). length (items_of_actor a (items_placed old))) (sym is)) all in
    record {
      few = omega (arith, length-append old (act_of actor n item ∷ []));
      all = more ∙ ap (placed_after []) items;
      clock_items = k ∙ ap (λ (i : List Item). length (items_of_actor 0 i)) items;
      control_items = c ∙ ap (λ (i : List Item). length (items_of_actor 1 i)) items;
      sync_items = s ∙ ap (λ (i : List Item). length (items_of_actor 2 i)) items;
      worker_items = w ∙ ap (λ (i : List Item). length (items_of_actor 3 i)) items;
    }

same_test : (item : Item) (actor other : ℕ) → actor_of item ≡ actor → (actor_of item == other) ≡ (actor == other)
same_test item actor other is = ap (λ (a : ℕ). a == other) is

pub placed_clock : (old new : List Placed) (item : Item) (clock control sync worker : ℕ) → new ≡ old ++ act_of 0 clock item ∷ [] → actor_of item ≡ 0 → IsPlaced old clock control sync worker → IsPlaced new (clock + 1) control sync worker
placed_clock old new item clock control sync worker pushed is p =
    let P : List Placed → Type 0 = λ placed. IsPlaced placed (clock + 1) control sync worker in
    subst P (sym pushed) (placed_by old 0 clock item (clock + 1) control sync worker is p.clock_items p.all (omega (arith, p.few)) (count_more 0 item (items_placed old) clock (same_test item 0 0 is) p.clock_items) (count_same 1 item (items_placed old) control (same_test item 0 1 is) p.control_items) (count_same 2 item (items_placed old) sync (same_test item 0 2 is) p.sync_items) (count_same 3 item (items_placed old) worker (same_test item 0 3 is) p.worker_items))

pub placed_control : (old new : List Placed) (item : Item) (clock control sync worker : ℕ) → new ≡ old ++ act_of 1 control item ∷ [] → actor_of item ≡ 1 → IsPlaced old clock control sync worker → IsPlaced new clock (control + 1) sync worker
placed_control old new item clock control sync worker pushed is p =
    let P : List Placed → Type 0 = λ placed. IsPlaced placed clock (control + 1) sync worker in
    subst P (sym pushed) (placed_by old 1 control item clock (control + 1) sync worker is p.control_items p.all (omega (arith, p.few)) (count_same 0 item (items_placed old) clock (same_test item 1 0 is) p.clock_items) (count_more 1 item (items_placed old) control (same_test item 1 1 is) p.control_items) (count_same 2 item (items_placed old) sync (same_test item 1 2 is) p.sync_items) (count_same 3 item (items_placed old) worker (same_test item 1 3 is) p.worker_items))

pub placed_sync : (old new : List Placed) (item : Item) (clock control sync worker : ℕ) → new ≡ old ++ act_of 2 sync item ∷ [] → actor_of item ≡ 2 → IsPlaced old clock control sync worker → IsPlaced new clock control (sync + 1) worker
placed_sync old new item clock control sync worker pushed is p =
    let P : List Placed → Type 0 = λ placed. IsPlaced placed clock control (sync + 1) worker in
    subst P (sym pushed) (placed_by old 2 sync item clock control (sync + 1) worker is p.sync_items p.all (omega (arith, p.few)) (count_same 0 item (items_placed old) clock (same_test item 2 0 is) p.clock_items) (count_same 1 item (items_placed old) control (same_test item 2 1 is) p.control_items) (count_more 2 item (items_placed old) sync (same_test item 2 2 is) p.sync_items) (count_same 3 item (items_placed old) worker (same_test item 2 3 is) p.worker_items))

pub placed_worker : (old new : List Placed) (item : Item) (clock control sync worker : ℕ) → new ≡ old ++ act_of 3 worker item ∷ [] → actor_of item ≡ 3 → IsPlaced old clock control sync worker → IsPlaced new clock control sync (worker + 1)
placed_worker old new item clock control sync worker pushed is p =
    let P : List Placed → Type 0 = λ placed. IsPlaced placed clock control sync (worker + 1) in
    subst P (sym pushed) (placed_by old 3 worker item clock control sync (worker + 1) is p.worker_items p.all (omega (arith, p.few)) (count_same 0 item (items_placed old) clock (same_test item 3 0 is) p.clock_items) (count_same 1 item (items_placed old) control (same_test item 3 1 is) p.control_items) (count_same 2 item (items_placed old) sync (same_test item 3 2 is) p.sync_items) (count_more 3 item (items_placed old) worker (same_test item 3 3 is) p.worker_items))
