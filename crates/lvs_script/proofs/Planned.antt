-- Items that are placed in the lists of their actors.
use Rattle.std.proofs.Common.{◌≡◌, ◌≢◌, ◌⊎◌, inl, inr, eqb, ℕ, zero, suc, ◌+◌, ◌==◌, ◌≤◌, Bool, true, false, cond, List, [], ◌∷◌, ◌++◌, length, map, get_or, Vec, refl, sym, ◌∙◌, ap, append_assoc, append-nil, arith}
use Rattle.std.proofs.lemmas.Bool.{eq-eqb}
use Rattle.std.proofs.lemmas.Bool.Decides.{eqb_tells}
use Rattle.std.specs.declared.alloc.Global.{Global}
use Rattle.std.proofs.Math.ListN.{set}
use Rattle.std.proofs.lemmas.List.{length-map}
use Rattle.std.proofs.lemmas.List.Elements.{filter-append}
use Rattle.lvs_types.specs.declared.item.Item.{Item}
use Rattle.lvs_types.specs.declared.item.Item.TheVariants as item
use Rattle.lvs_model.specs.Plans.{items_of_actor, items_of_worker, worker_of_item, actor_of, numbers_from}
use Rattle.lvs_script.specs.Planning.{Lists, actor_among, empty_lists, with_item_at, with_item, with_each, for_worker, with_items}
use Rattle.lvs_script.proofs.Numbers.{length_numbers}

-- EACH LIST

each_none : (more : ℕ → List Item) (number : ℕ) (lists : List (List Item)) → ((k : ℕ) → number ≤ k → more k ≡ []) → with_each more number lists ≡ lists
each_none more number [] none = refl
each_none more number (list ∷ lists) none =
    ap (λ (m : List Item). (list ++ m) ∷ with_each more (number + 1) lists) (none number (omega arith))
    ∙ ap (λ (l : List Item). l ∷ with_each more (number + 1) lists) (append-nil list)
    ∙ ap (λ (rest : List (List Item)). list ∷ rest) (each_none more (number + 1) lists (λ k above. none k (omega arith)))

each_same : (f g : ℕ → List Item) (number : ℕ) (lists : List (List Item)) → ((k : ℕ) → f k ≡ g k) → with_each f number lists ≡ with_each g number lists
each_same f g number [] same = refl
each_same f g number (list ∷ lists) same =
    ap (λ (m : List Item). (list ++ m) ∷ with_each f (number + 1) lists) (same number)
    ∙ ap (λ (rest : List (List Item)). (list ++ g number) ∷ rest) (each_same f g (number + 1) lists same)

each_append : (f g : ℕ → List Item) (number : ℕ) (lists : List (List Item)) → with_each g number (with_each f number lists) ≡ with_each (λ (k : ℕ). f k ++ g k) number lists
each_append f g number [] = refl
each_append f g number (list ∷ lists) =
    ap (λ (l : List Item). l ∷ with_each g (number + 1) (with_each f (number + 1) lists)) (append_assoc list (f number) (g number))
    ∙ ap (λ (rest : List (List Item)). (list ++ (f number ++ g number)) ∷ rest) (each_append f g (number + 1) lists)

length_each : (f : ℕ → List Item) (number : ℕ) (lists : List (List Item)) → length (with_each f number lists) ≡ length lists
length_each f number [] = refl
length_each f number (list ∷ lists) = ap suc (length_each f (number + 1) lists)

each_empty : (f : ℕ → List Item) (number count : ℕ) → with_each f number (map (λ (k : ℕ). []) (numbers_from number count)) ≡ map f (numbers_from number count)
each_empty f number zero = refl
each_empty f number (suc count) = ap (λ (rest : List (List Item)). f number ∷ rest) (each_empty f (number + 1) count)

-- ONE ITEM

apart_by : (a b : ℕ) → ((eqb a b ≡ true) × (a ≡ b)) ⊎ ((eqb a b ≡ false) × (a ≢ b)) → a ≢ b → eqb a b ≡ false
apart_by a b (inl same) apart = absurd (apart same.1)
apart_by a b (inr other) apart = other.0

abbrev only_at : ℕ → Item → ℕ → List Item
only_at worker item k = cond (worker == k) (item ∷ []) []

here : (worker k : ℕ) (item : Item) → worker ≡ k → only_at worker item k ≡ item ∷ []
here worker k item same = ap (λ (b : Bool). cond b (item ∷ []) []) (eq-eqb worker k same)

elsewhere : (worker k : ℕ) (item : Item) → worker ≢ k → only_at worker item k ≡ []
elsewhere worker k item apart = ap (λ (b : Bool). cond b (item ∷ []) []) (apart_by worker k (eqb_tells worker k) apart)

-- what is added at one number alone is an item in that list
each_at : (worker number place : ℕ) (item : Item) (lists : List (List Item)) → worker ≡ number + place → with_each (only_at worker item) number lists ≡ with_item_at place item lists
each_at worker number place item [] is = refl
each_at worker number zero item (list ∷ lists) is =
    ap (λ (m : List Item). (list ++ m) ∷ with_each (only_at worker item) (number + 1) lists) (here worker number item (omega arith))
    ∙ ap (λ (rest : List (List Item)). (list ++ item ∷ []) ∷ rest) (each_none (only_at worker item) (number + 1) lists (λ k above. elsewhere worker k item (λ same. omega arith)))
each_at worker number (suc place) item (list ∷ lists) is =
    ap (λ (m : List Item). (list ++ m) ∷ with_each (only_at worker item) (number + 1) lists) (elsewhere worker number item (λ same. omega arith))
    ∙ ap (λ (l : List Item). l ∷ with_each (only_at worker item) (number + 1) lists) (append-nil list)
    ∙ ap (λ (rest : List (List Item)). list ∷ rest) (each_at worker (number + 1) place item lists (omega arith))

abbrev made : List Item → List Item → List (List Item) → Lists
made control sync workers = record { control = control; sync = sync; workers = workers }

made_same : (a b : List Item) (c d : List Item) (e f : List (List Item)) → a ≡ b → c ≡ d → e ≡ f → made a c e ≡ made b d f
made_same a b c d e f p q r =
    ap (λ (x : List Item). made x c e) p ∙ ap (λ (x : List Item). made b x e) q ∙ ap (λ (x : List (List Item)). made b d x) r

no_worker : (lists : List (List Item)) → with_each (λ (k : ℕ). []) 0 lists ≡ lists
no_worker lists = each_none (λ (k : ℕ). []) 0 lists (λ k above. refl)

of_clock : (lists : Lists) → lists ≡ made (lists.control ++ []) (lists.sync ++ []) (with_each (λ (k : ℕ). []) 0 lists.workers)
of_clock lists = made_same lists.control (lists.control ++ []) lists.sync (lists.sync ++ []) lists.workers (with_each (λ (k : ℕ). []) 0 lists.workers) (sym (append-nil lists.control)) (sym (append-nil lists.sync)) (sym (no_worker lists.workers))

of_control : (lists : Lists) (item : Item) → made (lists.control ++ item ∷ []) lists.sync lists.workers ≡ made (lists.control ++ item ∷ []) (lists.sync ++ []) (with_each (λ (k : ℕ). []) 0 lists.workers)
of_control lists item = made_same (lists.control ++ item ∷ []) (lists.control ++ item ∷ []) lists.sync (lists.sync ++ []) lists.workers (with_each (λ (k : ℕ). []) 0 lists.workers) refl (sym (append-nil lists.sync)) (sym (no_worker lists.workers))

of_sync : (lists : Lists) (item : Item) → made lists.control (lists.sync ++ item ∷ []) lists.workers ≡ made (lists.control ++ []) (lists.sync ++ item ∷ []) (with_each (λ (k : ℕ). []) 0 lists.workers)
of_sync lists item = made_same lists.control (lists.control ++ []) (lists.sync ++ item ∷ []) (lists.sync ++ item ∷ []) lists.workers (with_each (λ (k : ℕ). []) 0 lists.workers) (sym (append-nil lists.control)) refl (sym (no_worker lists.workers))

of_worker : (lists : Lists) (worker : ℕ) (item : Item) → made lists.control lists.sync (with_item_at worker item lists.workers) ≡ made (lists.control ++ []) (lists.sync ++ []) (with_each (only_at worker item) 0 lists.workers)
of_worker lists worker item = made_same lists.control (lists.control ++ []) lists.sync (lists.sync ++ []) (with_item_at worker item lists.workers) (with_each (only_at worker item) 0 lists.workers) (sym (append-nil lists.control)) (sym (append-nil lists.sync)) (sym (each_at worker 0 worker item lists.workers (omega arith)))

-- an item more in the list of its actor is the item more in every list that it belongs to
pub one_more : (lists : Lists) (item : Item) → with_item (actor_among (length lists.workers) item) item lists ≡ with_items lists (item ∷ [])
one_more lists (item.Incoming mark bytes) = of_worker lists (worker_of_item (length lists.workers) (item.Incoming mark bytes)) (item.Incoming mark bytes)
one_more lists (item.Outgoing bytes) = of_worker lists (worker_of_item (length lists.workers) (item.Outgoing bytes)) (item.Outgoing bytes)
one_more lists (item.Edit command) = of_control lists (item.Edit command)
one_more lists (item.Set setting) = of_control lists (item.Set setting)
one_more lists (item.Learn sync_id record_item) = of_sync lists (item.Learn sync_id record_item)
one_more lists (item.BadSync why) = of_sync lists (item.BadSync why)
one_more lists (item.Tick moment) = of_clock lists
one_more lists (item.Sweep bucket) = of_clock lists
one_more lists item.Reap = of_clock lists
one_more lists item.SendSync = of_clock lists

-- MANY ITEMS

pub items_none : (lists : Lists) → with_items lists [] ≡ lists
items_none lists = sym (of_clock lists)

worker_append : (workers worker : ℕ) (xs ys : List Item) → for_worker workers xs worker ++ for_worker workers ys worker ≡ for_worker workers (xs ++ ys) worker
worker_append workers worker xs ys =
    sym (filter-append (λ (i : Item). worker_of_item workers i == worker) (items_of_actor 3 xs) (items_of_actor 3 ys))
    ∙ ap (items_of_worker workers worker) (sym (filter-append (λ (i : Item). actor_of i == 3) xs ys))

actor_append : (actor : ℕ) (before xs ys : List Item) → (before ++ items_of_actor actor xs) ++ items_of_actor actor ys ≡ before ++ items_of_actor actor (xs ++ ys)
actor_append actor before xs ys =
    append_assoc before (items_of_actor actor xs) (items_of_actor actor ys)
    ∙ ap (λ (more : List Item). before ++ more) (sym (filter-append (λ (i : Item). actor_of i == actor) xs ys))

workers_append : (lists : List (List Item)) (xs ys : List Item) → with_each (for_worker (length (with_each (for_worker (length lists) xs) 0 lists)) ys) 0 (with_each (for_worker (length lists) xs) 0 lists) ≡ with_each (for_worker (length lists) (xs ++ ys)) 0 lists
workers_append lists xs ys =
    ap (λ (n : ℕ). with_each (for_worker n ys) 0 (with_each (for_worker (length lists) xs) 0 lists)) (length_each (for_worker (length lists) xs) 0 lists)
    ∙ each_append (for_worker (length lists) xs) (for_worker (length lists) ys) 0 lists
    ∙ each_same (λ (k : ℕ). for_worker (length lists) xs k ++ for_worker (length lists) ys k) (for_worker (length lists) (xs ++ ys)) 0 lists (λ k. worker_append (length lists) k xs ys)

pub items_append : (lists : Lists) (xs ys : List Item) → with_items (with_items lists xs) ys ≡ with_items lists (xs ++ ys)
items_append lists xs ys =
    made_same
    ((lists.control ++ items_of_actor 1 xs) ++ items_of_actor 1 ys) (lists.control ++ items_of_actor 1 (xs ++ ys))
    ((lists.sync ++ items_of_actor 2 xs) ++ items_of_actor 2 ys) (lists.sync ++ items_of_actor 2 (xs ++ ys))
    (with_each (for_worker (length (with_each (for_worker (length lists.workers) xs) 0 lists.workers)) ys) 0 (with_each (for_worker (length lists.workers) xs) 0 lists.workers)) (with_each (for_worker (length lists.workers) (xs ++ ys)) 0 lists.workers)
    (actor_append 1 lists.control xs ys) (actor_append 2 lists.sync xs ys) (workers_append lists.workers xs ys)

-- THE VECTORS

abbrev items_in : Vec Item Global → List Item
items_in list = list.items

-- a push to the vector at a place
pub item_at : (lists : List (Vec Item Global)) (place : ℕ) (item : Item) (new d : Vec Item Global) → items_in new ≡ items_in (get_or lists place d) ++ item ∷ [] → map (λ (list : Vec Item Global). list.items) (set lists place new) ≡ with_item_at place item (map (λ (list : Vec Item Global). list.items) lists)
item_at [] place item new d is = refl
item_at (list ∷ lists) zero item new d is = ap (λ (l : List Item). l ∷ map (λ (list : Vec Item Global). list.items) lists) is
item_at (list ∷ lists) (suc place) item new d is = ap (λ (rest : List (List Item)). list.items ∷ rest) (item_at lists place item new d is)

-- THE WHOLE

abbrev none_for : ℕ → List Item
none_for worker = []

pub planned : (workers : ℕ) (items : List Item) → (with_items (empty_lists workers) items).workers ≡ map (λ (worker : ℕ). items_of_worker workers worker (items_of_actor 3 items)) (numbers_from 0 workers)
planned workers items =
    ap (λ (n : ℕ). with_each (for_worker n items) 0 (map (λ (k : ℕ). []) (numbers_from 0 workers))) (length-map (numbers_from 0 workers) none_for ∙ length_numbers 0 workers)
    ∙ each_empty (for_worker workers items) 0 workers

pub length_empty : (workers : ℕ) → length (empty_lists workers).workers ≡ workers
length_empty workers = length-map (numbers_from 0 workers) none_for ∙ length_numbers 0 workers

-- the lists of a plan, behind the clock's
pub plan_lists : (workers : ℕ) (clock items : List Item) (lists : Lists) → lists ≡ with_items (empty_lists workers) items → clock ∷ lists.control ∷ lists.sync ∷ lists.workers ≡ clock ∷ items_of_actor 1 items ∷ items_of_actor 2 items ∷ map (λ (worker : ℕ). items_of_worker workers worker (items_of_actor 3 items)) (numbers_from 0 workers)
plan_lists workers clock items lists placed =
    ap (λ (l : Lists). clock ∷ l.control ∷ l.sync ∷ l.workers) placed
    ∙ ap (λ (w : List (List Item)). clock ∷ items_of_actor 1 items ∷ items_of_actor 2 items ∷ w) (planned workers items)
