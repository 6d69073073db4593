-- What a further change of the item's entry makes of the change so far.
use Rattle.std.proofs.Common.{◌≡◌, ◌≤◌, ℕ, Bool, true, false, cond, not, List, [], ◌∷◌, ◌++◌, Option, Some, None, refl, sym, ap, subst, ◌∙◌, nat_eq}
use Rattle.std.specs.Prelude.{IfSome}
use Rattle.std.specs.List.{AllByRecursion, IsDistinct, find}
use Rattle.lvs_types.specs.declared.addr.TemplateId.{TemplateId}
use Rattle.lvs_types.specs.declared.entry.Key.{Key}
use Rattle.lvs_types.specs.declared.entry.Entry.{Entry}
use Rattle.lvs_model.specs.State.{State}
use Rattle.lvs_types.specs.declared.bucket.Change.{Change}
use Rattle.lvs_types.specs.declared.bucket.Change.TheVariants.{Keep, Put, Update, End, Swap, EndDue}
use Rattle.lvs_model.specs.Lists.{update_first, without}
use Rattle.lvs_model.specs.Binding.{put_entry}
use Rattle.lvs_model.specs.Lookups.{has_entry_id}
use Rattle.lvs_model.specs.WellFormed.{entry_ids}
use Rattle.lvs_well_formed.proofs.Keys.{nat_same}
use Rattle.lvs_well_formed.proofs.Distinct.{distinct_parts}
use Rattle.lvs_well_formed.proofs.Finds.{find_put}
use Rattle.lvs_board.specs.Desks.{after, IsAbout, IsFree, IsKeyed, IsOfItem, origin, with_entry, with_update, with_end}

twice_step : {X : Type 0} (p : X → Bool) (u v x : X) (b : Bool) (xs once put : List X) → p x ≡ b → p u ≡ true → update_first p (λ _. v) once ≡ put
    → update_first p (λ _. v) (cond b (u ∷ xs) (x ∷ once)) ≡ cond b (v ∷ xs) (x ∷ put)
twice_step p u v x true xs once put is passes rest = rw passes refl
twice_step p u v x false xs once put is passes rest = rw is (ap (λ ys. x ∷ ys) rest)

twice : {X : Type 0} (p : X → Bool) (u v : X) (xs : List X) → p u ≡ true → update_first p (λ _. v) (update_first p (λ _. u) xs) ≡ update_first p (λ _. v) xs
twice p u v [] passes = refl
twice p u v (x ∷ xs) passes = twice_step p u v x (p x) xs (update_first p (λ _. u) xs) (update_first p (λ _. v) xs) refl passes (twice p u v xs passes)

put_twice : (u v : Entry) (es : List Entry) → u.id ≡ v.id → put_entry v (put_entry u es) ≡ put_entry v es
put_twice u v es same =
    ap (λ id. put_entry v (update_first (has_entry_id id) (λ _. u) es)) same ∙ twice (has_entry_id v.id) u v es (subst (λ id. nat_eq u.id id ≡ true) same (nat_same u.id))

leaves_step : {X : Type 0} (p : X → Bool) (v x : X) (b : Bool) (xs put : List X) → p x ≡ b → p v ≡ true → without p put ≡ without p xs → without p (cond b (v ∷ xs) (x ∷ put)) ≡ without p (x ∷ xs)
leaves_step p v x true xs put is passes rest = rw is (rw passes refl)
leaves_step p v x false xs put is passes rest = rw is (ap (λ others. x ∷ others) rest)

put_leaves : {X : Type 0} (p : X → Bool) (v : X) (xs : List X) → p v ≡ true → without p (update_first p (λ _. v) xs) ≡ without p xs
put_leaves p v [] passes = refl
put_leaves p v (x ∷ xs) passes = leaves_step p v x (p x) xs (update_first p (λ _. v) xs) refl passes (put_leaves p v xs passes)

leave_put : (u : Entry) (id : ℕ) (es : List Entry) → u.id ≡ id → without (has_entry_id id) (put_entry u es) ≡ without (has_entry_id id) es
leave_put u id es same =
    ap (λ n. without (has_entry_id id) (update_first (has_entry_id n) (λ _. u) es)) same ∙ put_leaves (has_entry_id id) u es (subst (λ n. nat_eq u.id n ≡ true) same (nat_same u.id))

-- THE LAST ONE

last_put_step : (e x v : Entry) (b : Bool) (es put : List Entry) → nat_eq x.id v.id ≡ b → nat_eq x.id e.id ≡ false → e.id ≡ v.id → put ≡ es ++ v ∷ [] → cond b (v ∷ (es ++ e ∷ [])) (x ∷ put) ≡ x ∷ (es ++ v ∷ [])
last_put_step e x v true es put is differs same rest = absurd (let h : true ≡ false = sym is ∙ ap (nat_eq x.id) (sym same) ∙ differs in cc)
last_put_step e x v false es put is differs same rest = ap (λ (others : List Entry). x ∷ others) rest

here_put : (e v : Entry) (b : Bool) → nat_eq e.id v.id ≡ b → e.id ≡ v.id → cond b (v ∷ []) (e ∷ []) ≡ v ∷ []
here_put e v true is same = refl
here_put e v false is same = absurd (let h : false ≡ true = sym is ∙ subst (λ id. nat_eq e.id id ≡ true) same (nat_same e.id) in cc)

-- the last one becomes another
last_put : (es : List Entry) (e v : Entry) → AllByRecursion (λ (x : Entry). nat_eq x.id e.id ≡ false) es → e.id ≡ v.id → put_entry v (es ++ e ∷ []) ≡ es ++ v ∷ []
last_put [] e v apart same = here_put e v (nat_eq e.id v.id) refl same
last_put (x ∷ es) e v apart same = last_put_step e x v (nat_eq x.id v.id) es (put_entry v (es ++ e ∷ [])) refl apart.0 same (last_put es e v apart.1 same)

last_left_step : (x : Entry) (b : Bool) (left es : List Entry) → b ≡ false → left ≡ es → cond (not b) (x ∷ left) left ≡ x ∷ es
last_left_step x true left es is rest = absurd cc
last_left_step x false left es is rest = ap (λ (others : List Entry). x ∷ others) rest

here_left : (e : Entry) (id : ℕ) (b : Bool) → nat_eq e.id id ≡ b → e.id ≡ id → cond (not b) (e ∷ []) [] ≡ []
here_left e id true is same = refl
here_left e id false is same = absurd (let h : false ≡ true = sym is ∙ subst (λ n. nat_eq e.id n ≡ true) same (nat_same e.id) in cc)

-- the last one leaves
last_left : (es : List Entry) (e : Entry) (id : ℕ) → AllByRecursion (λ (x : Entry). nat_eq x.id e.id ≡ false) es → e.id ≡ id → without (has_entry_id id) (es ++ e ∷ []) ≡ es
last_left [] e id apart same = here_left e id (nat_eq e.id id) refl same
last_left (x ∷ es) e id apart same =
    last_left_step x (nat_eq x.id id) (without (has_entry_id id) (es ++ e ∷ [])) es (ap (nat_eq x.id) (sym same) ∙ apart.0) (last_left es e id apart.1 same)

differ_step : (x e : Entry) (es : List Entry) → AllByRecursion (λ k. nat_eq x.id k ≡ false) (entry_ids (es ++ e ∷ [])) → nat_eq x.id e.id ≡ false
differ_step x e [] each = each.0
differ_step x e (y ∷ es) each = differ_step x e es each.1

-- the ids are apart: the last one's is none of the others
pub last_apart : (es : List Entry) (e : Entry) → IsDistinct nat_eq (entry_ids (es ++ e ∷ [])) → AllByRecursion (λ (x : Entry). nat_eq x.id e.id ≡ false) es
last_apart [] e apart = tt
last_apart (x ∷ es) e apart =
    let parts = distinct_parts nat_eq x.id (entry_ids (es ++ e ∷ [])) apart in
    (differ_step x e es parts.0, last_apart es e parts.1)

-- A FURTHER CHANGE

pub put_after : (p : Entry → Bool) (home : Option ℕ) (change : Change) (v : Entry) (es : List Entry) → IsDistinct nat_eq (entry_ids (after p change es)) → IsAbout home v.id change → put_entry v (after p change es) ≡ after p (with_update v change) es
put_after p home Keep v es apart about = refl
put_after p home (Put e) v es apart about = last_put es e v (last_apart es e apart) about
put_after p home (Update u) v es apart about = put_twice u v es about.0
put_after p home (End id) v es apart about = absurd about
put_after p home (Swap id e) v es apart about = last_put (without (has_entry_id id) es) e v (last_apart (without (has_entry_id id) es) e apart) about
put_after p home (EndDue moment) v es apart about = absurd about

pub leave_after : (p : Entry → Bool) (home : Option ℕ) (change : Change) (id : ℕ) (es : List Entry) → IsDistinct nat_eq (entry_ids (after p change es)) → IsAbout home id change → without (has_entry_id id) (after p change es) ≡ after p (with_end id change) es
leave_after p home Keep id es apart about = refl
leave_after p home (Put e) id es apart about = last_left es e id (last_apart es e apart) about
leave_after p home (Update u) id es apart about = leave_put u id es about.0
leave_after p home (End other) id es apart about = absurd about
leave_after p home (Swap other e) id es apart about = last_left (without (has_entry_id other) es) e id (last_apart (without (has_entry_id other) es) e apart) about
leave_after p home (EndDue moment) id es apart about = absurd about

pub enter_after : (p : Entry → Bool) (change : Change) (e : Entry) (es : List Entry) → IsFree change → after p change es ++ e ∷ [] ≡ after p (with_entry e change) es
enter_after p Keep e es free = refl
enter_after p (Put other) e es free = absurd free
enter_after p (Update other) e es free = absurd free
enter_after p (End id) e es free = refl
enter_after p (Swap id other) e es free = absurd free
enter_after p (EndDue moment) e es free = absurd free

-- THE CHANGE STAYS ONE OF THE ITEM

pub about_after : (home : Option ℕ) (change : Change) (v : Entry) → IsAbout home v.id change → IsAbout home v.id (with_update v change)
about_after home Keep v about = (refl, about)
about_after home (Put e) v about = refl
about_after home (Update u) v about = (refl, about.1)
about_after home (End id) v about = absurd about
about_after home (Swap id e) v about = refl
about_after home (EndDue moment) v about = absurd about

pub about_entered : (home : Option ℕ) (change : Change) (e : Entry) → IsFree change → IsAbout home e.id (with_entry e change)
about_entered home Keep e free = refl
about_entered home (Put other) e free = absurd free
about_entered home (Update other) e free = absurd free
about_entered home (End id) e free = refl
about_entered home (Swap id other) e free = absurd free
about_entered home (EndDue moment) e free = absurd free

pub free_after : (home : Option ℕ) (change : Change) (id : ℕ) → IsAbout home id change → IsFree (with_end id change)
free_after home Keep id about = tt
free_after home (Put e) id about = tt
free_after home (Update u) id about = tt
free_after home (End other) id about = absurd about
free_after home (Swap other e) id about = tt
free_after home (EndDue moment) id about = absurd about

some_same : {X : Type 0} (x y : X) → Some x ≡ Some y → x ≡ y
some_same x y is = cc

keyed_by : (key : Key × Option TemplateId) (id : ℕ) (es : List Entry) (x : Entry) (o : Option Entry) → find (has_entry_id id) es ≡ o → o ≡ Some x → origin x ≡ key → IsKeyed key id es
keyed_by key id es x o is found same = subst (λ (p : Option Entry). IfSome p (λ (e : Entry). origin e ≡ key)) (sym (is ∙ found)) same

found_put : (u x : Entry) (es : List Entry) (y : Entry) → find (has_entry_id u.id) es ≡ Some y → find (has_entry_id u.id) (put_entry u es) ≡ Some x → u ≡ x
found_put u x es y there found = let put = find_put (has_entry_id u.id) u es y there (nat_same u.id) in some_same u x (sym put ∙ found)

rekeyed_by : (u x v : Entry) (es : List Entry) (o : Option Entry) → find (has_entry_id u.id) es ≡ o → IfSome o (λ (e : Entry). origin e ≡ origin u) → find (has_entry_id u.id) (put_entry u es) ≡ Some x → origin x ≡ origin v → IsKeyed (origin v) u.id es
rekeyed_by u x v es None is keyed found same = subst (λ (p : Option Entry). IfSome p (λ (e : Entry). origin e ≡ origin v)) (sym is) tt
rekeyed_by u x v es (Some y) is keyed found same =
    subst (λ (p : Option Entry). IfSome p (λ (e : Entry). origin e ≡ origin v)) (sym is) (keyed ∙ ap origin (found_put u x es y is found) ∙ same)

rekeyed : (u x v : Entry) (es : List Entry) → u.id ≡ v.id → IsKeyed (origin u) u.id es → find (has_entry_id v.id) (put_entry u es) ≡ Some x → origin x ≡ origin v → IsKeyed (origin v) u.id es
rekeyed u x v es ids keyed found same = rekeyed_by u x v es (find (has_entry_id u.id) es) refl keyed (subst (λ id. find (has_entry_id id) (put_entry u es) ≡ Some x) (sym ids) found) same

pub updated_of_item : (p : Entry → Bool) (whole : State) (home : Option ℕ) (change : Change) (x v : Entry) → IsOfItem whole home change → IsAbout home v.id change → find (has_entry_id v.id) (after p change whole.entries) ≡ Some x → origin x ≡ origin v
    → IsOfItem whole home (with_update v change)
updated_of_item p whole home Keep x v of about found same = (about, keyed_by (origin v) v.id whole.entries x (Some x) found refl same)
updated_of_item p whole home (Put e) x v of about found same = subst (λ id. whole.next_entry ≤ id) about of
updated_of_item p whole home (Update u) x v of about found same =
    (about.1, subst (λ id. IsKeyed (origin v) id whole.entries) about.0 (rekeyed u x v whole.entries about.0 of.1 found same))
updated_of_item p whole home (End id) x v of about found same = absurd about
updated_of_item p whole home (Swap id e) x v of about found same = (of.0, subst (λ n. whole.next_entry ≤ n) about of.1)
updated_of_item p whole home (EndDue moment) x v of about found same = absurd about

pub ended_of_item : (whole : State) (home : Option ℕ) (change : Change) (id : ℕ) → IsOfItem whole home change → IsAbout home id change → IsOfItem whole home (with_end id change)
ended_of_item whole home Keep id of about = about
ended_of_item whole home (Put e) id of about = tt
ended_of_item whole home (Update u) id of about = about.1
ended_of_item whole home (End other) id of about = absurd about
ended_of_item whole home (Swap other e) id of about = of.0
ended_of_item whole home (EndDue moment) id of about = absurd about

pub entered_of_item : (whole : State) (home : Option ℕ) (change : Change) (e : Entry) → IsOfItem whole home change → IsFree change → whole.next_entry ≤ e.id → IsOfItem whole home (with_entry e change)
entered_of_item whole home Keep e of free drawn = drawn
entered_of_item whole home (Put other) e of free drawn = absurd free
entered_of_item whole home (Update other) e of free drawn = absurd free
entered_of_item whole home (End id) e of free drawn = (of, drawn)
entered_of_item whole home (Swap id other) e of free drawn = absurd free
entered_of_item whole home (EndDue moment) e of free drawn = absurd free
