-- How the passes of a new book are dealt out.
use Rattle.std.proofs.Common.{◌≡◌, ℕ, zero, suc, ◌+◌, ◌<◌, ◌≤◌, List, [], ◌∷◌, ◌++◌, length, get_or, refl, sym, ap, ◌∙◌, subst, arith, append_assoc}
use mathlib.Core.List.{reverse}
use Rattle.std.proofs.lemmas.List.{reverse-append}
use Rattle.atomic_table.specs.Seated.{TableId}
use Rattle.lvs_book.specs.Passes.{Held, opened}
use Rattle.lvs_types.specs.declared.item.Item.{Item}
use Rattle.lvs_model.specs.State.{State}
use Rattle.lvs_model.specs.Buckets.{entries_of}
use Rattle.lvs_bucket.specs.Seen.{BucketSeen}
use Rattle.lvs_core.specs.Agree.{AreBuckets, IsBucket}
use Rattle.lvs_shared.specs.declared.origin.Act.{Act}
use Rattle.lvs_shared.specs.declared.origin.Opened.{Opened}
use Rattle.lvs_shared.specs.Openings.{begun, list_of, IsOpened}
use Rattle.lvs_shared.specs.Acts.{made}
use Rattle.lvs_shared.specs.Locked.{IsHome}
use Rattle.lvs_shared.specs.Seats.{SeatSeen, IsSeat, new_pass, new_seat, new_seats}
use Rattle.lvs_shared.proofs.Histories.{length_snoc}
use Rattle.lvs_shared.proofs.Counts.{list_le}

module _ {A : Type 0} where
  abbrev tail_of : List A → List A
  tail_of [] = []
  tail_of (x ∷ xs) = xs

  abbrev head_or : A → List A → A
  head_or d [] = d
  head_or d (x ∷ xs) = x

  snoc_inj : (xs ys : List A) (x y : A) → xs ++ x ∷ [] ≡ ys ++ y ∷ [] → (xs ≡ ys) × (x ≡ y)
  snoc_inj [] [] x y e = (refl, ap (head_or x) e)
  snoc_inj [] (z ∷ zs) x y e = let l = ap length e in let m = length_snoc zs y in absurd (omega (arith, l, m))
  snoc_inj (z ∷ zs) [] x y e = let l = ap length e in let m = length_snoc zs x in absurd (omega (arith, l, m))
  snoc_inj (z ∷ zs) (w ∷ ws) x y e = let r = snoc_inj zs ws x y (ap tail_of e) in (ap (λ (v : A). v ∷ zs) (ap (head_or z) e) ∙ ap (λ (l : List A). w ∷ l) r.0, r.1)

  reverse_snoc : (xs ys : List A) (x : A) → ys ≡ xs ++ x ∷ [] → reverse ys ≡ x ∷ reverse xs
  reverse_snoc xs ys x e = ap reverse e ∙ reverse-append xs (x ∷ [])

  -- what is left and what is done, one further
  pub cut_step : (all ls ms done : List A) (l : A) → all ≡ ls ++ done → ls ≡ ms ++ l ∷ [] → all ≡ ms ++ l ∷ done
  cut_step all ls ms done l e cut = e ∙ ap (λ (p : List A). p ++ done) cut ∙ append_assoc ms (l ∷ []) done

  pub cut_length : (ls ms : List A) (l : A) → ls ≡ ms ++ l ∷ [] → length ls ≡ suc (length ms)
  cut_length ls ms l cut = let e = ap length cut in let f = length_snoc ms l in omega (arith, e, f)

-- PASSES

opened_snoc : (z : TableId) (o : Opened) (k m : ℕ) → opened {A = Act} z o k (suc m) ≡ opened z o k m ++ new_pass z o (k + m) ∷ []
opened_snoc z o k zero = ap (λ (j : ℕ). new_pass z o j ∷ []) (let e : k ≡ k + 0 = omega arith in e)
opened_snoc z o k (suc m) = ap (λ (l : List (Held Opened Act)). new_pass z o k ∷ l) (opened_snoc z o (suc k) m ∙ ap (λ (j : ℕ). opened z o (suc k) m ++ new_pass z o j ∷ []) (let e : suc k + m ≡ k + suc m = omega arith in e))

-- the last pass of a new book was taken
pub last_pass : (z : TableId) (o : Opened) (n m : ℕ) (ps qs : List (Held Opened Act)) (p : Held Opened Act) → ps ≡ opened z o 0 n → n ≡ suc m → ps ≡ qs ++ p ∷ [] → (qs ≡ opened z o 0 m) × (p ≡ new_pass z o m)
last_pass z o n m ps qs p is more cut =
    let r = snoc_inj qs (opened z o 0 m) p (new_pass z o (0 + m)) (sym cut ∙ is ∙ ap (λ (j : ℕ). opened z o 0 j) more ∙ opened_snoc z o 0 m) in
    (r.0, r.1 ∙ ap (new_pass z o) (let e : 0 + m ≡ m = omega arith in e))

-- there is one while there is a lane
pub none_left : (z : TableId) (o : Opened) (n m : ℕ) (ps : List (Held Opened Act)) → ps ≡ opened z o 0 n → ps ≡ [] → n ≡ suc m → ⊥
none_left z o n m ps is none more =
    let e = ap length (sym none ∙ is ∙ ap (λ (j : ℕ). opened {A = Act} z o 0 j) more) in absurd (omega (arith, e))

-- SEATS

list_here : (ls : List (List Item)) (l : List Item) (done : List (List Item)) → get_or (ls ++ l ∷ done) (length ls) [] ≡ l
list_here [] l done = refl
list_here (x ∷ xs) l done = list_here xs l done

long_here : {A : Type 0} (ls : List A) (l : A) (done : List A) → length ls < length (ls ++ l ∷ done)
long_here [] l done = omega arith
long_here (x ∷ xs) l done = omega (arith, long_here xs l done)

pub is_new_seat : (z : TableId) (o : Opened) (ls : List (List Item)) (l : List Item) (done : List (List Item)) → IsOpened o → o.plan.lists ≡ ls ++ l ∷ done → IsSeat z o (new_seat z o (length ls) l)
is_new_seat z o ls l done opening is =
    let here : list_of o (length ls) ≡ l = ap (λ (p : List (List Item)). get_or p (length ls) []) is ∙ list_here ls l done in
    record {
      opened = opening;
      book = refl;
      origin = refl;
      lane = refl;
      actor = subst (λ (p : List (List Item)). length ls < length p) (sym is) (long_here ls l done);
      number = refl;
      left = here;
      young = let t = list_le o.plan.lists (length ls) in let e = ap length here in omega (arith, t, e, opening.young);
    }

seats_snoc : (z : TableId) (o : Opened) (k : ℕ) (ls : List (List Item)) (l : List Item) → new_seats z o k (ls ++ l ∷ []) ≡ new_seats z o k ls ++ new_seat z o (k + length ls) l ∷ []
seats_snoc z o k [] l = ap (λ (j : ℕ). new_seat z o j l ∷ []) (let e : k ≡ k + 0 = omega arith in e)
seats_snoc z o k (x ∷ xs) l = ap (λ (r : List SeatSeen). new_seat z o k x ∷ r) (seats_snoc z o (suc k) xs l ∙ ap (λ (j : ℕ). new_seats z o (suc k) xs ++ new_seat z o j l ∷ []) (let e : suc k + length xs ≡ k + suc (length xs) = omega arith in e))

-- one seat more in front of those that are made
pub seats_step : (z : TableId) (o : Opened) (all ls ms : List (List Item)) (l : List Item) (ss ts : List SeatSeen) (s : SeatSeen) → new_seats z o 0 all ≡ new_seats z o 0 ls ++ reverse ss → ls ≡ ms ++ l ∷ [] → ts ≡ ss ++ s ∷ [] → s ≡ new_seat z o (length ms) l → new_seats z o 0 all ≡ new_seats z o 0 ms ++ reverse ts
seats_step z o all ls ms l ss ts s was cut put is = was ∙ ap (λ (p : List (List Item)). new_seats z o 0 p ++ reverse ss) cut ∙ ap (λ (p : List SeatSeen). p ++ reverse ss) (seats_snoc z o 0 ms l)
    ∙ append_assoc (new_seats z o 0 ms) (new_seat z o (0 + length ms) l ∷ []) (reverse ss)
    ∙ ap (λ (t : SeatSeen). new_seats z o 0 ms ++ t ∷ reverse ss) (ap (λ (j : ℕ). new_seat z o j l) (let e : 0 + length ms ≡ length ms = omega arith in e) ∙ sym is)
    ∙ ap (λ (r : List SeatSeen). new_seats z o 0 ms ++ r) (sym (reverse_snoc ss ts s put))

pub seat_is : (z : TableId) (o : Opened) (k : ℕ) (l : List Item) (s : SeatSeen) → s.actor ≡ k → s.number ≡ 0 → s.left ≡ l → s.pass ≡ new_pass z o ((begun o).buckets + k) → s ≡ new_seat z o k l
seat_is z o k l s e n f h = ap (λ (i : ℕ). record s { actor = i }) e ∙ ap (λ (i : ℕ). let t : SeatSeen = record { actor = k; number = i; left = s.left; pass = s.pass } in t) n ∙ ap (λ (i : List Item). let t : SeatSeen = record { actor = k; number = 0; left = i; pass = s.pass } in t) f ∙ ap (λ (i : Held Opened Act). let t : SeatSeen = record { actor = k; number = 0; left = l; pass = i } in t) h

-- BUCKETS

bucket_here : (s : State) (k : ℕ) (bs : List BucketSeen) (b : BucketSeen) → AreBuckets s k (bs ++ b ∷ []) → IsBucket s (k + length bs) b
bucket_here s k [] b all = subst (λ (j : ℕ). IsBucket s j b) (let e : k ≡ k + 0 = omega arith in e) all.0
bucket_here s k (x ∷ xs) b all = subst (λ (j : ℕ). IsBucket s j b) (let e : k + 1 + length xs ≡ k + suc (length xs) = omega arith in e) (bucket_here s (k + 1) xs b all.1)

buckets_front : (s : State) (k : ℕ) (bs : List BucketSeen) (b : BucketSeen) → AreBuckets s k (bs ++ b ∷ []) → AreBuckets s k bs
buckets_front s k [] b all = tt
buckets_front s k (x ∷ xs) b all = (all.0, buckets_front s (k + 1) xs b all.1)

pub buckets_cut : (s : State) (all bs : List BucketSeen) (b : BucketSeen) → AreBuckets s 0 all → all ≡ bs ++ b ∷ [] → AreBuckets s 0 bs
buckets_cut s all bs b are cut = buckets_front s 0 bs b (subst (AreBuckets s 0) cut are)

pub is_new_home : (z : TableId) (o : Opened) (all bs : List BucketSeen) (b : BucketSeen) (p : Held Opened Act) → IsOpened o → AreBuckets (begun o) 0 all → all ≡ bs ++ b ∷ [] → length all ≤ (begun o).buckets → p ≡ new_pass z o (length bs) → IsHome o b p
is_new_home z o all bs b p opening are cut count new =
    let is : IsBucket (begun o) (length bs) b = subst (λ (j : ℕ). IsBucket (begun o) j b) (let e : 0 + length bs ≡ length bs = omega arith in e) (bucket_here (begun o) 0 bs b (subst (AreBuckets (begun o) 0) cut are)) in
    record {
      opened = opening;
      origin = ap (λ (q : Held Opened Act). q.origin) new;
      lane = ap (λ (q : Held Opened Act). q.lane) new ∙ sym is.number;
      below = let n = cut_length all bs b cut in omega (arith, n, count, is.number);
      buckets = is.buckets;
      entries = is.entries ∙ ap (λ (j : ℕ). entries_of j (begun o)) (sym is.number) ∙ sym (ap (λ (q : Held Opened Act). made b.number o q.acts) new);
    }
