-- What a closed book says, from what the passes and the board tell.
use Rattle.std.proofs.Common.{◌≡◌, ℕ, zero, suc, ◌+◌, ◌<◌, ◌≤◌, ◌==◌, List, [], ◌∷◌, ◌++◌, length, drop, get_or, refl, sym, ap, ◌∙◌, subst, arith, append_assoc, cond, eq-eqb, ne_eqb, Option, Some, None, slice_get}
use mathlib.Core.Bool.{Bool, true, false}
use mathlib.Core.Logic.{dite}
use native.Mathlib.Decide.{ℕ_discrete}
use Rattle.atomic_table.specs.Seated.{TableId}
use Rattle.lvs_book.specs.Lanes.{stands}
use Rattle.lvs_book.specs.Passes.{Held, AreAll, Tells}
use Rattle.lvs_types.specs.declared.item.Item.{Item}
use Rattle.lvs_types.specs.declared.reply.Reply.{Reply}
use Rattle.lvs_types.specs.declared.book.Noted.{Noted}
use Rattle.lvs_types.specs.declared.book.RoundBook.{RoundBook}
use Rattle.lvs_model.specs.State.{State}
use Rattle.lvs_model.specs.Step.{run}
use Rattle.lvs_model.specs.Counted.{IsCounted}
use Rattle.lvs_model.specs.Buckets.{home}
use Rattle.lvs_model.specs.Books as books
use Rattle.lvs_bucket.specs.Seen.{BucketSeen}
use Rattle.lvs_board.specs.Seen.{BoardSeen}
use Rattle.lvs_board.specs.Stands.{StandsFor}
use Rattle.lvs_core.specs.Agree.{Agree, AreBuckets}
use Rattle.lvs_shared.specs.declared.origin.Act.{Act}
use Rattle.lvs_shared.specs.declared.origin.Opened.{Opened}
use Rattle.lvs_shared.specs.Openings.{begun, list_of, IsOpened}
use Rattle.lvs_shared.specs.Acts.{notes_of, items_of, replies_of, lane_acts, left, made}
use Rattle.lvs_shared.specs.Played.{HaveLanes, Kept, PlayedSeen, IsLeft}
use Rattle.lvs_shared.specs.Locked.{IsHome}
use Rattle.lvs_shared.specs.Seats.{SeatSeen, IsSeat, AreSeats, AreAtEnd, AreSeated, passes_in}
use Rattle.lvs_shared.specs.Rounds.{AreHomes, HaveNumbers}
use Rattle.lvs_shared.proofs.Below.{home_below}
use Rattle.lvs_shared.proofs.Histories.{own_stands, own_other, map_snoc, notes_length}
use Rattle.lvs_shared.proofs.Counts.{from_le}

abbrev pub names : Act → List ℕ
names a = a.lanes

-- PASSES

homes_snoc : (z : TableId) (o : Opened) (k : ℕ) (bs : List BucketSeen) (ps : List (Held Opened Act)) (b : BucketSeen) (p : Held Opened Act) → AreHomes z o k bs ps → p.book ≡ z → b.number ≡ k + length bs → IsHome o b p → AreHomes z o k (bs ++ b ∷ []) (ps ++ p ∷ [])
homes_snoc z o k [] [] b p all book number is = (book, number ∙ (let e : k + 0 ≡ k = omega arith in e), is, tt)
homes_snoc z o k [] (q ∷ qs) b p all book number is = absurd all
homes_snoc z o k (c ∷ cs) [] b p all book number is = absurd all
homes_snoc z o k (c ∷ cs) (q ∷ qs) b p all book number is = (all.0, all.1, all.2, homes_snoc z o (suc k) cs qs b p all.3 book (omega (arith, number)) is)

pub homes_push : (z : TableId) (o : Opened) (bs bs' : List BucketSeen) (ps ps' : List (Held Opened Act)) (b b' : BucketSeen) (p p' : Held Opened Act) → AreHomes z o 0 bs ps → bs' ≡ bs ++ b' ∷ [] → ps' ≡ ps ++ p' ∷ [] → b' ≡ b → p' ≡ p → p.book ≡ z → b.number ≡ length bs → IsHome o b p → AreHomes z o 0 bs' ps'
homes_push z o bs bs' ps ps' b b' p p' all e f is_b is_p book number is =
    subst (λ (l : List BucketSeen). AreHomes z o 0 l ps') (sym (e ∙ ap (λ (x : BucketSeen). bs ++ x ∷ []) is_b))
    (subst (λ (l : List (Held Opened Act)). AreHomes z o 0 (bs ++ b ∷ []) l) (sym (f ∙ ap (λ (x : Held Opened Act). ps ++ x ∷ []) is_p))
    (homes_snoc z o 0 bs ps b p all book (omega (arith, number)) is))

pub seated_snoc : (z : TableId) (o : Opened) (k : ℕ) (ss : List SeatSeen) (s : SeatSeen) → AreSeated z o k ss → IsSeat z o s → s.actor ≡ k + length ss → AreSeated z o k (ss ++ s ∷ [])
seated_snoc z o k [] s all is actor = (is, omega (arith, actor), tt)
seated_snoc z o k (t ∷ ts) s all is actor = (all.0, all.1, seated_snoc z o (suc k) ts s all.2 is (omega (arith, actor)))

pub passes_push : (l ps ps' : List (Held Opened Act)) (ss : List SeatSeen) (s : SeatSeen) (p : Held Opened Act) → ps ≡ l ++ passes_in ss → ps' ≡ ps ++ p ∷ [] → p ≡ s.pass → ps' ≡ l ++ passes_in (ss ++ s ∷ [])
passes_push l ps ps' ss s p was e is = e ∙ ap (λ (x : List (Held Opened Act)). x ++ p ∷ []) was ∙ append_assoc l (passes_in ss) (p ∷ []) ∙ ap (λ (x : Held Opened Act). l ++ (passes_in ss ++ x ∷ [])) is ∙ ap (λ (x : List (Held Opened Act)). l ++ x) (sym (map_snoc (λ (t : SeatSeen). t.pass) ss s))

-- the passes are all of the book, in order
seats_all : (z : TableId) (o : Opened) (j m : ℕ) (ss : List SeatSeen) → AreSeated z o j ss → AreSeats j m ss → AreAll z ((begun o).buckets + j) ((begun o).buckets + m) (passes_in ss)
seats_all z o j m [] all order = ap (λ (k : ℕ). (begun o).buckets + k) order
seats_all z o j m (s ∷ ss) all order = (all.0.book, all.0.lane ∙ ap (λ (k : ℕ). (begun o).buckets + k) all.1, subst (λ (k : ℕ). AreAll z k ((begun o).buckets + m) (passes_in ss)) (let e : (begun o).buckets + suc j ≡ suc ((begun o).buckets + j) = omega arith in e) (seats_all z o (suc j) m ss all.2 order.1))

homes_all : (z : TableId) (o : Opened) (k n : ℕ) (bs : List BucketSeen) (ps qs : List (Held Opened Act)) → AreHomes z o k bs ps → AreAll z (k + length bs) n qs → AreAll z k n (ps ++ qs)
homes_all z o k n [] [] qs all more = subst (λ (j : ℕ). AreAll z j n qs) (let e : k + 0 ≡ k = omega arith in e) more
homes_all z o k n [] (p ∷ ps) qs all more = absurd all
homes_all z o k n (b ∷ bs) [] qs all more = absurd all
homes_all z o k n (b ∷ bs) (p ∷ ps) qs all more = (all.0, all.2.lane ∙ all.1, homes_all z o (suc k) n bs ps qs all.3 (subst (λ (j : ℕ). AreAll z j n qs) (let e : k + suc (length bs) ≡ suc k + length bs = omega arith in e) more))

pub are_all : (z : TableId) (o : Opened) (bs : List BucketSeen) (ps : List (Held Opened Act)) (ss : List SeatSeen) (m : ℕ) → AreHomes z o 0 bs ps → length bs ≡ (begun o).buckets → AreSeated z o 0 ss → AreSeats 0 m ss → AreAll z 0 ((begun o).buckets + m) (ps ++ passes_in ss)
are_all z o bs ps ss m homes len seated order = homes_all z o 0 ((begun o).buckets + m) bs ps (passes_in ss) homes (subst (λ (j : ℕ). AreAll z j ((begun o).buckets + m) (passes_in ss)) (let e : (begun o).buckets + 0 ≡ 0 + length bs = omega (arith, len) in e) (seats_all z o 0 m ss seated order))

pub seats_count : (j m : ℕ) (ss : List SeatSeen) → AreSeats j m ss → j + length ss ≡ m
seats_count j m [] order = omega (arith, order)
seats_count j m (s ∷ ss) order = omega (arith, seats_count (suc j) m ss order.1)

tells_first : (o : Opened) (h : List Act) (ps qs : List (Held Opened Act)) → Tells names o h (ps ++ qs) → Tells names o h ps
tells_first o h [] qs t = tt
tells_first o h (p ∷ ps) qs t = (t.0, t.1, tells_first o h ps qs t.2)

tells_last : (o : Opened) (h : List Act) (ps qs : List (Held Opened Act)) → Tells names o h (ps ++ qs) → Tells names o h qs
tells_last o h [] qs t = t
tells_last o h (p ∷ ps) qs t = tells_last o h ps qs t.2

-- the buckets have the entries that the state puts there
buckets_are : (z : TableId) (o : Opened) (h : List Act) (k : ℕ) (bs : List BucketSeen) (ps : List (Held Opened Act)) → Kept o h → AreHomes z o k bs ps → Tells names o h ps → k + length bs ≡ (begun o).buckets → AreBuckets (left o h) k bs
buckets_are z o h k [] [] kept homes tells len = tt
buckets_are z o h k [] (p ∷ ps) kept homes tells len = absurd homes
buckets_are z o h k (b ∷ bs) [] kept homes tells len = absurd homes
buckets_are z o h k (b ∷ bs) (p ∷ ps) kept homes tells len = (
  record {
    number = homes.1;
    buckets = homes.2.buckets ∙ sym kept.buckets;
    entries = homes.2.entries
        ∙ ap (λ (j : ℕ). made j o p.acts) homes.1
        ∙ ap (made k o) (tells.1 ∙ ap (λ (j : ℕ). lane_acts j h) (homes.2.lane ∙ homes.1))
        ∙ sym (kept.homes k (omega (arith, len)));
  },
  subst (λ (j : ℕ). AreBuckets (left o h) j bs) (let e : suc k ≡ k + 1 = omega arith in e) (buckets_are z o h (suc k) bs ps kept homes.3 tells.2 (omega (arith, len))),
)

-- ACTS OF AN ACTOR

-- they are those of its lane
by_lane : (n m k : ℕ) (h : List Act) → 0 < n → HaveLanes n m h → books.acts_of k (notes_of h) ≡ notes_of (lane_acts (n + k) h)
by_lane n m k [] some all = refl
by_lane n m k (a ∷ h) some all = dite (ℕ_discrete a.noted.actor k)
    (λ same. same_lane (by_lane n m k h some all.3) (eq-eqb a.noted.actor k same) (ap (stands (n + k)) all.0 ∙ own_stands n a.noted.actor k (home n a.noted.item) same))
    (λ other. other_lane (by_lane n m k h some all.3) (ne_eqb a.noted.actor k other) (ap (stands (n + k)) all.0 ∙ own_other n a.noted.actor k (home n a.noted.item) (home_below n a.noted.item some) (ne_eqb a.noted.actor k other)))
  where
    same_lane : books.acts_of k (notes_of h) ≡ notes_of (lane_acts (n + k) h) → (a.noted.actor == k) ≡ true → stands (n + k) a.lanes ≡ true → books.acts_of k (notes_of (a ∷ h)) ≡ notes_of (lane_acts (n + k) (a ∷ h))
    same_lane more e f = ap (λ (c : Bool). cond c (a.noted ∷ books.acts_of k (notes_of h)) (books.acts_of k (notes_of h))) e ∙ ap (λ (l : List Noted). a.noted ∷ l) more ∙ sym (ap (λ (c : Bool). notes_of (cond c (a ∷ lane_acts (n + k) h) (lane_acts (n + k) h))) f)

    other_lane : books.acts_of k (notes_of h) ≡ notes_of (lane_acts (n + k) h) → (a.noted.actor == k) ≡ false → stands (n + k) a.lanes ≡ false → books.acts_of k (notes_of (a ∷ h)) ≡ notes_of (lane_acts (n + k) (a ∷ h))
    other_lane more e f = ap (λ (c : Bool). cond c (a.noted ∷ books.acts_of k (notes_of h)) (books.acts_of k (notes_of h))) e ∙ more ∙ sym (ap (λ (c : Bool). notes_of (cond c (a ∷ lane_acts (n + k) h) (lane_acts (n + k) h))) f)

no_more : (n m k : ℕ) (h : List Act) → HaveLanes n m h → m ≤ k → books.acts_of k (notes_of h) ≡ []
no_more n m k [] all above = refl
no_more n m k (a ∷ h) all above = ap (λ (c : Bool). cond c (a.noted ∷ books.acts_of k (notes_of h)) (books.acts_of k (notes_of h))) (ne_eqb a.noted.actor k (λ e. omega (arith, e, all.1, above))) ∙ no_more n m k h all.3 above

-- a list of the plan
list_some : (ls : List (List Item)) (k : ℕ) (l : List Item) → slice_get ls k ≡ Some l → (k < length ls) × (get_or ls k [] ≡ l)
list_some [] k l is = absurd cc
list_some (x ∷ xs) zero l is = (omega arith, ap (unwrap l) is)
  where
    unwrap : List Item → Option (List Item) → List Item
    unwrap d None = d
    unwrap d (Some y) = y
list_some (x ∷ xs) (suc k) l is = let r = list_some xs k l is in (omega (arith, r.0), r.1)

list_none : (ls : List (List Item)) (k : ℕ) → slice_get ls k ≡ None → length ls ≤ k
list_none [] k is = omega arith
list_none (x ∷ xs) zero is = absurd cc
list_none (x ∷ xs) (suc k) is = omega (arith, list_none xs k is)

items_notes : (h : List Act) → books.items_of (notes_of h) ≡ items_of h
items_notes [] = refl
items_notes (a ∷ h) = ap (λ (l : List Item). a.noted.item ∷ l) (items_notes h)

replies_notes : (h : List Act) → books.replies_of (notes_of h) ≡ replies_of h
replies_notes [] = refl
replies_notes (a ∷ h) = ap (λ (l : List Reply). a.noted.reply ∷ l) (replies_notes h)

module _ (o : Opened) (h : List Act) (kept : Kept o h) where
  some : 0 < (begun o).buckets
  some = subst (λ (n : ℕ). 0 < n) kept.buckets kept.counted.numbers.buckets

  actors_of : (k : ℕ) (l : List Item) → slice_get o.plan.lists k ≡ Some l → books.AreFrom 0 l (books.acts_of k (notes_of h))
  actors_of k l is = let r = list_some o.plan.lists k l is in
      subst (λ (acts : List Noted). books.AreFrom 0 l acts) (sym (by_lane (begun o).buckets (length o.plan.lists) k h some kept.lanes))
      (subst (λ (items : List Item). books.AreFrom 0 items (notes_of (lane_acts ((begun o).buckets + k) h))) r.1 (kept.planned k r.0))

  pub sound_of : (book : RoundBook) → book.acts ≡ notes_of h → book.moment ≡ o.plan.moment → book.buckets ≡ o.plan.buckets → book.workers + 3 ≡ length o.plan.lists → books.IsSound (begun o) o.plan book (left o h)
  sound_of book acts moment buckets workers = record {
    moment = moment;
    buckets = buckets;
    workers = workers;
    actors = λ k l is. subst (λ (xs : List Noted). books.AreFrom 0 l (books.acts_of k xs)) (sym acts) (actors_of k l is);
    none = λ k is. ap (books.acts_of k) acts ∙ no_more (begun o).buckets (length o.plan.lists) k h kept.lanes (list_none o.plan.lists k is);
    replies =
        ap (λ (xs : List Noted). run (begun o) (books.items_of xs)) acts
        ∙ ap (run (begun o)) (items_notes h)
        ∙ ap (λ (replies : List Reply). (replies, left o h)) (kept.replies ∙ sym (replies_notes h) ∙ sym (ap books.replies_of acts));
  }

  count_of : (z : TableId) (t : SeatSeen) → IsSeat z o t → t.pass.acts ≡ lane_acts t.pass.lane h → length (books.acts_of t.actor (notes_of h)) ≡ t.number
  count_of z t seat tells =
      ap length (by_lane (begun o).buckets (length o.plan.lists) t.actor h some kept.lanes)
      ∙ notes_length (lane_acts ((begun o).buckets + t.actor) h)
      ∙ ap (λ (j : ℕ). length (lane_acts j h)) (sym seat.lane)
      ∙ sym (ap length tells)
      ∙ sym seat.number

  counts_of : (z : TableId) (k : ℕ) (ss : List SeatSeen) → AreSeated z o k ss → Tells names o h (passes_in ss) → HaveNumbers (notes_of h) ss
  counts_of z k [] seated tells = tt
  counts_of z k (t ∷ ts) seated tells = (count_of z t seated.0 tells.1, counts_of z (suc k) ts seated.2 tells.2)

used_up : (n : ℕ) (l : List Item) → drop n l ≡ [] → length l ≤ n
used_up n [] e = omega arith
used_up zero (x ∷ xs) e = absurd cc
used_up (suc n) (x ∷ xs) e = omega (arith, used_up n xs e)

whole_of : (o : Opened) (h : List Act) (z : TableId) (j m : ℕ) (ss : List SeatSeen) → Kept o h → AreSeated z o j ss → AreSeats j m ss → Tells names o h (passes_in ss) → AreAtEnd ss → (k : ℕ) → j ≤ k → k < m → length (books.acts_of k (notes_of h)) ≡ length (list_of o k)
whole_of o h z j m [] kept seated order tells at_end k from below = absurd (omega (arith, order, from, below))
whole_of o h z j m (t ∷ ts) kept seated order tells at_end k from below = dite (ℕ_discrete t.actor k)
    (λ same.
    let c = count_of o h kept z t seated.0 tells.1 in
    let u = used_up t.number (list_of o t.actor) (seated.0.left ∙ at_end.0) in
    let g = from_le 0 (list_of o t.actor) (notes_of (lane_acts ((begun o).buckets + t.actor) h)) (kept.planned t.actor seated.0.actor) in
    let b = ap length (by_lane (begun o).buckets (length o.plan.lists) t.actor h (some o h kept) kept.lanes) in
    subst (λ (i : ℕ). length (books.acts_of i (notes_of h)) ≡ length (list_of o i)) same (omega (arith, c, u, g, b)))
    (λ other. whole_of o h z (suc j) m ts kept seated.2 order.1 tells.2 at_end.1 k (omega (arith, from, other, seated.1)) below)

-- ALL OF IT TOGETHER

module _ (o : Opened) (z : TableId) (p : PlayedSeen) (b : BoardSeen) (bs : List BucketSeen) (ps : List (Held Opened Act)) (ss : List SeatSeen) (origin : p.origin ≡ o) (is : IsLeft p b) (homes : AreHomes z o 0 bs ps) (len : length bs ≡ (begun o).buckets) (seated : AreSeated z o 0 ss) (order : AreSeats 0 (length o.plan.lists) ss) (tells : Tells names o p.acts (ps ++ passes_in ss)) where
  opened : IsOpened o
  opened = subst IsOpened origin is.opened

  kept : Kept o p.acts
  kept = subst (λ (q : Opened). Kept q p.acts) origin is.kept

  stood : StandsFor b (left o p.acts)
  stood = subst (λ (q : Opened). StandsFor b (left q p.acts)) origin is.stands

  pub closed_steps : b.steps ≡ o.core.steps + length b.book
  closed_steps = is.steps ∙ ap (λ (q : Opened). q.core.steps + length b.book) origin

  pub closed_agree : (b' : BoardSeen) → b' ≡ record b { book = [] } → Agree b' bs (left o p.acts)
  closed_agree b' now = rw now (record {
    book = refl;
    stands = record { tables = stood.tables; totals = stood.totals };
    well_formed = kept.well_formed;
    counted = subst (λ (n : ℕ). IsCounted n (left o p.acts)) (let e = ap length is.book in let n = notes_length p.acts in let g : o.core.steps + length p.acts ≡ b.steps = omega (arith, e, n, closed_steps) in g) kept.counted;
    rising = kept.rising;
    whole = len ∙ sym kept.buckets;
    few = rw kept.buckets opened.few;
    each = buckets_are z o p.acts 0 bs ps kept homes (tells_first o p.acts ps (passes_in ss) tells) (omega (arith, len));
  })

  closed_sound : (book : RoundBook) → book.acts ≡ b.book → book.moment ≡ (begun o).now → book.buckets ≡ (begun o).buckets → book.workers + 3 ≡ length ss → books.IsSound (begun o) o.plan book (left o p.acts)
  closed_sound book acts moment buckets workers = sound_of o p.acts kept book (acts ∙ sym is.book) (moment ∙ opened.moment) (buckets ∙ opened.buckets) (let e = seats_count 0 (length o.plan.lists) ss order in omega (arith, workers, e))

  pub closed_counts : HaveNumbers b.book ss
  closed_counts = subst (λ (acts : List Noted). HaveNumbers acts ss) is.book (counts_of o p.acts kept z 0 ss seated (tells_last o p.acts ps (passes_in ss) tells))

  pub closed_whole : (book : RoundBook) → book.acts ≡ b.book → AreAtEnd ss → books.IsWhole o.plan book
  closed_whole book acts at_end = λ k l there. let r = list_some o.plan.lists k l there in
      ap (λ (xs : List Noted). length (books.acts_of k xs)) (acts ∙ sym is.book)
      ∙ whole_of o p.acts z 0 (length o.plan.lists) ss kept seated order (tells_last o p.acts ps (passes_in ss) tells) at_end k (omega arith) r.0
      ∙ ap length r.1

  -- the same of the origin as the director tells it, and of the state of the core that is handed back
  pub closed_sound_as : (q : Opened) (t : State) (book : RoundBook) → q ≡ o → t ≡ left o p.acts → book.acts ≡ b.book → book.moment ≡ (begun o).now → book.buckets ≡ (begun o).buckets → book.workers + 3 ≡ length ss → books.IsSound (begun q) q.plan book t
  closed_sound_as q t book same there acts moment buckets workers =
      subst (λ (r : Opened). books.IsSound (begun r) r.plan book t) (sym same)
      (subst (books.IsSound (begun o) o.plan book) (sym there) (closed_sound book acts moment buckets workers))
