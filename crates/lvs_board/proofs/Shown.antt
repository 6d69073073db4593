-- What the tables show is the snapshot of the state that they stand for, but its entries.
use Rattle.std.proofs.Common.{◌≡◌, ℕ, suc, ◌+◌, ◌<◌, Bool, true, false, not, cond, refl, sym, ap, subst, ◌∙◌, List, [], ◌∷◌, ◌++◌, map, slice_index, arith}
use Rattle.std.specs.Prelude.{Result, Ok, Err, IfOk}
use Rattle.std.specs.List.{filter, flat_map}
use Rattle.lvs_types.specs.declared.service.Service.{Service}
use Rattle.lvs_types.specs.declared.dest.Dest.{Dest}
use Rattle.lvs_types.specs.declared.dest.DestRow.{DestRow}
use Rattle.lvs_types.specs.declared.entry.Entry.{Entry}
use Rattle.lvs_types.specs.declared.template.Template.{Template}
use Rattle.lvs_types.specs.declared.snapshot.Snapshot.{Snapshot}
use Rattle.lvs_model.specs.State.{State}
use Rattle.lvs_model.specs.Lists.{sorted_by}
use Rattle.lvs_model.specs.Lookups.{is_server_of, servers_of}
use Rattle.lvs_model.specs.Counts.{row_of}
use Rattle.lvs_model.specs.Snapshots.{shown_dests}
use Rattle.lvs_model.proofs.OrderLemmas.{IsStrict, all_weaker}
use Rattle.lvs_well_formed.proofs.BucketLooks.{sorted_rising}
use Rattle.lvs_dests.specs.Rows.{is_row_of, is_row_trashed}
use Rattle.lvs_dests.proofs.All.{map_over}
use Rattle.lvs_templates.specs.Rows.{IsRising}
use Rattle.lvs_board.specs.Seen.{TablesSeen, BoardSeen}
use Rattle.lvs_board.specs.Stands.{state_in, AreTotalled, StandsFor, shown_tables}
use Rattle.lvs_board.specs.Shown.{live_rows, shown_rows, shown_of}

-- ---- answers

pub ok_then : {X E : Type 0} (P Q : X → Type 0) → ((x : X) → P x → Q x) → (r : Result X E) → IfOk r P → IfOk r Q
ok_then P Q h (Ok x) it = h x it
ok_then P Q h (Err e) it = it

pub ok_both : {X E : Type 0} (P Q R : X → Type 0) → ((x : X) → P x → Q x → R x) → (r : Result X E) → IfOk r P → IfOk r Q → IfOk r R
ok_both P Q R h (Ok x) it that = h x it that
ok_both P Q R h (Err e) it that = it

-- ---- templates

abbrev number : Template → ℕ
number t = t.id.0

strict_of : (ts : List Template) → IsRising ts → IsStrict number ts
strict_of [] rising = tt
strict_of (x ∷ []) rising = (tt, tt)
strict_of (x ∷ y ∷ ts) rising =
    let ids : List ℕ = map number (x ∷ y ∷ ts) in
    let first : x.id.0 < y.id.0 = rising 0 (omega arith) in
    let later : IsStrict number (y ∷ ts) = strict_of (y ∷ ts) (λ k within. let one : suc k + 1 ≡ suc (k + 1) = omega arith in subst (λ n. slice_index ids (suc k) < slice_index ids n) one (rising (suc k) (omega (arith, within)))) in
    ((first, all_weaker (λ (z : Template). y.id.0 < z.id.0) (λ (z : Template). x.id.0 < z.id.0) (λ z up. omega (arith, first, up)) ts later.0), later)

-- templates by rising id are in order of their ids
pub templates_sorted : (ts : List Template) → IsRising ts → ts ≡ sorted_by (λ (t : Template). t.id.0) ts
templates_sorted ts rising = sym (sorted_rising number ts (strict_of ts rising))

-- ---- servers

module _ (es : List Entry) (ts : List Template) where
  kept_by : (d : Dest) (b : Bool) (rows : List DestRow) (ds : List Dest) → rows ≡ map (row_of es ts) ds → cond b (row_of es ts d ∷ rows) rows ≡ map (row_of es ts) (cond b (d ∷ ds) ds)
  kept_by d true rows ds rest = ap (λ (others : List DestRow). row_of es ts d ∷ others) rest
  kept_by d false rows ds rest = rest

  kept : (p : DestRow → Bool) (q : Dest → Bool) → ((d : Dest) → p (row_of es ts d) ≡ q d) → (ds : List Dest) → filter p (map (row_of es ts) ds) ≡ map (row_of es ts) (filter q ds)
  kept p q same [] = refl
  kept p q same (d ∷ ds) =
      ap (λ (b : Bool). cond b (row_of es ts d ∷ filter p (map (row_of es ts) ds)) (filter p (map (row_of es ts) ds))) (same d)
      ∙ kept_by d (q d) (filter p (map (row_of es ts) ds)) (filter q ds) (kept p q same ds)

  joined : (xs ys : List Dest) → map (row_of es ts) xs ++ map (row_of es ts) ys ≡ map (row_of es ts) (xs ++ ys)
  joined [] ys = refl
  joined (x ∷ xs) ys = ap (λ (rows : List DestRow). row_of es ts x ∷ rows) (joined xs ys)

  live_same : (services : List Service) (ds : List Dest) → live_rows services (map (row_of es ts) ds) ≡ map (row_of es ts) (flat_map (λ (service : Service). servers_of service.key ds) services)
  live_same [] ds = refl
  live_same (service ∷ services) ds =
      ap (λ (rows : List DestRow). rows ++ live_rows services (map (row_of es ts) ds)) (kept (is_row_of service.key) (is_server_of service.key) (λ d. refl) ds)
      ∙ ap (λ (rows : List DestRow). map (row_of es ts) (servers_of service.key ds) ++ rows) (live_same services ds)
      ∙ joined (servers_of service.key ds) (flat_map (λ (other : Service). servers_of other.key ds) services)

  trashed_same : (ds : List Dest) → sorted_by (λ (row : DestRow). row.dest.id.0) (filter is_row_trashed (map (row_of es ts) ds)) ≡ map (row_of es ts) (sorted_by (λ (d : Dest). d.id.0) (filter (λ (d : Dest). not d.live) ds))
  trashed_same ds =
      ap (sorted_by (λ (row : DestRow). row.dest.id.0)) (kept is_row_trashed (λ (d : Dest). not d.live) (λ d. refl) ds)
      ∙ sym (map_over (row_of es ts) (λ (row : DestRow). row.dest.id.0) (filter (λ (d : Dest). not d.live) ds))

  rows_same : (services : List Service) (ds : List Dest) → shown_rows services (map (row_of es ts) ds) ≡ map (row_of es ts) (shown_dests services ds)
  rows_same services ds =
      ap (λ (rows : List DestRow). rows ++ sorted_by (λ (row : DestRow). row.dest.id.0) (filter is_row_trashed (map (row_of es ts) ds))) (live_same services ds)
      ∙ ap (λ (rows : List DestRow). map (row_of es ts) (flat_map (λ (service : Service). servers_of service.key ds) services) ++ rows) (trashed_same ds)
      ∙ joined (flat_map (λ (service : Service). servers_of service.key ds) services) (sorted_by (λ (d : Dest). d.id.0) (filter (λ (d : Dest). not d.live) ds))

-- ---- all tables

abbrev shown_with : List DestRow → State → Snapshot
shown_with rows s = record (shown_tables s) { dests = rows }

tables_shown : (t : TablesSeen) (s : State) → state_in t s.entries s.buckets ≡ s → AreTotalled t s → shown_of t ≡ shown_tables s
tables_shown t s is totals =
    ap (shown_with (shown_rows t.services t.dests.rows)) is
    ∙ ap (λ (x : State). shown_with (shown_rows x.services t.dests.rows) s) is
    ∙ ap (λ (rows : List DestRow). shown_with (shown_rows s.services rows) s) totals.servers
    ∙ ap (λ (rows : List DestRow). shown_with rows s) (rows_same s.entries s.templates s.services s.dests)

pub shown_is : (board : BoardSeen) (s : State) → StandsFor board s → shown_of board.tables ≡ shown_tables s
shown_is board s stands = tables_shown board.tables s stands.tables stands.totals
