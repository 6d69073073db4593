-- How many entries but one name a server.
use Rattle.std.proofs.Common.{◌≡◌, ◌+◌, ◌≤◌, Bool, true, false, ◌&&◌, not, List, Option, Some, None, refl, sym, ap, subst, ◌∙◌, map, length, arith, is_some, nat_eq}
use Rattle.std.proofs.lemmas.List.Sums.{count_by-le-length}
use Rattle.std.specs.Option.{IfSome, option_map}
use Rattle.std.specs.List.{IsDistinct, find}
use Rattle.lvs_types.specs.declared.addr.DestId.{DestId}
use Rattle.lvs_types.specs.declared.dest.Dest.{Dest}
use Rattle.lvs_types.specs.declared.dest.DestRow.{DestRow}
use Rattle.lvs_types.specs.declared.entry.Entry.{Entry}
use Rattle.lvs_types.specs.declared.template.Template.{Template}
use Rattle.lvs_model.specs.Same.{dest_eq}
use Rattle.lvs_model.specs.Timeouts.{is_active}
use Rattle.lvs_model.specs.Counts.{row_of, counts_active, counts_inactive, active, inactive, total}
use Rattle.lvs_model.specs.Lookups.{dest_at, has_dest_id, has_entry_id}
use Rattle.lvs_model.specs.WellFormed.{entry_ids}
use Rattle.lvs_well_formed.proofs.Keys.{dest_id_true}
use Rattle.lvs_well_formed.proofs.Lists.{find_passes}
use Rattle.lvs_dests.specs.Rows.{row_at, totals_of}
use Rattle.lvs_dests.specs.declared.totals.Totals.{Totals}
use Rattle.lvs_board.proofs.Counts.{one_if}
use Rattle.lvs_board.proofs.Rows.{row_with, row_found}
use Rattle.lvs_board.proofs.Ends.{left_by, count_left}

two_counts : (a b : Bool) → one_if (a && b) + one_if (a && not b) ≡ one_if a
two_counts true true = refl
two_counts true false = refl
two_counts false b = refl

-- an entry that is there counts as one
pub others_left : (es : List Entry) (e : Entry) (id : DestId) → IsDistinct nat_eq (entry_ids es) → find (has_entry_id e.id) es ≡ Some e → total id (left_by e es) + one_if (dest_eq e.server id) ≡ total id es
others_left es e id apart found =
    omega (arith, count_left (counts_active id) es e apart found, count_left (counts_inactive id) es e apart found, two_counts (dest_eq e.server id) (is_active e.state))

pub total_fits : (es : List Entry) (id : DestId) → total id es ≤ length es + length es
total_fits es id = omega (arith, count_by-le-length (counts_active id) es, count_by-le-length (counts_inactive id) es)

-- the numbers beside the server are the counts at its id
abbrev pub AreCounts : List Entry → DestId → DestRow → Type 0
AreCounts es id row = (row.active ≡ active id es) × (row.inactive ≡ inactive id es)

row_counts : (es : List Entry) (ts : List Template) (id : DestId) (ds : List Dest) → IfSome (row_at id (map (row_of es ts) ds)) (AreCounts es id)
row_counts es ts id ds = row_with (AreCounts es id) es ts id ds (λ d is.
    let same = dest_id_true d.id id (find_passes (has_dest_id id) ds d is) in
    (ap (λ (i : DestId). active i es) same, ap (λ (i : DestId). inactive i es) same))

counts_by : (es : List Entry) (id : DestId) (o : Option DestRow) (totals : Totals) → IfSome o (AreCounts es id) → Some totals ≡ option_map totals_of o → (totals.active ≡ active id es) × (totals.inactive ≡ inactive id es)
counts_by es id None totals counts is = absurd cc
counts_by es id (Some row) totals counts is =
    let same : totals ≡ totals_of row = cc in
    (ap (λ (t : Totals). t.active) same ∙ counts.0, ap (λ (t : Totals). t.inactive) same ∙ counts.1)

-- the totals that the table tells
pub totals_count : (es : List Entry) (ts : List Template) (id : DestId) (ds : List Dest) (rows : List DestRow) (totals : Totals) → rows ≡ map (row_of es ts) ds → Some totals ≡ option_map totals_of (row_at id rows)
    → (totals.active ≡ active id es) × (totals.inactive ≡ inactive id es)
totals_count es ts id ds rows totals is told =
    counts_by es id (row_at id rows) totals (subst (λ (others : List DestRow). IfSome (row_at id others) (AreCounts es id)) (sym is) (row_counts es ts id ds)) told

-- what the table tells are the entries but one, and that one where it names the server
pub others_told : (es : List Entry) (ts : List Template) (id : DestId) (ds : List Dest) (rows : List DestRow) (totals : Totals) (e : Entry) → rows ≡ map (row_of es ts) ds → Some totals ≡ option_map totals_of (row_at id rows)
    → IsDistinct nat_eq (entry_ids es) → find (has_entry_id e.id) es ≡ Some e → totals.active + totals.inactive ≡ total id (left_by e es) + one_if (dest_eq e.server id)
others_told es ts id ds rows totals e is told apart found =
    let counts = totals_count es ts id ds rows totals is told in
    omega (arith, counts.0, counts.1, others_left es e id apart found)

some_by : (es : List Entry) (ts : List Template) (o : Option Dest) → is_some o ≡ true → is_some (option_map totals_of (option_map (row_of es ts) o)) ≡ true
some_by es ts None there = there
some_by es ts (Some d) there = there

-- a server that is there has a row
pub there_told : (es : List Entry) (ts : List Template) (id : DestId) (ds : List Dest) (rows : List DestRow) → rows ≡ map (row_of es ts) ds → is_some (dest_at id ds) ≡ true → is_some (option_map totals_of (row_at id rows)) ≡ true
there_told es ts id ds rows is there =
    ap (λ (others : List DestRow). is_some (option_map totals_of (row_at id others))) is ∙ ap (λ (o : Option DestRow). is_some (option_map totals_of o)) (row_found es ts id ds) ∙ some_by es ts (dest_at id ds) there
