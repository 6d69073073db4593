-- What a sweep finds, by whether there is a bucket of the number.
use Rattle.std.proofs.Common.{◌≡◌, ◌<◌, ◌≤◌, ℕ, Bool, true, false, cond, nat_lt, List, refl, ap, sym, ◌∙◌, arith}
use Rattle.std.specs.Prelude.{Option, Some, None}
use Rattle.std.specs.List.{filter}
use Rattle.std.proofs.lemmas.Bool.Decides.{nat_tests}
use Rattle.lvs_types.specs.declared.bucket.Found.{Found}
use Rattle.lvs_types.specs.declared.bucket.Found.TheVariants as found
use Rattle.lvs_types.specs.declared.item.Item.TheVariants as item
use Rattle.lvs_types.specs.declared.entry.Entry.{Entry}
use Rattle.lvs_model.specs.State.{State}
use Rattle.lvs_model.specs.Clock.{is_swept}
use Rattle.lvs_model.specs.Buckets.{look_up, look_at}
use Rattle.lvs_well_formed.proofs.BucketLooks.{swept_found}

pub swept_there : (s : State) (b : ℕ) (due : List Entry) → b < s.buckets → due ≡ filter (is_swept s b) s.entries → found.Due due ≡ look_up s (item.Sweep b)
swept_there s b due there is = ap (λ (es : List Entry). found.Due es) is ∙ sym (swept_found s b there)

pub swept_nowhere : (s : State) (b : ℕ) → s.buckets ≤ b → found.Nothing ≡ look_up s (item.Sweep b)
swept_nowhere s b far =
    let no : nat_lt b s.buckets ≡ false = grind (arith, nat_tests) in
    ap (λ (c : Bool). look_at s (item.Sweep b) (cond c (Some b) None)) (sym no)
