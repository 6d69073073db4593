-- More than two values are refused.
use Rattle.std.proofs.Common.{◌≡◌, ℕ, ◌≤◌, List, [], ◌∷◌, length, map, Err, refl, arith}
use Rattle.lvs_types.specs.declared.script.SettingCause.TheVariants.{BadValue}
use Rattle.lvs_model.specs.declared.admin.SysctlName.{SysctlName}
use Rattle.lvs_model.specs.SysctlWords.{setting_read}

pub too_many : {X : Type 0} (text : X → List ℕ) (known : SysctlName) (values : List X) → 3 ≤ length values → Err BadValue ≡ setting_read known (map text values)
too_many text known [] long = absurd (omega arith)
too_many text known (a ∷ []) long = absurd (omega arith)
too_many text known (a ∷ b ∷ []) long = absurd (omega arith)
too_many text known (a ∷ b ∷ c ∷ rest) long = refl
