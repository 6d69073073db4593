-- Rounds without listings.
use Rattle.std.proofs.Common.{◌≡◌, false, List, [], ◌∷◌, refl}
use Rattle.std.specs.List.{list_any, filter_map}
use Rattle.lvs_types.specs.declared.script.ScriptLine.{ScriptLine}
use Rattle.lvs_types.specs.declared.script.ScriptLine.TheVariants as line
use Rattle.lvs_model.specs.Plans.{shown_by}
use Rattle.lvs_run.specs.Listings.{is_listing}

pub unlisted : (lines : List ScriptLine) → list_any is_listing lines ≡ false → filter_map shown_by lines ≡ []
unlisted [] none = refl
unlisted (line.Show kind ∷ lines) none = cc
unlisted (line.Incoming mark bytes ∷ lines) none = unlisted lines none
unlisted (line.Outgoing bytes ∷ lines) none = unlisted lines none
unlisted (line.Edit command ∷ lines) none = unlisted lines none
unlisted (line.Set setting ∷ lines) none = unlisted lines none
unlisted (line.Sync bytes ∷ lines) none = unlisted lines none
