use Rattle.std.proofs.Common.{◌≡◌, false, sym, ◌∙◌, ap}
use Rattle.std.specs.List.{list_any}
use Rattle.lvs_model.specs.Listings.{shown_of}
use Rattle.lvs_run.specs.Listings.{is_listing}
use Rattle.lvs_run.proofs.Unlisted.{unlisted}
use Rattle.lvs_run.proofs.listings.show_round.Goals as goal

pub returns-then-not-has_listing : goal.returns-then-not-has_listing
returns-then-not-has_listing c =
    let none : list_any is_listing c.args.round.now.lines ≡ false = cc in
    c.new.ensures ∙ sym (ap (shown_of c.args.core.now.state) (unlisted c.args.round.now.lines none))
