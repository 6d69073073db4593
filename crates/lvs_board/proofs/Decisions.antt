-- A board that decides an item begins where it stands for the state, and ends where it stands for the next one.
use Rattle.std.proofs.Common.{◌≡◌, ◌<◌, ◌^◌, ℕ, List, Option, Some, None, refl, sym, ◌∙◌, ap, subst, arith}
use Rattle.std.specs.Prelude.{IfSome}
use Rattle.std.specs.List.{find}
use Rattle.lvs_types.specs.declared.book.Noted.{Noted}
use Rattle.lvs_types.specs.declared.bucket.Change.TheVariants.{Keep}
use Rattle.lvs_types.specs.declared.bucket.Found.{Found}
use Rattle.lvs_types.specs.declared.bucket.Found.TheVariants as found
use Rattle.lvs_types.specs.declared.entry.Entry.{Entry}
use Rattle.lvs_types.specs.declared.item.Item.{Item}
use Rattle.lvs_model.specs.State.{State}
use Rattle.lvs_model.specs.Lookups.{has_entry_id}
use Rattle.lvs_model.specs.Buckets.{look_up, Carries}
use Rattle.lvs_model.specs.Clock.{is_swept}
use Rattle.lvs_model.specs.Counted.{IsCounted, IsCountedEntry}
use Rattle.lvs_model.specs.WellFormed.{IsWellFormed}
use Rattle.lvs_model.specs.Step.{step}
use Rattle.lvs_well_formed.proofs.Lists.{all_weaker}
use Rattle.lvs_well_formed.proofs.Parts.{parts_of}
use Rattle.lvs_rules.proofs.Named.{unnamed_next}
use Rattle.lvs_rules.specs.Bounds.{HasFewPackets, HasHeadroom}
use Rattle.lvs_rules.specs.Finds.{entry_in, IsGiven}
use Rattle.lvs_board.specs.declared.desk.Desk.{Desk}
use Rattle.lvs_board.specs.Stands.{StandsFor}
use Rattle.lvs_board.specs.Seen.{BoardSeen}
use Rattle.lvs_board.specs.Desks.{after, seen_of, state_of, Holds, IsAbout, IsFree, IsOfItem}
use Rattle.lvs_board.specs.Homes.{id_of, sweep_of}
use Rattle.lvs_board.specs.AtItems.{for_item, sweep_at, IsAtItem, IsBegun, IsSweepOf}
use Rattle.lvs_board.proofs.Items.{begins_sound}
use Rattle.lvs_board.proofs.ItemSteps.{carries, look_inside}

abbrev board_of : List Noted → ℕ → Desk → BoardSeen
board_of book steps d = record { tables = seen_of d; book = book; steps = steps }

headroom : (s : State) (steps : ℕ) → IsCounted steps s → steps < 2 ^ 62 → HasHeadroom s
headroom s steps counted young = record {
  now = omega (arith, counted.numbers.now);
  next_entry = omega (arith, counted.numbers.next_entry, young);
  next_dest = omega (arith, counted.numbers.next_dest, young);
  next_template = omega (arith, counted.numbers.next_template, young);
  packets = all_weaker (IsCountedEntry steps) HasFewPackets s.entries (λ e few. omega (arith, few, young)) counted.packets;
}

given_by : (whole : State) (d : Desk) (f : Found) → ((x : Entry) → entry_in f ≡ Some x → find (has_entry_id x.id) whole.entries ≡ Some x) → d.home ≡ id_of (entry_in f) → d.change ≡ Keep → IsGiven (Holds whole d) (IsFree d.change) f
given_by whole d found.Nothing there is still = subst IsFree (sym still) tt
given_by whole d (found.Due due) there is still = subst IsFree (sym still) tt
given_by whole d (found.One e) there is still = record {
  found = subst (λ c. find (has_entry_id e.id) (after (is_swept whole d.bucket) c whole.entries) ≡ Some e) (sym still) (there e refl);
  about = subst (λ c. IsAbout d.home e.id c) (sym still) is;
}

ready_at : (whole : State) (moment : ℕ) (sweep : Option ℕ) → moment ≡ whole.now → IfSome (sweep_at moment sweep) (IsSweepOf whole sweep)
ready_at whole moment None is = tt
ready_at whole moment (Some bucket) is = (refl, is)

pub begins : (whole : State) (d : Desk) (item : Item) (f : Found) (book : List Noted) (steps : ℕ) → StandsFor (board_of book steps d) whole → IsWellFormed whole → IsCounted steps whole → steps < 2 ^ 62 → f ≡ look_up whole item
    → IsBegun whole item f (id_of (entry_in f)) (sweep_of item) (for_item item f d)
begins whole d item f book steps stands well counted young is = record {
  at = record {
    sound = begins_sound whole d (id_of (entry_in f)) (sweep_at d.moment (sweep_of item)) book steps stands well counted young;
    found = refl;
    ready = ready_at whole d.moment (sweep_of item) (ap (λ (s : State). s.now) stands.tables);
    swept = tt;
  };
  stands = stands.tables;
  looked = is;
  given = given_by whole (for_item item f d) f (λ x here. look_inside whole item x (parts_of whole well) (ap entry_in (sym is) ∙ here)) refl refl;
  room = headroom whole steps counted young;
  buckets = counted.numbers.buckets;
  apart = record { entries = well.entry_ids.apart; dests = well.dest_ids.apart };
  unnamed = unnamed_next whole well;
  pending = counted.numbers.flags;
}

pub carries_decided : (whole : State) (d : Desk) (item : Item) (f : Found) → IsWellFormed whole → 0 < whole.buckets → f ≡ look_up whole item → IsAtItem whole (id_of (entry_in f)) (sweep_of item) d → state_of whole d ≡ (step whole item).1
    → Carries whole item d.change
carries_decided whole d item f well some looked at is =
    let of = subst (λ (o : Option ℕ). IsOfItem whole o d.change) (at.found ∙ ap (λ (g : Found). id_of (entry_in g)) looked) at.sound.of_item in
    carries whole item d.bucket d.change well some of at.swept (ap (λ (s : State). s.entries) is)
