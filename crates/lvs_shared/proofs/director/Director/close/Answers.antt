use Rattle.std.proofs.Common.{◌≡◌, ◌∙◌, ◌+◌, ◌≤◌, ◌++◌, [], length, sym, ap, subst, rules, arith, List, ℕ}
use Rattle.atomic_table.specs.Seated.{TableId}
use Rattle.lvs_book.specs.Passes.{Held, AreAll, Tells}
use Rattle.lvs_types.specs.declared.book.Noted.{Noted}
use Rattle.lvs_types.specs.declared.book.RoundBook.{RoundBook}
use Rattle.lvs_model.specs.Books.{IsWhole}
use Rattle.lvs_shared.specs.declared.origin.Act.{Act}
use Rattle.lvs_shared.specs.declared.origin.Opened.{Opened}
use Rattle.lvs_shared.specs.Openings.{begun}
use Rattle.lvs_shared.specs.Acts.{left}
use Rattle.lvs_shared.specs.Seats.{AreAtEnd, AreSeats, passes_in}
use Rattle.lvs_shared.specs.Rounds.{DirectorSeen, HaveNumbers}
use Rattle.lvs_shared.proofs.Ends.{names, are_all, seats_count, closed_agree, closed_sound_as, closed_counts, closed_whole}
use Rattle.lvs_shared.proofs.director.Director.close.Goals as goal

pub close-requires : goal.close-requires
close-requires g c =
    let o = g.N.RoundName.book.origin in let z = g.N.RoundName.book.id in
    let i = c.self.invariant in
    let origin : c.args.self.origin ≡ o = sym (ap (λ (d : DirectorSeen). d.origin) c.self.view_is) ∙ i.origin in
    let order : AreSeats 0 (length o.plan.lists) c.args.seats.items = subst (λ (q : Opened). AreSeats 0 (length q.plan.lists) c.args.seats.items) origin c.requires.all in
    let len : length c.parts_of-buckets.result.items ≡ (begun o).buckets = c.parts_of-buckets.ensures.len ∙ c.unlocked-chambers.ensures.len ∙ i.locks in
    let all = are_all z o c.parts_of-buckets.result.items c.parts_of-buckets.new.passes.items c.args.seats.items (length o.plan.lists) c.parts_of-buckets.ensures.homes len c.passes_of.ensures.seated order in
    record {
      all = subst (λ (l : List (Held Opened Act)). AreAll c.self.inside.book.id 0 c.self.inside.book.lanes l) (sym c.passes_of.ensures.passes)
          (subst (λ (n : ℕ). AreAll c.self.inside.book.id 0 n (c.parts_of-buckets.new.passes.items ++ passes_in c.args.seats.items)) (sym i.lanes)
          (subst (λ (t : TableId). AreAll t 0 ((begun o).buckets + length o.plan.lists) (c.parts_of-buckets.new.passes.items ++ passes_in c.args.seats.items)) (sym i.id) all));
    }

pub from_parts-requires : goal.from_parts-requires
from_parts-requires g c =
    let o = g.N.RoundName.book.origin in let z = g.N.RoundName.book.id in
    let i = c.self.invariant in
    let origin : c.args.self.origin ≡ o = sym (ap (λ (d : DirectorSeen). d.origin) c.self.view_is) ∙ i.origin in
    let order : AreSeats 0 (length o.plan.lists) c.args.seats.items = subst (λ (q : Opened). AreSeats 0 (length q.plan.lists) c.args.seats.items) origin c.requires.all in
    let len : length c.parts_of-buckets.result.items ≡ (begun o).buckets = c.parts_of-buckets.ensures.len ∙ c.unlocked-chambers.ensures.len ∙ i.locks in
    let at : c.in-Ok-close.played.origin ≡ o = c.in-Ok-close.ensures.origin ∙ i.origin in
    let tells : Tells names o c.in-Ok-close.played.acts (c.parts_of-buckets.new.passes.items ++ passes_in c.args.seats.items) = subst (λ (l : List (Held Opened Act)). Tells names o c.in-Ok-close.played.acts l) c.passes_of.ensures.passes (subst (λ (q : Opened). Tells names q c.in-Ok-close.played.acts c.passes_of.new.passes.items) at c.in-Ok-close.ensures.lanes) in
    (left o c.in-Ok-close.played.acts, closed_agree o z c.in-Ok-close.played c.into_board-board.result c.parts_of-buckets.result.items c.parts_of-buckets.new.passes.items c.args.seats.items at c.into_board-board.ensures c.parts_of-buckets.ensures.homes len c.passes_of.ensures.seated order tells c.take_acts-acts.new.self c.take_acts-acts.ensures.rest)

pub returns-clause-counts : goal.returns-clause-counts
returns-clause-counts g c =
    let o = g.N.RoundName.book.origin in let z = g.N.RoundName.book.id in
    let i = c.self.invariant in
    let origin : c.args.self.origin ≡ o = sym (ap (λ (d : DirectorSeen). d.origin) c.self.view_is) ∙ i.origin in
    let order : AreSeats 0 (length o.plan.lists) c.args.seats.items = subst (λ (q : Opened). AreSeats 0 (length q.plan.lists) c.args.seats.items) origin c.requires.all in
    let len : length c.parts_of-buckets.result.items ≡ (begun o).buckets = c.parts_of-buckets.ensures.len ∙ c.unlocked-chambers.ensures.len ∙ i.locks in
    let at : c.in-Ok-close.played.origin ≡ o = c.in-Ok-close.ensures.origin ∙ i.origin in
    let tells : Tells names o c.in-Ok-close.played.acts (c.parts_of-buckets.new.passes.items ++ passes_in c.args.seats.items) = subst (λ (l : List (Held Opened Act)). Tells names o c.in-Ok-close.played.acts l) c.passes_of.ensures.passes (subst (λ (q : Opened). Tells names q c.in-Ok-close.played.acts c.passes_of.new.passes.items) at c.in-Ok-close.ensures.lanes) in
    let e : c.from_vec.result ≡ c.into_board-board.result.book = c.from_vec.ensures ∙ c.take_acts-acts.ensures.acts in
    subst (λ (l : List Noted). HaveNumbers l c.args.seats.items) (sym e) (closed_counts o z c.in-Ok-close.played c.into_board-board.result c.parts_of-buckets.result.items c.parts_of-buckets.new.passes.items c.args.seats.items at c.into_board-board.ensures c.parts_of-buckets.ensures.homes len c.passes_of.ensures.seated order tells)

pub returns-clause-whole : goal.returns-clause-whole
returns-clause-whole g c =
    let o = g.N.RoundName.book.origin in let z = g.N.RoundName.book.id in
    let i = c.self.invariant in
    let origin : c.args.self.origin ≡ o = sym (ap (λ (d : DirectorSeen). d.origin) c.self.view_is) ∙ i.origin in
    let order : AreSeats 0 (length o.plan.lists) c.args.seats.items = subst (λ (q : Opened). AreSeats 0 (length q.plan.lists) c.args.seats.items) origin c.requires.all in
    let len : length c.parts_of-buckets.result.items ≡ (begun o).buckets = c.parts_of-buckets.ensures.len ∙ c.unlocked-chambers.ensures.len ∙ i.locks in
    let at : c.in-Ok-close.played.origin ≡ o = c.in-Ok-close.ensures.origin ∙ i.origin in
    let tells : Tells names o c.in-Ok-close.played.acts (c.parts_of-buckets.new.passes.items ++ passes_in c.args.seats.items) = subst (λ (l : List (Held Opened Act)). Tells names o c.in-Ok-close.played.acts l) c.passes_of.ensures.passes (subst (λ (q : Opened). Tells names q c.in-Ok-close.played.acts c.passes_of.new.passes.items) at c.in-Ok-close.ensures.lanes) in
    let e : c.from_vec.result ≡ c.into_board-board.result.book = c.from_vec.ensures ∙ c.take_acts-acts.ensures.acts in
    let book : RoundBook = record { number = c.self.inside.number; moment = c.self.inside.moment; workers = 0; buckets = 0; acts = c.from_vec.result; shown = [] } in
    subst (λ (q : Opened). AreAtEnd c.args.seats.items → IsWhole q.plan book) (sym origin) (closed_whole o z c.in-Ok-close.played c.into_board-board.result c.parts_of-buckets.result.items c.parts_of-buckets.new.passes.items c.args.seats.items at c.into_board-board.ensures c.parts_of-buckets.ensures.homes len c.passes_of.ensures.seated order tells book e)

pub returns-clause-sound : goal.returns-clause-sound
returns-clause-sound g c =
    let o = g.N.RoundName.book.origin in let z = g.N.RoundName.book.id in
    let i = c.self.invariant in
    let origin : c.args.self.origin ≡ o = sym (ap (λ (d : DirectorSeen). d.origin) c.self.view_is) ∙ i.origin in
    let order : AreSeats 0 (length o.plan.lists) c.args.seats.items = subst (λ (q : Opened). AreSeats 0 (length q.plan.lists) c.args.seats.items) origin c.requires.all in
    let len : length c.parts_of-buckets.result.items ≡ (begun o).buckets = c.parts_of-buckets.ensures.len ∙ c.unlocked-chambers.ensures.len ∙ i.locks in
    let at : c.in-Ok-close.played.origin ≡ o = c.in-Ok-close.ensures.origin ∙ i.origin in
    let tells : Tells names o c.in-Ok-close.played.acts (c.parts_of-buckets.new.passes.items ++ passes_in c.args.seats.items) = subst (λ (l : List (Held Opened Act)). Tells names o c.in-Ok-close.played.acts l) c.passes_of.ensures.passes (subst (λ (q : Opened). Tells names q c.in-Ok-close.played.acts c.passes_of.new.passes.items) at c.in-Ok-close.ensures.lanes) in
    let e : c.from_vec.result ≡ c.into_board-board.result.book = c.from_vec.ensures ∙ c.take_acts-acts.ensures.acts in
    let same : c.from_parts.result.state ≡ left o c.in-Ok-close.played.acts = c.from_parts.ensures.state (left o c.in-Ok-close.played.acts) (closed_agree o z c.in-Ok-close.played c.into_board-board.result c.parts_of-buckets.result.items c.parts_of-buckets.new.passes.items c.args.seats.items at c.into_board-board.ensures c.parts_of-buckets.ensures.homes len c.passes_of.ensures.seated order tells c.take_acts-acts.new.self c.take_acts-acts.ensures.rest) in
    let seats = seats_count 0 (length o.plan.lists) c.args.seats.items order in
    let least = i.opened.some in
    closed_sound_as o z c.in-Ok-close.played c.into_board-board.result c.parts_of-buckets.result.items c.parts_of-buckets.new.passes.items c.args.seats.items at c.into_board-board.ensures c.parts_of-buckets.ensures.homes len c.passes_of.ensures.seated order tells c.args.self.origin c.from_parts.result.state _ origin same e i.moment (search (rules, i.locks)) (search (rules, arith, seats, least))

pub overflow_sub-workers : goal.overflow_sub-workers
overflow_sub-workers g c =
    let o = g.N.RoundName.book.origin in let z = g.N.RoundName.book.id in
    let i = c.self.invariant in
    let origin : c.args.self.origin ≡ o = sym (ap (λ (d : DirectorSeen). d.origin) c.self.view_is) ∙ i.origin in
    let order : AreSeats 0 (length o.plan.lists) c.args.seats.items = subst (λ (q : Opened). AreSeats 0 (length q.plan.lists) c.args.seats.items) origin c.requires.all in
    let seats : 4 ≤ length c.args.seats.items = let n = seats_count 0 (length o.plan.lists) c.args.seats.items order in omega (arith, n, i.opened.some) in
    search (rules, seats)

pub overflow_cast-book : goal.overflow_cast-book
overflow_cast-book g c =
    let o = g.N.RoundName.book.origin in let z = g.N.RoundName.book.id in
    let i = c.self.invariant in
    let origin : c.args.self.origin ≡ o = sym (ap (λ (d : DirectorSeen). d.origin) c.self.view_is) ∙ i.origin in
    let order : AreSeats 0 (length o.plan.lists) c.args.seats.items = subst (λ (q : Opened). AreSeats 0 (length q.plan.lists) c.args.seats.items) origin c.requires.all in
    let seats : length c.args.seats.items ≤ 65536 = let n = seats_count 0 (length o.plan.lists) c.args.seats.items order in omega (arith, n, i.opened.many) in
    search (rules, seats)

pub make_room-requires : goal.make_room-requires
make_room-requires g c =
    let o = g.N.RoundName.book.origin in let z = g.N.RoundName.book.id in
    let i = c.self.invariant in
    let origin : c.args.self.origin ≡ o = sym (ap (λ (d : DirectorSeen). d.origin) c.self.view_is) ∙ i.origin in
    let order : AreSeats 0 (length o.plan.lists) c.args.seats.items = subst (λ (q : Opened). AreSeats 0 (length q.plan.lists) c.args.seats.items) origin c.requires.all in
    let seats : length c.args.seats.items ≤ 65536 = let n = seats_count 0 (length o.plan.lists) c.args.seats.items order in omega (arith, n, i.opened.many) in
    let locks = i.locks in
    let few = i.opened.few in
    search (rules, seats, locks, few)
