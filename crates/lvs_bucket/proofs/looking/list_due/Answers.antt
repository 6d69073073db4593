use Rattle.std.proofs.Common.{◌≡◌, ◌<◌, ◌++◌, ◌∷◌, [], ◌∙◌, ap, arith, length, List, Some, None, Vec, Global}
use Rattle.std.specs.List.{filter}
use Rattle.lvs_types.specs.declared.entry.Entry.{Entry}
use Rattle.lvs_timer.specs.declared.timer.Timer.{Timer}
use Rattle.lvs_timer.specs.Timers.{is_due, ids_of}
use Rattle.lvs_bucket.specs.Pairs.{timers_of}
use Rattle.lvs_bucket.proofs.Listing.{next_found, all_listed}
use Rattle.lvs_bucket.proofs.looking.list_due.Goals.{in-Some+in_ok-push, in_default}
use Rattle.lvs_bucket.proofs.looking.list_due.Goals as goal

pub loop-id-preserved : goal.loop-id-preserved
loop-id-preserved c =
    let es = c.args.entries.now.entries in
    let ids = c.deref-id-items.result.now in
    let is : ids ≡ ids_of (filter (is_due c.args.now) (timers_of es)) = c.deref-id-items.ensures.value ∙ c.in_ok-ids.ensures.ids ∙ ap (λ (ts : List Timer). ids_of (filter (is_due c.args.now) ts)) c.requires.timers in
    let i = c.loop-id.id-index in
    let test = c.loop-id-test.true in
    let within : i < length ids = omega arith in
    elim c.match-get.branch [
      | in-Some+in_ok-push w ↦
          next_found c.args.now es c.requires.listed ids is i 0 (Some w.in-Some.e.now) c.loop-id.due.items c.match-get.due.items within c.loop-id.invariant w.in-Some.ensures.found
          (λ e same. let here : w.in-Some.e.now ≡ e = cc in
          ap (λ (v : Vec Entry Global). v.items) w.due-is ∙ w.in_ok-push.ensures.items ∙ ap (λ (x : Entry). c.loop-id.due.items ++ x ∷ []) here)
      | in_default w ↦
          next_found c.args.now es c.requires.listed ids is i 0 None c.loop-id.due.items c.match-get.due.items within c.loop-id.invariant w.in_default.ensures.found (λ e same. absurd (cc))
    ]

pub returns : goal.returns
returns c =
    let es = c.args.entries.now.entries in
    let ids = c.deref-id-items.result.now in
    let is : ids ≡ ids_of (filter (is_due c.args.now) (timers_of es)) = c.deref-id-items.ensures.value ∙ c.in_ok-ids.ensures.ids ∙ ap (λ (ts : List Timer). ids_of (filter (is_due c.args.now) ts)) c.requires.timers in
    let test = c.loop-id-test.false in
    c.from_vec.ensures ∙ c.loop-id.invariant ∙ all_listed c.args.now es c.requires.listed ids is c.loop-id.id-index (omega arith)
