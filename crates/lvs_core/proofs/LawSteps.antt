-- A step keeps the laws.
use Rattle.std.proofs.Common.{◌≡◌, Result, Ok, Err, IfOk, sym, subst}
use Rattle.lvs_types.specs.declared.item.Item.{Item}
use Rattle.lvs_types.specs.declared.item.Item.TheVariants as item
use Rattle.lvs_types.specs.declared.reply.Reply.{Reply}
use Rattle.lvs_types.specs.declared.sync.SyncItem.TheVariants.{V4, V6}
use Rattle.lvs_model.specs.State.{State}
use Rattle.lvs_model.specs.Step.{step}
use Rattle.lvs_model.specs.WellFormed.{IsWellFormed}
use Rattle.lvs_well_formed.proofs.Steps.{step_well_formed}
use Rattle.lvs_laws.proofs.KeptSteps.{step_kept}
use Rattle.lvs_laws.proofs.ReleaseSteps.{step_becomes, gone_unnamed}
use Rattle.lvs_laws.proofs.TakeOvers.{step_sent, recorded_there}
use Rattle.lvs_laws.proofs.TakenUp.{step_taken_up}
use Rattle.lvs_core.specs.Laws.{Keeps, Releases, TakesOver}

pub step_keeps : (s : State) (i : Item) → IsWellFormed s → Keeps s i (step s i)
step_keeps s i well = λ e there. step_kept s e i well there

pub step_releases : (s : State) (i : Item) → IsWellFormed s → Releases s i (step s i)
step_releases s i well = record {
  stays = λ d there. step_becomes s i d well there;
  unnamed = λ id gone. gone_unnamed (step s i).1 id (step_well_formed s i well) gone;
}

pub step_takes_over : (s : State) (i : Item) → IsWellFormed s → TakesOver s i (step s i)
step_takes_over s (item.Incoming mark bytes) well = record {
  sent = λ e head proto there plain. step_sent s e mark bytes head proto well there plain;
  reusing = λ e head proto there reusing. step_taken_up s e mark bytes head proto well there reusing;
}
step_takes_over s (item.Learn sync_id (V4 r)) well = λ taken. recorded_there s sync_id r well taken
step_takes_over s (item.Learn sync_id V6) well = tt
step_takes_over s (item.Outgoing bytes) well = tt
step_takes_over s (item.Edit command) well = tt
step_takes_over s (item.Set setting) well = tt
step_takes_over s (item.BadSync why) well = tt
step_takes_over s (item.Tick moment) well = tt
step_takes_over s (item.Sweep bucket) well = tt
step_takes_over s item.Reap well = tt
step_takes_over s item.SendSync well = tt

-- what holds of the definition's answer holds of the call's
pub answer_holds : {E : Type 0} (P : Reply × State → Type 0) (s : State) (i : Item) (t : State) (r : Result (Item × Reply) E) → P (step s i) → IfOk r (λ (a : Item × Reply). (a.1, t) ≡ step s i) → IfOk r (λ (a : Item × Reply). P (a.1, t))
answer_holds P s i t (Ok a) all is = subst P (sym is) all
answer_holds P s i t (Err e) all is = tt
