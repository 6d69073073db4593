-- What a step leaves of the buckets, and of what a board and buckets agree about.
use Rattle.std.proofs.Common.{◌≡◌, ℕ, ◌<◌, List, [], Option, Some, None, Result, Ok, Err, OnOk, OnErr, length, set, refl, sym, ◌∙◌, ap, subst}
use Rattle.lvs_types.specs.declared.item.Item.{Item}
use Rattle.lvs_types.specs.declared.bucket.Change.{Change}
use Rattle.lvs_model.specs.State.{State}
use Rattle.lvs_model.specs.Step.{step, IsInRange}
use Rattle.lvs_model.specs.Buckets.{home, changed_by, Carries, CarriesAt, CarriesIn}
use Rattle.lvs_model.specs.WellFormed.{IsWellFormed}
use Rattle.lvs_model.proofs.CountedLemmas.{counted_step}
use Rattle.lvs_well_formed.proofs.Parts.{parts_of}
use Rattle.lvs_well_formed.proofs.Steps.{step_well_formed}
use Rattle.lvs_well_formed.proofs.BucketSteps.{step_base, others_stay, rising_step}
use Rattle.lvs_bucket.specs.Seen.{BucketSeen}
use Rattle.lvs_board.specs.Seen.{BoardSeen}
use Rattle.lvs_core.specs.Agree.{Agree, AreBuckets, IsBucket}
use Rattle.lvs_core.specs.Taking.{HasTaken}
use Rattle.lvs_core.proofs.Numbered.{all_stay, one_changes_here}

pub buckets_stay : (s : State) (i : Item) → IsWellFormed s → (step s i).1.buckets ≡ s.buckets
buckets_stay s i well = (step_base s i (parts_of s well)).1

abbrev number_or_0 : Option ℕ → ℕ
number_or_0 None = 0
number_or_0 (Some n) = n

none_is_some : (n : ℕ) → None ≡ Some n → ⊥
none_is_some n is = absurd (cc)

-- what holds whatever the answer is
pub on_ok : {A E : Type 0} (P : Type 0) (r : Result A E) → P → OnOk r P
on_ok P (Ok a) holds = holds
on_ok P (Err e) holds = tt

pub on_err : {A E : Type 0} (P : Type 0) (r : Result A E) → P → OnErr r P
on_err P (Ok a) holds = tt
on_err P (Err e) holds = holds

-- the change of the item's bucket was made
pub bucket_carried : (s : State) (i : Item) (change : Change) (b found changed : BucketSeen) → IsWellFormed s → home s.buckets i ≡ Some b.number → IsBucket s b.number b → Carries s i change → found.entries ≡ b.entries → changed.entries ≡ changed_by change found.entries → changed.number ≡ b.number → changed.buckets ≡ b.buckets → IsBucket (step s i).1 b.number changed
bucket_carried s i change b found changed well at is carries same made number buckets =
    let carried : CarriesIn b.number s i change = subst (λ (o : Option ℕ). CarriesAt o s i change) at carries in
    record {
      number = number;
      buckets = buckets ∙ is.buckets ∙ sym (buckets_stay s i well);
      entries = made ∙ ap (changed_by change) (same ∙ is.entries) ∙ sym carried.carried;
    }

-- an item of a bucket
pub taken_in : (s : State) (i : Item) (bs : List BucketSeen) (n : ℕ) (b : BucketSeen) → IsWellFormed s → 0 < s.buckets → home s.buckets i ≡ Some n → IsBucket (step s i).1 n b → AreBuckets s 0 bs → AreBuckets (step s i).1 0 (set bs n b)
taken_in s i bs n b well some at is each =
    one_changes_here s (step s i).1 bs n b (buckets_stay s i well) (λ k apart. others_stay s i k well some (λ e. apart (ap number_or_0 (sym e ∙ at)))) is each

-- an item of a bucket that stays as it is
pub kept_in : (s : State) (bs : List BucketSeen) (n : ℕ) (b : BucketSeen) → IsBucket s n b → AreBuckets s 0 bs → AreBuckets s 0 (set bs n b)
kept_in s bs n b is each = one_changes_here s s bs n b refl (λ k apart. refl) is each

-- an item of no bucket
pub taken_alone : (s : State) (i : Item) (bs : List BucketSeen) → IsWellFormed s → 0 < s.buckets → home s.buckets i ≡ None → AreBuckets s 0 bs → AreBuckets (step s i).1 0 bs
taken_alone s i bs well some at each =
    all_stay s (step s i).1 0 bs (buckets_stay s i well) (λ k above. others_stay s i k well some (λ e. none_is_some k (sym at ∙ e))) each

-- the item was taken, and its act was taken out
pub agree_after : (s : State) (i : Item) (board later last : BoardSeen) (bs changed : List BucketSeen) → Agree board bs s → IsInRange i → HasTaken board later s i → last ≡ record later { book = [] } → AreBuckets (step s i).1 0 changed → length changed ≡ length bs → Agree last changed (step s i).1
agree_after s i board later last bs changed agree in_range taken is each count =
    rw is (record {
      book = refl;
      stands = record { tables = taken.stands.tables; totals = taken.stands.totals };
      well_formed = step_well_formed s i agree.well_formed;
      counted = rw taken.steps (counted_step board.steps s i in_range agree.counted);
      rising = rising_step s i agree.well_formed agree.rising;
      whole = count ∙ agree.whole ∙ sym (buckets_stay s i agree.well_formed);
      few = rw (buckets_stay s i agree.well_formed) agree.few;
      each = each;
    })
