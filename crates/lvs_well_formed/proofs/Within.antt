-- A change of entries of one bucket alone, which leaves ids rising: the changes that the rules make.
use Rattle.std.proofs.Common.{◌≡◌, ◌≢◌, ◌+◌, ◌<◌, ℕ, Bool, true, false, not, List, [], ◌∷◌, ◌++◌, Option, Some, None, refl, sym, ◌∙◌, ap, subst, arith}
use Rattle.std.proofs.lemmas.Bool.{eqb-true, false_from_ne_true}
use Rattle.std.specs.List.{AllByRecursion, find, filter}
use Rattle.lvs_types.specs.declared.addr.DestId.{DestId}
use Rattle.lvs_types.specs.declared.dest.Dest.{Dest}
use Rattle.lvs_types.specs.declared.entry.Entry.{Entry}
use Rattle.lvs_model.specs.State.{State}
use Rattle.lvs_model.specs.Lists.{without}
use Rattle.lvs_model.specs.Lookups.{has_entry_id}
use Rattle.lvs_model.specs.Binding.{put_entry, bind_entry, try_binding, server_for_entry, bound_to}
use Rattle.lvs_model.specs.Incoming.{end_entry}
use Rattle.lvs_model.specs.Clock.{entry_bucket}
use Rattle.lvs_model.specs.Buckets.{is_in_bucket}
use Rattle.lvs_well_formed.proofs.Lists.{all_weaker, all_filter, all_push, all_update}
use Rattle.lvs_well_formed.proofs.Parts.{Parts}
use Rattle.lvs_well_formed.proofs.Entries.{IsEntryOf, entries_found}
use Rattle.lvs_well_formed.proofs.BucketLists.{AreApart, AreRising, filter_put, filter_without, filter_push, rising_put, rising_filter, rising_push}

-- ids rise, and are below the next one
pub record Stand (s : State) : Type 0 where
  pub rising : AreRising s.entries
  pub below : AllByRecursion (λ (e : Entry). e.id < s.next_entry) s.entries

-- no entry changes
pub record Still (s t : State) : Type 0 where
  pub now : t.now ≡ s.now
  pub buckets : t.buckets ≡ s.buckets
  pub entries : t.entries ≡ s.entries
  pub next_entry : t.next_entry ≡ s.next_entry

-- entries of that bucket alone change
pub record Within (home : ℕ) (s t : State) : Type 0 where
  pub now : t.now ≡ s.now
  pub buckets : t.buckets ≡ s.buckets
  pub others : (b : ℕ) → home ≢ b → filter (is_in_bucket s.buckets b) t.entries ≡ filter (is_in_bucket s.buckets b) s.entries
  pub stands : Stand s → Stand t

pub within_same : (home : ℕ) (s : State) → Within home s s
within_same home s = record { now = refl; buckets = refl; others = λ b other. refl; stands = λ stand. stand }

-- an entry of one bucket isn't in another
pub away : (home b buckets : ℕ) (e : Entry) → entry_bucket buckets e ≡ home → home ≢ b → is_in_bucket buckets b e ≡ false
away home b buckets e is other = false_from_ne_true (is_in_bucket buckets b e) (λ here. other (sym is ∙ eqb-true (entry_bucket buckets e) b here))

-- each entry of the id is in the bucket
abbrev pub AreHeld : ℕ → ℕ → ℕ → List Entry → Type 0
AreHeld home buckets id es = AllByRecursion (λ (e : Entry). has_entry_id id e ≡ true → entry_bucket buckets e ≡ home) es

held_apart : (home b buckets id : ℕ) (es : List Entry) → home ≢ b → AreHeld home buckets id es → AreApart (is_in_bucket buckets b) (has_entry_id id) es
held_apart home b buckets id es other held =
    all_weaker (λ (e : Entry). has_entry_id id e ≡ true → entry_bucket buckets e ≡ home) (λ (e : Entry). has_entry_id id e ≡ true → is_in_bucket buckets b e ≡ false) es
    (λ e here is. away home b buckets e (here is) other) held

-- what no bound of a bucket speaks of
pub within_rest : (home : ℕ) (s t u : State) → u.now ≡ t.now → u.buckets ≡ t.buckets → u.entries ≡ t.entries → u.next_entry ≡ t.next_entry → Within home s t → Within home s u
within_rest home s t u now buckets entries next w = record {
  now = now ∙ w.now;
  buckets = buckets ∙ w.buckets;
  others = λ b other. ap (λ es. filter (is_in_bucket s.buckets b) es) entries ∙ w.others b other;
  stands = λ stand.
      let before = w.stands stand in
      record {
        rising = subst AreRising (sym entries) before.rising;
        below = subst (λ n. AllByRecursion (λ (e : Entry). e.id < n) u.entries) (sym next) (subst (λ es. AllByRecursion (λ (e : Entry). e.id < t.next_entry) es) (sym entries) before.below);
      };
}

pub within_put : (home : ℕ) (s t : State) (e : Entry) → AreHeld home s.buckets e.id t.entries → entry_bucket s.buckets e ≡ home → Within home s t → Within home s (record t { entries = put_entry e t.entries })
within_put home s t e held is w = record {
  now = w.now;
  buckets = w.buckets;
  others = λ b other. filter_put (is_in_bucket s.buckets b) (has_entry_id e.id) e t.entries (held_apart home b s.buckets e.id t.entries other held) (away home b s.buckets e is other) ∙ w.others b other;
  stands = λ stand.
      let before = w.stands stand in
      record {
        rising = rising_put e t.entries before.rising;
        below = all_update (λ (x : Entry). x.id < t.next_entry) (has_entry_id e.id) (λ _. e) t.entries (λ x here below. subst (λ n. n < t.next_entry) (eqb-true x.id e.id here) below) before.below;
      };
}

-- those that leave are of the bucket
pub within_left : (home : ℕ) (s t : State) (test : Entry → Bool) → ((b : ℕ) → home ≢ b → AreApart (is_in_bucket s.buckets b) test t.entries) → Within home s t → Within home s (record t { entries = without test t.entries })
within_left home s t test apart w = record {
  now = w.now;
  buckets = w.buckets;
  others = λ b other. filter_without (is_in_bucket s.buckets b) test t.entries (apart b other) ∙ w.others b other;
  stands = λ stand.
      let before = w.stands stand in
      record {
        rising = rising_filter (λ e. not (test e)) t.entries before.rising;
        below = all_filter (λ (e : Entry). e.id < t.next_entry) (λ e. not (test e)) t.entries before.below;
      };
}

pub within_added : (home : ℕ) (s t : State) (e : Entry) → e.id ≡ t.next_entry → entry_bucket s.buckets e ≡ home → Within home s t
    → Within home s (record t { entries = t.entries ++ e ∷ []; next_entry = t.next_entry + 1 })
within_added home s t e id is w = record {
  now = w.now;
  buckets = w.buckets;
  others = λ b other. filter_push (is_in_bucket s.buckets b) t.entries e (away home b s.buckets e is other) ∙ w.others b other;
  stands = λ stand.
      let before = w.stands stand in
      record {
        rising = rising_push t.entries e (subst (λ n. AllByRecursion (λ (x : Entry). x.id < n) t.entries) (sym id) before.below) before.rising;
        below = all_push (λ (x : Entry). x.id < t.next_entry + 1) t.entries e
            (all_weaker (λ (x : Entry). x.id < t.next_entry) (λ (x : Entry). x.id < t.next_entry + 1) t.entries (λ x below. omega (arith, below)) before.below) (omega (arith, id));
      };
}

-- AN ENTRY THAT IS LOOKED AT

-- the state after changes of the bucket, and an entry of the bucket in it
pub record Holds (home : ℕ) (s t : State) (e : Entry) : Type 0 where
  pub within : Within home s t
  pub held : AreHeld home s.buckets e.id t.entries
  pub is : entry_bucket s.buckets e ≡ home

-- the entry of an id is one
held_found : (home buckets : ℕ) (e : Entry) (es : List Entry) (x : Entry) → find (has_entry_id e.id) es ≡ Some e → entry_bucket buckets e ≡ home → find (has_entry_id x.id) es ≡ Some x → has_entry_id e.id x ≡ true → entry_bucket buckets x ≡ home
held_found home buckets e es x found is own here =
    let same : x.id ≡ e.id = eqb-true x.id e.id here in
    let own_too : find (has_entry_id e.id) es ≡ Some x = subst (λ n. find (has_entry_id n) es ≡ Some x) same own in
    let equal : e ≡ x = cc in
    subst (λ y. entry_bucket buckets y ≡ home) equal is

pub holds_found : (home : ℕ) (s : State) (e : Entry) → Parts s → IsEntryOf s e → entry_bucket s.buckets e ≡ home → Holds home s s e
holds_found home s e parts found is = record {
  within = within_same home s;
  held = all_weaker (λ (x : Entry). find (has_entry_id x.id) s.entries ≡ Some x) (λ (x : Entry). has_entry_id e.id x ≡ true → entry_bucket s.buckets x ≡ home) s.entries
      (λ x own here. held_found home s.buckets e s.entries x found is own here) (entries_found s parts);
  is = is;
}

-- the entry becomes one of the same id in the bucket
pub holds_put : (home : ℕ) (s t : State) (e after : Entry) → after.id ≡ e.id → entry_bucket s.buckets after ≡ home → Holds home s t e → Holds home s (record t { entries = put_entry after t.entries }) after
holds_put home s t e after id is h =
    let held : AreHeld home s.buckets after.id t.entries = subst (λ n. AreHeld home s.buckets n t.entries) (sym id) h.held in
    record {
      within = within_put home s t after held is h.within;
      held = all_update (λ (x : Entry). has_entry_id after.id x ≡ true → entry_bucket s.buckets x ≡ home) (has_entry_id after.id) (λ _. after) t.entries (λ x here old here_too. is) held;
      is = is;
    }

holds_dests : (home : ℕ) (s t : State) (e : Entry) (dests : List Dest) → Holds home s t e → Holds home s (record t { dests = dests }) e
holds_dests home s t e dests h = record { within = within_rest home s t _ refl refl refl refl h.within; held = h.held; is = h.is }

bind_holds : (home : ℕ) (s t : State) (e : Entry) (o : Option Dest) → Holds home s t e → Holds home s (bind_entry t e o).1 (bind_entry t e o).0
bind_holds home s t e None h = h
bind_holds home s t e (Some d) h = holds_dests home s _ _ _ (holds_put home s t e (bound_to d e) refl h.is h)

pub try_holds : (home : ℕ) (s t : State) (e : Entry) (o : Option DestId) → Holds home s t e → Holds home s (try_binding t e o).1 (try_binding t e o).0
try_holds home s t e (Some id) h = h
try_holds home s t e None h = bind_holds home s t e (server_for_entry t.services t.dests e) h

pub end_within : (home : ℕ) (s t : State) (e : Entry) → Holds home s t e → Within home s (end_entry e t)
end_within home s t e h =
    let left : State = record t { entries = without (has_entry_id e.id) t.entries } in
    within_rest home s left _ refl refl refl refl
    (within_left home s t (has_entry_id e.id) (λ b other. held_apart home b s.buckets e.id t.entries other h.held) h.within)
