-- What a sweep found, by whether there is a bucket of the number.
use Rattle.std.proofs.Common.{◌≡◌, ◌<◌, ◌/◌, ◌^◌, ◌&&◌, ◌==◌, ℕ, Bool, true, false, cond, nat_lt, nat_le, List, [], ◌∷◌, map, length, refl, ap, sym, ◌∙◌, arith}
use Rattle.std.specs.Prelude.{Some, None}
use Rattle.std.specs.List.{filter}
use Rattle.std.proofs.lemmas.Bool.Decides.{nat_tests}
use Rattle.std.proofs.Math.Nat.{mod-lt}
use Rattle.lvs_types.specs.Protocols.{proto_code}
use Rattle.lvs_types.specs.declared.bucket.Found.{Found}
use Rattle.lvs_types.specs.declared.bucket.Found.TheVariants as found
use Rattle.lvs_types.specs.declared.item.Item.TheVariants as item
use Rattle.lvs_types.specs.declared.reply.Reply.{Reply}
use Rattle.lvs_types.specs.declared.reply.Reply.TheVariants as reply
use Rattle.lvs_types.specs.declared.dest.Dest.{Dest}
use Rattle.lvs_types.specs.declared.entry.Entry.{Entry}
use Rattle.lvs_model.specs.State.{State}
use Rattle.lvs_model.specs.Lists.{without}
use Rattle.lvs_model.specs.Numbers.{mix}
use Rattle.lvs_model.specs.Clock.{entry_bucket, is_swept, after_ends, sweep}
use Rattle.lvs_model.specs.Buckets.{look_up, look_at, entries_of, is_due_entry}
use Rattle.lvs_well_formed.proofs.BucketLooks.{due_inside}

abbrev swept_at : State → ℕ → Bool → Found
swept_at s b c = look_at s (item.Sweep b) (cond c (Some b) None)

due_by : (s : State) (b : ℕ) (due : List Entry) (c : Bool) → found.Due due ≡ swept_at s b c → (c ≡ true) × (due ≡ filter (is_swept s b) s.entries)
due_by s b due true is = (refl, (let same : due ≡ filter (is_due_entry s.now) (entries_of b s) = cc in same ∙ due_inside s b))
due_by s b due false is = absurd cc

pub due_bucket : (s : State) (b : ℕ) (due : List Entry) → found.Due due ≡ look_up s (item.Sweep b) → b < s.buckets
due_bucket s b due is = let there : nat_lt b s.buckets ≡ true = (due_by s b due (nat_lt b s.buckets) is).0 in grind (arith, nat_tests)

pub due_entries : (s : State) (b : ℕ) (due : List Entry) → found.Due due ≡ look_up s (item.Sweep b) → due ≡ filter (is_swept s b) s.entries
due_entries s b due is = (due_by s b due (nat_lt b s.buckets) is).1

abbrev is_due_list : Found → Bool
is_due_list found.Nothing = false
is_due_list (found.One e) = false
is_due_list (found.Due due) = true

not_due : (s : State) (b : ℕ) (c : Bool) (f : Found) → f ≡ swept_at s b c → is_due_list f ≡ false → c ≡ false
not_due s b true f is other = absurd (let t : is_due_list f ≡ true = ap is_due_list is in cc)
not_due s b false f is other = refl

none_pass : {X : Type 0} (p : X → Bool) (xs : List X) → ((x : X) → p x ≡ false) → filter p xs ≡ []
none_pass p [] none = refl
none_pass p (x ∷ xs) none = rw (none x) (none_pass p xs none)

all_stay : {X : Type 0} (p : X → Bool) (xs : List X) → ((x : X) → p x ≡ false) → without p xs ≡ xs
all_stay p [] none = refl
all_stay p (x ∷ xs) none = rw (none x) (ap (λ rest. x ∷ rest) (all_stay p xs none))

same_dests : (es : List Entry) (ds : List Dest) → map (after_ends [] es) ds ≡ ds
same_dests es [] = refl
same_dests es (d ∷ ds) = ap (λ (rest : List Dest). d ∷ rest) (same_dests es ds)

outside : (s : State) (b : ℕ) (e : Entry) → 0 < s.buckets → nat_lt b s.buckets ≡ false → is_swept s b e ≡ false
outside s b e some far =
    let within : entry_bucket s.buckets e < s.buckets = mod-lt (mix (proto_code e.key.proto) e.key.caddr e.key.cport / 2 ^ 24) some in
    let apart : (entry_bucket s.buckets e == b) ≡ false = grind (arith, nat_tests) in
    ap (λ (t : Bool). t && nat_le e.deadline s.now) apart

abbrev pub swept_pair : ℕ → State → Reply × State
swept_pair n s = (reply.Swept n, s)

swept_parts : (s : State) (ended left : List Entry) → ended ≡ [] → left ≡ s.entries → swept_pair (length ended) (record s { entries = left; dests = map (after_ends ended left) s.dests }) ≡ swept_pair 0 s
swept_parts s ended left none same =
    ap (λ (es : List Entry). swept_pair (length es) (record s { entries = left; dests = map (after_ends es left) s.dests })) none
    ∙ ap (λ (es : List Entry). swept_pair 0 (record s { entries = es; dests = map (after_ends [] es) s.dests })) same
    ∙ ap (λ (ds : List Dest). swept_pair 0 (record s { dests = ds })) (same_dests s.entries s.dests)

-- a sweep that found no list ends nothing
pub nothing_swept : (s : State) (b : ℕ) (f : Found) → 0 < s.buckets → f ≡ look_up s (item.Sweep b) → is_due_list f ≡ false → sweep s b ≡ swept_pair 0 s
nothing_swept s b f some is other =
    let far : nat_lt b s.buckets ≡ false = not_due s b (nat_lt b s.buckets) f is other in
    swept_parts s (filter (is_swept s b) s.entries) (without (is_swept s b) s.entries) (none_pass (is_swept s b) s.entries (λ e. outside s b e some far)) (all_stay (is_swept s b) s.entries (λ e. outside s b e some far))

pub nothing_found : (s : State) (b : ℕ) → 0 < s.buckets → found.Nothing ≡ look_up s (item.Sweep b) → swept_pair 0 s ≡ sweep s b
nothing_found s b some is = sym (nothing_swept s b found.Nothing some is refl)

pub one_found : (s : State) (b : ℕ) (e : Entry) → 0 < s.buckets → found.One e ≡ look_up s (item.Sweep b) → swept_pair 0 s ≡ sweep s b
one_found s b e some is = sym (nothing_swept s b (found.One e) some is refl)
