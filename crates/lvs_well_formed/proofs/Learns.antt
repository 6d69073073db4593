-- A learnt record keeps the state well formed.
use Rattle.std.proofs.Common.{◌≡◌, ◌==◌, ◌≤◌, ◌+◌, ℕ, Bool, true, false, cond, not, ◌||◌, List, [], ◌∷◌, ◌++◌, Option, Some, None, refl, sym, ap, subst, ◌∙◌, is_none, is_some}
use Rattle.std.specs.List.{AllByRecursion, find}
use Rattle.lvs_types.specs.declared.service.Proto.TheVariants.{Tcp, Udp}
use Rattle.lvs_types.specs.declared.addr.TemplateId.{TemplateId}
use Rattle.lvs_types.specs.declared.entry.TcpState.{TcpState}
use Rattle.lvs_types.specs.declared.entry.Key.{Key}
use Rattle.lvs_types.specs.declared.entry.Entry.{Entry}
use Rattle.lvs_types.specs.declared.template.TemplateKey.{TemplateKey}
use Rattle.lvs_types.specs.declared.template.Template.{Template}
use Rattle.lvs_types.specs.declared.sync.SyncItem.{SyncItem}
use Rattle.lvs_types.specs.declared.sync.SyncItem.TheVariants.{V4, V6}
use Rattle.lvs_types.specs.declared.sync.SyncRecord.{SyncRecord}
use Rattle.lvs_types.specs.declared.sync.Learnt.{Learnt}
use Rattle.lvs_types.specs.declared.sync.Learnt.TheVariants as learnt
use Rattle.lvs_types.specs.StateNumbers.{state_of_number}
use Rattle.lvs_model.specs.State.{State}
use Rattle.lvs_model.specs.Same.{proto_eq}
use Rattle.lvs_model.specs.SyncRules.{accept, accept_item, accept_record, has_known_protocol, has_known_state, has_known_method, is_template_record}
use Rattle.lvs_model.specs.Lists.{without}
use Rattle.lvs_model.specs.Lookups.{entry_at, template_at, has_template_key, has_template_id}
use Rattle.lvs_model.specs.Binding.{put_entry, template_tried}
use Rattle.lvs_model.specs.Incoming.{end_entry}
use Rattle.lvs_model.specs.Learning.{recorded_proto, recorded_state, recorded_key, recorded_entry, add_entry, relearnt, goes_to_recorded, relearn, learn_connection, recorded_template_key, recorded_template, add_template, relearnt_template, template_goes_to_recorded, relearn_template, learn_template, learn_record, learn_item, learn_by, learn}
use Rattle.lvs_model.specs.WellFormed.{TemplateHasServer, HasStateOfProto}
use Rattle.lvs_well_formed.proofs.Lists.{all_find}
use Rattle.lvs_well_formed.proofs.Finds.{find_put}
use Rattle.lvs_well_formed.proofs.Keys.{nat_same}
use Rattle.lvs_well_formed.proofs.Parts.{IsSound, Parts, After, stays, then_after}
use Rattle.lvs_well_formed.proofs.Entries.{IsEntryOf, IsFree, entries_found, entry_sound, with_entry_put, with_entry_added, ended_after}
use Rattle.lvs_well_formed.proofs.Bindings.{try_tried, tried_there, tried_id, tried_key}
use Rattle.lvs_well_formed.proofs.Templates.{IsTemplateOf, template_found, with_template_put, with_template_added}
use Rattle.lvs_well_formed.proofs.Free.{free_ended, free_none, found_by_key, found_of_key}

-- THE STATE THAT IS RECORDED

some_there : (o : Option TcpState) → is_some o ≡ true → is_none o ≡ false
some_there (Some state) is = refl
some_there None is = absurd cc

-- the state of the record is that of its protocol
abbrev pub HasItsState : SyncRecord → Type 0
HasItsState r = is_none (recorded_state (recorded_proto r) r.state) ≡ proto_eq (recorded_proto r) Udp

tcp_state : (b known : Bool) (number : ℕ) → ((not b) || is_some (state_of_number number)) ≡ true → is_none (recorded_state (cond b Tcp Udp) number) ≡ proto_eq (cond b Tcp Udp) Udp
tcp_state true known number is = some_there (state_of_number number) is
tcp_state false known number is = refl

own_state : (r : SyncRecord) → is_template_record r ≡ false → has_known_state r ≡ true → HasItsState r
own_state r connection known =
    tcp_state (r.code == 6) true r.state (subst (λ b. ((b || not (r.code == 6)) || is_some (state_of_number r.state)) ≡ true) connection known)

accepted_by : (protocol state method : Bool) → cond (not protocol) learnt.BadProto (cond (not state) learnt.BadState (cond (not method) learnt.BadMethod learnt.Accepted)) ≡ learnt.Accepted → state ≡ true
accepted_by true true method is = refl
accepted_by true false method is = absurd cc
accepted_by false state method is = absurd cc

accepted_state : (r : SyncRecord) → accept_record r ≡ learnt.Accepted → has_known_state r ≡ true
accepted_state r is = accepted_by (has_known_protocol r) (has_known_state r) (has_known_method r) is

item_by : (b : Bool) (i : SyncItem) → cond b (accept_item i) learnt.OtherId ≡ learnt.Accepted → accept_item i ≡ learnt.Accepted
item_by true i is = is
item_by false i is = absurd cc

pub accepted_item : (own : Option ℕ) (id : ℕ) (i : SyncItem) → accept own id i ≡ learnt.Accepted → accept_item i ≡ learnt.Accepted
accepted_item None id i is = absurd cc
accepted_item (Some own) id i is = item_by ((own == 0) || (own == id)) i is

-- A CONNECTION

-- the last one is in the list
all_last : (P : Entry → Type 0) (es : List Entry) (e : Entry) → AllByRecursion P (es ++ e ∷ []) → P e
all_last P [] e each = each.0
all_last P (x ∷ es) e each = all_last P es e each.1

add_entry_after : (s : State) (e : Entry) → e.id ≡ s.next_entry → IsFree s e.key → IsSound s.next_template s.dests e → Parts s → After s (add_entry s e)
add_entry_after s e id free sound parts =
    let added : State = record s { entries = s.entries ++ e ∷ []; next_entry = s.next_entry + 1 } in
    then_after s added (add_entry s e) (with_entry_added s e id free sound parts)
    (λ q. (try_tried added e None (all_last (λ (f : Entry). IsEntryOf added f) s.entries e (entries_found added q)) q).after)

recorded_sound : (s : State) (r : SyncRecord) → HasItsState r → IsSound s.next_template s.dests (recorded_entry s r)
recorded_sound s r state = record { server = tt; goes = tt; template = tt; state = state }

relearn_after : (s : State) (r : SyncRecord) (e : Entry) (b : Bool) → IsEntryOf s e → e.key ≡ recorded_key r → HasItsState r → Parts s → After s (relearn s r e b)
relearn_after s r e true found key state parts =
    let after : Entry = relearnt s r e in
    let put : State = record s { entries = put_entry after s.entries } in
    let old = entry_sound s e parts found in
    let own : HasStateOfProto after = subst (λ (k : Key). is_none (recorded_state (recorded_proto r) r.state) ≡ proto_eq k.proto Udp) (sym key) state in
    then_after s put (relearn s r e true) (with_entry_put s e after found refl refl (record { server = old.server; goes = old.goes; template = old.template; state = own }) parts)
    (λ q. (try_tried put after after.server (find_put (λ (f : Entry). f.id == e.id) after s.entries e found (nat_same e.id)) q).after)
relearn_after s r e false found key state parts =
    let left : State = end_entry e s in
    then_after s left (relearn s r e false) (ended_after s e parts)
    (λ q. add_entry_after left (recorded_entry left r) refl (free_ended s e (recorded_key r) parts found key) (recorded_sound left r state) q)

learn_connection_after : (s : State) (r : SyncRecord) (o : Option Entry) → entry_at (recorded_key r) s.entries ≡ o → HasItsState r → Parts s → After s (learn_connection s r o)
learn_connection_after s r None found state parts = add_entry_after s (recorded_entry s r) refl (free_none s (recorded_key r) found) (recorded_sound s r state) parts
learn_connection_after s r (Some e) found state parts =
    relearn_after s r e (goes_to_recorded r e) (found_by_key s (recorded_key r) e parts found) (found_of_key s (recorded_key r) e found) state parts

-- A TEMPLATE

add_template_after : (s : State) (t : Template) → t.id.0 ≡ s.next_template → TemplateHasServer s.dests t → Parts s → After s (add_template s t)
add_template_after s t id there parts =
    let tried : Template = template_tried s t None in
    let same = ap (λ (i : TemplateId). i.0) (tried_id s t None) in
    subst (λ (k : TemplateKey). After s (record s { templates = without (has_template_key k) s.templates ++ tried ∷ []; next_template = s.next_template + 1 })) (tried_key s t None)
    (with_template_added s tried (same ∙ id) (tried_there s t None parts there) parts)

relearn_template_after : (s : State) (r : SyncRecord) (t : Template) (b : Bool) → IsTemplateOf s t → Parts s → After s (relearn_template s r t b)
relearn_template_after s r t true found parts =
    let after : Template = relearnt_template s r t in
    let tried : Template = template_tried s after t.server in
    let same = tried_id s after t.server in
    let there : TemplateHasServer s.dests after = all_find (TemplateHasServer s.dests) (has_template_id t.id) s.templates t parts.templates.servers found in
    with_template_put s t tried (subst (λ i. find (has_template_id i) s.templates ≡ Some t) (sym same) found) same (tried_key s after t.server) (tried_there s after t.server parts there) parts
relearn_template_after s r t false found parts = add_template_after s (recorded_template s r) refl tt parts

learn_template_after : (s : State) (r : SyncRecord) (o : Option Template) → template_at (recorded_template_key r) s.templates ≡ o → Parts s → After s (learn_template s r o)
learn_template_after s r None found parts = add_template_after s (recorded_template s r) refl tt parts
learn_template_after s r (Some t) found parts =
    relearn_template_after s r t (template_goes_to_recorded r t) (template_found s (has_template_key (recorded_template_key r)) t parts found) parts

-- A RECORD

learn_record_by : (b : Bool) (s t u : State) → (b ≡ true → After s t) → (b ≡ false → After s u) → After s (cond b t u)
learn_record_by true s t u first second = first refl
learn_record_by false s t u first second = second refl

learn_record_after : (s : State) (r : SyncRecord) → has_known_state r ≡ true → Parts s → After s (learn_record s r)
learn_record_after s r known parts =
    learn_record_by (is_template_record r) s _ _
    (λ is. learn_template_after s r (template_at (recorded_template_key r) s.templates) refl parts)
    (λ connection. learn_connection_after s r (entry_at (recorded_key r) s.entries) refl (own_state r connection known) parts)

learn_item_after : (s : State) (i : SyncItem) → accept_item i ≡ learnt.Accepted → Parts s → After s (learn_item s i)
learn_item_after s V6 accepted parts = stays s parts
learn_item_after s (V4 r) accepted parts = learn_record_after s r (accepted_state r accepted) parts

learn_by_after : (s : State) (i : SyncItem) (a : Learnt) → (a ≡ learnt.Accepted → accept_item i ≡ learnt.Accepted) → Parts s → After s (learn_by s i a).1
learn_by_after s i learnt.Accepted accepted parts = learn_item_after s i (accepted refl) parts
learn_by_after s i learnt.Off accepted parts = stays s parts
learn_by_after s i learnt.OtherId accepted parts = stays s parts
learn_by_after s i learnt.V6 accepted parts = stays s parts
learn_by_after s i learnt.BadProto accepted parts = stays s parts
learn_by_after s i learnt.BadState accepted parts = stays s parts
learn_by_after s i learnt.BadMethod accepted parts = stays s parts

pub learn_after : (s : State) (sync_id : ℕ) (i : SyncItem) → Parts s → After s (learn s sync_id i).1
learn_after s sync_id i parts =
    learn_by_after s i (accept s.daemons.backup sync_id i) (λ is. accepted_item s.daemons.backup sync_id i is) parts
