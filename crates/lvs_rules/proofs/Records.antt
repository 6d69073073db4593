-- An accepted record of a connection has a key, and the entry of that key was found.
use Rattle.std.proofs.Common.{◌≡◌, ◌==◌, ◌||◌, ◌&&◌, ℕ, Bool, true, false, cond, not, List, Option, Some, None, is_some, refl, ◌∙◌}
use Rattle.lvs_types.specs.Protocols.{proto_of_code}
use Rattle.lvs_types.specs.declared.service.Proto.{Proto}
use Rattle.lvs_types.specs.declared.entry.Entry.{Entry}
use Rattle.lvs_types.specs.declared.sync.SyncItem.{SyncItem}
use Rattle.lvs_types.specs.declared.sync.SyncItem.TheVariants.{V4, V6}
use Rattle.lvs_types.specs.declared.sync.SyncRecord.{SyncRecord}
use Rattle.lvs_types.specs.declared.sync.Learnt.{Learnt}
use Rattle.lvs_types.specs.declared.sync.Learnt.TheVariants as learnt
use Rattle.lvs_model.specs.Lookups.{entry_at}
use Rattle.lvs_model.specs.SyncRules.{accept, accept_item, is_template_record, has_known_protocol, has_known_state, has_known_method}
use Rattle.lvs_model.specs.Learning.{recorded_key}
use Rattle.lvs_model.specs.Buckets.{recorded_in, key_of_proto, key_of_learnt}
use Rattle.lvs_rules.specs.Finds.{IsRecordFound}

key_there : (r : SyncRecord) (o : Option Proto) (t zero : Bool) (es : List Entry) → (is_some o || (t && zero)) ≡ true → t ≡ false → recorded_in es (cond t None (key_of_proto r o)) ≡ entry_at (recorded_key r) es
key_there r (Some proto) true zero es known plain = absurd cc
key_there r (Some proto) false zero es known plain = refl
key_there r None true zero es known plain = absurd cc
key_there r None false zero es known plain = absurd cc

known_by : (a b c : Bool) → cond (not a) learnt.BadProto (cond (not b) learnt.BadState (cond (not c) learnt.BadMethod learnt.Accepted)) ≡ learnt.Accepted → a ≡ true
known_by true b c is = refl
known_by false b c is = absurd cc

taken_by : (b : Bool) (l : Learnt) → cond b l learnt.OtherId ≡ learnt.Accepted → l ≡ learnt.Accepted
taken_by true l is = is
taken_by false l is = absurd cc

taken : (own : Option ℕ) (id : ℕ) (i : SyncItem) → accept own id i ≡ learnt.Accepted → accept_item i ≡ learnt.Accepted
taken None id i is = absurd cc
taken (Some own) id i is = taken_by ((own == 0) || (own == id)) (accept_item i) is

found_by : (i : SyncItem) (found : Option Entry) (es : List Entry) → accept_item i ≡ learnt.Accepted → found ≡ recorded_in es (key_of_learnt i) → IsRecordFound i found es
found_by V6 found es is there = tt
found_by (V4 r) found es is there = λ plain.
    there ∙ key_there r (proto_of_code r.code) (is_template_record r) (r.code == 0) es (known_by (has_known_protocol r) (has_known_state r) (has_known_method r) is) plain

pub accepted_found : (own : Option ℕ) (id : ℕ) (i : SyncItem) (found : Option Entry) (es : List Entry) → accept own id i ≡ learnt.Accepted → found ≡ recorded_in es (key_of_learnt i) → IsRecordFound i found es
accepted_found own id i found es is there = found_by i found es (taken own id i is) there
