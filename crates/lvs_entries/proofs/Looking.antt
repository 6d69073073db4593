-- What a look into one chain says of all entries in order of id.
use Rattle.std.proofs.Common.{◌≡◌, ℕ, ◌<◌, ◌%◌, ◌/◌, Bool, true, false, List, [], length, Option, Some, None, sym, ◌∙◌, ap, arith, get_or, count_by}
use Rattle.std.specs.List.{AllByRecursion, filter, find}
use Rattle.std.proofs.lemmas.Bool.{eq-eqb, eqb-true}
use Rattle.lvs_types.specs.declared.addr.Addr.{Addr}
use Rattle.lvs_types.specs.declared.service.Proto.{Proto}
use Rattle.lvs_types.specs.declared.entry.Key.{Key}
use Rattle.lvs_types.specs.declared.entry.Entry.{Entry}
use Rattle.lvs_types.specs.Protocols.{proto_code}
use Rattle.lvs_model.specs.Numbers.{mix}
use Rattle.lvs_model.specs.Lookups.{has_key, has_entry_id, is_reply_of, entry_at, reply_entry}
use Rattle.lvs_entries.specs.Chains.{chain_of, key_chain, is_in_chain}
use Rattle.lvs_entries.specs.Seen.{ChainSeen}
use Rattle.lvs_entries.specs.Store.{Belongs, AreChained, IsStore, all_of, entries_in}
use Rattle.lvs_model.proofs.OrderLemmas.{all_weaker, filter_none, find_sorted, least_of, count_part}
use Rattle.lvs_entries.proofs.Listed.{id_of}
use Rattle.lvs_entries.proofs.Chained.{OnlyIn, filter_at, chain_at, chains_fail}
use Rattle.lvs_entries.proofs.Belonging.{key_only, reply_only, id_only, chain_only}

below_256 : (n : ℕ) → n % 256 < 256
below_256 n = omega arith

pub chain_below : (proto : Proto) (client : Addr) (port : ℕ) → chain_of proto client port < 256
chain_below proto client port = below_256 (mix (proto_code proto) client port / 256)

moved_only : (place : ℕ → Option ℕ) (p : Entry → Bool) (k m : ℕ) → k ≡ m → OnlyIn place p m → OnlyIn place p k
moved_only place p k m same only j e here is = only j e here is ∙ sym same

-- those that pass a test of one chain are those of that chain
pub look : (place : ℕ → Option ℕ) (p : Entry → Bool) (k : ℕ) (chains : List ChainSeen) (c : ChainSeen) → OnlyIn place p k → AreChained place 0 chains → k < length chains → c ≡ get_or chains k c → filter p (all_of chains) ≡ filter p c.entries
look place p k chains c only chained within is =
    filter_at place p 0 k k c chains only chained within (omega arith) ∙ ap (λ (v : ChainSeen). filter p v.entries) (sym is)

pub found_key : (chains : List ChainSeen) (place : ℕ → Option ℕ) (spare room k : ℕ) (key : Key) (c : ChainSeen) → IsStore chains place spare room → k ≡ key_chain key → c ≡ get_or chains k c → entry_at key c.entries ≡ entry_at key (entries_in chains)
found_key chains place spare room k key c store at is =
    let below : key_chain key < 256 = chain_below key.proto key.caddr key.cport in
    let within : k < length chains = (let count = store.count in omega arith) in
    sym (find_sorted id_of (has_key key) (all_of chains) c.entries (store.keys key) (look place (has_key key) k chains c (moved_only place (has_key key) k (key_chain key) at (key_only place key)) store.chained within is))

pub found_reply : (chains : List ChainSeen) (place : ℕ → Option ℕ) (spare room k : ℕ) (proto : Proto) (daddr : Addr) (dport : ℕ) (caddr : Addr) (cport : ℕ) (c : ChainSeen) → IsStore chains place spare room → k ≡ chain_of proto caddr cport → c ≡ get_or chains k c
    → reply_entry proto daddr dport caddr cport c.entries ≡ reply_entry proto daddr dport caddr cport (entries_in chains)
found_reply chains place spare room k proto daddr dport caddr cport c store at is =
    let below : chain_of proto caddr cport < 256 = chain_below proto caddr cport in
    let within : k < length chains = (let count = store.count in omega arith) in
    let p : Entry → Bool = is_reply_of proto daddr dport caddr cport in
    sym (least_of id_of p (all_of chains) c.entries (look place p k chains c (moved_only place p k (chain_of proto caddr cport) at (reply_only place proto daddr dport caddr cport)) store.chained within is))

pub found_id : (chains : List ChainSeen) (place : ℕ → Option ℕ) (spare room k id : ℕ) (c : ChainSeen) → IsStore chains place spare room → k < 256 → place id ≡ Some k → c ≡ get_or chains k c → find (has_entry_id id) c.entries ≡ find (has_entry_id id) (entries_in chains)
found_id chains place spare room k id c store below at is =
    let within : k < length chains = (let count = store.count in omega arith) in
    sym (find_sorted id_of (has_entry_id id) (all_of chains) c.entries (store.ids id) (look place (has_entry_id id) k chains c (id_only place id k at) store.chained within is))

none_some : (place : ℕ → Option ℕ) (id k : ℕ) → place id ≡ None → place id ≡ Some k → ⊥
none_some place id k none some = cc

id_at : (place : ℕ → Option ℕ) (id j : ℕ) (e : Entry) → Belongs place j e → has_entry_id id e ≡ true → place id ≡ Some j
id_at place id j e here is = ap place (sym (eqb-true e.id id is)) ∙ here.by_id

-- an id without a chain is nowhere
pub id_nowhere : (chains : List ChainSeen) (place : ℕ → Option ℕ) (spare room id : ℕ) → IsStore chains place spare room → place id ≡ None → AllByRecursion (λ e. has_entry_id id e ≡ false) (all_of chains)
id_nowhere chains place spare room id store none =
    chains_fail place 0 (has_entry_id id) chains store.chained (λ j e le here is. none_some place id j none (id_at place id j e here is))

pub missed_id : (chains : List ChainSeen) (place : ℕ → Option ℕ) (spare room id : ℕ) → IsStore chains place spare room → place id ≡ None → None ≡ find (has_entry_id id) (entries_in chains)
missed_id chains place spare room id store none =
    sym (find_sorted id_of (has_entry_id id) (all_of chains) [] (store.ids id) (filter_none (has_entry_id id) (all_of chains) (id_nowhere chains place spare room id store none)))

in_chain : (place : ℕ → Option ℕ) (k : ℕ) (es : List Entry) → AllByRecursion (Belongs place k) es → AllByRecursion (λ e. is_in_chain k e ≡ true) es
in_chain place k es all = all_weaker (Belongs place k) (λ e. is_in_chain k e ≡ true) (λ e here. eq-eqb (key_chain e.key) k here.by_key) es all

-- as many entries are of a chain as stand in it
pub chain_count : (chains : List ChainSeen) (place : ℕ → Option ℕ) (spare room k m : ℕ) (c : ChainSeen) → IsStore chains place spare room → k ≡ m → m < 256 → c ≡ get_or chains k c → count_by (is_in_chain m) (entries_in chains) ≡ length c.entries
chain_count chains place spare room k m c store same below is =
    let within : k < length chains = (let count = store.count in omega arith) in
    let members : AllByRecursion (Belongs place k) (get_or chains k c).entries = chain_at place 0 k k c chains store.chained within (omega arith) in
    ap (λ n. count_by (is_in_chain n) (entries_in chains)) (sym same)
    ∙ count_part id_of (is_in_chain k) (all_of chains) (get_or chains k c).entries (filter_at place (is_in_chain k) 0 k k c chains (chain_only place k) store.chained within (omega arith)) (in_chain place k (get_or chains k c).entries members)
    ∙ ap (λ (v : ChainSeen). length v.entries) (sym is)
