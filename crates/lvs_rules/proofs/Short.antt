-- A packet of at most 65,515 bytes is never too long for a tunnel.
use Rattle.std.proofs.Common.{◌≡◌, ℕ, List, Bool, true, false, nat_lt, Option, Some, None, refl, slice_get, arith, ◌≤◌, ◌∙◌}
use Rattle.std.proofs.lemmas.Bool.Decides.{nat_tests}
use Rattle.lvs_types.specs.declared.service.Method.{Method}
use Rattle.lvs_types.specs.declared.service.Method.TheVariants.{Masq, Tunnel, Direct}
use Rattle.lvs_types.specs.declared.service.Service.{Service}
use Rattle.lvs_types.specs.declared.service.Cursor.{Cursor}
use Rattle.lvs_types.specs.declared.dest.Dest.{Dest}
use Rattle.lvs_types.specs.declared.entry.Entry.{Entry}
use Rattle.lvs_types.specs.declared.template.Template.{Template}
use Rattle.lvs_types.specs.declared.reply.Reply.{Reply}
use Rattle.lvs_types.specs.declared.reply.Reply.TheVariants as reply
use Rattle.lvs_types.specs.declared.reply.DropCause.TheVariants as drops
use Rattle.lvs_model.specs.State.{State}
use Rattle.lvs_model.specs.Packets.{Packet, may_connect}
use Rattle.lvs_model.specs.Rewriting.{is_too_long}
use Rattle.lvs_model.specs.Persistence.{template_key, usable_server}
use Rattle.lvs_model.specs.declared.incoming.Standing.{Standing}
use Rattle.lvs_model.specs.declared.incoming.Standing.TheVariants.{Reused, ServerGone, InUse}
use Rattle.lvs_model.specs.Incoming.{continue, end_entry, server_named, standing_of, arrive, take_back}
use Rattle.lvs_model.specs.Binding.{try_binding, template_tried}
use Rattle.lvs_model.specs.Lookups.{template_at, servers_of, find_service}
use Rattle.lvs_rules.specs.TooLong.{says_too_long, exceeds_to, choice_in, exceeds_choice, exceeds_pick, exceeds_used, exceeds_template, exceeds_service, exceeds_admitted, exceeds_connection, exceeds_by}
use Rattle.lvs_rules.proofs.TooLong.{connect_told, continue_told}

abbrev pub IsShort : Packet → Type 0
IsShort p = nat_lt 65515 p.head.total ≡ false

fits : (p : Packet) (m : Method) → IsShort p → is_too_long p.head m ≡ false
fits p Masq short = refl
fits p Tunnel short = short
fits p Direct short = refl

to_short : (p : Packet) (o : Option Dest) → IsShort p → exceeds_to p.head o ≡ false
to_short p None short = refl
to_short p (Some d) short = fits p d.spec.method short

choice_short : (ds : List Dest) (p : Packet) (service : Service) (o : Option (ℕ × Cursor)) → IsShort p → exceeds_choice ds p service o ≡ false
choice_short ds p service None short = refl
choice_short ds p service (Some choice) short = to_short p (slice_get (servers_of service.key ds) choice.0) short

pick_short : (s : State) (p : Packet) (service : Service) → IsShort p → exceeds_pick s p service ≡ false
pick_short s p service short = choice_short s.dests p service (choice_in s p service) short

used_short : (picked : Bool) (p : Packet) (o : Option Dest) → picked ≡ false → IsShort p → exceeds_used picked p.head o ≡ false
used_short picked p None none short = none
used_short picked p (Some d) none short = fits p d.spec.method short

template_short : (s : State) (p : Packet) (service : Service) (o : Option Template) → IsShort p → exceeds_template s p service o ≡ false
template_short s p service None short = pick_short s p service short
template_short s p service (Some t) short =
    used_short (exceeds_pick s p service) p (usable_server s.settings s.dests (template_tried s t t.server).server) (pick_short s p service short) short

service_short : (s : State) (p : Packet) (service : Service) (o : Option ℕ) → IsShort p → exceeds_service s p service o ≡ false
service_short s p service None short = pick_short s p service short
service_short s p service (Some seconds) short = template_short s p service (template_at (template_key service p.head.src) s.templates) short

admitted_short : (s : State) (p : Packet) (o : Option Service) (b : Bool) → IsShort p → exceeds_admitted s p o b ≡ false
admitted_short s p None b short = refl
admitted_short s p (Some service) false short = refl
admitted_short s p (Some service) true short = service_short s p service service.persist short

connection_short : (s : State) (p : Packet) → IsShort p → exceeds_connection s p ≡ false
connection_short s p short = admitted_short s p (find_service p.proto p.head.dst p.head.dport p.mark s.services) (may_connect s.settings p.proto p.head) short

by_short : (standing : Standing) (anew known : Bool) → anew ≡ false → known ≡ false → exceeds_by standing anew known ≡ false
by_short Reused anew known a b = a
by_short ServerGone anew known a b = refl
by_short InUse anew known a b = b

continue_short : (s : State) (p : Packet) (e : Entry) (standing : Standing) → IsShort p → says_too_long (continue s p e standing).0 ≡ false
continue_short s p e standing short =
    continue_told s p e standing
    ∙ by_short standing (exceeds_connection (end_entry e s) p) (is_too_long p.head e.method) (connection_short (end_entry e s) p short) (fits p e.method short)

arrive_short : (s : State) (p : Packet) (o : Option Entry) → IsShort p → says_too_long (arrive s p o).0 ≡ false
arrive_short s p None short = connect_told s p ∙ connection_short s p short
arrive_short s p (Some e) short =
    let bound : Entry × State = try_binding s e e.server in
    let server = server_named bound.0.server bound.1.dests in
    continue_short bound.1 p bound.0 (standing_of bound.1.settings p bound.0 server) short

-- nothing is taken back of a reply that doesn't say so
pub taken_back_not : (s : State) (r : Reply) (t : State) → says_too_long r ≡ false → take_back s (r, t) ≡ (r, t)
taken_back_not s (reply.Drop drops.TooLong) t short = absurd cc
taken_back_not s r t short = refl

-- everything is taken back of one that does
pub taken_back_long : (s : State) (r : Reply) (t : State) → says_too_long r ≡ true → take_back s (r, t) ≡ (reply.Drop drops.TooLong, s)
taken_back_long s (reply.Drop drops.TooLong) t long = refl
taken_back_long s r t long = absurd cc

pub taken_back_short : (s : State) (p : Packet) (o : Option Entry) → p.head.total ≤ 65515 → take_back s (arrive s p o) ≡ arrive s p o
taken_back_short s p o few =
    let short : IsShort p = grind (arith, nat_tests) in
    let answer : Reply × State = arrive s p o in
    taken_back_not s answer.0 answer.1 (arrive_short s p o short)
