-- Whether a packet is too long for its tunnel, told from the tables as they are.
use Rattle.std.specs.Prelude.{ℕ, ◌+◌, Bool, true, false, Option, Some, None, List, map, slice_get, nat_eq}
use Rattle.std.specs.List.{IsDistinct}
use Rattle.lvs_types.specs.declared.addr.DestId.{DestId}
use Rattle.lvs_types.specs.declared.head.Head.{Head}
use Rattle.lvs_types.specs.declared.service.Cursor.{Cursor}
use Rattle.lvs_types.specs.declared.service.Service.{Service}
use Rattle.lvs_types.specs.declared.dest.Dest.{Dest}
use Rattle.lvs_types.specs.declared.entry.Entry.{Entry}
use Rattle.lvs_types.specs.declared.template.Template.{Template}
use Rattle.lvs_types.specs.declared.reply.Reply.{Reply}
use Rattle.lvs_types.specs.declared.reply.Reply.TheVariants as reply
use Rattle.lvs_types.specs.declared.reply.DropCause.TheVariants as drops
use Rattle.lvs_model.specs.State.{State}
use Rattle.lvs_model.specs.Lists.{without}
use Rattle.lvs_model.specs.Lookups.{find_service, servers_of, template_at, dest_at, has_entry_id}
use Rattle.lvs_model.specs.Counts.{candidates, total}
use Rattle.lvs_model.specs.Overload.{overload_bound, overload_ended}
use Rattle.lvs_model.specs.Pick.{pick}
use Rattle.lvs_model.specs.Packets.{Packet, may_connect}
use Rattle.lvs_model.specs.Rewriting.{is_too_long}
use Rattle.lvs_model.specs.Persistence.{template_key, usable_server}
use Rattle.lvs_model.specs.Binding.{template_tried, server_for_entry, bound_to}
use Rattle.lvs_model.specs.declared.incoming.Standing.{Standing}
use Rattle.lvs_model.specs.declared.incoming.Standing.TheVariants.{Reused, ServerGone, InUse}
use Rattle.lvs_model.specs.Incoming.{standing_of}
use Rattle.lvs_model.specs.WellFormed.{IsThere, entry_ids, dest_ids}
use Rattle.lvs_rules.specs.declared.view.Overload.{Overload}
use Rattle.lvs_rules.specs.declared.view.View.{View}
use Rattle.lvs_rules.specs.declared.too_long.Bound.{Bound}
use Rattle.lvs_rules.specs.Views.{seen_in}

-- the reply says that the packet is too long
abbrev pub says_too_long : Reply → Bool
says_too_long (reply.Drop drops.TooLong) = true
says_too_long other = false

-- no two entries have one id, and no two servers
pub record HaveDistinctIds (s : State) : Type 0 where
  pub entries : IsDistinct nat_eq (entry_ids s.entries)
  pub dests : IsDistinct nat_eq (dest_ids s.dests)

-- the server, if there is one, is in the list by its id
abbrev pub IfThere : List Dest → Option Dest → Type 0
IfThere dests None = Unit {0}
IfThere dests (Some d) = IsThere dests (Some d.id)

-- A NEW CONNECTION

-- the packet would be too long for a tunnel to the server, if there is one
abbrev pub exceeds_to : Head → Option Dest → Bool
exceeds_to head None = false
exceeds_to head (Some d) = is_too_long head d.spec.method

-- what the scheduler picks
abbrev pub choice_in : State → Packet → Service → Option (ℕ × Cursor)
choice_in s p service =
    pick service.scheduler (candidates service.key s.dests s.entries) (map (λ (d : Dest). d.spec.addr) (servers_of service.key s.dests)) service.cursor p.head.src p.head.dst

abbrev pub exceeds_choice : List Dest → Packet → Service → Option (ℕ × Cursor) → Bool
exceeds_choice dests p service None = false
exceeds_choice dests p service (Some choice) = exceeds_to p.head (slice_get (servers_of service.key dests) choice.0)

abbrev pub exceeds_pick : State → Packet → Service → Bool
exceeds_pick s p service = exceeds_choice s.dests p service (choice_in s p service)

-- by the template's server, if it is usable, or else by what the scheduler picks
abbrev pub exceeds_used : Bool → Head → Option Dest → Bool
exceeds_used picked head None = picked
exceeds_used picked head (Some d) = is_too_long head d.spec.method

abbrev pub exceeds_tried : State → Packet → Service → Template → Bool
exceeds_tried s p service t = exceeds_used (exceeds_pick s p service) p.head (usable_server s.settings s.dests t.server)

abbrev pub exceeds_template : State → Packet → Service → Option Template → Bool
exceeds_template s p service None = exceeds_pick s p service
exceeds_template s p service (Some t) = exceeds_tried s p service (template_tried s t t.server)

abbrev pub exceeds_service : State → Packet → Service → Option ℕ → Bool
exceeds_service s p service None = exceeds_pick s p service
exceeds_service s p service (Some seconds) = exceeds_template s p service (template_at (template_key service p.head.src) s.templates)

abbrev pub exceeds_admitted : State → Packet → Option Service → Bool → Bool
exceeds_admitted s p None allowed = false
exceeds_admitted s p (Some service) false = false
exceeds_admitted s p (Some service) true = exceeds_service s p service service.persist

abbrev pub exceeds_connection : State → Packet → Bool
exceeds_connection s p =
    exceeds_admitted s p (find_service p.proto p.head.dst p.head.dport p.mark s.services) (may_connect s.settings p.proto p.head)

-- A CONNECTION THAT IS THERE

-- what would hold of the server once an entry that names it had ended and these were left
abbrev pub overload_left : List Entry → Option Dest → Option Overload
overload_left left None = None
overload_left left (Some d) = Some (record { server = d.id; overloaded = overload_ended d.spec (total d.id left) d.overloaded })

-- the tables as they would be once the entry had ended
abbrev pub view_after : State → Entry → Option Dest → View
view_after s e server = record { ended = Some e; overload = overload_left (without (has_entry_id e.id) s.entries) server }

-- the server with one more entry
abbrev pub dest_bound : State → Entry → Dest → Dest
dest_bound s e d = record d { overloaded = overload_bound d.spec (total d.id (without (has_entry_id e.id) s.entries) + 1) d.overloaded }

abbrev pub bound_with : State → Entry → Option Dest → Bound
bound_with s e None = record { found = e; entry = e; server = None }
bound_with s e (Some d) = record { found = e; entry = bound_to d e; server = Some (dest_bound s e d) }

-- the entry as it would be bound, and the server that it would name
abbrev pub bound_in : State → Entry → Option DestId → Bound
bound_in s e (Some id) = record { found = e; entry = e; server = dest_at id s.dests }
bound_in s e None = bound_with s e (server_for_entry s.services s.dests e)

-- a connection in its place, or the entry itself
abbrev pub exceeds_by : Standing → Bool → Bool → Bool
exceeds_by Reused anew known = anew
exceeds_by ServerGone anew known = false
exceeds_by InUse anew known = known

abbrev pub exceeds_bound : State → Packet → Bound → Bool
exceeds_bound s p b =
    exceeds_by (standing_of s.settings p b.entry b.server) (exceeds_connection (seen_in (view_after s b.found b.server) s) p)
    (is_too_long p.head b.entry.method)

abbrev pub exceeds_arrived : State → Packet → Option Entry → Bool
exceeds_arrived s p None = exceeds_connection s p
exceeds_arrived s p (Some e) = exceeds_bound s p (bound_in s e e.server)
