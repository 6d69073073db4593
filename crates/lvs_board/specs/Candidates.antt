-- A server as a scheduler would see it once an entry had ended.
use Rattle.std.specs.Prelude.{◌-◌, ◌&&◌, not, nat_lt, List, Option, Some, None, if◌then◌else◌}
use Rattle.std.specs.Option.{option_map}
use Rattle.lvs_types.specs.declared.addr.Addr.{Addr}
use Rattle.lvs_types.specs.declared.dest.Dest.{Dest}
use Rattle.lvs_types.specs.declared.dest.Candidate.{Candidate}
use Rattle.lvs_model.specs.Lookups.{dest_at}
use Rattle.lvs_types.specs.declared.entry.Entry.{Entry}
use Rattle.lvs_model.specs.Same.{dest_eq, dest_id_eq}
use Rattle.lvs_model.specs.Timeouts.{is_active}
use Rattle.lvs_rules.specs.declared.view.Overload.{Overload}
use Rattle.lvs_rules.specs.declared.view.View.{View}

-- with one connection less
abbrev pub less_one : Entry → Candidate → Candidate
less_one e c = if is_active e.state then record c { active = c.active - 1 } else record c { inactive = c.inactive - 1 }

-- once the entry had ended
abbrev pub ended_in : Option Entry → Candidate → Candidate
ended_in None c = c
ended_in (Some e) c = if dest_eq e.server c.id then less_one e c else c

-- with the overload that its server would have
abbrev pub looked_in : Option Overload → Candidate → Candidate
looked_in None c = c
looked_in (Some o) c = if dest_id_eq c.id o.server then record c { eligible = nat_lt 0 c.weight && not o.overloaded } else c

-- a live server in the view
abbrev pub candidate_in : View → Candidate → Candidate
candidate_in view c = looked_in view.overload (ended_in view.ended c)

-- the address of its server, where that is there
abbrev pub addr_in : List Dest → Candidate → Option Addr
addr_in ds c = option_map (λ (d : Dest). d.spec.addr) (dest_at c.id ds)
