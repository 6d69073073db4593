-- The server that a service's scheduler picks (ipvsadm(8), scheduling-method).
use Rattle.std.specs.Prelude.{ℕ, List, Option, Some, None}
use Rattle.lvs_types.specs.declared.addr.Addr.{Addr}
use Rattle.lvs_types.specs.declared.service.Scheduler.{Scheduler}
use Rattle.lvs_types.specs.declared.service.Scheduler.TheVariants.{Rr, Wrr, Lc, Wlc, Sed, Nq, Sh, Dh, Fo, Ovf, Mh}
use Rattle.lvs_types.specs.declared.service.Cursor.{Cursor}
use Rattle.lvs_types.specs.declared.dest.Candidate.{Candidate}
use Rattle.lvs_model.specs.RoundRobin.{pick_rr, pick_wrr}
use Rattle.lvs_model.specs.LeastLoad.{pick_lc, pick_wlc, pick_sed, pick_nq}
use Rattle.lvs_model.specs.AddressHash.{pick_sh, pick_dh}
use Rattle.lvs_model.specs.MorePicks.{pick_fo, pick_ovf, pick_mh}

-- a pick that leaves the cursor
abbrev pub and_cursor : Cursor → Option ℕ → Option (ℕ × Cursor)
and_cursor cursor None = None
and_cursor cursor (Some place) = Some (place, cursor)

-- the place of the server among the service's, and the cursor that is left; of the packet its source and destination are looked at
abbrev pub pick : Scheduler → List Candidate → List Addr → Cursor → Addr → Addr → Option (ℕ × Cursor)
pick Rr servers addrs cursor source destination = pick_rr servers cursor
pick Wrr servers addrs cursor source destination = pick_wrr servers cursor
pick Lc servers addrs cursor source destination = and_cursor cursor (pick_lc servers)
pick Wlc servers addrs cursor source destination = and_cursor cursor (pick_wlc servers)
pick Sed servers addrs cursor source destination = and_cursor cursor (pick_sed servers)
pick Nq servers addrs cursor source destination = and_cursor cursor (pick_nq servers)
pick Sh servers addrs cursor source destination = and_cursor cursor (pick_sh servers source)
pick Dh servers addrs cursor source destination = and_cursor cursor (pick_dh servers destination)
pick Fo servers addrs cursor source destination = and_cursor cursor (pick_fo servers)
pick Ovf servers addrs cursor source destination = and_cursor cursor (pick_ovf servers)
pick Mh servers addrs cursor source destination = and_cursor cursor (pick_mh servers addrs source)
