-- The numbers of the forwarding methods, the low three bits of a sync record's flags (the layout of Linux IPVS).
use Rattle.std.specs.Prelude.{ℕ, ◌==◌, Option, Some, None, if◌then◌else◌}
use Rattle.lvs_types.specs.declared.service.Method.{Method}
use Rattle.lvs_types.specs.declared.service.Method.TheVariants.{Masq, Tunnel, Direct}

-- the number of a method
abbrev pub method_code : Method → ℕ
method_code Masq = 0
method_code Tunnel = 2
method_code Direct = 3

-- the method of a number
abbrev pub method_of_code : ℕ → Option Method
method_of_code code =
    if code == 0 then Some Masq else (if code == 2 then Some Tunnel else (if code == 3 then Some Direct else None))
