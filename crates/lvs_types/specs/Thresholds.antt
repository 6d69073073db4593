-- The connection thresholds of a real server (ipvsadm(8), --u-threshold and --l-threshold).
use Rattle.std.specs.Prelude.{Bool, nat_lt}
use Rattle.lvs_types.specs.declared.dest.DestSpec.{DestSpec}

-- the lower threshold is above the upper one
abbrev pub has_bad_thresholds : DestSpec → Bool
has_bad_thresholds spec = nat_lt spec.upper spec.lower
