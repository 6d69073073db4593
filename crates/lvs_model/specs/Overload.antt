-- When a server is overloaded: at so many connections (this project's profile of the thresholds of ipvsadm(8), -x and -y).
use Rattle.std.specs.Prelude.{ℕ, ◌*◌, Bool, false, ◌&&◌, ◌||◌, ◌==◌, nat_le, nat_lt, if◌then◌else◌}
use Rattle.lvs_types.specs.declared.dest.DestSpec.{DestSpec}

-- so many connections reach the upper threshold, where there is one
abbrev pub is_reached : DestSpec → ℕ → Bool
is_reached spec total = nat_lt 0 spec.upper && nat_le spec.upper total

-- so many connections are few enough: there is no upper threshold, or they are below the lower one, or below three quarters of the upper one where no lower one is given
abbrev pub is_relieved : DestSpec → ℕ → Bool
is_relieved spec total =
    (spec.upper == 0)
    || (nat_lt 0 spec.lower && nat_lt total spec.lower)
    || ((spec.lower == 0) && nat_lt 0 spec.upper && nat_lt (4 * total) (3 * spec.upper))

-- after an entry was bound, with the total as it then is: set at the threshold, and else as before
abbrev pub overload_bound : DestSpec → ℕ → Bool → Bool
overload_bound spec total before = before || is_reached spec total

-- after an entry that names the server was ended, with the total as it then is: cleared where it is relieved, and else as before
abbrev pub overload_ended : DestSpec → ℕ → Bool → Bool
overload_ended spec total before = if is_relieved spec total then false else before

-- at addition, revival and edit
abbrev pub overload_given : DestSpec → ℕ → Bool
overload_given spec total = is_reached spec total
