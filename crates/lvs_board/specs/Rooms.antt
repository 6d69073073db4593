-- The room that the desk has made.
use Rattle.std.specs.Prelude.{◌<◌, ◌-◌, ◌^◌, ℕ, vec_len, vec_capacity}
use Rattle.lvs_board.specs.declared.desk.Desk.{Desk}

-- one more template fits, and its id is far from the end
pub record HasTemplateRoom (d : Desk) : Type 0 where
  pub spare : 0 < d.templates.spare
  pub next_template : d.next_template < 2 ^ 62

-- so many more records fit
abbrev pub record_room : Desk → ℕ
record_room d = vec_capacity d.pending - vec_len d.pending
