-- The rows of servers in groups, by a number of their service.
use Rattle.std.specs.Prelude.{◌≡◌, ℕ, ◌+◌, ◌*◌, ◌/◌, ◌%◌, ◌^◌, ◌==◌, Bool, List, [], ◌∷◌, ◌++◌, length, Some, slice_get}
use Rattle.std.specs.List.{filter}
use Rattle.lvs_types.specs.declared.service.Proto.TheVariants.{Tcp, Udp}
use Rattle.lvs_types.specs.declared.service.ServiceKey.{ServiceKey}
use Rattle.lvs_types.specs.declared.service.ServiceKey.TheVariants.{Net, Mark}
use Rattle.lvs_types.specs.declared.dest.DestRow.{DestRow}

-- a number that tells keys of one kind apart
unfoldable pub key_number : ServiceKey → ℕ
key_number (Net Tcp addr port) = 131072 * addr.number + 2 * port
key_number (Net Udp addr port) = 131072 * addr.number + 2 * port + 1
key_number (Mark mark) = mark

-- the group of a key, of so many
unfoldable pub group_of : ℕ → ServiceKey → ℕ
group_of count key = key_number key * 11400714819323198485 % 2 ^ 64 / 2 ^ 32 % count

-- the row falls to this group, of so many
abbrev pub falls_to : ℕ → ℕ → DestRow → Bool
falls_to count group row = group_of count row.dest.service == group

-- each group has the rows that fall to it, in order
abbrev pub AreGrouped : List (List DestRow) → List DestRow → Type 0
AreGrouped groups rows = (at : ℕ) (group : List DestRow) → slice_get groups at ≡ Some group → group ≡ filter (falls_to (length groups) at) rows

-- these are the groups with one row more
abbrev pub HasRow : List (List DestRow) → DestRow → List (List DestRow) → Type 0
HasRow groups row more = (rows : List DestRow) → AreGrouped groups rows → AreGrouped more (rows ++ row ∷ [])
