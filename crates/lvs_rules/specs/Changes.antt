-- What changes of the tables make of their state.
use Rattle.std.specs.Prelude.{◌≡◌, ◌+◌, ◌∷◌, ◌++◌, [], IfSome, Some}
use Rattle.lvs_types.specs.declared.addr.DestId.{DestId}
use Rattle.lvs_types.specs.declared.entry.Entry.{Entry}
use Rattle.lvs_types.specs.declared.template.Template.{Template}
use Rattle.lvs_model.specs.State.{State, initial}
use Rattle.lvs_model.specs.Binding.{count_bound}

-- a state with nothing in it
abbrev pub nothing : State
nothing = initial (record { number = 0 }) 1

-- they have one id, one key, one server and one template
pub record HaveSameNames (a b : Entry) : Type 0 where
  pub id : b.id ≡ a.id
  pub key : b.key ≡ a.key
  pub server : b.server ≡ a.server
  pub template : b.template ≡ a.template

-- they have one id and one key, and the second one names the server that the first one names
pub record IsTemplateUpdate (a b : Template) : Type 0 where
  pub id : b.id ≡ a.id
  pub key : b.key ≡ a.key
  pub server : IfSome a.server (λ (id : DestId). b.server ≡ Some id)

-- an entry comes last
abbrev pub appended : Entry → State → State
appended e s = record s { entries = s.entries ++ e ∷ []; next_entry = s.next_entry + 1 }

-- an entry comes last, and counts at its server
abbrev pub entered : Entry → DestId → State → State
entered e id s =
    record s { entries = s.entries ++ e ∷ []; dests = count_bound id (s.entries ++ e ∷ []) s.dests; next_entry = s.next_entry + 1 }
