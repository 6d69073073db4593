-- The names of the schedulers (ipvsadm(8), scheduling-method).
use Rattle.std.specs.Prelude.{ℕ, List, [], ◌∷◌, Option, find, codes, bytes_eq}
use Rattle.lvs_types.specs.declared.service.Scheduler.{Scheduler}
use Rattle.lvs_types.specs.declared.service.Scheduler.TheVariants.{Rr, Wrr, Lc, Wlc, Sed, Nq, Sh, Dh, Fo, Ovf, Mh}

-- the name of a scheduler
abbrev pub scheduler_name : Scheduler → List ℕ
scheduler_name Rr = codes "rr"
scheduler_name Wrr = codes "wrr"
scheduler_name Lc = codes "lc"
scheduler_name Wlc = codes "wlc"
scheduler_name Sed = codes "sed"
scheduler_name Nq = codes "nq"
scheduler_name Sh = codes "sh"
scheduler_name Dh = codes "dh"
scheduler_name Fo = codes "fo"
scheduler_name Ovf = codes "ovf"
scheduler_name Mh = codes "mh"

-- all schedulers
abbrev pub schedulers : List Scheduler
schedulers = Rr ∷ Wrr ∷ Lc ∷ Wlc ∷ Sed ∷ Nq ∷ Sh ∷ Dh ∷ Fo ∷ Ovf ∷ Mh ∷ []

-- the scheduler that a word names
abbrev pub scheduler_named : List ℕ → Option Scheduler
scheduler_named word = find (λ s. bytes_eq word (scheduler_name s)) schedulers
