-- What a table of services answers.
use Rattle.std.specs.Prelude.{Bool, true, false, List, Result, Ok, Err}
use Rattle.std.specs.List.{list_any}
use Rattle.lvs_types.specs.declared.service.ServiceKey.{ServiceKey}
use Rattle.lvs_types.specs.declared.service.Service.{Service}
use Rattle.lvs_model.specs.Lookups.{has_service_key}
use Rattle.lvs_services.specs.declared.refused.ServiceRefused.{ServiceRefused}
use Rattle.lvs_services.specs.declared.refused.ServiceRefused.TheVariants as refused

-- a service of the key is there
abbrev pub is_known : ServiceKey → List Service → Bool
is_known key services = list_any (has_service_key key) services

-- an edit or a removal, by whether the service is there
abbrev pub edit_answer : Bool → Result (Unit {0}) ServiceRefused
edit_answer false = Err refused.NoService
edit_answer true = Ok tt
