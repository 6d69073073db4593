-- The words of a service's key are read as that key, whatever command they stand behind.
use Rattle.std.proofs.Common.{◌≡◌, ℕ, ◌^◌, ◌<◌, ◌≤◌, List, ◌∷◌, Option, Ok, refl, ◌∙◌, ap, arith, lit<}
use Rattle.std.specs.Prelude.{codes}
use Rattle.std.specs.Fmt.{decimal}
use Rattle.lvs_types.specs.declared.script.WordsCause.TheVariants as cause
use Rattle.lvs_types.specs.declared.addr.Addr.{Addr}
use Rattle.lvs_types.specs.declared.service.ServiceKey.{ServiceKey}
use Rattle.lvs_types.specs.declared.service.ServiceKey.TheVariants.{Net, Mark}
use Rattle.lvs_types.specs.declared.service.Proto.TheVariants.{Tcp, Udp}
use Rattle.lvs_model.specs.declared.admin.CommandName.{CommandName}
use Rattle.lvs_model.specs.declared.admin.OptionName.TheVariants as option
use Rattle.lvs_model.specs.declared.admin.GivenEndpoint.{GivenEndpoint}
use Rattle.lvs_model.specs.declared.admin.WordsRead.{WordsRead}
use Rattle.lvs_model.specs.Refusals.{◌>>=◌, needed}
use Rattle.lvs_model.specs.AdminWords.{service_key_of, with_service, take_value, take_word, take_words, begun}
use Rattle.lvs_model.specs.Listings.{endpoint_text}
use Rattle.lvs_listing.specs.Savable.{IsSayableKey}
use Rattle.lvs_listing.proofs.Numerals.{endpoint_of-endpoint_text, number_between-decimal}
use Rattle.lvs_listing.proofs.Wording.{IsWord, number_is_word, endpoint_is_word}
use Rattle.lvs_listing.proofs.Taking.{taken, waits, of_key}
use Rattle.lvs_tidy.specs.CommandWords.{key_option, key_value}

pub option_is_word : (key : ServiceKey) → IsWord (key_option key)
option_is_word (Net Tcp addr port) = record { full = refl; graphic = refl; whole = refl }
option_is_word (Net Udp addr port) = record { full = refl; graphic = refl; whole = refl }
option_is_word (Mark mark) = record { full = refl; graphic = refl; whole = refl }

pub value_is_word : (key : ServiceKey) → IsSayableKey key → IsWord (key_value key)
value_is_word (Net proto addr port) said = endpoint_is_word addr port said.0 said.1
value_is_word (Mark mark) said = let small : mark < 2 ^ 32 = said.1 in number_is_word mark (omega arith)

-- a command after which each service option may stand
pub record TakesKey (c : CommandName) : Type 0 where
  pub tcp : take_word 1 (codes "-t") (begun c) ≡ Ok (waits option.TcpService (begun c))
  pub udp : take_word 1 (codes "-u") (begun c) ≡ Ok (waits option.UdpService (begun c))
  pub mark : take_word 1 (codes "-f") (begun c) ≡ Ok (waits option.FwmarkService (begun c))

tcp_value : (r : WordsRead) (addr : Addr) (port : ℕ) → addr.number < 2 ^ 32 → port < 2 ^ 16 → take_value 2 (endpoint_text addr port) option.TcpService r ≡ Ok (with_service 2 (Net Tcp addr port) r)
tcp_value r addr port small short =
    ap (λ (given : Option GivenEndpoint). needed 2 cause.BadAddress given >>= (λ (endpoint : GivenEndpoint). Ok (with_service 2 (service_key_of Tcp endpoint) r))) (endpoint_of-endpoint_text addr port small short)

udp_value : (r : WordsRead) (addr : Addr) (port : ℕ) → addr.number < 2 ^ 32 → port < 2 ^ 16 → take_value 2 (endpoint_text addr port) option.UdpService r ≡ Ok (with_service 2 (Net Udp addr port) r)
udp_value r addr port small short =
    ap (λ (given : Option GivenEndpoint). needed 2 cause.BadAddress given >>= (λ (endpoint : GivenEndpoint). Ok (with_service 2 (service_key_of Udp endpoint) r))) (endpoint_of-endpoint_text addr port small short)

mark_value : (r : WordsRead) (mark : ℕ) → 1 ≤ mark → mark < 2 ^ 32 → take_value 2 (decimal mark) option.FwmarkService r ≡ Ok (with_service 2 (Mark mark) r)
mark_value r mark some small =
    ap (λ (given : Option ℕ). needed 2 cause.BadNumber given >>= (λ (mark : ℕ). Ok (with_service 2 (Mark mark) r))) (number_between-decimal 1 4294967295 mark some (omega arith) (lit< tt))

pub key_taken : (c : CommandName) (key : ServiceKey) (rest : List (List ℕ)) → TakesKey c → IsSayableKey key → take_words 1 (key_option key ∷ key_value key ∷ rest) (begun c) ≡ take_words 3 rest (of_key c key)
key_taken c (Net Tcp addr port) rest takes said =
    taken 1 (codes "-t") (endpoint_text addr port ∷ rest) (begun c) (waits option.TcpService (begun c)) takes.tcp
    ∙ taken 2 (endpoint_text addr port) rest (waits option.TcpService (begun c)) (of_key c (Net Tcp addr port)) (tcp_value (waits option.TcpService (begun c)) addr port said.0 said.1)
key_taken c (Net Udp addr port) rest takes said =
    taken 1 (codes "-u") (endpoint_text addr port ∷ rest) (begun c) (waits option.UdpService (begun c)) takes.udp
    ∙ taken 2 (endpoint_text addr port) rest (waits option.UdpService (begun c)) (of_key c (Net Udp addr port)) (udp_value (waits option.UdpService (begun c)) addr port said.0 said.1)
key_taken c (Mark mark) rest takes said =
    taken 1 (codes "-f") (decimal mark ∷ rest) (begun c) (waits option.FwmarkService (begun c)) takes.mark
    ∙ taken 2 (decimal mark) rest (waits option.FwmarkService (begun c)) (of_key c (Mark mark)) (mark_value (waits option.FwmarkService (begun c)) mark said.0 said.1)
