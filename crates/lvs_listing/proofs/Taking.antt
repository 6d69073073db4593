-- Words of saved lines are read from left to right.
use Rattle.std.proofs.Common.{◌≡◌, ℕ, ◌+◌, ◌^◌, ◌<◌, ◌≤◌, List, ◌∷◌, Option, Some, Result, Ok, refl, ◌∙◌, ap, arith, lit<}
use Rattle.std.specs.Prelude.{codes}
use Rattle.std.specs.Fmt.{decimal}
use Rattle.lvs_types.specs.declared.script.WordsCause.TheVariants as cause
use Rattle.lvs_types.specs.declared.addr.Addr.{Addr}
use Rattle.lvs_types.specs.declared.service.ServiceKey.{ServiceKey}
use Rattle.lvs_types.specs.declared.service.ServiceKey.TheVariants.{Net, Mark}
use Rattle.lvs_types.specs.declared.service.Proto.TheVariants.{Tcp, Udp}
use Rattle.lvs_types.specs.declared.service.Scheduler.{Scheduler}
use Rattle.lvs_types.specs.declared.service.Scheduler.TheVariants.{Rr, Wrr, Lc, Wlc, Sed, Nq, Sh, Dh, Fo, Ovf, Mh}
use Rattle.lvs_types.specs.Schedulers.{scheduler_name}
use Rattle.lvs_model.specs.declared.admin.CommandName.{CommandName}
use Rattle.lvs_model.specs.declared.admin.CommandName.TheVariants.{AddService, AddServer}
use Rattle.lvs_model.specs.declared.admin.OptionName.{OptionName}
use Rattle.lvs_model.specs.declared.admin.OptionName.TheVariants as option
use Rattle.lvs_model.specs.declared.admin.Awaited.TheVariants.{ValueOf}
use Rattle.lvs_model.specs.declared.admin.GivenEndpoint.{GivenEndpoint}
use Rattle.lvs_model.specs.declared.admin.WordsRead.{WordsRead}
use Rattle.lvs_model.specs.declared.admin.BadWord.{BadWord}
use Rattle.lvs_model.specs.Refusals.{◌>>=◌, needed}
use Rattle.lvs_model.specs.AdminWords.{service_key_of, with_service, take_value, take_word, take_words, begun}
use Rattle.lvs_model.specs.Listings.{endpoint_text}
use Rattle.lvs_listing.specs.Savable.{IsSayableKey}
use Rattle.lvs_listing.proofs.Numerals.{endpoint_of-endpoint_text, number_between-decimal}
use Rattle.lvs_listing.proofs.Wording.{IsWord, number_is_word, endpoint_is_word}

-- a word that is taken
pub taken : (at : ℕ) (w : List ℕ) (ws : List (List ℕ)) (r next : WordsRead) → take_word at w r ≡ Ok next → take_words at (w ∷ ws) r ≡ take_words (at + 1) ws next
taken at w ws r next is = ap (λ (read : Result WordsRead BadWord). read >>= (λ (x : WordsRead). take_words (at + 1) ws x)) is

-- the value of an option comes next
abbrev pub waits : OptionName → WordsRead → WordsRead
waits named r = record r { awaited = ValueOf named }

-- THE KEY OF A SERVICE

abbrev pub key_option : ServiceKey → List ℕ
key_option (Net Tcp addr port) = codes "-t"
key_option (Net Udp addr port) = codes "-u"
key_option (Mark mark) = codes "-f"

abbrev pub key_value : ServiceKey → List ℕ
key_value (Net proto addr port) = endpoint_text addr port
key_value (Mark mark) = decimal mark

pub key_option_is_word : (key : ServiceKey) → IsWord (key_option key)
key_option_is_word (Net Tcp addr port) = record { full = refl; graphic = refl; whole = refl }
key_option_is_word (Net Udp addr port) = record { full = refl; graphic = refl; whole = refl }
key_option_is_word (Mark mark) = record { full = refl; graphic = refl; whole = refl }

pub key_value_is_word : (key : ServiceKey) → IsSayableKey key → IsWord (key_value key)
key_value_is_word (Net proto addr port) said = endpoint_is_word addr port said.0 said.1
key_value_is_word (Mark mark) said = let small : mark < 2 ^ 32 = said.1 in number_is_word mark (omega arith)

tcp_value : (r : WordsRead) (addr : Addr) (port : ℕ) → addr.number < 2 ^ 32 → port < 2 ^ 16 → take_value 2 (endpoint_text addr port) option.TcpService r ≡ Ok (with_service 2 (Net Tcp addr port) r)
tcp_value r addr port small short =
    ap (λ (given : Option GivenEndpoint). needed 2 cause.BadAddress given >>= (λ (endpoint : GivenEndpoint). Ok (with_service 2 (service_key_of Tcp endpoint) r))) (endpoint_of-endpoint_text addr port small short)

udp_value : (r : WordsRead) (addr : Addr) (port : ℕ) → addr.number < 2 ^ 32 → port < 2 ^ 16 → take_value 2 (endpoint_text addr port) option.UdpService r ≡ Ok (with_service 2 (Net Udp addr port) r)
udp_value r addr port small short =
    ap (λ (given : Option GivenEndpoint). needed 2 cause.BadAddress given >>= (λ (endpoint : GivenEndpoint). Ok (with_service 2 (service_key_of Udp endpoint) r))) (endpoint_of-endpoint_text addr port small short)

mark_value : (r : WordsRead) (mark : ℕ) → 1 ≤ mark → mark < 2 ^ 32 → take_value 2 (decimal mark) option.FwmarkService r ≡ Ok (with_service 2 (Mark mark) r)
mark_value r mark some small =
    ap (λ (given : Option ℕ). needed 2 cause.BadNumber given >>= (λ (mark : ℕ). Ok (with_service 2 (Mark mark) r))) (number_between-decimal 1 4294967295 mark some (omega arith) (lit< tt))

-- what is read of a line that begins with a command and a key
abbrev pub of_key : CommandName → ServiceKey → WordsRead
of_key command key = with_service 2 key (begun command)

pub service_key_taken : (key : ServiceKey) (rest : List (List ℕ)) → IsSayableKey key → take_words 1 (key_option key ∷ key_value key ∷ rest) (begun AddService) ≡ take_words 3 rest (of_key AddService key)
service_key_taken (Net Tcp addr port) rest said =
    taken 1 (codes "-t") (endpoint_text addr port ∷ rest) (begun AddService) (waits option.TcpService (begun AddService)) refl
    ∙ taken 2 (endpoint_text addr port) rest (waits option.TcpService (begun AddService)) (of_key AddService (Net Tcp addr port)) (tcp_value (waits option.TcpService (begun AddService)) addr port said.0 said.1)
service_key_taken (Net Udp addr port) rest said =
    taken 1 (codes "-u") (endpoint_text addr port ∷ rest) (begun AddService) (waits option.UdpService (begun AddService)) refl
    ∙ taken 2 (endpoint_text addr port) rest (waits option.UdpService (begun AddService)) (of_key AddService (Net Udp addr port)) (udp_value (waits option.UdpService (begun AddService)) addr port said.0 said.1)
service_key_taken (Mark mark) rest said =
    taken 1 (codes "-f") (decimal mark ∷ rest) (begun AddService) (waits option.FwmarkService (begun AddService)) refl
    ∙ taken 2 (decimal mark) rest (waits option.FwmarkService (begun AddService)) (of_key AddService (Mark mark)) (mark_value (waits option.FwmarkService (begun AddService)) mark said.0 said.1)

pub server_key_taken : (key : ServiceKey) (rest : List (List ℕ)) → IsSayableKey key → take_words 1 (key_option key ∷ key_value key ∷ rest) (begun AddServer) ≡ take_words 3 rest (of_key AddServer key)
server_key_taken (Net Tcp addr port) rest said =
    taken 1 (codes "-t") (endpoint_text addr port ∷ rest) (begun AddServer) (waits option.TcpService (begun AddServer)) refl
    ∙ taken 2 (endpoint_text addr port) rest (waits option.TcpService (begun AddServer)) (of_key AddServer (Net Tcp addr port)) (tcp_value (waits option.TcpService (begun AddServer)) addr port said.0 said.1)
server_key_taken (Net Udp addr port) rest said =
    taken 1 (codes "-u") (endpoint_text addr port ∷ rest) (begun AddServer) (waits option.UdpService (begun AddServer)) refl
    ∙ taken 2 (endpoint_text addr port) rest (waits option.UdpService (begun AddServer)) (of_key AddServer (Net Udp addr port)) (udp_value (waits option.UdpService (begun AddServer)) addr port said.0 said.1)
server_key_taken (Mark mark) rest said =
    taken 1 (codes "-f") (decimal mark ∷ rest) (begun AddServer) (waits option.FwmarkService (begun AddServer)) refl
    ∙ taken 2 (decimal mark) rest (waits option.FwmarkService (begun AddServer)) (of_key AddServer (Mark mark)) (mark_value (waits option.FwmarkService (begun AddServer)) mark said.0 said.1)

-- THE NAME OF A SCHEDULER

pub scheduler_is_word : (s : Scheduler) → IsWord (scheduler_name s)
scheduler_is_word Rr = record { full = refl; graphic = refl; whole = refl }
scheduler_is_word Wrr = record { full = refl; graphic = refl; whole = refl }
scheduler_is_word Lc = record { full = refl; graphic = refl; whole = refl }
scheduler_is_word Wlc = record { full = refl; graphic = refl; whole = refl }
scheduler_is_word Sed = record { full = refl; graphic = refl; whole = refl }
scheduler_is_word Nq = record { full = refl; graphic = refl; whole = refl }
scheduler_is_word Sh = record { full = refl; graphic = refl; whole = refl }
scheduler_is_word Dh = record { full = refl; graphic = refl; whole = refl }
scheduler_is_word Fo = record { full = refl; graphic = refl; whole = refl }
scheduler_is_word Ovf = record { full = refl; graphic = refl; whole = refl }
scheduler_is_word Mh = record { full = refl; graphic = refl; whole = refl }
