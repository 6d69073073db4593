-- Saved tables are read as the commands that add each service and its servers.
use Rattle.std.proofs.Common.{◌≡◌, ℕ, ◌+◌, List, [], ◌∷◌, ◌++◌, Option, Result, Ok, refl, ◌∙◌, ap, append_assoc}
use Rattle.std.specs.Option.{option_to_list}
use Rattle.lvs_types.specs.declared.service.ServiceKey.{ServiceKey}
use Rattle.lvs_types.specs.declared.service.Service.{Service}
use Rattle.lvs_types.specs.declared.dest.DestRow.{DestRow}
use Rattle.lvs_types.specs.declared.command.Command.{Command}
use Rattle.lvs_types.specs.declared.command.Command.TheVariants as command
use Rattle.lvs_model.specs.declared.admin.BadWord.{BadWord}
use Rattle.lvs_model.specs.Refusals.{◌>>=◌}
use Rattle.lvs_model.specs.Lines.{lines_of}
use Rattle.lvs_model.specs.Edits.{with_fresh_cursor}
use Rattle.lvs_model.specs.AdminLines.{line_of_split}
use Rattle.lvs_model.specs.Listings.{rows_of, server_words, service_words, saved_servers, saved_services}
use Rattle.lvs_model.specs.Restoring.{BadSaved, at_saved_line, saved_commands}
use Rattle.lvs_listing.specs.Savable.{IsSayableKey, AreSavableServers, AreSavableServices}
use Rattle.lvs_listing.proofs.Wording.{line_with, IsCommandText, all_plain, lines_of-plain, split_words-words, saved_line-words}
use Rattle.lvs_listing.proofs.ServiceLines.{service_text}
use Rattle.lvs_listing.proofs.ServerLines.{server_text}

abbrev pub server_commands : ServiceKey → List DestRow → List Command
server_commands key [] = []
server_commands key (row ∷ rows) = command.AddServer key row.dest.spec ∷ server_commands key rows

abbrev pub service_commands : List DestRow → List Service → List Command
service_commands rows [] = []
service_commands rows (service ∷ services) = command.AddService (with_fresh_cursor service) ∷ (server_commands service.key (rows_of service.key rows) ++ service_commands rows services)

-- a number, one higher for each row
abbrev pub count_on : ℕ → List DestRow → ℕ
count_on n [] = n
count_on n (row ∷ rows) = count_on (n + 1) rows

abbrev pushed : Command → Result (List Command) BadSaved → Result (List Command) BadSaved
pushed c more = more >>= (λ (commands : List Command). Ok (c ∷ commands))

first_command : (n : ℕ) (text rest : List ℕ) (c : Command) → IsCommandText text c → saved_commands n (lines_of (text ++ rest)) ≡ pushed c (saved_commands (n + 1) (lines_of rest))
first_command n text rest c is =
    let line = line_with is.first is.others in
    let more : Result (List Command) BadSaved = saved_commands (n + 1) (lines_of rest) in
    ap (λ (t : List ℕ). saved_commands n (lines_of (t ++ rest))) is.spelled
    ∙ ap (λ (t : List ℕ). saved_commands n (lines_of t)) (append_assoc line (10 ∷ []) rest)
    ∙ ap (saved_commands n) (lines_of-plain line rest (all_plain is.first is.others is.first_word is.other_words))
    ∙ ap (λ (read : Result (Option Command) BadWord). at_saved_line n read >>= (λ (command : Option Command). more >>= (λ (commands : List Command). Ok (option_to_list command ++ commands)))) (saved_line-words is.first is.others c is.first_word is.other_words is.plain (ap line_of_split (split_words-words (is.first ∷ is.others) (is.first_word, is.other_words)) ∙ is.read))

servers_read : (n : ℕ) (key : ServiceKey) (before rows : List DestRow) (rest : List ℕ) (commands : List Command) → IsSayableKey key → AreSavableServers key before rows → saved_commands (count_on n rows) (lines_of rest) ≡ Ok commands → saved_commands n (lines_of (saved_servers key rows ++ rest)) ≡ Ok (server_commands key rows ++ commands)
servers_read n key before [] rest commands said are read = read
servers_read n key before (row ∷ rows) rest commands said are read =
    ap (λ (t : List ℕ). saved_commands n (lines_of t)) (append_assoc (server_words key row.dest.spec) (saved_servers key rows) rest)
    ∙ first_command n (server_words key row.dest.spec) (saved_servers key rows ++ rest) (command.AddServer key row.dest.spec) (server_text key row.dest.spec said are.0)
    ∙ ap (pushed (command.AddServer key row.dest.spec)) (servers_read (n + 1) key (before ++ row ∷ []) rows rest commands said are.2 read)

pub services_read : (n : ℕ) (rows : List DestRow) (before services : List Service) → AreSavableServices rows before services → saved_commands n (lines_of (saved_services rows services)) ≡ Ok (service_commands rows services)
services_read n rows before [] are = refl
services_read n rows before (service ∷ services) are =
    ap (λ (t : List ℕ). saved_commands n (lines_of t)) (append_assoc (service_words service) (saved_servers service.key (rows_of service.key rows)) (saved_services rows services))
    ∙ first_command n (service_words service) (saved_servers service.key (rows_of service.key rows) ++ saved_services rows services) (command.AddService (with_fresh_cursor service)) (service_text service are.0)
    ∙ ap (pushed (command.AddService (with_fresh_cursor service)))
    (servers_read (n + 1) service.key [] (rows_of service.key rows) (saved_services rows services) (service_commands rows services) are.0.key are.1 (services_read (count_on (n + 1) (rows_of service.key rows)) rows (before ++ service ∷ []) services are.3))
