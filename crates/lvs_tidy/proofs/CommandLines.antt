-- The line of a command is printed as it is read.
use Rattle.std.proofs.Common.{◌≡◌, ℕ, ◌^◌, ◌<◌, ◌≤◌, List, [], ◌∷◌, Option, Some, Result, Ok, Err, refl, subst, ◌∙◌, ap, arith, lit<}
use Rattle.std.specs.Prelude.{codes}
use Rattle.std.specs.Fmt.{decimal}
use Rattle.lvs_types.specs.declared.script.WordsCause.TheVariants as cause
use Rattle.lvs_types.specs.declared.addr.Addr.{Addr}
use Rattle.lvs_types.specs.declared.service.ServiceKey.{ServiceKey}
use Rattle.lvs_types.specs.declared.book.Shown.{Shown}
use Rattle.lvs_types.specs.declared.book.Shown.TheVariants as shown
use Rattle.lvs_types.specs.declared.command.Line.{Line}
use Rattle.lvs_types.specs.declared.command.Line.TheVariants.{Edit, Show}
use Rattle.lvs_types.specs.declared.command.Command.{Command}
use Rattle.lvs_types.specs.declared.command.Command.TheVariants as command
use Rattle.lvs_types.specs.declared.script.ScriptLine.{ScriptLine}
use Rattle.lvs_types.specs.declared.script.ScriptLine.TheVariants as line
use Rattle.lvs_types.specs.declared.script.ScriptCause.{ScriptCause}
use Rattle.lvs_model.specs.declared.admin.CommandName.TheVariants.{DeleteService, DeleteServer, SetTimeouts, StartDaemon}
use Rattle.lvs_model.specs.declared.admin.OptionName.TheVariants as option
use Rattle.lvs_model.specs.declared.admin.Awaited.TheVariants.{AnOption, FinWaitTimeout, UdpTimeout}
use Rattle.lvs_model.specs.declared.admin.DaemonRole.{DaemonRole}
use Rattle.lvs_model.specs.declared.admin.DaemonRole.TheVariants.{Master, Backup}
use Rattle.lvs_model.specs.declared.admin.GivenEndpoint.{GivenEndpoint}
use Rattle.lvs_model.specs.declared.admin.WordsRead.{WordsRead}
use Rattle.lvs_model.specs.declared.admin.BadWord.{BadWord}
use Rattle.lvs_model.specs.declared.script.LineName.TheVariants as name
use Rattle.lvs_model.specs.Refusals.{◌>>=◌, needed}
use Rattle.lvs_model.specs.AdminWords.{take_words, begun}
use Rattle.lvs_model.specs.AdminLines.{settled, started, line_read, line_of_split, line_of_words}
use Rattle.lvs_model.specs.Listings.{endpoint_text}
use Rattle.lvs_model.specs.Scripts.{line_of_admin, round_line}
use Rattle.lvs_listing.specs.Savable.{IsSayableKey}
use Rattle.lvs_listing.proofs.Numerals.{number_between-decimal, endpoint_of-endpoint_text}
use Rattle.lvs_listing.proofs.Wording.{AreWords, split_words-words, number_is_word, endpoint_is_word}
use Rattle.lvs_listing.proofs.Taking.{taken, waits, of_key}
use Rattle.lvs_laws.specs.Saying.{IsSayableCommand}
use Rattle.lvs_laws.proofs.SaveLines.{words_said}
use Rattle.lvs_tidy.specs.CommandWords.{key_option, key_value, command_words}
use Rattle.lvs_tidy.proofs.Keys.{TakesKey, key_taken, option_is_word, value_is_word}
use Rattle.lvs_tidy.proofs.ServiceWords as services
use Rattle.lvs_tidy.proofs.ServerWords as servers
use Rattle.lvs_tidy.proofs.Said.{IsMore, IsListing, words_more}
use Rattle.lvs_tidy.proofs.Printed.{IsPrinted}
use Rattle.lvs_tidy.proofs.Packets.{list_made, conns_made, save_made}

abbrev line_from : ℕ → Result WordsRead BadWord → Result Line BadWord
line_from count read = read >>= (λ (r : WordsRead). settled count r >>= (λ (_ : Unit {0}). line_read count r r.command))

abbrev edit_of : Command → Result Line BadWord
edit_of c = Ok (Edit c)

-- WHAT A COMMAND REMOVES

removes_service : TakesKey DeleteService
removes_service = record { tcp = refl; udp = refl; mark = refl }

service_removed : (key : ServiceKey) → IsSayableKey key → line_of_split (codes "-D" ∷ key_option key ∷ key_value key ∷ []) ≡ edit_of (command.RemoveService key)
service_removed key said = ap (line_from 3) (key_taken DeleteService key [] removes_service said)

removes_server : TakesKey DeleteServer
removes_server = record { tcp = refl; udp = refl; mark = refl }

server_removed : (key : ServiceKey) (addr : Addr) (port : ℕ) → IsSayableKey key → addr.number < 2 ^ 32 → port < 2 ^ 16 → line_of_split (codes "-d" ∷ key_option key ∷ key_value key ∷ codes "-r" ∷ endpoint_text addr port ∷ []) ≡ edit_of (command.RemoveServer key addr port)
server_removed key addr port said small short =
    let before : WordsRead = of_key DeleteServer key in
    let after : WordsRead = record before { server = Some (record { addr = addr; port = Some port }) } in
    ap (line_from 5)
    (key_taken DeleteServer key (codes "-r" ∷ endpoint_text addr port ∷ []) removes_server said
    ∙ taken 3 (codes "-r") (endpoint_text addr port ∷ []) before (waits option.RealServer before) refl
    ∙ taken 4 (endpoint_text addr port) [] (waits option.RealServer before) after
    (ap (λ (given : Option GivenEndpoint). needed 4 cause.BadAddress given >>= (λ (x : GivenEndpoint). Ok (record before { server = Some x; awaited = AnOption }))) (endpoint_of-endpoint_text addr port small short)))

-- TIMEOUTS AND DAEMONS

timeouts_set : (established fin_wait udp : ℕ) → established ≤ 2678400 → fin_wait ≤ 2678400 → udp ≤ 2678400 → line_of_split (codes "--set" ∷ decimal established ∷ decimal fin_wait ∷ decimal udp ∷ []) ≡ edit_of (command.Timeouts established fin_wait udp)
timeouts_set established fin_wait udp first second third =
    let r : WordsRead = begun SetTimeouts in
    let r1 : WordsRead = record r { established = established; awaited = FinWaitTimeout } in
    let r2 : WordsRead = record r1 { fin_wait = fin_wait; awaited = UdpTimeout } in
    let r3 : WordsRead = record r2 { udp = udp; awaited = AnOption } in
    ap (line_from 4)
    (taken 1 (decimal established) (decimal fin_wait ∷ decimal udp ∷ []) r r1
    (ap (λ (given : Option ℕ). needed 1 cause.BadNumber given >>= (λ (n : ℕ). Ok (record r { established = n; awaited = FinWaitTimeout }))) (number_between-decimal 0 2678400 established (omega arith) first (lit< tt)))
    ∙ taken 2 (decimal fin_wait) (decimal udp ∷ []) r1 r2
    (ap (λ (given : Option ℕ). needed 2 cause.BadNumber given >>= (λ (n : ℕ). Ok (record r1 { fin_wait = n; awaited = UdpTimeout }))) (number_between-decimal 0 2678400 fin_wait (omega arith) second (lit< tt)))
    ∙ taken 3 (decimal udp) [] r2 r3
    (ap (λ (given : Option ℕ). needed 3 cause.BadNumber given >>= (λ (n : ℕ). Ok (record r2 { udp = n; awaited = AnOption }))) (number_between-decimal 0 2678400 udp (omega arith) third (lit< tt))))

abbrev role_word : DaemonRole → List ℕ
role_word Master = codes "master"
role_word Backup = codes "backup"

-- a daemon that is started, and its sync id may come
abbrev daemon : DaemonRole → WordsRead
daemon role = record (begun StartDaemon) { role = Some role; awaited = AnOption }

role_taken : (role : DaemonRole) (rest : List (List ℕ)) → take_words 1 (role_word role ∷ rest) (begun StartDaemon) ≡ take_words 2 rest (daemon role)
role_taken Master rest = refl
role_taken Backup rest = refl

daemon_started : (role : DaemonRole) (id : ℕ) → id ≤ 255 → line_of_split (codes "--start-daemon" ∷ role_word role ∷ codes "--syncid" ∷ decimal id ∷ []) ≡ edit_of (started role id)
daemon_started role id low =
    let before : WordsRead = daemon role in
    let after : WordsRead = record before { sync_id = Some id } in
    ap (line_from 4)
    (role_taken role (codes "--syncid" ∷ decimal id ∷ [])
    ∙ taken 2 (codes "--syncid") (decimal id ∷ []) before (waits option.SyncId before) refl
    ∙ taken 3 (decimal id) [] (waits option.SyncId before) after
    (ap (λ (given : Option ℕ). needed 3 cause.BadNumber given >>= (λ (n : ℕ). Ok (record before { sync_id = Some n; awaited = AnOption }))) (number_between-decimal 0 255 id (omega arith) low (lit< tt))))

-- EVERY COMMAND

words_of : (c : Command) → IsSayableCommand c → IsMore c → AreWords (command_words c)
words_of (command.AddService s) said more = (record { full = refl; graphic = refl; whole = refl }, services.service_are_words s said)
words_of (command.EditService s) said more = (record { full = refl; graphic = refl; whole = refl }, services.service_are_words s said)
words_of (command.RemoveService key) said more = (record { full = refl; graphic = refl; whole = refl }, (option_is_word key, (value_is_word key more, tt)))
words_of command.Clear said more = (record { full = refl; graphic = refl; whole = refl }, tt)
words_of (command.AddServer key d) said more = (record { full = refl; graphic = refl; whole = refl }, servers.server_are_words key d more.0 said more.1)
words_of (command.EditServer key d) said more = (record { full = refl; graphic = refl; whole = refl }, servers.server_are_words key d more.0 said more.1)
words_of (command.RemoveServer key addr port) said more =
    (record { full = refl; graphic = refl; whole = refl }, (option_is_word key, (value_is_word key more.0, (record { full = refl; graphic = refl; whole = refl }, (endpoint_is_word addr port more.1 more.2, tt)))))
words_of (command.Timeouts established fin_wait udp) said more =
    let first : established ≤ 2678400 = more.0 in
    let second : fin_wait ≤ 2678400 = more.1 in
    let third : udp ≤ 2678400 = more.2 in
    (record { full = refl; graphic = refl; whole = refl }, (number_is_word established (omega arith), (number_is_word fin_wait (omega arith), (number_is_word udp (omega arith), tt))))
words_of (command.StartMaster id) said more =
    let low : id ≤ 255 = more in
    (record { full = refl; graphic = refl; whole = refl }, (record { full = refl; graphic = refl; whole = refl }, (record { full = refl; graphic = refl; whole = refl }, (number_is_word id (omega arith), tt))))
words_of (command.StartBackup id) said more =
    let low : id ≤ 255 = more in
    (record { full = refl; graphic = refl; whole = refl }, (record { full = refl; graphic = refl; whole = refl }, (record { full = refl; graphic = refl; whole = refl }, (number_is_word id (omega arith), tt))))
words_of command.StopMaster said more = (record { full = refl; graphic = refl; whole = refl }, (record { full = refl; graphic = refl; whole = refl }, tt))
words_of command.StopBackup said more = (record { full = refl; graphic = refl; whole = refl }, (record { full = refl; graphic = refl; whole = refl }, tt))

again : (c : Command) → IsSayableCommand c → IsMore c → line_of_split (command_words c) ≡ edit_of c
again (command.AddService s) said more = services.added_again s said more
again (command.EditService s) said more = services.edited_again s said more
again (command.RemoveService key) said more = service_removed key more
again command.Clear said more = refl
again (command.AddServer key d) said more = servers.added_again key d more.0 said more.1
again (command.EditServer key d) said more = servers.edited_again key d more.0 said more.1
again (command.RemoveServer key addr port) said more = server_removed key addr port more.0 more.1 more.2
again (command.Timeouts established fin_wait udp) said more = timeouts_set established fin_wait udp more.0 more.1 more.2
again (command.StartMaster id) said more = daemon_started Master id more
again (command.StartBackup id) said more = daemon_started Backup id more
again command.StopMaster said more = refl
again command.StopBackup said more = refl

-- LINES

edit_made : (c : Command) → IsSayableCommand c → IsMore c → IsPrinted (line.Edit c)
edit_made c said more = record {
  words = words_of c said more;
  read = ap line_of_admin (ap line_of_split (split_words-words (command_words c) (words_of c said more)) ∙ again c said more);
}

show_made : (kind : Shown) → IsListing kind → IsPrinted (line.Show kind)
show_made shown.List is = list_made
show_made shown.Conns is = conns_made
show_made shown.Save is = save_made
show_made (shown.IcmpIn bytes) is = absurd is
show_made (shown.IcmpOut bytes) is = absurd is

line_is : (made l : ScriptLine) → ◌≡◌ {A = Result ScriptLine ScriptCause} (Ok made) (Ok l) → IsPrinted made → IsPrinted l
line_is made l e is = let same : made ≡ l = cc in subst (λ (x : ScriptLine). IsPrinted x) same is

admin_by : (words : List (List ℕ)) (r : Result Line BadWord) (l : ScriptLine) → line_of_words words ≡ r → line_of_admin r ≡ Ok l → IsPrinted l
admin_by words (Ok (Edit c)) l is e = line_is (line.Edit c) l e (edit_made c (words_said words c is) (words_more words (Edit c) is))
admin_by words (Ok (Show kind)) l is e = line_is (line.Show kind) l e (show_made kind (words_more words (Show kind) is))
admin_by words (Err bad) l is e = absurd cc

pub command_printed : (words : List (List ℕ)) (l : ScriptLine) → round_line name.Ipvs words ≡ Ok l → IsPrinted l
command_printed words l e = admin_by words (line_of_words words) l refl e
