-- What words that were read so far can be, beside what the law of saved tables says of them: thresholds, timeouts and sync ids.
use Rattle.std.proofs.Common.{◌≡◌, ℕ, ◌+◌, ◌≤◌, Bool, true, false, not, ◌||◌, cond, List, [], ◌∷◌, Option, Some, None, Result, Ok, Err, refl, subst, lit≤}
use Rattle.lvs_types.specs.declared.script.WordsCause.{WordsCause}
use Rattle.lvs_types.specs.declared.script.WordsCause.TheVariants as cause
use Rattle.lvs_types.specs.declared.service.Proto.TheVariants.{Tcp, Udp}
use Rattle.lvs_types.specs.declared.service.ServiceKey.TheVariants.{Mark}
use Rattle.lvs_types.specs.declared.service.Scheduler.{Scheduler}
use Rattle.lvs_types.specs.Schedulers.{scheduler_named}
use Rattle.lvs_model.specs.declared.admin.CommandName.{CommandName}
use Rattle.lvs_model.specs.declared.admin.OptionName.{OptionName}
use Rattle.lvs_model.specs.declared.admin.OptionName.TheVariants.{TcpService, UdpService, FwmarkService, Scheduling, Persistent, Netmask, OnePacket, RealServer, Gatewaying, Ipip, Masquerading, Weight, UpperThreshold, LowerThreshold, Numeric, Connection, SyncId, McastInterface}
use Rattle.lvs_model.specs.declared.admin.Awaited.{Awaited}
use Rattle.lvs_model.specs.declared.admin.Awaited.TheVariants.{AnOption, ValueOf, EstablishedTimeout, FinWaitTimeout, UdpTimeout, Role}
use Rattle.lvs_model.specs.declared.admin.DaemonRole.{DaemonRole}
use Rattle.lvs_model.specs.declared.admin.GivenEndpoint.{GivenEndpoint}
use Rattle.lvs_model.specs.declared.admin.WordsRead.{WordsRead}
use Rattle.lvs_model.specs.declared.admin.BadWord.{BadWord}
use Rattle.lvs_model.specs.Refusals.{◌>>=◌, needed}
use Rattle.lvs_model.specs.Decimals.{is_number, number_between, endpoint_of, mask_of}
use Rattle.lvs_model.specs.AdminTables.{command_of, option_of, allows}
use Rattle.lvs_model.specs.AdminWords.{is_dashed, is_given, is_second, with_option, take_named, take_option, service_key_of, role_of, with_service, take_value, take_awaited, take_word, take_words, begun, take_all}
use Rattle.lvs_laws.proofs.SaveNumbers.{IfGiven, between}
use Rattle.lvs_laws.proofs.SaveWords.{then_ok}

pub record AreInRange (lower sync_id : Option ℕ) (established fin_wait udp : ℕ) : Type 0 where
  pub low : IfGiven (λ n. n ≤ 4294967295) lower
  pub id : IfGiven (λ n. n ≤ 255) sync_id
  pub first : established ≤ 2678400
  pub second : fin_wait ≤ 2678400
  pub third : udp ≤ 2678400

abbrev pub IsInRange : WordsRead → Type 0
IsInRange r = AreInRange r.lower r.sync_id r.established r.fin_wait r.udp

along : (r t : WordsRead) → ◌≡◌ {A = Result WordsRead BadWord} (Ok r) (Ok t) → IsInRange r → IsInRange t
along r t e w = let same : r ≡ t = cc in subst (λ (x : WordsRead). IsInRange x) same w

-- AN OPTION

option_keeps : (at : ℕ) (o : OptionName) (r : WordsRead) → IsInRange r → IsInRange (with_option at o r)
option_keeps at TcpService r w = w
option_keeps at UdpService r w = w
option_keeps at FwmarkService r w = w
option_keeps at Scheduling r w = w
option_keeps at Persistent r w = w
option_keeps at Netmask r w = w
option_keeps at OnePacket r w = w
option_keeps at RealServer r w = w
option_keeps at Gatewaying r w = w
option_keeps at Ipip r w = w
option_keeps at Masquerading r w = w
option_keeps at Weight r w = w
option_keeps at UpperThreshold r w = w
option_keeps at LowerThreshold r w = w
option_keeps at Numeric r w = w
option_keeps at Connection r w = w
option_keeps at SyncId r w = w
option_keeps at McastInterface r w = w

known_by : (again conflict : Bool) (x : WordsRead) (first second : BadWord) (t : WordsRead) → cond again (Err first) (cond conflict (Err second) (Ok x)) ≡ Ok t → IsInRange x → IsInRange t
known_by true conflict x first second t e w = absurd cc
known_by false true x first second t e w = absurd cc
known_by false false x first second t e w = along x t e w

named_keeps : (at : ℕ) (o : Option OptionName) (named : Option CommandName) (r t : WordsRead) → take_named at o named r ≡ Ok t → IsInRange r → IsInRange t
named_keeps at (Some o) named r t e w = known_by (is_given r o) (not (allows r.command o) || is_second r o) (with_option at o r) (record { at = at; cause = cause.Repeated }) (record { at = at; cause = cause.Conflict }) t e (option_keeps at o r w)
named_keeps at None (Some named) r t e w = absurd cc
named_keeps at None None r t e w = absurd cc

dashed_by : (b : Bool) (x : Result WordsRead BadWord) (why : BadWord) (t : WordsRead) → cond b x (Err why) ≡ Ok t → x ≡ Ok t
dashed_by true x why t e = e
dashed_by false x why t e = absurd cc

take_option_keeps : (at : ℕ) (word : List ℕ) (r t : WordsRead) → take_option at word r ≡ Ok t → IsInRange r → IsInRange t
take_option_keeps at word r t e w =
    named_keeps at (option_of word) (command_of word) r t (dashed_by (is_dashed word) (take_named at (option_of word) (command_of word) r) (record { at = at; cause = cause.Extra }) t e) w

-- A VALUE

value_by : {A : Type 0} (at : ℕ) (why : WordsCause) (o : Option A) (f : A → WordsRead) (t : WordsRead) → (needed at why o >>= (λ x. Ok (f x))) ≡ Ok t → ((x : A) → o ≡ Some x → IsInRange (f x)) → IsInRange t
value_by at why None f t e each = absurd cc
value_by at why (Some x) f t e each = along (f x) t e (each x refl)

value_keeps : (at : ℕ) (word : List ℕ) (o : OptionName) (r t : WordsRead) → take_value at word o r ≡ Ok t → IsInRange r → IsInRange t
value_keeps at word TcpService r t e w = value_by at cause.BadAddress (endpoint_of word) (λ (x : GivenEndpoint). with_service at (service_key_of Tcp x) r) t e (λ x found. w)
value_keeps at word UdpService r t e w = value_by at cause.BadAddress (endpoint_of word) (λ (x : GivenEndpoint). with_service at (service_key_of Udp x) r) t e (λ x found. w)
value_keeps at word FwmarkService r t e w = value_by at cause.BadNumber (number_between 1 4294967295 word) (λ (x : ℕ). with_service at (Mark x) r) t e (λ x found. w)
value_keeps at word Scheduling r t e w =
    value_by at cause.BadScheduler (scheduler_named word) (λ (x : Scheduler). record r { scheduler = Some x; awaited = AnOption }) t e (λ x found. w)
value_keeps at word Persistent r t e w =
    value_by at cause.BadNumber (number_between 1 2678400 word) (λ (x : ℕ). record r { persist = Some x; awaited = AnOption }) t e (λ x found. w)
value_keeps at word Netmask r t e w =
    value_by at cause.BadAddress (mask_of word) (λ (x : ℕ). record r { mask_bits = Some x; awaited = AnOption }) t e (λ x found. w)
value_keeps at word OnePacket r t e w = along (record r { awaited = AnOption }) t e w
value_keeps at word RealServer r t e w =
    value_by at cause.BadAddress (endpoint_of word) (λ (x : GivenEndpoint). record r { server = Some x; awaited = AnOption }) t e (λ x found. w)
value_keeps at word Gatewaying r t e w = along (record r { awaited = AnOption }) t e w
value_keeps at word Ipip r t e w = along (record r { awaited = AnOption }) t e w
value_keeps at word Masquerading r t e w = along (record r { awaited = AnOption }) t e w
value_keeps at word Weight r t e w =
    value_by at cause.BadNumber (number_between 0 2147483647 word) (λ (x : ℕ). record r { weight = Some x; awaited = AnOption }) t e (λ x found. w)
value_keeps at word UpperThreshold r t e w =
    value_by at cause.BadNumber (number_between 0 4294967295 word) (λ (x : ℕ). record r { upper = Some x; awaited = AnOption }) t e (λ x found. w)
value_keeps at word LowerThreshold r t e w =
    value_by at cause.BadNumber (number_between 0 4294967295 word) (λ (x : ℕ). record r { lower = Some x; awaited = AnOption }) t e
    (λ x found. record { low = (between 0 4294967295 word x found).1; id = w.id; first = w.first; second = w.second; third = w.third })
value_keeps at word Numeric r t e w = along (record r { awaited = AnOption }) t e w
value_keeps at word Connection r t e w = along (record r { awaited = AnOption }) t e w
value_keeps at word SyncId r t e w =
    value_by at cause.BadNumber (number_between 0 255 word) (λ (x : ℕ). record r { sync_id = Some x; awaited = AnOption }) t e
    (λ x found. record { low = w.low; id = (between 0 255 word x found).1; first = w.first; second = w.second; third = w.third })
value_keeps at word McastInterface r t e w = along (record r { interface = true; awaited = AnOption }) t e w

timeout_by : (b : Bool) (x y : Result WordsRead BadWord) (t : WordsRead) → cond b x y ≡ Ok t → (x ≡ Ok t → IsInRange t) → (y ≡ Ok t → IsInRange t) → IsInRange t
timeout_by true x y t e first second = first e
timeout_by false x y t e first second = second e

-- A WORD

awaited_keeps : (at : ℕ) (word : List ℕ) (a : Awaited) (r t : WordsRead) → take_awaited at word a r ≡ Ok t → IsInRange r → IsInRange t
awaited_keeps at word AnOption r t e w = take_option_keeps at word r t e w
awaited_keeps at word (ValueOf Persistent) r t e w =
    timeout_by (is_number word) (take_value at word Persistent r) (take_option at word (record r { awaited = AnOption })) t e
    (λ value. value_keeps at word Persistent r t value w)
    (λ other. take_option_keeps at word (record r { awaited = AnOption }) t other w)
awaited_keeps at word (ValueOf TcpService) r t e w = value_keeps at word TcpService r t e w
awaited_keeps at word (ValueOf UdpService) r t e w = value_keeps at word UdpService r t e w
awaited_keeps at word (ValueOf FwmarkService) r t e w = value_keeps at word FwmarkService r t e w
awaited_keeps at word (ValueOf Scheduling) r t e w = value_keeps at word Scheduling r t e w
awaited_keeps at word (ValueOf Netmask) r t e w = value_keeps at word Netmask r t e w
awaited_keeps at word (ValueOf OnePacket) r t e w = value_keeps at word OnePacket r t e w
awaited_keeps at word (ValueOf RealServer) r t e w = value_keeps at word RealServer r t e w
awaited_keeps at word (ValueOf Gatewaying) r t e w = value_keeps at word Gatewaying r t e w
awaited_keeps at word (ValueOf Ipip) r t e w = value_keeps at word Ipip r t e w
awaited_keeps at word (ValueOf Masquerading) r t e w = value_keeps at word Masquerading r t e w
awaited_keeps at word (ValueOf Weight) r t e w = value_keeps at word Weight r t e w
awaited_keeps at word (ValueOf UpperThreshold) r t e w = value_keeps at word UpperThreshold r t e w
awaited_keeps at word (ValueOf LowerThreshold) r t e w = value_keeps at word LowerThreshold r t e w
awaited_keeps at word (ValueOf Numeric) r t e w = value_keeps at word Numeric r t e w
awaited_keeps at word (ValueOf Connection) r t e w = value_keeps at word Connection r t e w
awaited_keeps at word (ValueOf SyncId) r t e w = value_keeps at word SyncId r t e w
awaited_keeps at word (ValueOf McastInterface) r t e w = value_keeps at word McastInterface r t e w
awaited_keeps at word EstablishedTimeout r t e w =
    value_by at cause.BadNumber (number_between 0 2678400 word) (λ (x : ℕ). record r { established = x; awaited = FinWaitTimeout }) t e
    (λ x found. record { low = w.low; id = w.id; first = (between 0 2678400 word x found).1; second = w.second; third = w.third })
awaited_keeps at word FinWaitTimeout r t e w =
    value_by at cause.BadNumber (number_between 0 2678400 word) (λ (x : ℕ). record r { fin_wait = x; awaited = UdpTimeout }) t e
    (λ x found. record { low = w.low; id = w.id; first = w.first; second = (between 0 2678400 word x found).1; third = w.third })
awaited_keeps at word UdpTimeout r t e w =
    value_by at cause.BadNumber (number_between 0 2678400 word) (λ (x : ℕ). record r { udp = x; awaited = AnOption }) t e
    (λ x found. record { low = w.low; id = w.id; first = w.first; second = w.second; third = (between 0 2678400 word x found).1 })
awaited_keeps at word Role r t e w =
    value_by at cause.UnknownOption (role_of word) (λ (x : DaemonRole). record r { role = Some x; awaited = AnOption }) t e (λ x found. w)

words_keep : (at : ℕ) (words : List (List ℕ)) (r t : WordsRead) → take_words at words r ≡ Ok t → IsInRange r → IsInRange t
words_keep at [] r t e w = along r t e w
words_keep at (word ∷ words) r t e w =
    let next = then_ok (take_word at word r) (take_words (at + 1) words) t e in
    words_keep (at + 1) words next.0 t next.2 (awaited_keeps at word r.awaited r next.0 next.1 w)

pub all_in_range : (words : List (List ℕ)) (r : WordsRead) → take_all words ≡ Ok r → IsInRange r
all_in_range [] r e = absurd cc
all_in_range (word ∷ words) r e =
    let named = then_ok (needed 0 cause.UnknownOption (command_of word)) (λ (c : CommandName). take_words 1 words (begun c)) r e in
    words_keep 1 words (begun named.0) r named.2 (record { low = tt; id = tt; first = lit≤ tt; second = lit≤ tt; third = lit≤ tt })
