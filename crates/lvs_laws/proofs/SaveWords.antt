-- A line of words gives only a command that words can say.
use Rattle.std.proofs.Common.{◌≡◌, ℕ, ◌+◌, ◌^◌, ◌≤◌, ◌<◌, Bool, true, false, not, ◌||◌, cond, List, [], ◌∷◌, Option, Some, None, Result, Ok, Err, refl, subst, lit≤, lit<, arith}
use Rattle.std.specs.Prelude.{unwrap_or}
use Rattle.lvs_types.specs.declared.script.WordsCause.{WordsCause}
use Rattle.lvs_types.specs.declared.script.WordsCause.TheVariants as cause
use Rattle.lvs_types.specs.declared.service.ServiceKey.{ServiceKey}
use Rattle.lvs_types.specs.declared.service.ServiceKey.TheVariants.{Mark}
use Rattle.lvs_types.specs.declared.service.Proto.TheVariants.{Tcp, Udp}
use Rattle.lvs_types.specs.declared.service.Scheduler.{Scheduler}
use Rattle.lvs_types.specs.Schedulers.{scheduler_named}
use Rattle.lvs_model.specs.declared.admin.CommandName.{CommandName}
use Rattle.lvs_model.specs.declared.admin.CommandName.TheVariants.{AddService, EditService, DeleteService, ClearTables, AddServer, EditServer, DeleteServer, ListTables, SaveTables, SetTimeouts, StartDaemon, StopDaemon}
use Rattle.lvs_model.specs.declared.admin.OptionName.{OptionName}
use Rattle.lvs_model.specs.declared.admin.OptionName.TheVariants.{TcpService, UdpService, FwmarkService, Scheduling, Persistent, Netmask, OnePacket, RealServer, Gatewaying, Ipip, Masquerading, Weight, UpperThreshold, LowerThreshold, Numeric, Connection, SyncId, McastInterface}
use Rattle.lvs_model.specs.declared.admin.Awaited.{Awaited}
use Rattle.lvs_model.specs.declared.admin.Awaited.TheVariants.{AnOption, ValueOf, EstablishedTimeout, FinWaitTimeout, UdpTimeout, Role}
use Rattle.lvs_model.specs.declared.admin.DaemonRole.{DaemonRole}
use Rattle.lvs_model.specs.declared.admin.GivenService.{GivenService}
use Rattle.lvs_model.specs.declared.admin.GivenEndpoint.{GivenEndpoint}
use Rattle.lvs_model.specs.declared.admin.WordsRead.{WordsRead}
use Rattle.lvs_model.specs.declared.admin.BadWord.{BadWord}
use Rattle.lvs_model.specs.Refusals.{◌>>=◌, needed}
use Rattle.lvs_model.specs.Decimals.{is_number, number_between, endpoint_of, mask_of}
use Rattle.lvs_model.specs.AdminTables.{command_of, option_of, allows}
use Rattle.lvs_model.specs.AdminWords.{is_dashed, is_given, is_second, with_option, take_named, take_option, service_key_of, role_of, with_service, take_value, take_awaited, take_word, take_words, awaited_after, begun, take_all}
use Rattle.lvs_listing.specs.Savable.{IsSayableKey}
use Rattle.lvs_laws.proofs.SaveNumbers.{IfGiven, IsSayableEndpoint, between, endpoint_small, mask_small}

-- WHAT WAS READ

abbrev awaits_mask : Awaited → Bool
awaits_mask (ValueOf Netmask) = true
awaits_mask _ = false

pub record AreSayable (service : Option GivenService) (persist netmask_at mask_bits : Option ℕ) (awaited : Awaited) (endpoint : Option GivenEndpoint) (weight upper : Option ℕ) : Type 0 where
  pub given : IfGiven (λ (g : GivenService). IsSayableKey g.key) service
  pub lasts : IfGiven (λ seconds. (1 ≤ seconds) × (seconds ≤ 2678400)) persist
  pub bits : IfGiven (λ n. n ≤ 32) mask_bits
  pub masked : netmask_at ≡ None → (mask_bits ≡ None) × (awaits_mask awaited ≡ false)
  pub stands : IfGiven IsSayableEndpoint endpoint
  pub weighs : IfGiven (λ n. n ≤ 2147483647) weight
  pub bounded : IfGiven (λ n. n < 2 ^ 32) upper

-- what was read of a line so far can be said
abbrev pub IsSayableRead : WordsRead → Type 0
IsSayableRead r = AreSayable r.service r.persist r.netmask_at r.mask_bits r.awaited r.server r.weight r.upper

awaiting : (r : WordsRead) (a : Awaited) → awaits_mask a ≡ false → IsSayableRead r → AreSayable r.service r.persist r.netmask_at r.mask_bits a r.server r.weight r.upper
awaiting r a other w = record { given = w.given; lasts = w.lasts; bits = w.bits; masked = λ none. ((w.masked none).0, other); stands = w.stands; weighs = w.weighs; bounded = w.bounded }

pub then_ok : {A B E : Type 0} (r : Result A E) (f : A → Result B E) (y : B) → (r >>= f) ≡ Ok y → (x : A) × (r ≡ Ok x) × (f x ≡ Ok y)
then_ok (Ok x) f y e = (x, refl, e)
then_ok (Err why) f y e = absurd cc

pub needed_some : {A : Type 0} (at : ℕ) (why : WordsCause) (o : Option A) (x : A) → needed at why o ≡ Ok x → o ≡ Some x
needed_some at why None x e = absurd cc
needed_some at why (Some y) x e = cc

ok_is : (r t : WordsRead) → ◌≡◌ {A = Result WordsRead BadWord} (Ok r) (Ok t) → r ≡ t
ok_is r t e = cc

along : (r t : WordsRead) → ◌≡◌ {A = Result WordsRead BadWord} (Ok r) (Ok t) → IsSayableRead r → IsSayableRead t
along r t e w = let P : WordsRead → Type 0 = λ x. IsSayableRead x in subst P (ok_is r t e) w

-- AN OPTION

option_keeps : (at : ℕ) (o : OptionName) (r : WordsRead) → IsSayableRead r → IsSayableRead (with_option at o r)
option_keeps at TcpService r w = awaiting r (ValueOf TcpService) refl w
option_keeps at UdpService r w = awaiting r (ValueOf UdpService) refl w
option_keeps at FwmarkService r w = awaiting r (ValueOf FwmarkService) refl w
option_keeps at Scheduling r w = awaiting r (ValueOf Scheduling) refl w
option_keeps at Persistent r w = record { given = w.given; lasts = (lit≤ tt, lit≤ tt); bits = w.bits; masked = λ none. ((w.masked none).0, refl); stands = w.stands; weighs = w.weighs; bounded = w.bounded }
option_keeps at Netmask r w = record { given = w.given; lasts = w.lasts; bits = w.bits; masked = λ none. absurd cc; stands = w.stands; weighs = w.weighs; bounded = w.bounded }
option_keeps at OnePacket r w = w
option_keeps at RealServer r w = awaiting r (ValueOf RealServer) refl w
option_keeps at Gatewaying r w = w
option_keeps at Ipip r w = w
option_keeps at Masquerading r w = w
option_keeps at Weight r w = awaiting r (ValueOf Weight) refl w
option_keeps at UpperThreshold r w = awaiting r (ValueOf UpperThreshold) refl w
option_keeps at LowerThreshold r w = awaiting r (ValueOf LowerThreshold) refl w
option_keeps at Numeric r w = w
option_keeps at Connection r w = w
option_keeps at SyncId r w = awaiting r (ValueOf SyncId) refl w
option_keeps at McastInterface r w = awaiting r (ValueOf McastInterface) refl w

known_by : (again conflict : Bool) (x : WordsRead) (first second : BadWord) (t : WordsRead) → cond again (Err first) (cond conflict (Err second) (Ok x)) ≡ Ok t → IsSayableRead x → IsSayableRead t
known_by true conflict x first second t e w = absurd cc
known_by false true x first second t e w = absurd cc
known_by false false x first second t e w = along x t e w

named_keeps : (at : ℕ) (o : Option OptionName) (named : Option CommandName) (r t : WordsRead) → take_named at o named r ≡ Ok t → IsSayableRead r → IsSayableRead t
named_keeps at (Some o) named r t e w = known_by (is_given r o) (not (allows r.command o) || is_second r o) (with_option at o r) (record { at = at; cause = cause.Repeated }) (record { at = at; cause = cause.Conflict }) t e (option_keeps at o r w)
named_keeps at None (Some named) r t e w = absurd cc
named_keeps at None None r t e w = absurd cc

dashed_by : (b : Bool) (x : Result WordsRead BadWord) (why : BadWord) (t : WordsRead) → cond b x (Err why) ≡ Ok t → x ≡ Ok t
dashed_by true x why t e = e
dashed_by false x why t e = absurd cc

take_option_keeps : (at : ℕ) (word : List ℕ) (r t : WordsRead) → take_option at word r ≡ Ok t → IsSayableRead r → IsSayableRead t
take_option_keeps at word r t e w =
    named_keeps at (option_of word) (command_of word) r t (dashed_by (is_dashed word) (take_named at (option_of word) (command_of word) r) (record { at = at; cause = cause.Extra }) t e) w

-- A VALUE

value_by : {A : Type 0} (at : ℕ) (why : WordsCause) (o : Option A) (f : A → WordsRead) (t : WordsRead) → (needed at why o >>= (λ x. Ok (f x))) ≡ Ok t → ((x : A) → o ≡ Some x → IsSayableRead (f x)) → IsSayableRead t
value_by at why None f t e each = absurd cc
value_by at why (Some x) f t e each = along (f x) t e (each x refl)

port_given : (o : Option ℕ) → IfGiven (λ n. n < 2 ^ 16) o → unwrap_or o 0 < 2 ^ 16
port_given None is = lit< tt
port_given (Some n) is = is

service_given : (at : ℕ) (key : ServiceKey) (r : WordsRead) → IsSayableKey key → IsSayableRead r → IsSayableRead (with_service at key r)
service_given at key r is w = record { given = is; lasts = w.lasts; bits = w.bits; masked = λ none. ((w.masked none).0, refl); stands = w.stands; weighs = w.weighs; bounded = w.bounded }

not_awaited : (a : Awaited) → a ≡ ValueOf Netmask → awaits_mask a ≡ false → ⊥
not_awaited a is differs = let wrong : true ≡ false = subst (λ x. awaits_mask x ≡ false) is differs in cc

value_keeps : (at : ℕ) (word : List ℕ) (o : OptionName) (r t : WordsRead) → r.awaited ≡ ValueOf o → take_value at word o r ≡ Ok t → IsSayableRead r → IsSayableRead t
value_keeps at word TcpService r t is e w =
    value_by at cause.BadAddress (endpoint_of word) (λ (x : GivenEndpoint). with_service at (service_key_of Tcp x) r) t e
    (λ x found. let small = endpoint_small word x found in service_given at (service_key_of Tcp x) r (small.0, port_given x.port small.1) w)
value_keeps at word UdpService r t is e w =
    value_by at cause.BadAddress (endpoint_of word) (λ (x : GivenEndpoint). with_service at (service_key_of Udp x) r) t e
    (λ x found. let small = endpoint_small word x found in service_given at (service_key_of Udp x) r (small.0, port_given x.port small.1) w)
value_keeps at word FwmarkService r t is e w =
    value_by at cause.BadNumber (number_between 1 4294967295 word) (λ (x : ℕ). with_service at (Mark x) r) t e
    (λ x found. let small = between 1 4294967295 word x found in service_given at (Mark x) r (small.0, omega (arith, small.1)) w)
value_keeps at word Scheduling r t is e w =
    value_by at cause.BadScheduler (scheduler_named word) (λ (x : Scheduler). record r { scheduler = Some x; awaited = AnOption }) t e (λ x found. awaiting r AnOption refl w)
value_keeps at word Persistent r t is e w =
    value_by at cause.BadNumber (number_between 1 2678400 word) (λ (x : ℕ). record r { persist = Some x; awaited = AnOption }) t e
    (λ x found. record { given = w.given; lasts = between 1 2678400 word x found; bits = w.bits; masked = λ none. ((w.masked none).0, refl); stands = w.stands; weighs = w.weighs; bounded = w.bounded })
value_keeps at word Netmask r t is e w =
    value_by at cause.BadAddress (mask_of word) (λ (x : ℕ). record r { mask_bits = Some x; awaited = AnOption }) t e
    (λ x found. record { given = w.given; lasts = w.lasts; bits = mask_small word x found; masked = λ none. absurd (not_awaited r.awaited is (w.masked none).1); stands = w.stands; weighs = w.weighs; bounded = w.bounded })
value_keeps at word OnePacket r t is e w = along (record r { awaited = AnOption }) t e (awaiting r AnOption refl w)
value_keeps at word RealServer r t is e w =
    value_by at cause.BadAddress (endpoint_of word) (λ (x : GivenEndpoint). record r { server = Some x; awaited = AnOption }) t e
    (λ x found. record { given = w.given; lasts = w.lasts; bits = w.bits; masked = λ none. ((w.masked none).0, refl); stands = endpoint_small word x found; weighs = w.weighs; bounded = w.bounded })
value_keeps at word Gatewaying r t is e w = along (record r { awaited = AnOption }) t e (awaiting r AnOption refl w)
value_keeps at word Ipip r t is e w = along (record r { awaited = AnOption }) t e (awaiting r AnOption refl w)
value_keeps at word Masquerading r t is e w = along (record r { awaited = AnOption }) t e (awaiting r AnOption refl w)
value_keeps at word Weight r t is e w =
    value_by at cause.BadNumber (number_between 0 2147483647 word) (λ (x : ℕ). record r { weight = Some x; awaited = AnOption }) t e
    (λ x found. record { given = w.given; lasts = w.lasts; bits = w.bits; masked = λ none. ((w.masked none).0, refl); stands = w.stands; weighs = (between 0 2147483647 word x found).1; bounded = w.bounded })
value_keeps at word UpperThreshold r t is e w =
    value_by at cause.BadNumber (number_between 0 4294967295 word) (λ (x : ℕ). record r { upper = Some x; awaited = AnOption }) t e
    (λ x found. record { given = w.given; lasts = w.lasts; bits = w.bits; masked = λ none. ((w.masked none).0, refl); stands = w.stands; weighs = w.weighs; bounded = omega (arith, (between 0 4294967295 word x found).1) })
value_keeps at word LowerThreshold r t is e w =
    value_by at cause.BadNumber (number_between 0 4294967295 word) (λ (x : ℕ). record r { lower = Some x; awaited = AnOption }) t e (λ x found. awaiting r AnOption refl w)
value_keeps at word Numeric r t is e w = along (record r { awaited = AnOption }) t e (awaiting r AnOption refl w)
value_keeps at word Connection r t is e w = along (record r { awaited = AnOption }) t e (awaiting r AnOption refl w)
value_keeps at word SyncId r t is e w =
    value_by at cause.BadNumber (number_between 0 255 word) (λ (x : ℕ). record r { sync_id = Some x; awaited = AnOption }) t e (λ x found. awaiting r AnOption refl w)
value_keeps at word McastInterface r t is e w = along (record r { interface = true; awaited = AnOption }) t e (awaiting r AnOption refl w)

timeout_by : (b : Bool) (x y : Result WordsRead BadWord) (t : WordsRead) → cond b x y ≡ Ok t → (x ≡ Ok t → IsSayableRead t) → (y ≡ Ok t → IsSayableRead t) → IsSayableRead t
timeout_by true x y t e first second = first e
timeout_by false x y t e first second = second e

-- A WORD

awaited_keeps : (at : ℕ) (word : List ℕ) (a : Awaited) (r t : WordsRead) → r.awaited ≡ a → take_awaited at word a r ≡ Ok t → IsSayableRead r → IsSayableRead t
awaited_keeps at word AnOption r t is e w = take_option_keeps at word r t e w
awaited_keeps at word (ValueOf Persistent) r t is e w =
    timeout_by (is_number word) (take_value at word Persistent r) (take_option at word (record r { awaited = AnOption })) t e
    (λ value. value_keeps at word Persistent r t is value w)
    (λ other. take_option_keeps at word (record r { awaited = AnOption }) t other (awaiting r AnOption refl w))
awaited_keeps at word (ValueOf TcpService) r t is e w = value_keeps at word TcpService r t is e w
awaited_keeps at word (ValueOf UdpService) r t is e w = value_keeps at word UdpService r t is e w
awaited_keeps at word (ValueOf FwmarkService) r t is e w = value_keeps at word FwmarkService r t is e w
awaited_keeps at word (ValueOf Scheduling) r t is e w = value_keeps at word Scheduling r t is e w
awaited_keeps at word (ValueOf Netmask) r t is e w = value_keeps at word Netmask r t is e w
awaited_keeps at word (ValueOf OnePacket) r t is e w = value_keeps at word OnePacket r t is e w
awaited_keeps at word (ValueOf RealServer) r t is e w = value_keeps at word RealServer r t is e w
awaited_keeps at word (ValueOf Gatewaying) r t is e w = value_keeps at word Gatewaying r t is e w
awaited_keeps at word (ValueOf Ipip) r t is e w = value_keeps at word Ipip r t is e w
awaited_keeps at word (ValueOf Masquerading) r t is e w = value_keeps at word Masquerading r t is e w
awaited_keeps at word (ValueOf Weight) r t is e w = value_keeps at word Weight r t is e w
awaited_keeps at word (ValueOf UpperThreshold) r t is e w = value_keeps at word UpperThreshold r t is e w
awaited_keeps at word (ValueOf LowerThreshold) r t is e w = value_keeps at word LowerThreshold r t is e w
awaited_keeps at word (ValueOf Numeric) r t is e w = value_keeps at word Numeric r t is e w
awaited_keeps at word (ValueOf Connection) r t is e w = value_keeps at word Connection r t is e w
awaited_keeps at word (ValueOf SyncId) r t is e w = value_keeps at word SyncId r t is e w
awaited_keeps at word (ValueOf McastInterface) r t is e w = value_keeps at word McastInterface r t is e w
awaited_keeps at word EstablishedTimeout r t is e w =
    value_by at cause.BadNumber (number_between 0 2678400 word) (λ (x : ℕ). record r { established = x; awaited = FinWaitTimeout }) t e (λ x found. awaiting r FinWaitTimeout refl w)
awaited_keeps at word FinWaitTimeout r t is e w =
    value_by at cause.BadNumber (number_between 0 2678400 word) (λ (x : ℕ). record r { fin_wait = x; awaited = UdpTimeout }) t e (λ x found. awaiting r UdpTimeout refl w)
awaited_keeps at word UdpTimeout r t is e w =
    value_by at cause.BadNumber (number_between 0 2678400 word) (λ (x : ℕ). record r { udp = x; awaited = AnOption }) t e (λ x found. awaiting r AnOption refl w)
awaited_keeps at word Role r t is e w =
    value_by at cause.UnknownOption (role_of word) (λ (x : DaemonRole). record r { role = Some x; awaited = AnOption }) t e (λ x found. awaiting r AnOption refl w)

words_keep : (at : ℕ) (words : List (List ℕ)) (r t : WordsRead) → take_words at words r ≡ Ok t → IsSayableRead r → IsSayableRead t
words_keep at [] r t e w = along r t e w
words_keep at (word ∷ words) r t e w =
    let next = then_ok (take_word at word r) (take_words (at + 1) words) t e in
    words_keep (at + 1) words next.0 t next.2 (awaited_keeps at word r.awaited r next.0 refl next.1 w)

begun_awaits : (c : CommandName) → awaits_mask (awaited_after c) ≡ false
begun_awaits AddService = refl
begun_awaits EditService = refl
begun_awaits DeleteService = refl
begun_awaits ClearTables = refl
begun_awaits AddServer = refl
begun_awaits EditServer = refl
begun_awaits DeleteServer = refl
begun_awaits ListTables = refl
begun_awaits SaveTables = refl
begun_awaits SetTimeouts = refl
begun_awaits StartDaemon = refl
begun_awaits StopDaemon = refl

begun_sayable : (c : CommandName) → IsSayableRead (begun c)
begun_sayable c = record { given = tt; lasts = tt; bits = tt; masked = λ none. (refl, begun_awaits c); stands = tt; weighs = tt; bounded = tt }

pub all_sayable : (words : List (List ℕ)) (r : WordsRead) → take_all words ≡ Ok r → IsSayableRead r
all_sayable [] r e = absurd cc
all_sayable (word ∷ words) r e =
    let named = then_ok (needed 0 cause.UnknownOption (command_of word)) (λ (c : CommandName). take_words 1 words (begun c)) r e in
    words_keep 1 words (begun named.0) r named.2 (begun_sayable named.0)
