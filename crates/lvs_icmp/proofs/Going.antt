-- An error that goes on: how its bytes are made, that its checksums are right, and that its receiver finds its own packet in it.
use Rattle.std.proofs.Common.{◌≡◌, ℕ, ◌+◌, ◌%◌, ◌≤◌, Bool, true, false, not, ◌&&◌, ◌==◌, cond, nat_le, List, ◌++◌, length, take, drop, Option, Some, None, Result, Ok, Err, refl, sym, ap, subst, ◌∙◌, arith, length-drop}
use Rattle.std.specs.Prelude.{IfSome}
use Rattle.std.proofs.lemmas.Bool.Decides.{nat_tests}
use Rattle.lvs_types.specs.Protocols.{proto_of_code}
use Rattle.lvs_types.specs.declared.addr.Addr.{Addr}
use Rattle.lvs_types.specs.declared.head.Head.{Head}
use Rattle.lvs_types.specs.declared.head.Malformed.{Malformed}
use Rattle.lvs_types.specs.declared.service.Proto.{Proto}
use Rattle.lvs_types.specs.declared.service.Proto.TheVariants.{Tcp}
use Rattle.lvs_types.specs.declared.service.Method.{Method}
use Rattle.lvs_types.specs.declared.service.Method.TheVariants.{Masq, Tunnel, Direct}
use Rattle.lvs_types.specs.declared.entry.Entry.{Entry}
use Rattle.lvs_types.specs.declared.snapshot.Snapshot.{Snapshot}
use Rattle.lvs_types.specs.declared.icmp.Side.{Side}
use Rattle.lvs_types.specs.declared.icmp.Side.TheVariants.{Inward, Outward}
use Rattle.lvs_types.specs.declared.icmp.IcmpAnswer.{IcmpAnswer}
use Rattle.lvs_types.specs.declared.icmp.IcmpAnswer.TheVariants as answer
use Rattle.lvs_sum.specs.Sums.{fold, is_valid_header}
use Rattle.lvs_sum.proofs.Keeping.{AreBytes}
use Rattle.lvs_model.specs.Reading.{read, header_len_of, code_of, version_of, fragment_offset, payload_of}
use Rattle.lvs_model.specs.Rewriting.{with_word}
use Rattle.lvs_model.specs.Lookups.{entry_at, reply_entry}
use Rattle.lvs_model.specs.IcmpErrors.{is_message, has_valid_sum, is_error_type, type_of, embedded_of, has_first_bytes, embedded_proto, key_of_answer, source_of, source_port_of, destination_of, destination_port_of, embedded_from, embedded_to, message_about, bytes_to_server, bytes_to_client, names_removed, to_server, inward_by, inward, outward, by_side, error_answer, message_answer, read_answer, icmp_answer}
use Rattle.lvs_rewrite.proofs.Changes.{length_word}
use Rattle.lvs_rewrite.proofs.Reading.{Seen, seen}
use Rattle.lvs_icmp.specs.Recognised.{rewritten_of, IsRight, embedded_in, connection_of, IsSent, masqueraded, first_bytes, without_sum, IsRecognised}
use Rattle.lvs_icmp.proofs.Headers.{IsHead, IsRightHead, with_address, length_address, head_address, valid_address, header_joined, payload_joined, right_of, payload_is}
use Rattle.lvs_icmp.proofs.Messages.{about_right, length_about, embedded_about}
use Rattle.lvs_icmp.proofs.Masked.{Masked, masked_in, masked_out, len_masked, code_masked, put_back}

-- HOW THE BYTES ARE MADE

-- the connection between the two sides of a packet of a protocol
abbrev between : Snapshot → Side → Proto → List ℕ → Option Entry
between tables Inward proto packet = entry_at (key_of_answer proto packet) tables.entries
between tables Outward proto packet = reply_entry proto (destination_of packet) (destination_port_of packet) (source_of packet) (source_port_of packet) tables.entries

abbrev bytes_to : Side → Entry → List ℕ → List ℕ → List ℕ
bytes_to Inward e header message = bytes_to_server e header message
bytes_to Outward e header message = bytes_to_client e header message

-- an error that goes on, by its connection
record Going (tables : Snapshot) (side : Side) (header message rewritten : List ℕ) : Type 0 where
  whole : 8 ≤ length message
  proto : Proto
  is_proto : embedded_proto (embedded_of message) ≡ Some proto
  connection : Entry
  found : between tables side proto (embedded_of message) ≡ Some connection
  made : rewritten ≡ bytes_to side connection header message

abbrev Goes : Snapshot → Side → List ℕ → List ℕ → IcmpAnswer → Type 0
Goes tables side header message a = IfSome (rewritten_of a) (λ (rewritten : List ℕ). Going tables side header message rewritten)

goes_by : (tables : Snapshot) (header message : List ℕ) (proto : Proto) (e : Entry) (removed : Bool) → 8 ≤ length message → embedded_proto (embedded_of message) ≡ Some proto → between tables Inward proto (embedded_of message) ≡ Some e
    → Goes tables Inward header message (to_server e header message removed)
goes_by tables header message proto e true whole is_proto found = tt
goes_by tables header message proto e false whole is_proto found = record { whole = whole; proto = proto; is_proto = is_proto; connection = e; found = found; made = refl }

goes_method : (tables : Snapshot) (header message : List ℕ) (proto : Proto) (e : Entry) (method : Method) → 8 ≤ length message → embedded_proto (embedded_of message) ≡ Some proto → between tables Inward proto (embedded_of message) ≡ Some e
    → Goes tables Inward header message (inward_by tables.dests e header message method)
goes_method tables header message proto e Masq whole is_proto found = goes_by tables header message proto e (names_removed e.server tables.dests) whole is_proto found
goes_method tables header message proto e Tunnel whole is_proto found = tt
goes_method tables header message proto e Direct whole is_proto found = tt

goes_inward : (tables : Snapshot) (header message : List ℕ) (proto : Proto) (o : Option Entry) → 8 ≤ length message → embedded_proto (embedded_of message) ≡ Some proto → between tables Inward proto (embedded_of message) ≡ o
    → Goes tables Inward header message (inward tables.dests header message o)
goes_inward tables header message proto None whole is_proto found = tt
goes_inward tables header message proto (Some e) whole is_proto found = goes_method tables header message proto e e.method whole is_proto found

goes_outward : (tables : Snapshot) (header message : List ℕ) (proto : Proto) (o : Option Entry) → 8 ≤ length message → embedded_proto (embedded_of message) ≡ Some proto → between tables Outward proto (embedded_of message) ≡ o
    → Goes tables Outward header message (outward header message o)
goes_outward tables header message proto None whole is_proto found = tt
goes_outward tables header message proto (Some e) whole is_proto found = record { whole = whole; proto = proto; is_proto = is_proto; connection = e; found = found; made = refl }

goes_side : (tables : Snapshot) (side : Side) (header message : List ℕ) (proto : Proto) → 8 ≤ length message → embedded_proto (embedded_of message) ≡ Some proto → Goes tables side header message (by_side tables header message proto side)
goes_side tables Inward header message proto whole is_proto = goes_inward tables header message proto (between tables Inward proto (embedded_of message)) whole is_proto refl
goes_side tables Outward header message proto whole is_proto = goes_outward tables header message proto (between tables Outward proto (embedded_of message)) whole is_proto refl

goes_proto : (tables : Snapshot) (side : Side) (header message : List ℕ) (o : Option Proto) → 8 ≤ length message → embedded_proto (embedded_of message) ≡ o → Goes tables side header message (error_answer tables side header message o)
goes_proto tables side header message None whole is_proto = tt
goes_proto tables side header message (Some proto) whole is_proto = goes_side tables side header message proto whole is_proto

-- what passes all tests
goes_tests : (P : IcmpAnswer → Type 0) (m s t : Bool) (a : IcmpAnswer) → P answer.Pass → P answer.BadSum → (m ≡ true → P a) → P (cond (not m) answer.Pass (cond (not s) answer.BadSum (cond (not t) answer.Pass a)))
goes_tests P false s t a pass bad good = pass
goes_tests P true false t a pass bad good = bad
goes_tests P true true false a pass bad good = pass
goes_tests P true true true a pass bad good = good refl

whole_message : (f c : Bool) (n : ℕ) → (not f && c && nat_le 8 n) ≡ true → 8 ≤ n
whole_message true c n is = absurd cc
whole_message false false n is = absurd cc
whole_message false true n is = grind (arith, nat_tests)

goes_message : (tables : Snapshot) (side : Side) (head : Head) (header message : List ℕ) → Goes tables side header message (message_answer tables side head header message)
goes_message tables side head header message =
    goes_tests (Goes tables side header message) (is_message head message) (has_valid_sum message) (is_error_type (type_of message)) (error_answer tables side header message (embedded_proto (embedded_of message))) tt tt
    (λ is. goes_proto tables side header message (embedded_proto (embedded_of message)) (whole_message head.fragment (head.code == 1) (length message) is) refl)

-- THE EMBEDDED PACKET

first_and_fourth : (a b c d e : Bool) → (a && b && c && d && e) ≡ true → (a ≡ true) × (d ≡ true)
first_and_fourth false b c d e is = absurd cc
first_and_fourth true false c d e is = absurd cc
first_and_fourth true true false d e is = absurd cc
first_and_fourth true true true false e is = absurd cc
first_and_fourth true true true true e is = (refl, refl)

at_most : (n m : ℕ) → nat_le n m ≡ true → n ≤ m
at_most n m is = grind (arith, nat_tests)

proto_if : (test : Bool) (o : Option Proto) (proto : Proto) → cond test o None ≡ Some proto → (test ≡ true) × (o ≡ Some proto)
proto_if true o proto is = (refl, is)
proto_if false o proto is = absurd cc

-- its header and its ports are there, and it is of the protocol of its number
record Embedded (packet : List ℕ) (proto : Proto) : Type 0 where
  long : 20 ≤ length packet
  fits : header_len_of packet + 8 ≤ length packet
  code : proto_of_code (code_of packet) ≡ Some proto

embedded_is : (packet : List ℕ) (proto : Proto) → embedded_proto packet ≡ Some proto → Embedded packet proto
embedded_is packet proto is =
    let both = proto_if (has_first_bytes packet) (proto_of_code (code_of packet)) proto is in
    let tests = first_and_fourth (nat_le 20 (length packet)) (version_of packet == 4) (nat_le 20 (header_len_of packet)) (nat_le (header_len_of packet + 8) (length packet)) (fragment_offset packet == 0) both.0 in
    record { long = at_most 20 (length packet) tests.0; fits = at_most (header_len_of packet + 8) (length packet) tests.1; code = both.1 }

-- the embedded packet as it goes on
abbrev embedded_back : Side → Entry → List ℕ → List ℕ
embedded_back Inward e packet = embedded_from e.daddr e.dport packet
embedded_back Outward e packet = embedded_to e.key.vaddr e.key.vport packet

length_put_back : (at place word new : ℕ) (packet : List ℕ) → at ≤ 16 → 20 ≤ length packet → place + 2 ≤ length packet → length (with_address at new (with_word place word packet)) ≡ length packet
length_put_back at place word new packet before long fits =
    let same : length (with_word place word packet) ≡ length packet = length_word place word packet fits in
    length_address at new (with_word place word packet) before (omega arith) ∙ same

length_back : (side : Side) (e : Entry) (packet : List ℕ) (proto : Proto) → Embedded packet proto → length (embedded_back side e packet) ≡ length packet
length_back Inward e packet proto is = length_put_back 12 (header_len_of packet) e.dport e.daddr.number packet (omega arith) is.long (let fits : header_len_of packet + 8 ≤ length packet = is.fits in omega arith)
length_back Outward e packet proto is = length_put_back 16 (header_len_of packet + 2) e.key.vport e.key.vaddr.number packet (omega arith) is.long (let fits : header_len_of packet + 8 ≤ length packet = is.fits in omega arith)

-- CHECKSUMS

-- a header with another address, and the message about another packet as long
record IsJoined (header message : List ℕ) : Type 0 where
  head : IsHead header (length message)
  valid : is_valid_header header ≡ true

joined_right : (header message : List ℕ) → IsJoined header message → fold message ≡ 65535 → IsRight (header ++ message)
joined_right header message j right = record { header = ap is_valid_header (header_joined header message j.head) ∙ j.valid; message = ap fold (payload_joined header message j.head) ∙ right }

as_long : (message embedded : List ℕ) → 8 ≤ length message → length embedded ≡ length (embedded_of message) → length message ≡ length (message_about message embedded)
as_long message embedded whole same = omega (arith, length_about message embedded whole, length-drop 8 message)

joined_at : (at new : ℕ) (header message embedded : List ℕ) → at % 2 ≡ 0 → 12 ≤ at → at ≤ 16 → IsRightHead header (length message) → 8 ≤ length message → length embedded ≡ length (embedded_of message)
    → IsJoined (with_address at new header) (message_about message embedded)
joined_at at new header message embedded even after before h whole same = record {
  head = head_address at new (length message) (length (message_about message embedded)) header after before (as_long message embedded whole same) h.head;
  valid = valid_address at new (length message) header even after before h;
}

-- the address that takes the place of another
abbrev header_to : Side → Entry → List ℕ → List ℕ
header_to Inward e header = with_address 16 e.daddr.number header
header_to Outward e header = with_address 12 e.key.vaddr.number header

joined_side : (side : Side) (e : Entry) (header message : List ℕ) (proto : Proto) → IsRightHead header (length message) → 8 ≤ length message → Embedded (embedded_of message) proto
    → IsJoined (header_to side e header) (message_about message (embedded_back side e (embedded_of message)))
joined_side Inward e header message proto h whole is = joined_at 16 e.daddr.number header message (embedded_back Inward e (embedded_of message)) refl (omega arith) (omega arith) h whole (length_back Inward e (embedded_of message) proto is)
joined_side Outward e header message proto h whole is = joined_at 12 e.key.vaddr.number header message (embedded_back Outward e (embedded_of message)) refl (omega arith) (omega arith) h whole (length_back Outward e (embedded_of message) proto is)

-- the bytes are such a header and such a message
bytes_are : (side : Side) (e : Entry) (header message : List ℕ) → bytes_to side e header message ≡ header_to side e header ++ message_about message (embedded_back side e (embedded_of message))
bytes_are Inward e header message = refl
bytes_are Outward e header message = refl

right_going : (tables : Snapshot) (side : Side) (header message rewritten : List ℕ) → IsRightHead header (length message) → Going tables side header message rewritten → IsRight rewritten
right_going tables side header message rewritten h g =
    let embedded : List ℕ = embedded_back side g.connection (embedded_of message) in
    let joined = joined_side side g.connection header message g.proto h g.whole (embedded_is (embedded_of message) g.proto g.is_proto) in
    subst IsRight (sym (g.made ∙ bytes_are side g.connection header message)) (joined_right (header_to side g.connection header) (message_about message embedded) joined (about_right message embedded g.whole))

embedded_going : (tables : Snapshot) (side : Side) (header message rewritten : List ℕ) → IsRightHead header (length message) → (g : Going tables side header message rewritten) → embedded_in rewritten ≡ embedded_back side g.connection (embedded_of message)
embedded_going tables side header message rewritten h g =
    let embedded : List ℕ = embedded_back side g.connection (embedded_of message) in
    let joined = joined_side side g.connection header message g.proto h g.whole (embedded_is (embedded_of message) g.proto g.is_proto) in
    ap embedded_in (g.made ∙ bytes_are side g.connection header message)
    ∙ ap embedded_of (payload_joined (header_to side g.connection header) (message_about message embedded) joined.head)
    ∙ embedded_about message embedded g.whole

-- THE SENDER'S PACKET

-- masquerade of a packet that was sent, put back
sent_back : (side : Side) (e : Entry) (head : Head) (packet : List ℕ) → IsSent side e head packet → without_sum (embedded_back side e (first_bytes head (masqueraded side e head packet))) ≡ without_sum (first_bytes head packet)
sent_back Inward e head packet sent =
    let s : Seen packet head = seen packet head sent.reading sent.whole sent.ports in
    let m : Masked 12 0 head packet (masqueraded Inward e head packet) = masked_out packet head e.key.vaddr e.key.vport sent.reading sent.whole sent.ports in
    let len : header_len_of (first_bytes head (masqueraded Inward e head packet)) ≡ head.header_len = len_masked 12 0 head packet (masqueraded Inward e head packet) m ∙ s.len in
    put_back 12 0 e.daddr.number (header_len_of (first_bytes head (masqueraded Inward e head packet))) e.dport head packet (masqueraded Inward e head packet) m sent.are_bytes sent.tcp
    (ap (λ (a : Addr). a.number) (sym sent.from.0) ∙ sym s.source) (omega arith) (sym sent.from.1 ∙ sym s.source_port)
sent_back Outward e head packet sent =
    let s : Seen packet head = seen packet head sent.reading sent.whole sent.ports in
    let m : Masked 16 2 head packet (masqueraded Outward e head packet) = masked_in packet head e.daddr e.dport sent.reading sent.whole sent.ports in
    let len : header_len_of (first_bytes head (masqueraded Outward e head packet)) ≡ head.header_len = len_masked 16 2 head packet (masqueraded Outward e head packet) m ∙ s.len in
    put_back 16 2 e.key.vaddr.number (header_len_of (first_bytes head (masqueraded Outward e head packet)) + 2) e.key.vport head packet (masqueraded Outward e head packet) m sent.are_bytes sent.tcp
    (ap (λ (a : Addr). a.number) (sym sent.from.0) ∙ sym s.destination) (omega arith) (sym sent.from.1 ∙ sym s.destination_port)

-- its protocol is TCP
code_back : (side : Side) (e : Entry) (head : Head) (packet : List ℕ) → IsSent side e head packet → code_of (first_bytes head (masqueraded side e head packet)) ≡ 6
code_back Inward e head packet sent =
    let s : Seen packet head = seen packet head sent.reading sent.whole sent.ports in
    code_masked 12 0 head packet (masqueraded Inward e head packet) (masked_out packet head e.key.vaddr e.key.vport sent.reading sent.whole sent.ports) ∙ s.code ∙ sent.tcp
code_back Outward e head packet sent =
    let s : Seen packet head = seen packet head sent.reading sent.whole sent.ports in
    code_masked 16 2 head packet (masqueraded Outward e head packet) (masked_in packet head e.daddr e.dport sent.reading sent.whole sent.ports) ∙ s.code ∙ sent.tcp

tcp_only : (packet : List ℕ) (proto : Proto) → proto_of_code (code_of packet) ≡ Some proto → code_of packet ≡ 6 → proto ≡ Tcp
tcp_only packet proto is six = let tcp : proto_of_code (code_of packet) ≡ Some Tcp = ap proto_of_code six in cc

same_connection : (tables : Snapshot) (side : Side) (packet : List ℕ) (e : Entry) → connection_of tables side packet ≡ Some e → between tables side Tcp packet ≡ Some e
same_connection tables Inward packet e found = found
same_connection tables Outward packet e found = found

same_entry : (a b : Entry) → Some a ≡ Some b → a ≡ b
same_entry a b is = cc

recognised_going : (tables : Snapshot) (side : Side) (bytes header message rewritten : List ℕ) → payload_of bytes ≡ message → IsRightHead header (length message) → Going tables side header message rewritten → IsRecognised tables side bytes rewritten
recognised_going tables side bytes header message rewritten payload h g = λ e head packet found sent about.
    let embedded : List ℕ = embedded_of message in
    let here : embedded_in bytes ≡ embedded = ap embedded_of payload in
    let masked : List ℕ = first_bytes head (masqueraded side e head packet) in
    let is_masked : embedded ≡ masked = sym here ∙ about in
    let tcp : g.proto ≡ Tcp = tcp_only embedded g.proto (embedded_is embedded g.proto g.is_proto).code (ap code_of is_masked ∙ code_back side e head packet sent) in
    let own = subst (λ (p : Proto). between tables side p embedded ≡ Some g.connection) tcp g.found in
    let named = subst (λ (p : List ℕ). between tables side Tcp p ≡ Some e) here (same_connection tables side (embedded_in bytes) e found) in
    let same : g.connection ≡ e = same_entry g.connection e (sym own ∙ named) in
    ap without_sum (embedded_going tables side header message rewritten h g)
    ∙ ap (λ (x : Entry). without_sum (embedded_back side x embedded)) same
    ∙ ap (λ (p : List ℕ). without_sum (embedded_back side e p)) is_masked
    ∙ sent_back side e head packet sent

-- AN ANSWER

if_some : (o : Option (List ℕ)) (P Q : List ℕ → Type 0) → ((x : List ℕ) → P x → Q x) → IfSome o P → IfSome o Q
if_some None P Q more is = tt
if_some (Some x) P Q more is = more x is

read_right : (tables : Snapshot) (side : Side) (bytes : List ℕ) (r : Result Head Malformed) → AreBytes bytes → read bytes ≡ r → IfSome (rewritten_of (read_answer tables side bytes r)) (λ (rewritten : List ℕ). IsRight rewritten)
read_right tables side bytes (Err why) are is = tt
read_right tables side bytes (Ok head) are is =
    let header : List ℕ = take head.header_len bytes in
    let message : List ℕ = drop head.header_len (take head.total bytes) in
    if_some (rewritten_of (message_answer tables side head header message)) (Going tables side header message) IsRight (λ rewritten g. right_going tables side header message rewritten (right_of bytes head is are) g) (goes_message tables side head header message)

read_recognised : (tables : Snapshot) (side : Side) (bytes : List ℕ) (r : Result Head Malformed) → AreBytes bytes → read bytes ≡ r → IfSome (rewritten_of (read_answer tables side bytes r)) (λ (rewritten : List ℕ). IsRecognised tables side bytes rewritten)
read_recognised tables side bytes (Err why) are is = tt
read_recognised tables side bytes (Ok head) are is =
    let header : List ℕ = take head.header_len bytes in
    let message : List ℕ = drop head.header_len (take head.total bytes) in
    if_some (rewritten_of (message_answer tables side head header message)) (Going tables side header message) (IsRecognised tables side bytes) (λ rewritten g. recognised_going tables side bytes header message rewritten (payload_is bytes head is) (right_of bytes head is are) g) (goes_message tables side head header message)

-- whatever goes on has right checksums
pub answer_right : (tables : Snapshot) (side : Side) (bytes : List ℕ) → AreBytes bytes → IfSome (rewritten_of (icmp_answer tables side bytes)) (λ (rewritten : List ℕ). IsRight rewritten)
answer_right tables side bytes are = read_right tables side bytes (read bytes) are refl

-- and its receiver finds its own packet in it
pub answer_recognised : (tables : Snapshot) (side : Side) (bytes : List ℕ) → AreBytes bytes → IfSome (rewritten_of (icmp_answer tables side bytes)) (λ (rewritten : List ℕ). IsRecognised tables side bytes rewritten)
answer_recognised tables side bytes are = read_recognised tables side bytes (read bytes) are refl
