-- The first bytes of what masquerade makes of a packet, and those of the packet.
use Rattle.std.proofs.Common.{◌≡◌, ℕ, ◌+◌, ◌*◌, ◌%◌, ◌<◌, ◌≤◌, true, ◌==◌, List, length, get_or, Ok, sym, ap, ◌∙◌, arith}
use Rattle.std.proofs.lemmas.List.{get_or-take}
use Rattle.lvs_types.specs.declared.addr.Addr.{Addr}
use Rattle.lvs_types.specs.declared.head.Head.{Head}
use Rattle.lvs_sum.proofs.Keeping.{AreBytes}
use Rattle.lvs_model.specs.Fields.{word_at, number_at}
use Rattle.lvs_model.specs.Reading.{read, header_len_of, code_of}
use Rattle.lvs_model.specs.Rewriting.{has_ports, with_word, with_number, with_header_sum, with_part_sum, masq_in_bytes, masq_out_bytes}
use Rattle.lvs_rewrite.proofs.Changes.{Places, changed, stays}
use Rattle.lvs_rewrite.proofs.Reading.{Seen, room, seen}
use Rattle.lvs_rewrite.proofs.Packets.{rewritten, check_at, check_of, places_of, as_changed, header_sum_of, part_sum_of}
use Rattle.lvs_icmp.specs.Recognised.{without_sum, first_bytes}
use Rattle.lvs_icmp.proofs.Headers.{with_address}
use Rattle.lvs_icmp.proofs.Restored.{restored}

-- a packet with an address, a port and two sums replaced
pub record Masked (at port : ℕ) (head : Head) (packet masked : List ℕ) : Type 0 where
  pub number : ℕ
  pub new_port : ℕ
  pub header_sum : ℕ
  pub part_sum : ℕ
  pub same : masked ≡ changed head.header_len at port (check_of head) number new_port header_sum part_sum packet
  pub places : Places (length packet) head.header_len at port (check_of head)

pub masked_in : (packet : List ℕ) (head : Head) (daddr : Addr) (dport : ℕ) → read packet ≡ Ok head → head.total ≡ length packet → has_ports head ≡ true → Masked 16 2 head packet (masq_in_bytes head packet daddr dport)
masked_in packet head daddr dport is whole ports =
    let s : Seen packet head = seen packet head is whole ports in
    let places : Places (length packet) head.header_len 16 2 (check_of head) = places_of packet head 16 2 s (room packet head is whole ports) (omega arith) (omega arith) (omega arith) (omega arith) (omega arith) in
    record {
      number = daddr.number;
      new_port = dport;
      header_sum = header_sum_of head.dst daddr packet;
      part_sum = part_sum_of head head.dst daddr head.dport dport packet;
      same = as_changed head head.dst daddr head.dport dport 16 2 packet places;
      places = places;
    }

pub masked_out : (packet : List ℕ) (head : Head) (vaddr : Addr) (vport : ℕ) → read packet ≡ Ok head → head.total ≡ length packet → has_ports head ≡ true → Masked 12 0 head packet (masq_out_bytes head packet vaddr vport)
masked_out packet head vaddr vport is whole ports =
    let s : Seen packet head = seen packet head is whole ports in
    let places : Places (length packet) head.header_len 12 0 (check_of head) = places_of packet head 12 0 s (room packet head is whole ports) (omega arith) (omega arith) (omega arith) (omega arith) (omega arith) in
    let place : head.header_len + 0 ≡ head.header_len = omega arith in
    let here : rewritten head head.src vaddr head.sport vport 12 0 packet ≡ masq_out_bytes head packet vaddr vport =
    ap (λ (n : ℕ). with_part_sum head head.src vaddr head.sport vport (with_header_sum head.src vaddr (with_word n vport (with_number 12 vaddr.number packet)))) place in
    record {
      number = vaddr.number;
      new_port = vport;
      header_sum = header_sum_of head.src vaddr packet;
      part_sum = part_sum_of head head.src vaddr head.sport vport packet;
      same = sym here ∙ as_changed head head.src vaddr head.sport vport 12 0 packet places;
      places = places;
    }

-- the bytes before the header's checksum stay
byte_masked : (at port : ℕ) (head : Head) (packet masked : List ℕ) (i : ℕ) → Masked at port head packet masked → i < 10 → get_or (first_bytes head masked) i 0 ≡ get_or packet i 0
byte_masked at port head packet masked i m small =
    let places : Places (length packet) head.header_len at port (check_of head) = m.places in
    let long : 20 ≤ head.header_len = places.long in
    let after : 12 ≤ at = places.after in
    get_or-take (head.header_len + 8) masked i 0 (omega arith)
    ∙ ap (λ (bytes : List ℕ). get_or bytes i 0) m.same
    ∙ stays head.header_len at port (check_of head) m.number m.new_port m.header_sum m.part_sum packet places i (λ h. omega arith) (λ h. omega arith) (λ h. omega arith) (λ h. omega arith)

pub len_masked : (at port : ℕ) (head : Head) (packet masked : List ℕ) → Masked at port head packet masked → header_len_of (first_bytes head masked) ≡ header_len_of packet
len_masked at port head packet masked m = ap (λ (n : ℕ). 4 * (n % 16)) (byte_masked at port head packet masked 0 m (omega arith))

pub code_masked : (at port : ℕ) (head : Head) (packet masked : List ℕ) → Masked at port head packet masked → code_of (first_bytes head masked) ≡ code_of packet
code_masked at port head packet masked m = byte_masked at port head packet masked 9 m (omega arith)

same_four : (f : ℕ → ℕ → ℕ → List ℕ → List ℕ) (a a' b b' c c' : ℕ) (x x' : List ℕ) → a ≡ a' → b ≡ b' → c ≡ c' → x ≡ x' → f a b c x ≡ f a' b' c' x'
same_four f a a' b b' c c' x x' first second third fourth =
    ap (λ (n : ℕ). f n b c x) first ∙ ap (λ (n : ℕ). f a' n c x) second ∙ ap (λ (n : ℕ). f a' b' n x) third ∙ ap (λ (l : List ℕ). f a' b' c' l) fourth

-- the address and the port put back at their places give the first bytes of the packet
pub put_back : (at port number place word : ℕ) (head : Head) (packet masked : List ℕ) → Masked at port head packet masked → AreBytes packet → head.code ≡ 6
    → number ≡ number_at packet at → place ≡ head.header_len + port → word ≡ word_at packet (head.header_len + port)
    → without_sum (with_address at number (with_word place word (first_bytes head masked))) ≡ without_sum (first_bytes head packet)
put_back at port number place word head packet masked m are tcp is_number is_place is_word =
    let later : check_of head ≡ 16 = ap (λ (n : ℕ). check_at (n == 6)) tcp in
    same_four (λ n p w x. without_sum (with_address at n (with_word p w x))) number (number_at packet at) place (head.header_len + port) word (word_at packet (head.header_len + port)) (first_bytes head masked) (first_bytes head (changed head.header_len at port (check_of head) m.number m.new_port m.header_sum m.part_sum packet))
    is_number is_place is_word (ap (first_bytes head) m.same)
    ∙ restored head.header_len at port (check_of head) m.number m.new_port m.header_sum m.part_sum packet m.places (omega arith) are
