-- Masquerade keeps the checksums right, in both directions.
use Rattle.std.proofs.Common.{◌≡◌, ◌≢◌, ℕ, ◌+◌, true, false, ◌==◌, List, length, Ok, sym, ap, subst, arith, ◌∙◌}
use Rattle.lvs_types.specs.declared.addr.Addr.{Addr}
use Rattle.lvs_types.specs.declared.head.Head.{Head}
use Rattle.lvs_sum.proofs.Keeping.{AreBytes}
use Rattle.lvs_model.specs.Fields.{word_at}
use Rattle.lvs_model.specs.Reading.{read}
use Rattle.lvs_model.specs.Rewriting.{has_ports, masq_in_bytes, masq_out_bytes, with_word, with_number, with_header_sum, with_part_sum}
use Rattle.lvs_rewrite.specs.Validity.{has_valid_header, has_valid_part, udp_field}
use Rattle.lvs_rewrite.proofs.Reading.{Seen, room, seen}
use Rattle.lvs_rewrite.proofs.Packets.{Rewriting, rewritten, check_at, check_of, places_of, header_valid, part_valid_in, part_valid_out, field_none, field_some}

-- what a rewriting keeps of the checksums
pub record Kept (head : Head) (bytes now : List ℕ) : Type 0 where
  pub header : has_valid_header now ≡ true
  pub tcp : head.code ≡ 6 → has_valid_part bytes ≡ true → has_valid_part now ≡ true
  pub udp : head.code ≡ 17 → udp_field bytes ≢ 0 → has_valid_part bytes ≡ true → has_valid_part now ≡ true
  pub unsummed : head.code ≡ 17 → udp_field bytes ≡ 0 → udp_field now ≡ 0
  pub summed : head.code ≡ 17 → udp_field bytes ≢ 0 → udp_field now ≢ 0

is_udp : (code : ℕ) → code ≡ 17 → (code == 6) ≡ false
is_udp code is = ap (λ (n : ℕ). n == 6) is

is_tcp : (code : ℕ) → code ≡ 6 → (code == 6) ≡ false → ⊥
is_tcp code is other = let here : (code == 6) ≡ true = ap (λ (n : ℕ). n == 6) is in cc

-- the checksum field of UDP stands at 6
udp_here : (head : Head) (old : Addr) (old_port address port : ℕ) (bytes : List ℕ) → Rewriting bytes head old old_port address port → head.code ≡ 17 → udp_field bytes ≡ word_at bytes (head.header_len + check_of head)
udp_here head old old_port address port bytes r is =
    let place : check_of head ≡ 6 = ap (λ (n : ℕ). check_at (n == 6)) is in
    ap (λ (n : ℕ). word_at bytes (n + 6)) r.seen.len ∙ ap (λ (n : ℕ). word_at bytes (head.header_len + n)) (sym place)

kept_rewriting_in : (head : Head) (old new : Addr) (old_port new_port port : ℕ) (bytes : List ℕ) → Rewriting bytes head old old_port 16 port → Kept head bytes (rewritten head old new old_port new_port 16 port bytes)
kept_rewriting_in head old new old_port new_port port bytes r = record {
  header = header_valid head old new old_port new_port 16 port bytes r;
  tcp = (λ is. part_valid_in head old new old_port new_port port bytes r (λ other. absurd (is_tcp head.code is other)));
  udp = (λ is some. part_valid_in head old new old_port new_port port bytes r (λ _ none. some (udp_here head old old_port 16 port bytes r is ∙ none)));
  unsummed = (λ is. field_none head old new old_port new_port 16 port bytes r (is_udp head.code is));
  summed = (λ is. field_some head old new old_port new_port 16 port bytes r (is_udp head.code is));
}

kept_rewriting_out : (head : Head) (old new : Addr) (old_port new_port port : ℕ) (bytes : List ℕ) → Rewriting bytes head old old_port 12 port → Kept head bytes (rewritten head old new old_port new_port 12 port bytes)
kept_rewriting_out head old new old_port new_port port bytes r = record {
  header = header_valid head old new old_port new_port 12 port bytes r;
  tcp = (λ is. part_valid_out head old new old_port new_port port bytes r (λ other. absurd (is_tcp head.code is other)));
  udp = (λ is some. part_valid_out head old new old_port new_port port bytes r (λ _ none. some (udp_here head old old_port 12 port bytes r is ∙ none)));
  unsummed = (λ is. field_none head old new old_port new_port 12 port bytes r (is_udp head.code is));
  summed = (λ is. field_some head old new old_port new_port 12 port bytes r (is_udp head.code is));
}

pub kept_in : (bytes : List ℕ) (head : Head) (daddr : Addr) (dport : ℕ) (now : List ℕ) → read bytes ≡ Ok head → head.total ≡ length bytes → has_ports head ≡ true → AreBytes bytes
    → now ≡ masq_in_bytes head bytes daddr dport → Kept head bytes now
kept_in bytes head daddr dport now is whole ports are same =
    let s : Seen bytes head = seen bytes head is whole ports in
    let r : Rewriting bytes head head.dst head.dport 16 2 = record {
      seen = s;
      places = places_of bytes head 16 2 s (room bytes head is whole ports) (omega arith) (omega arith) (omega arith) (omega arith) (omega arith);
      are = are;
      old_here = s.destination;
      port_here = s.destination_port;
    } in
    subst (λ (l : List ℕ). Kept head bytes l) (sym same) (kept_rewriting_in head head.dst daddr head.dport dport 2 bytes r)

pub kept_out : (bytes : List ℕ) (head : Head) (vaddr : Addr) (vport : ℕ) (now : List ℕ) → read bytes ≡ Ok head → head.total ≡ length bytes → has_ports head ≡ true → AreBytes bytes
    → now ≡ masq_out_bytes head bytes vaddr vport → Kept head bytes now
kept_out bytes head vaddr vport now is whole ports are same =
    let s : Seen bytes head = seen bytes head is whole ports in
    let r : Rewriting bytes head head.src head.sport 12 0 = record {
      seen = s;
      places = places_of bytes head 12 0 s (room bytes head is whole ports) (omega arith) (omega arith) (omega arith) (omega arith) (omega arith);
      are = are;
      old_here = s.source;
      port_here = s.source_port;
    } in
    let place : head.header_len + 0 ≡ head.header_len = omega arith in
    let here : rewritten head head.src vaddr head.sport vport 12 0 bytes ≡ masq_out_bytes head bytes vaddr vport =
    ap (λ (n : ℕ). with_part_sum head head.src vaddr head.sport vport (with_header_sum head.src vaddr (with_word n vport (with_number 12 vaddr.number bytes)))) place in
    subst (λ (l : List ℕ). Kept head bytes l) (here ∙ sym same) (kept_rewriting_out head head.src vaddr head.sport vport 0 bytes r)
