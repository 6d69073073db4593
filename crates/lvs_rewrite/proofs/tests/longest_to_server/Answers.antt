use Rattle.std.proofs.Common.{◌≡◌, ◌∙◌, ℕ, true, false, not, ◌&&◌, ◌||◌, ◌==◌, nat_lt, List, ◌∷◌, length, take, Result, Ok, ap, arith, rules}
use Rattle.lvs_types.specs.declared.head.Head.{Head}
use Rattle.lvs_types.specs.declared.head.Malformed.{Malformed}
use Rattle.lvs_sum.specs.Sums.{is_valid_header}
use Rattle.lvs_model.specs.Reading.{read, head_of, version_of, header_len_of, total_of, is_tcp, is_udp, is_tcp_short, is_udp_short}
use Rattle.lvs_rewrite.proofs.Reading.{chain}
use Rattle.lvs_rewrite.proofs.tests.longest_to_server.Goals as goal

abbrev headers : List ℕ → List ℕ
headers payload = 69 ∷ 0 ∷ 255 ∷ 255 ∷ 0 ∷ 1 ∷ 64 ∷ 0 ∷ 64 ∷ 17 ∷ 132 ∷ 210 ∷ 172 ∷ 16 ∷ 0 ∷ 9 ∷ 10 ∷ 0 ∷ 0 ∷ 1 ∷ 20 ∷ 233 ∷ 0 ∷ 53 ∷ 255 ∷ 235 ∷ 52 ∷ 222 ∷ payload

-- the reading, with the length apart
abbrev read_of : ℕ → List ℕ → Result Head Malformed
read_of size bytes = chain (nat_lt size 20) (not (version_of bytes == 4)) (nat_lt (header_len_of bytes) 20 || nat_lt size (header_len_of bytes)) (nat_lt (total_of bytes) (header_len_of bytes) || nat_lt size (total_of bytes))
    (not (is_valid_header (take (header_len_of bytes) bytes))) ((is_tcp bytes && is_tcp_short bytes) || (is_udp bytes && is_udp_short bytes)) (head_of bytes)

read_longest : (payload : List ℕ) → length payload ≡ 65507 → read (headers payload) ≡ Ok (record { header_len = 20; total = 65535; code = 17; tos = 0; id = 1; dont_fragment = true; fragment = false; ttl = 64; src = record { number = 2886729737 }; dst = record { number = 167772161 }; sport = 5353; dport = 53; syn = false; ack = false; fin = false; rst = false })
read_longest payload size =
    let whole : length (headers payload) ≡ 65535 = omega (arith, size) in
    ap (λ (n : ℕ). read_of n (headers payload)) whole

pub masq_in-requires-clause-read : goal.masq_in-requires-clause-read
masq_in-requires-clause-read c =
    let bytes : c.deref_mut.result.now ≡ headers c.args.payload.now = search rules in
    ap read bytes ∙ read_longest c.args.payload.now c.requires
