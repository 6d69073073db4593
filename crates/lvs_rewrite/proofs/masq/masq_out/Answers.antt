use Rattle.std.proofs.Common.{◌≡◌, ◌+◌, ◌≤◌, length, arith, rules}
use Rattle.lvs_sum.proofs.Keeping.{AreBytes}
use Rattle.lvs_model.specs.Rewriting.{checksum_place, masq_out_bytes}
use Rattle.lvs_rewrite.proofs.Reading.{room}
use Rattle.lvs_rewrite.proofs.Masquerade.{kept_out}
use Rattle.lvs_rewrite.proofs.masq.masq_out.Goals as goal

pub put_word-requires : goal.put_word-requires
put_word-requires c =
    let t : (20 ≤ c.args.head.now.header_len) × (checksum_place c.args.head.now + 2 ≤ length c.args.bytes.now) × (c.args.head.now.header_len + 8 ≤ length c.args.bytes.now) = room c.args.bytes.now c.args.head.now c.requires.read c.requires.whole c.requires.ports in
    omega arith

pub update_part_sum-requires : goal.update_part_sum-requires
update_part_sum-requires c =
    let t : (20 ≤ c.args.head.now.header_len) × (checksum_place c.args.head.now + 2 ≤ length c.args.bytes.now) × (c.args.head.now.header_len + 8 ≤ length c.args.bytes.now) = room c.args.bytes.now c.args.head.now c.requires.read c.requires.whole c.requires.ports in
    omega arith

-- the checksums stay right
pub returns : goal.returns
returns c =
    let are : AreBytes c.args.bytes.now = (λ k. search rules) in
    let first : c.args.head.now.header_len + 0 ≡ c.args.head.now.header_len = omega arith in
    let now : c.update_part_sum.new.bytes ≡ masq_out_bytes c.args.head.now c.args.bytes.now c.args.vaddr c.args.vport = search (rules, first) in
    let kept = kept_out c.args.bytes.now c.args.head.now c.args.vaddr c.args.vport c.update_part_sum.new.bytes c.requires.read c.requires.whole c.requires.ports are now in
    record { bytes = now; header = kept.header; tcp = kept.tcp; udp = kept.udp; unsummed = kept.unsummed; summed = kept.summed }
