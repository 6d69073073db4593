use Rattle.std.proofs.Common.{◌≡◌, rules}
use Rattle.lvs_icmp.proofs.Headers.{header_whole}
use Rattle.lvs_icmp.proofs.errors.answer_to.Goals as goal

-- the IP header is within the bytes
pub slice_bounds-parts-end : goal.slice_bounds-parts-end
slice_bounds-parts-end c =
    let is : c.from.result ≡ c.in-Ok.packet.head.header_len = search rules in
    (header_whole c.args.bytes.now c.in-Ok.packet.head c.from.result c.in-Ok.ensures.reading is).0

pub message_answer-requires : goal.message_answer-requires
message_answer-requires c =
    let is : c.from.result ≡ c.in-Ok.packet.head.header_len = search rules in
    (header_whole c.args.bytes.now c.in-Ok.packet.head c.from.result c.in-Ok.ensures.reading is).1
