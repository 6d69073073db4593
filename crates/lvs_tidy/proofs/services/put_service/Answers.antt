use Rattle.std.proofs.Common.{◌++◌, List, [], ◌∷◌, ℕ, ap, ◌∙◌, append_assoc}
use Rattle.std.specs.Prelude.{codes}
use Rattle.lvs_types.specs.Schedulers.{scheduler_name}
use Rattle.lvs_tidy.specs.CommandWords.{key_option, key_value, persist_words, mask_words, one_packet_words}
use Rattle.lvs_tidy.specs.ScriptTexts.{spaced}
use Rattle.lvs_tidy.proofs.Spaces.{spaced_more, on_ok}
use Rattle.lvs_tidy.proofs.services.put_service.Goals as goal

pub returns : goal.returns
returns c =
    let s = c.args.service.now in
    let out = c.args.out.now.items in
    let key = key_option s.key ∷ key_value s.key ∷ [] in
    let front = key_option s.key ∷ key_value s.key ∷ codes "-s" ∷ scheduler_name s.scheduler ∷ [] in
    let name = c.in_ok-put_word-2.ensures ∙ ap (λ (word : List ℕ). c.put_word.new.out.items ++ spaced (word ∷ [])) c.name.ensures in
    let asked = spaced_more out c.put_key.new.out.items c.put_word.new.out.items key (codes "-s" ∷ []) c.in_ok-put_key.ensures c.in_ok-put_word.ensures in
    let named = spaced_more out c.put_word.new.out.items c.put_word-2.new.out.items (key_option s.key ∷ key_value s.key ∷ codes "-s" ∷ []) (scheduler_name s.scheduler ∷ []) asked name in
    let lasting = spaced_more out c.put_word-2.new.out.items c.put_persist.new.out.items front (persist_words s.persist) named c.in_ok-put_persist.ensures in
    let masked = spaced_more out c.put_persist.new.out.items c.put_mask.new.out.items (front ++ persist_words s.persist) (mask_words s.mask_bits) lasting c.in_ok-put_mask.ensures in
    on_ok c.put_one_packet.result
    (λ last.
    spaced_more out c.put_mask.new.out.items c.put_one_packet.new.out.items (front ++ persist_words s.persist ++ mask_words s.mask_bits) (one_packet_words s.one_packet) masked last
    ∙ ap (λ (tail : List (List ℕ)). out ++ spaced (key_option s.key ∷ key_value s.key ∷ codes "-s" ∷ scheduler_name s.scheduler ∷ tail)) (append_assoc (persist_words s.persist) (mask_words s.mask_bits) (one_packet_words s.one_packet)))
    c.put_one_packet.ensures
