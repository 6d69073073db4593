use Rattle.std.proofs.Common.{◌++◌, List, [], ◌∷◌, ℕ, ap, ◌∙◌}
use Rattle.std.specs.Prelude.{codes, decimal}
use Rattle.lvs_model.specs.Listings.{endpoint_text, method_word}
use Rattle.lvs_tidy.specs.CommandWords.{key_option, key_value, threshold_words}
use Rattle.lvs_tidy.specs.ScriptTexts.{spaced}
use Rattle.lvs_tidy.proofs.Spaces.{spaced_more, on_ok}
use Rattle.lvs_tidy.proofs.services.put_server.Goals as goal

pub returns : goal.returns
returns c =
    let d = c.args.server.now in
    let key = c.args.key in
    let out = c.args.out.now.items in
    let place = endpoint_text d.addr d.port in
    let method = c.in_ok-put_word-2.ensures ∙ ap (λ (word : List ℕ). c.put_endpoint_word.new.out.items ++ spaced (word ∷ [])) c.method_word.ensures in
    let asked = spaced_more out c.put_key.new.out.items c.put_word.new.out.items (key_option key ∷ key_value key ∷ []) (codes "-r" ∷ []) c.in_ok-put_key.ensures c.in_ok-put_word.ensures in
    let stands = spaced_more out c.put_word.new.out.items c.put_endpoint_word.new.out.items (key_option key ∷ key_value key ∷ codes "-r" ∷ []) (place ∷ []) asked c.in_ok-put_endpoint_word.ensures in
    let forwards = spaced_more out c.put_endpoint_word.new.out.items c.put_word-2.new.out.items (key_option key ∷ key_value key ∷ codes "-r" ∷ place ∷ []) (method_word d.method ∷ []) stands method in
    let weighs = spaced_more out c.put_word-2.new.out.items c.put_word-3.new.out.items (key_option key ∷ key_value key ∷ codes "-r" ∷ place ∷ method_word d.method ∷ []) (codes "-w" ∷ []) forwards c.in_ok-put_word-3.ensures in
    let front = key_option key ∷ key_value key ∷ codes "-r" ∷ place ∷ method_word d.method ∷ codes "-w" ∷ decimal d.weight ∷ [] in
    let weighed = spaced_more out c.put_word-3.new.out.items c.put_number_word.new.out.items (key_option key ∷ key_value key ∷ codes "-r" ∷ place ∷ method_word d.method ∷ codes "-w" ∷ []) (decimal d.weight ∷ []) weighs (c.in_ok-put_number_word.ensures ∙ ap (λ (n : ℕ). c.put_word-3.new.out.items ++ spaced (decimal n ∷ [])) c.from.ensures) in
    let bounded = spaced_more out c.put_number_word.new.out.items c.put_threshold.new.out.items front (threshold_words (codes "-x") d.upper) weighed c.in_ok-put_threshold.ensures in
    on_ok c.put_threshold-2.result (λ last. spaced_more out c.put_threshold.new.out.items c.put_threshold-2.new.out.items (front ++ threshold_words (codes "-x") d.upper) (threshold_words (codes "-y") d.lower) bounded last) c.put_threshold-2.ensures
