use Rattle.std.proofs.Common.{[], ◌∷◌}
use Rattle.std.specs.Prelude.{codes}
use Rattle.lvs_model.specs.Listings.{endpoint_text}
use Rattle.lvs_tidy.specs.CommandWords.{key_option, key_value}
use Rattle.lvs_tidy.proofs.Spaces.{spaced_more, on_ok}
use Rattle.lvs_tidy.proofs.commands.put_removal.Goals as goal

pub returns : goal.returns
returns c =
    let out = c.args.out.now.items in
    let key = key_option c.args.key ∷ key_value c.args.key ∷ [] in
    let keyed = spaced_more out c.put_word.new.out.items c.put_key.new.out.items (codes "-d" ∷ []) key c.in_ok-put_word.ensures c.in_ok-put_key.ensures in
    let named = spaced_more out c.put_key.new.out.items c.put_word-2.new.out.items (codes "-d" ∷ key) (codes "-r" ∷ []) keyed c.in_ok-put_word-2.ensures in
    on_ok c.put_endpoint_word.result (λ last. spaced_more out c.put_word-2.new.out.items c.put_endpoint_word.new.out.items (codes "-d" ∷ key_option c.args.key ∷ key_value c.args.key ∷ codes "-r" ∷ []) (endpoint_text c.args.addr c.args.port ∷ []) named last) c.put_endpoint_word.ensures
