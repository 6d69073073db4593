-- Messages that are sent one after the other.
use Rattle.std.proofs.Common.{◌≡◌, ℕ, suc, ◌<◌, ◌+◌, ◌-◌, append_assoc, arith, get_or, List, [], ◌∷◌, ◌++◌, length, drop, replicate, slice_index, sym, refl, ap, ◌∙◌, drop-cons}
use Rattle.std.proofs.lemmas.List.{replicate-append-replicate}
use Rattle.lvs_model.specs.Pairs.{delivered, later_counts}
use Rattle.lvs_pair.specs.Pairing.{IsStartOf}
use Rattle.lvs_pair.proofs.Answers.{start_then}

-- where one of the messages was handed in as far as it went, some of all were
pub start_at : (part cur : List (List ℕ)) (messages : List (List ℕ)) (i : ℕ) (x d : List ℕ) (counts : List ℕ) (whole : List (List ℕ)) → i < length messages → x ≡ get_or messages i d
    → IsStartOf part (cur ++ replicate (slice_index counts 0) x) → cur ++ delivered (drop i messages) counts ≡ whole → IsStartOf part whole
start_at part cur messages i x d counts whole there is start all =
    let next : drop i messages ≡ x ∷ drop (suc i) messages = drop-cons messages i d there ∙ ap (λ y. y ∷ drop (suc i) messages) (sym is) in
    start_then part cur (replicate (slice_index counts 0) x) (delivered (drop (suc i) messages) (later_counts counts)) whole start (ap (λ l. cur ++ delivered l counts) (sym next) ∙ all)

-- fewer copies start more
pub copies_start : (part base : List (List ℕ)) (i n : ℕ) (x : List ℕ) → i < n → part ≡ base ++ replicate i x → IsStartOf part (base ++ replicate n x)
copies_start part base i n x fewer is = let count : i + (n - i) ≡ n = omega arith in
    (replicate (n - i) x, ap (λ l. l ++ replicate (n - i) x) is ∙ append_assoc base (replicate i x) (replicate (n - i) x) ∙ ap (λ l. base ++ l) (replicate-append-replicate i (n - i) x ∙ ap (λ m. replicate m x) count))
