-- One book more in a count over books.
use Rattle.std.proofs.Common.{◌≡◌, ◌∙◌, ℕ, ◌+◌, ◌<◌, Bool, List, ◌∷◌, length, drop, count_by, arith, sym, ap, subst}
use Rattle.std.proofs.lemmas.List.{drop_more}
use Rattle.std.proofs.Math.ListN.{get_or}
use Rattle.lvs_types.specs.declared.book.Noted.{Noted}
use Rattle.lvs_types.specs.declared.book.RoundBook.{RoundBook}
use Rattle.lvs_model.specs.Summaries.{count_acts}

moved : (c a r m all : ℕ) → c + (a + r) ≡ all → m ≡ c + a → m + r ≡ all
moved c a r m all is more = omega (arith, is, more)

-- what was counted and what is still to come, behind one book more
pub one_more : (passes : Noted → Bool) (books : List RoundBook) (i : ℕ) (book : RoundBook) (count more all : ℕ) → i < length books
    → book ≡ get_or books i book
    → count + count_acts passes (drop i books) ≡ all
    → more ≡ count + count_by passes book.acts
    → more + count_acts passes (drop (i + 1) books) ≡ all
one_more passes books i book count more all within is so_far sum =
    let there : drop i books ≡ book ∷ drop (i + 1) books = drop_more books i book within ∙ ap (λ (b : RoundBook). b ∷ drop (i + 1) books) (sym is) in
    moved count (count_by passes book.acts) (count_acts passes (drop (i + 1) books)) more all (subst (λ (rest : List RoundBook). count + count_acts passes rest ≡ all) there so_far) sum
