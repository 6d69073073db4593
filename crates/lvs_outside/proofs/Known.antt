-- One call after another, on known bytes.
use Rattle.std.proofs.Common.{◌≡◌, ℕ, ◌+◌, ◌≤◌, List, ◌++◌, length, take, drop, Option, Some, None, sym, ◌∙◌, ap, append_assoc, length-append, length-take, arith}
use Rattle.std.proofs.Math.Seq.{take-add}
use Rattle.std.specs.Io.KnownBytes.{Appends, Consumes, Keeps}

pub appends_more : (old mid new : Option (List ℕ)) (a b : List ℕ) → Appends old mid a → Appends mid new b → Appends old new (a ++ b)
appends_more None mid new a b first then = tt
appends_more (Some xs) None new a b first then = absurd first
appends_more (Some xs) (Some ys) None a b first then = then
appends_more (Some xs) (Some ys) (Some zs) a b first then = then ∙ ap (λ (l : List ℕ). l ++ b) first ∙ append_assoc xs a b

-- a write of n bytes goes on where the prefix of at bytes ends
pub appends_take : (old mid new : Option (List ℕ)) (bytes : List ℕ) (at n : ℕ) → Appends old mid (take at bytes) → Appends mid new (take n (drop at bytes)) → Appends old new (take (at + n) bytes)
appends_take old mid new bytes at n first then = rw take-add (appends_more old mid new (take at bytes) (take n (drop at bytes)) first then)

pub appends_kept : (old mid new : Option (List ℕ)) (a : List ℕ) → Appends old mid a → Keeps mid new → Appends old new a
appends_kept None mid new a first then = tt
appends_kept (Some xs) None new a first then = absurd first
appends_kept (Some xs) (Some ys) None a first then = then
appends_kept (Some xs) (Some ys) (Some zs) a first then = then ∙ first

pub consumes_more : (old mid new : Option (List ℕ)) (a b : List ℕ) → Consumes old mid a → Consumes mid new b → Consumes old new (a ++ b)
consumes_more None mid new a b first then = tt
consumes_more (Some xs) None new a b first then = absurd first
consumes_more (Some xs) (Some ys) None a b first then = then
consumes_more (Some xs) (Some ys) (Some zs) a b first then = first ∙ ap (λ (l : List ℕ). a ++ l) then ∙ sym (append_assoc a b zs)

-- a read of n bytes more, with the length of all
pub consumes_read : (old mid new : Option (List ℕ)) (a buf : List ℕ) (n : ℕ) → Consumes old mid a → Consumes mid new (take n buf) → n ≤ length buf → (x : List ℕ) × (length x ≡ length a + n) × Consumes old new x
consumes_read old mid new a buf n first then fits =
    (a ++ take n buf, omega (arith, length-append a (take n buf), length-take n buf), consumes_more old mid new a (take n buf) first then)
