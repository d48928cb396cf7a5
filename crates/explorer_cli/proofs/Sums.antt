-- Sums over the front of a list, one element more.
use Rattle.std.proofs.Common.{◌≡◌, ◌<◌, ◌+◌, ◌∙◌, ◌++◌, ℕ, List, [], ◌∷◌, length, take, get_or, sum_by, sym, ap, arith}
use Rattle.std.proofs.lemmas.List.{take_more}
use Rattle.std.proofs.lemmas.List.Sums.{sum_by_push, sum_by-take-le}

module _ {X : Type 0} (f : X → ℕ) (xs : List X) (i : ℕ) (x : X) (there : i < length xs) (item : x ≡ get_or xs i x) where
  pub one_more : sum_by f (take (i + 1) xs) ≡ sum_by f (take i xs) + f x
  one_more = ap (sum_by f) (take_more xs i x there ∙ ap (λ (y : X). take i xs ++ y ∷ []) (sym item)) ∙ sum_by_push f (take i xs) x

  pub within : (n : ℕ) → sum_by f xs < n → sum_by f (take i xs) + f x < n
  within n few = omega (arith, one_more, sum_by-take-le f xs (i + 1))
