-- Joins with what stands in brackets, as far as a loop has come.
use Rattle.std.proofs.Common.{◌≡◌, ℕ, ◌+◌, ◌<◌, List, length, drop, get_or, map, sym, ap, ◌∙◌, Result, Ok, Err}
use Rattle.std.proofs.lemmas.List.{drop_more}
use Rattle.alloy_lex.specs.declared.token.Place.{Place}
use Rattle.named_model.specs.Answers.{◌>>=◌}
use Rattle.model_types.specs.declared.fault.TypeFault.{TypeFault}
use Rattle.model_types.specs.Sorts.{joined_arity, brackets_arity}

-- the arities behind, from that number on
abbrev pub arities_from : ℕ → List (ℕ × Place) → List ℕ
arities_from i xs = map (λ (n : ℕ × Place). n.0) (drop i xs)

module _ (p : Place) (xs : List (ℕ × Place)) (i : ℕ) (d : ℕ × Place) (m : ℕ) (all : Result ℕ TypeFault) where
  joined_first : i < length xs → brackets_arity p m (arities_from i xs) ≡ (joined_arity p (get_or xs i d).0 m >>= λ r. brackets_arity p r (arities_from (i + 1) xs))
  joined_first below = ap (λ (ys : List (ℕ × Place)). brackets_arity p m (map (λ (n : ℕ × Place). n.0) ys)) (drop_more xs i d below)

  pub brackets_more : (r : ℕ) → i < length xs → joined_arity p (get_or xs i d).0 m ≡ Ok r
      → brackets_arity p m (arities_from i xs) ≡ all → brackets_arity p r (arities_from (i + 1) xs) ≡ all
  brackets_more r below is before = sym (joined_first below ∙ ap (λ (a : Result ℕ TypeFault). a >>= λ r. brackets_arity p r (arities_from (i + 1) xs)) is) ∙ before

  pub brackets_fail : (e : TypeFault) → i < length xs → joined_arity p (get_or xs i d).0 m ≡ Err e
      → brackets_arity p m (arities_from i xs) ≡ all → Err e ≡ all
  brackets_fail e below is before = sym (joined_first below ∙ ap (λ (a : Result ℕ TypeFault). a >>= λ r. brackets_arity p r (arities_from (i + 1) xs)) is) ∙ before
