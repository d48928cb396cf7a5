-- Loops over parts: what is left asks as the whole does.
use Rattle.std.proofs.Common.{◌≡◌, ℕ, ◌+◌, ◌<◌, ◌≤◌, Bool, true, false, ◌||◌, List, [], ◌∷◌, length, get_or, drop, refl, sym, ap, ◌∙◌}
use Rattle.std.proofs.lemmas.List.{drop_more, drop_all}
use Rattle.named_model.specs.Phrase.{StepTrees, StepTree, joined, in_brackets, step_first}
use Rattle.overload_resolution.specs.Names.Asking.{asks_in_steps, step_asks}

-- a test of a list that is one of its first or of its rest
pub record Tests {X : Type 0} (one : X → Bool) (all : List X → Bool) : Type 0 where
  pub ends : all [] ≡ false
  pub goes_on : (x : X) (xs : List X) → all (x ∷ xs) ≡ (one x || all xs)

module _ {X : Type 0} (one : X → Bool) (all : List X → Bool) (are : Tests one all) (xs : List X) (i : ℕ) where
  next : (x : X) → i < length xs → x ≡ get_or xs i x → all (drop i xs) ≡ (one x || all (drop (i + 1) xs))
  next x l is = ap all (drop_more xs i x l ∙ ap (λ y. y ∷ drop (i + 1) xs) (sym is)) ∙ are.goes_on x (drop (i + 1) xs)

  pub passed : (x : X) → i < length xs → x ≡ get_or xs i x → one x ≡ false → all (drop i xs) ≡ all xs → all (drop (i + 1) xs) ≡ all xs
  passed x l is fails before = sym (next x l is ∙ ap (λ c. c || all (drop (i + 1) xs)) fails) ∙ before

  pub found : (x : X) → i < length xs → x ≡ get_or xs i x → one x ≡ true → all (drop i xs) ≡ all xs → true ≡ all xs
  found x l is holds before = sym (next x l is ∙ ap (λ c. c || all (drop (i + 1) xs)) holds) ∙ before

  pub none : length xs ≤ i → all (drop i xs) ≡ all xs → false ≡ all xs
  none l before = sym (ap all (drop_all i xs l) ∙ are.ends) ∙ before

pub step_asking : (s : StepTree) (rest : StepTrees) → asks_in_steps (step_first s rest) ≡ (step_asks s || asks_in_steps rest)
step_asking (joined p x) rest = refl
step_asking (in_brackets p xs) rest = refl
