-- The calls that a loop has added, and those of what is left.
use Rattle.std.proofs.Common.{◌≡◌, ℕ, ◌+◌, ◌<◌, ◌≤◌, List, [], ◌∷◌, ◌++◌, length, get_or, drop, refl, sym, ap, ◌∙◌, append_assoc, append-nil}
use Rattle.std.proofs.lemmas.List.{drop_more, at_drop_all}
use Rattle.named_model.specs.Phrase.{StepTree, StepTrees, joined, in_brackets, step_first}
use Rattle.named_model.specs.Faults.{calls_in_steps}
use Rattle.reference_cycles.specs.Recursion.Calls.{calls_in_step}

-- one part more
pub added_more : {X : Type 0} (F : List X → List ℕ) (f : X → List ℕ) (xs : List X) (i : ℕ) (x : X) (a b whole : List ℕ) → ((y : X) (ys : List X) → F (y ∷ ys) ≡ f y ++ F ys) → i < length xs → x ≡ get_or xs i x → a ++ F (drop i xs) ≡ whole → b ≡ a ++ f x → b ++ F (drop (i + 1) xs) ≡ whole
added_more F f xs i x a b whole law l is before added =
    ap (λ c. c ++ F (drop (i + 1) xs)) added
    ∙ append_assoc a (f x) (F (drop (i + 1) xs))
    ∙ ap (λ c. a ++ c) (sym (law x (drop (i + 1) xs)))
    ∙ ap (λ y. a ++ F (y ∷ drop (i + 1) xs)) is
    ∙ ap (λ ys. a ++ F ys) (sym (drop_more xs i x l))
    ∙ before

-- all of them
pub added_all : {X : Type 0} (F : List X → List ℕ) (xs : List X) (i : ℕ) (a whole : List ℕ) → F [] ≡ [] → length xs ≤ i → a ++ F (drop i xs) ≡ whole → a ≡ whole
added_all F xs i a whole empty l before =
    sym (append-nil a) ∙ ap (λ c. a ++ c) (sym (at_drop_all F xs i l ∙ empty)) ∙ before

pub step_more : (s : StepTree) (rest : StepTrees) → calls_in_steps (step_first s rest) ≡ calls_in_step s ++ calls_in_steps rest
step_more (joined p x) rest = refl
step_more (in_brackets p xs) rest = refl
