-- Loops that look whether a test holds of one of several parts.
use Rattle.std.proofs.Common.{◌≡◌, ℕ, ◌+◌, ◌<◌, ◌≤◌, List, [], ◌∷◌, length, get_or, drop, Bool, true, false, ◌||◌, refl, sym, ap, ◌∙◌}
use Rattle.alloy_syntax.specs.Tree.{Steps, StepTree, joined, in_brackets, step_first}
use Rattle.named_model.specs.Faults.{step_has_arrow}
use Rattle.name_tables.proofs.Reaching.{next_is, none_is}
use Rattle.sig_resolve.specs.Commands.Arrows.{has_step_arrow}

pub step_before : (s : StepTree) (steps : Steps) → step_has_arrow (step_first s steps) ≡ (has_step_arrow s || step_has_arrow steps)
step_before (joined p t) steps = refl
step_before (in_brackets p ts) steps = refl

module _ {X : Type 0} (any : List X → Bool) (one : X → Bool) where
  pub any_more : ((x : X) (xs : List X) → any (x ∷ xs) ≡ (one x || any xs)) → (all : List X) (i : ℕ) (x : X) (whole : Bool) → i < length all → x ≡ get_or all i x → one x ≡ false
      → any (drop i all) ≡ whole → any (drop (i + 1) all) ≡ whole
  any_more cons all i x whole l is not before =
      sym (ap (λ b. b || any (drop (i + 1) all)) not) ∙ sym (cons x (drop (i + 1) all)) ∙ sym (ap any (next_is all i x l is)) ∙ before

  pub any_found : ((x : X) (xs : List X) → any (x ∷ xs) ≡ (one x || any xs)) → (all : List X) (i : ℕ) (x : X) (whole : Bool) → i < length all → x ≡ get_or all i x → one x ≡ true
      → any (drop i all) ≡ whole → true ≡ whole
  any_found cons all i x whole l is found before =
      sym (ap (λ b. b || any (drop (i + 1) all)) found) ∙ sym (cons x (drop (i + 1) all)) ∙ sym (ap any (next_is all i x l is)) ∙ before

  pub any_none : any [] ≡ false → (all : List X) (i : ℕ) (whole : Bool) → length all ≤ i → any (drop i all) ≡ whole → false ≡ whole
  any_none nothing all i whole l before = sym nothing ∙ sym (ap any (none_is all i l)) ∙ before
