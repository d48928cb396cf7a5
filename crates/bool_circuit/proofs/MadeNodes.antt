-- What follows where a node was made, or found.
use Rattle.std.proofs.Common.{◌≡◌, ℕ, ◌+◌, ◌≤◌, Bool, true, false, [], ◌∷◌, ◌++◌, length, refl, sym, ap, ◌∙◌, subst, arith, length-append, cond, ◌⊎◌, inl, inr}
use Rattle.std.specs.Prelude.{Contains}
use Rattle.std.specs.List.{list_any}
use Rattle.std.proofs.lemmas.List.Folds.{list_any_at}
use Rattle.bool_circuit.specs.declared.shape.Shape.{Shape}
use Rattle.bool_circuit.specs.Network.{Network, Has, ReadsBelow, IsInOrder, with_shape}
use Rattle.bool_circuit.specs.Value.{shape_value, value_at, Extends, Stands}
use Rattle.bool_circuit.specs.Folding.{Makes}
use Rattle.bool_circuit.proofs.Values.{Extends-refl, Extends-push, IsInOrder-push, Stands-from}

same_network : (a b : Network) → a.inputs ≡ b.inputs → a.shapes ≡ b.shapes → a ≡ b
same_network a b p q = λ i. record { inputs = p i; shapes = q i }

-- what the set of shapes does is what `Makes` says
pub Makes-inserted : (eq : Shape → Shape → Bool) → ((x : Shape) → eq x x ≡ true) → (old new : Network) (g : Shape) (n : ℕ) → new.inputs ≡ old.inputs → new.shapes ≡ cond (list_any (eq g) old.shapes) old.shapes (old.shapes ++ g ∷ []) → Has new n g → Makes g old new n
Makes-inserted eq same old new g n inputs shapes is = (is, by (list_any (eq g) old.shapes) refl)
  where
    by : (b : Bool) → list_any (eq g) old.shapes ≡ b → (new ≡ old) ⊎ ((new ≡ with_shape old g) × (Contains old.shapes g → ⊥))
    by true e = inl (same_network new old inputs (shapes ∙ ap (λ c. cond c old.shapes (old.shapes ++ g ∷ [])) e))
    by false e = inr (
      same_network new (with_shape old g) inputs (shapes ∙ ap (λ c. cond c old.shapes (old.shapes ++ g ∷ [])) e),
      λ there. let h = list_any_at (eq g) old.shapes there.0 g there.1 (ap (eq g) there.2 ∙ same g) in cc,
    )

pub Extends-made : (old new : Network) (g : Shape) (n : ℕ) → Makes g old new n → Extends old new
Extends-made old new g n made = elim made.1 [ inl e ↦ subst (λ w. Extends old w) (sym e) (Extends-refl old) | inr e ↦ subst (λ w. Extends old w) (sym e.0) (Extends-push old g) ]

pub IsInOrder-made : (old new : Network) (g : Shape) (n : ℕ) → Makes g old new n → IsInOrder old → ReadsBelow old.inputs (length old.shapes) g → IsInOrder new
IsInOrder-made old new g n made ordered earlier =
    elim made.1 [ inl e ↦ subst IsInOrder (sym e) ordered | inr e ↦ subst IsInOrder (sym e.0) (IsInOrder-push old g ordered earlier) ]

pub Stands-made : (old new : Network) (g : Shape) (n : ℕ) → Makes g old new n → IsInOrder old → ReadsBelow old.inputs (length old.shapes) g → Stands new n (λ s. shape_value s (λ m. value_at old m s) g)
Stands-made old new g n made ordered earlier =
    Stands-from old new g n (Extends-made old new g n made) (IsInOrder-made old new g n made ordered earlier) earlier made.0

pub one_more : (old new : Network) (g : Shape) (n : ℕ) → Makes g old new n → length new.shapes ≤ length old.shapes + 1
one_more old new g n made = elim made.1 [ inl e ↦ omega (arith, ap (λ w. length w.shapes) e) | inr e ↦ omega (arith, ap (λ w. length w.shapes) e.0, length-append old.shapes (g ∷ [])) ]
