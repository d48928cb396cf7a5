-- Valuations that agree on some variables.
use Rattle.std.proofs.Common.{◌≡◌, ◌+◌, ◌<◌, ◌≤◌, ◌&&◌, ◌||◌, ℕ, Bool, not, cond, List, [], ◌∷◌, get_or, All, inl, inr, refl, sym, ap, ◌∙◌, arith}
use Rattle.std.proofs.lemmas.List.Elements.{All-head, All-tail}
use Rattle.cnf_core.specs.declared.literal.Lit.{Lit}
use Rattle.cnf_core.specs.Literal.{HasVarsUpTo}
use Rattle.cnf_core.specs.Valuation.{literal_value, clause_value, Satisfies}
use Rattle.bool_circuit.specs.declared.shape.Shape.{Shape}
use Rattle.bool_circuit.specs.declared.shape.Shape.TheVariants.{Constant, Input, And, Or, Not}
use Rattle.bool_circuit.specs.Network.{ReadsBelow}
use Rattle.bool_circuit.specs.Value.{shape_value}
use Rattle.circuit_cnf.specs.Resting.{Reads}
use Rattle.circuit_cnf.specs.ClauseForm.{inputs_of}
use Rattle.circuit_cnf.specs.Encoding.{IsAmong, literal_at, encoded_value}

module _ (v w : ℕ → Bool) where
  -- a literal has one value where its variable has
  pub literal_agrees : (l : Lit) → v l.var ≡ w l.var → literal_value v l ≡ literal_value w l
  literal_agrees l same = ap (λ b. cond l.positive b (not b)) same

  clause_agrees : (vars : ℕ) → ((n : ℕ) → n ≤ vars → v n ≡ w n) → (lits : List Lit) → HasVarsUpTo vars lits → clause_value v lits ≡ clause_value w lits
  clause_agrees vars same [] has = refl
  clause_agrees vars same (l ∷ lits) has =
      ap (λ b. b || clause_value v lits) (literal_agrees l (same l.var (All-head (λ l. l.var ≤ vars) l lits has)))
      ∙ ap (λ b. literal_value w l || b) (clause_agrees vars same lits (All-tail (λ l. l.var ≤ vars) l lits has))

  -- clauses are satisfied by both
  pub satisfies_agrees : (vars : ℕ) → ((n : ℕ) → n ≤ vars → v n ≡ w n) → (clauses : List (List Lit)) → All (HasVarsUpTo vars) clauses → Satisfies v clauses → Satisfies w clauses
  satisfies_agrees vars same clauses has satisfied k d h = sym (clause_agrees vars same (get_or clauses k d) (has k d h)) ∙ satisfied k d h

-- a shape has one value where what it reads has
pub shape_agrees : (s t f g : ℕ → Bool) (shape : Shape) (inputs nodes : ℕ) → ReadsBelow inputs nodes shape → ((i : ℕ) → i < inputs → s i ≡ t i) →
    ((m : ℕ) → Reads shape m → f m ≡ g m) → shape_value s f shape ≡ shape_value t g shape
shape_agrees s t f g (Constant b) inputs nodes before same_inputs same = refl
shape_agrees s t f g (Input i) inputs nodes before same_inputs same = same_inputs i before
shape_agrees s t f g (And a b) inputs nodes before same_inputs same = ap (λ x. x && f b) (same a (inl refl)) ∙ ap (λ y. g a && y) (same b (inr refl))
shape_agrees s t f g (Or a b) inputs nodes before same_inputs same = ap (λ x. x || f b) (same a (inl refl)) ∙ ap (λ y. g a || y) (same b (inr refl))
shape_agrees s t f g (Not a) inputs nodes before same_inputs same = ap not (same a refl)

-- the value that literals give a shape
pub encoded_agrees : (v w : ℕ → Bool) (vars inputs nodes : ℕ) (literals : List Lit) (shape : Shape) → ReadsBelow inputs nodes shape → inputs ≤ vars →
    ((m : ℕ) → Reads shape m → IsAmong vars (literal_at literals m)) → ((n : ℕ) → 1 ≤ n → n ≤ vars → v n ≡ w n) →
    encoded_value literals shape v ≡ encoded_value literals shape w
encoded_agrees v w vars inputs nodes literals shape before within among same =
    shape_agrees (inputs_of v) (inputs_of w) _ _ shape inputs nodes before (λ i h. same (i + 1) (omega arith) (omega (arith, h, within)))
    (λ m h. literal_agrees v w (literal_at literals m) (same (literal_at literals m).var (among m h).0 (among m h).1))
