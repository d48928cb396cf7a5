-- A clause form can be satisfied exactly where its node is true.
use Rattle.std.proofs.Common.{◌≡◌, ◌+◌, ◌<◌, ℕ, zero, suc, Bool, false, List, [], ◌∷◌, ◌++◌, length, get_or, IsTrue, sym, ◌∙◌, subst, arith}
use Rattle.std.proofs.lemmas.Option.{slice_get-get_or}
use Rattle.std.proofs.lemmas.List.Elements.{All-push, All-contains, Contains-push}
use Rattle.cnf_core.specs.declared.literal.Lit.{Lit}
use Rattle.cnf_core.specs.Formula.{Formula}
use Rattle.cnf_core.specs.Valuation.{clause_value, Satisfies}
use Rattle.bool_circuit.specs.declared.shape.Shape.{Shape}
use Rattle.bool_circuit.specs.declared.shape.Shape.TheVariants.{Constant}
use Rattle.bool_circuit.specs.Network.{Network, Has, IsInOrder}
use Rattle.bool_circuit.specs.Value.{value_at}
use Rattle.bool_circuit.proofs.Values.{value_at-shape}
use Rattle.circuit_cnf.specs.ClauseForm.{inputs_of, HasInputs, IsClauseForm}
use Rattle.circuit_cnf.proofs.Agreeing.{shape_agrees}
use Rattle.circuit_cnf.proofs.OutputMarks.{reads_before}
use Rattle.circuit_cnf.proofs.Pushed.{All-front}

-- a node's value rests on the inputs that there are
module _ (network : Network) (ordered : IsInOrder network) (s t : ℕ → Bool) (same : (i : ℕ) → i < network.inputs → s i ≡ t i) where
  values_agree : (k n : ℕ) → n < k → n < length network.shapes → value_at network n s ≡ value_at network n t
  values_agree zero n below there = absurd (omega (arith, below))
  values_agree (suc k) n below there =
      let shape : Shape = get_or network.shapes n (Constant false) in
      let has : Has network n shape = slice_get-get_or network.shapes n (Constant false) there in
      value_at-shape network n shape s ordered has
      ∙ shape_agrees s t (λ m. value_at network m s) (λ m. value_at network m t) shape network.inputs n (ordered n shape has) same
      (λ m reads. let before : m < n = reads_before shape network.inputs n m (ordered n shape has) reads in
      values_agree k m (omega (arith, before, below)) (omega (arith, before, there)))
      ∙ sym (value_at-shape network n shape t ordered has)

  pub value_agrees : (n : ℕ) → n < length network.shapes → value_at network n s ≡ value_at network n t
  value_agrees n there = values_agree (n + 1) n (omega arith) there

module _ (network : Network) (ordered : IsInOrder network) (node : ℕ) (there : node < length network.shapes) (f : Formula) (form : IsClauseForm network node f) (inputs : ℕ → Bool) where
  true_clauses : (v : ℕ → Bool) → Satisfies v f.clauses → Satisfies v (form.gates ++ form.output ∷ [])
  true_clauses v satisfied = subst (λ (cs : List (List Lit)). Satisfies v cs) form.clauses satisfied

  pub can_be_satisfied : IsTrue (value_at network node inputs) → (v : ℕ → Bool) × HasInputs network inputs v × Satisfies v f.clauses
  can_be_satisfied is_true =
      let (v, has, gates) = form.are_gates.extension inputs in
      let value : value_at network node (inputs_of v) ≡ value_at network node inputs = value_agrees network ordered (inputs_of v) inputs has node there in (
        v,
        has,
        subst (λ (cs : List (List Lit)). Satisfies v cs) (sym form.clauses)
            (All-push (λ c. IsTrue (clause_value v c)) form.gates form.output gates ((form.is_output v gates).1 (value ∙ is_true))),
      )

  pub is_satisfied : (v : ℕ → Bool) → HasInputs network inputs v → Satisfies v f.clauses → IsTrue (value_at network node inputs)
  is_satisfied v has satisfied =
      let all = true_clauses v satisfied in
      let gates : Satisfies v form.gates = All-front (λ c. IsTrue (clause_value v c)) form.gates (form.output ∷ []) all in
      let output : IsTrue (clause_value v form.output) = All-contains (λ c. IsTrue (clause_value v c)) (form.gates ++ form.output ∷ []) form.output all (Contains-push form.gates form.output) in
      sym (value_agrees network ordered (inputs_of v) inputs has node there) ∙ (form.is_output v gates).0 output
