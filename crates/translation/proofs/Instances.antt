-- The clause form of a problem's circuit can be satisfied with the cells of a scenario exactly where the scenario is an instance.
use Rattle.std.proofs.Common.{◌≡◌, ◌↔◌, ◌<◌, ◌≤◌, ◌+◌, ℕ, Bool, List, [], ◌∷◌, ◌++◌, length, All, Contains, IsTrue, sym, ap, subst, arith}
use Rattle.std.specs.Prelude.{nat_eq}
use Rattle.std.specs.List.{list_any}
use Rattle.std.proofs.lemmas.List.Elements.{All-push, All-contains, Contains-push}
use Rattle.cnf_core.specs.declared.literal.Lit.{Lit}
use Rattle.cnf_core.specs.Formula.{Formula}
use Rattle.cnf_core.specs.Valuation.{clause_value, Satisfies}
use Rattle.bool_circuit.specs.Network.{Network}
use Rattle.bool_circuit.specs.Value.{value_at}
use Rattle.circuit_cnf.specs.ClauseForm.{inputs_of, IsClauseForm}
use Rattle.rel_formula.specs.Bounds.{Bounded, cells_of}
use Rattle.rel_formula.specs.Instance.{IsScenario, IsInstance}
use Rattle.translation_rules.specs.Translation.{IsSatisfiableAt}
use Rattle.translation_rules.proofs.Tests.{any_number, front}

-- the node is true exactly at the instances
abbrev pub TellsInstances : Bounded → Network → ℕ → Type 0
TellsInstances p network node = (s : List ℕ) (inputs : ℕ → Bool) → IsScenario p s → ((n : ℕ) → n < length (cells_of p) → IsTrue (inputs n) ↔ Contains s n) → IsTrue (value_at network node inputs) ↔ IsInstance p s

module _ (p : Bounded) (network : Network) (node : ℕ) (f : Formula) (count : network.inputs ≡ length (cells_of p)) (tells : TellsInstances p network node) (form : IsClauseForm network node f) (s : List ℕ) (scenario : IsScenario p s) where
  satisfied : IsInstance p s → IsSatisfiableAt p s f.clauses
  satisfied instance =
      let inputs : ℕ → Bool = λ n. list_any (nat_eq n) s in
      let (v, has, gates) = form.are_gates.extension inputs in
      let cells : (n : ℕ) → n < length (cells_of p) → IsTrue (inputs_of v n) ↔ Contains s n = λ n l. subst (λ b. IsTrue b ↔ Contains s n) (sym (has n (subst (λ k. n < k) (sym count) l))) (any_number n s) in
      let out = (form.is_output v gates).1 ((tells s (inputs_of v) scenario cells).1 instance) in
      record {
        valuation = v;
        cells = cells;
        satisfied = subst (Satisfies v) (sym form.clauses) (All-push (λ c. IsTrue (clause_value v c)) form.gates form.output gates out);
      }

  instance : IsSatisfiableAt p s f.clauses → IsInstance p s
  instance at =
      let v = at.valuation in
      let all = subst (Satisfies v) form.clauses at.satisfied in
      let gates : Satisfies v form.gates = front (λ c. IsTrue (clause_value v c)) form.gates (form.output ∷ []) all in
      let out : IsTrue (clause_value v form.output) = All-contains (λ c. IsTrue (clause_value v c)) (form.gates ++ form.output ∷ []) form.output all (Contains-push form.gates form.output) in
      (tells s (inputs_of v) scenario at.cells).0 ((form.is_output v gates).0 out)

  pub instances : IsInstance p s ↔ IsSatisfiableAt p s f.clauses
  instances = (satisfied, instance)
