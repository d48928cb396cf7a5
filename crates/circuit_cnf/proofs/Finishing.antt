-- From the literals and clauses of all nodes to the clause form.
use Rattle.std.proofs.Common.{◌≡◌, ◌+◌, ◌*◌, ◌<◌, ◌≤◌, ◌||◌, ℕ, Bool, true, false, List, [], ◌∷◌, ◌++◌, length, get_or, All, IsTrue, inl, inr, refl, sym, ap, ◌∙◌, subst, arith, length-append}
use Rattle.std.proofs.lemmas.List.{get_or_default}
use Rattle.std.proofs.lemmas.List.Elements.{All-push, Contains-push_cases}
use Rattle.std.specs.List.{Contains}
use Rattle.cnf_core.specs.declared.literal.Lit.{Lit}
use Rattle.cnf_core.specs.Literal.{negation_of, IsTautology, HasVarsUpTo}
use Rattle.cnf_core.specs.Valuation.{literal_value, clause_value}
use Rattle.cnf_core.proofs.Literals.{not_itself}
use Rattle.cnf_core.proofs.SameLiterals.{clause_value-same, All-same}
use Rattle.bool_circuit.specs.Network.{Network}
use Rattle.bool_circuit.specs.Value.{place, value_at}
use Rattle.circuit_cnf.specs.ClauseForm.{inputs_of, IsClauseForm, IsSmall}
use Rattle.circuit_cnf.specs.Encoding.{AreMarks, IsAmong, IsPushed, literal_at, IsEncoding}

one_there : (l k : Lit) → Contains (l ∷ []) k → l ≡ k
one_there l k here = elim (Contains-push_cases [] l k here) [ inl none ↦ absurd (omega (arith, none.1)) | inr is ↦ is ]

-- one literal is no tautology
no_tautology : (l : Lit) → IsTautology (l ∷ []) → ⊥
no_tautology l (k, here, there) =
    let same : negation_of k ≡ k = sym (one_there l (negation_of k) there) ∙ one_there l k here in
    not_itself k.positive (sym (ap (λ (m : Lit). m.positive) same))

or_false : (b : Bool) → (b || false) ≡ b
or_false true = refl
or_false false = refl

module _ (network : Network) (node : ℕ) (marks : List Bool) (vars : ℕ) (literals : List Lit) (clauses : List (List Lit)) (was : IsEncoding network node marks vars literals clauses)
    (are : AreMarks network node marks) (count : length literals ≡ length network.shapes) (there : node < length network.shapes) where
  marked : IsTrue (place marks node)
  marked = are.complete node ([], refl)

  module _ (i : ℕ) (l : Lit) (read : l ≡ get_or literals i l) (at : i ≡ node) where
    pub output_is : l ≡ literal_at literals node
    output_is = read ∙ ap (λ (k : ℕ). get_or literals k l) at ∙ get_or_default literals node l (record { var = 1; positive = true }) (omega (arith, there, count))

    pub output_among : IsAmong vars l
    output_among = subst (λ (k : Lit). IsAmong vars k) (sym output_is) (was.literals_within node (omega (arith, there, count)) marked)

    module _ (new : List (List Lit)) (pushed : IsPushed (l ∷ []) clauses new) where
      output_pushed : (clause : List Lit) × ((v : ℕ → Bool) → clause_value v clause ≡ literal_value v l) × (new ≡ clauses ++ clause ∷ []) × HasVarsUpTo vars clause
      output_pushed = elim pushed [
        | inl taut ↦ absurd (no_tautology l taut.0)
        | inr more ↦ (
          more.0,
          (λ v. sym (clause_value-same v (l ∷ []) more.0 more.1) ∙ or_false (literal_value v l)),
          more.2,
          All-same (λ k. k.var ≤ vars) (l ∷ []) more.0 more.1 (All-one output_among.1),
        )
      ]
        where
          All-one : l.var ≤ vars → HasVarsUpTo vars (l ∷ [])
          All-one h = All-push (λ k. k.var ≤ vars) [] l (λ k d n. absurd (omega (arith, n))) h

      pub new_within : All (HasVarsUpTo vars) new
      new_within = let out = output_pushed in subst (λ (cs : List (List Lit)). All (HasVarsUpTo vars) cs) (sym out.2) (All-push (HasVarsUpTo vars) clauses out.0 was.within out.3)

      pub new_length : length new ≤ 3 * length network.shapes + 1
      new_length = let out = output_pushed in let e : length new ≡ length (clauses ++ out.0 ∷ []) = ap length out.2 in
          omega (arith, e, length-append clauses (out.0 ∷ []), was.few_clauses, count)

      pub clause_form : IsClauseForm network node (record { vars = vars; clauses = new })
      clause_form = let out = output_pushed in
          record {
            gates = clauses;
            output = out.0;
            clauses = out.2;
            are_gates = was.gates;
            is_output = λ v satisfied.
                let value : clause_value v out.0 ≡ value_at network node (inputs_of v) =
                out.1 v ∙ ap (literal_value v) output_is ∙ was.values v satisfied node (omega (arith, there, count)) marked in
                ((λ h. sym value ∙ h), (λ h. value ∙ h));
          }

      pub small : IsSmall network (record { vars = vars; clauses = new })
      small = record { inputs = was.inputs; variables = omega (arith, was.few_variables, count); clauses = new_length }
