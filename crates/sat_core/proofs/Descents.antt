-- What a descent comes to.
use Rattle.std.proofs.Common.{◌≡◌, ◌<◌, ◌≤◌, ◌+◌, ◌-◌, ◌++◌, [], ◌∷◌, ◌⊎◌, ℕ, zero, suc, Bool, true, false, not, cond, Option, Some, None, List, length, get_or, take, All, arith, sym, ◌∙◌, ap, inl, inr, refl, subst, length-append}
use Rattle.std.proofs.lemmas.Bool.{cases_lt, cases_eq, cases_Bool}
use Rattle.std.proofs.lemmas.List.{get_or_default, take_all, get_or_append_left}
use Rattle.std.proofs.Math.Seq.{get_or-append_seam}
use Rattle.std.proofs.lemmas.List.Elements.{Contains-get_or, Contains-push_cases}
use Rattle.std.specs.List.{Contains}
use Rattle.std.specs.Option.{unwrap_or}
use Rattle.cnf_core.specs.declared.literal.Lit.{Lit}
use Rattle.cnf_core.specs.Literal.{negation_of, IsClause, HasVarsUpTo}
use Rattle.cnf_core.specs.Valuation.{literal_value, clause_value, value_of}
use Rattle.refutation_check.specs.Chain.{IsFalsified, IsUnit, Refutes, Forces, Reaches, IsChain}
use Rattle.refutation_check.proofs.Chains.{names_all, names_one}
use Rattle.refutation_check.proofs.Entailment.{lit_equal_or_not, false_clause}
use Rattle.refutation_check.proofs.Sights.{lit_equal}
use Rattle.unit_propagation.specs.declared.assignment_trail.assigned.Assigned.{Assigned}
use Rattle.unit_propagation.specs.Assignments.Trail.{IsTrail, falses_of, level_of}
use Rattle.sat_trail.specs.Trailed.{IsValue}
use Rattle.sat_trail.specs.Closed.{IsClosed}
use Rattle.sat_trail.specs.Learnt.{IsFlat, IsAbove}
use Rattle.sat_trail.proofs.Waiting.{contains_or_not}
use Rattle.unit_propagation.proofs.Assignments.Trails.{level_before, from_front, vars_differ}
use Rattle.sat_core.specs.Answers.{IsModel}
use Rattle.sat_core.specs.Search.{AreValues}

module _ (clauses : List (List Lit)) (falses : List Lit) (closed : IsClosed clauses falses) where
  -- what fewer false literals force is true already
  pub forced_within : (fewer : List Lit) (hint : ℕ) (l : Lit) → ((k : Lit) → Contains fewer k → Contains falses k) → Forces clauses fewer hint l → Contains falses (negation_of l)
  forced_within fewer hint l within f =
      let here = names_all (λ c. (¬ IsFalsified (Contains falses) c) × ((l : Lit) → ¬ IsUnit (Contains falses) c l)) clauses hint f.clause closed f.named in
      elim (contains_or_not falses (negation_of l)) [
        | inl is_true ↦ is_true
        | inr not_true ↦ elim (contains_or_not falses l) [
          | inl is_false ↦ absurd (here.0 (λ k d h.
              elim (lit_equal_or_not (get_or f.clause k d) l) [
                | inl e ↦ subst (Contains falses) (sym e) is_false
                | inr differ ↦ within _ (f.unit.others _ (Contains-get_or f.clause k d h) differ)
              ]))
          | inr not_false ↦ absurd (here.1 l (record { member = f.unit.member; not_false = not_false; not_true = not_true; others = λ other c differ. within other (f.unit.others other c differ) }))
        ]
      ]

  reaches_within : (fewer : List Lit) (hints : List ℕ) (after : List Lit) → ((k : Lit) → Contains fewer k → Contains falses k) → Reaches clauses fewer hints after → (k : Lit) → Contains after k → Contains falses k
  reaches_within fewer [] after within same = λ k c. within k (subst (λ (fs : List Lit). Contains fs k) same c)
  reaches_within fewer (hint ∷ hints) after within (l, forces, rest) =
      reaches_within (fewer ++ negation_of l ∷ []) hints after
      (λ k c. elim (Contains-push_cases fewer (negation_of l) k c) [ inl old ↦ within k old | inr one ↦ subst (Contains falses) one (forced_within fewer hint l within forces) ]) rest

  -- where nothing is left for propagation, no hints make the empty clause a chain
  pub closed_no_chain : (hints : List ℕ) → IsChain clauses [] hints → ⊥
  closed_no_chain hints chain =
      let within = reaches_within [] chain.before chain.after (λ k c. absurd (omega (arith, c.1))) chain.reached in
      let here = names_all (λ c. (¬ IsFalsified (Contains falses) c) × ((l : Lit) → ¬ IsUnit (Contains falses) c l)) clauses chain.last chain.refuted.clause closed chain.refuted.named in
      here.0 (λ k d h. within _ (chain.refuted.falsified k d h))

module _ (clauses : List (List Lit)) (xs : List Assigned) where
  low_levels : IsTrail clauses xs → level_of xs ≡ 0 → (i : ℕ) (d : Assigned) → i < length xs → (get_or xs i d).level ≡ 0
  low_levels trail zero_level i d h =
      let up : (get_or xs i d).level ≤ level_of (take (length xs) xs) = level_before clauses xs trail (length xs) i d h (omega arith) in
      let same : level_of (take (length xs) xs) ≡ level_of xs = ap level_of (take_all (length xs) xs (omega arith)) in
      omega (arith, up, same, zero_level)

  module _ (trail : IsTrail clauses xs) (conflict : ℕ) (refuted : Refutes clauses (falses_of xs) conflict) where
    -- a conflict at level 0
    pub flat_at_zero : level_of xs ≡ 0 → IsFlat clauses xs conflict
    flat_at_zero zero_level clause l j d named c h v = low_levels trail zero_level j d h

    -- the literals of the clause before this one are of level 0
    abbrev AreLow : ℕ → Type 0
    AreLow n = (j : ℕ) (e : Lit) → j < n → (k : ℕ) × (k < length xs) × ((d : Assigned) → negation_of (get_or xs k d).lit ≡ get_or refuted.clause j e) × ((d : Assigned) → (get_or xs k d).level ≡ 0)

    low_or_above : (n : ℕ) → n ≤ length refuted.clause → AreLow n ⊎ IsAbove clauses xs conflict
    low_or_above zero h = inl (λ j e m. absurd (omega arith))
    low_or_above (suc n) h =
        let dl : Lit = record { var = 0; positive = false } in
        let da : Assigned = record { lit = dl; level = 0; reason = None } in
        elim (low_or_above n (omega arith)) [
          | inr above ↦ inr above
          | inl low ↦
              let l : Lit = get_or refuted.clause n dl in
              let c : Contains (falses_of xs) l = refuted.falsified n dl (omega arith) in
              let r = from_front xs (length xs) l (subst (λ (zs : List Assigned). Contains (falses_of zs) l) (sym (take_all (length xs) xs (omega arith))) c) in
              elim (cases_eq (get_or xs r.0 da).level 0) [
                | inl zero_level ↦ inl (λ j e m. elim (cases_lt j n) [
                  | inl lt ↦ low j e lt
                  | inr ge ↦
                      let is : j ≡ n = omega arith in
                      let at : get_or refuted.clause n dl ≡ get_or refuted.clause j e = get_or_default refuted.clause n dl e (omega arith) ∙ ap (λ (i : ℕ). get_or refuted.clause i e) (sym is) in
                      (r.0, r.2, λ d. r.3 d ∙ at, λ d. ap (λ (a : Assigned). a.level) (get_or_default xs r.0 d da r.2) ∙ zero_level)
                ])
                | inr above ↦ inr (record {
                  clause = refuted.clause;
                  named = refuted.named;
                  place = r.0;
                  in_range = r.2;
                  member = λ d. subst (Contains refuted.clause) (sym (r.3 d)) (Contains-get_or refuted.clause n dl (omega arith));
                  above = λ d. let same : (get_or xs r.0 d).level ≡ (get_or xs r.0 da).level = ap (λ (a : Assigned). a.level) (get_or_default xs r.0 d da r.2) in omega (arith, same, above);
                })
              ]
        ]

    same_place : (j k : ℕ) (d : Assigned) → j < length xs → k < length xs → (get_or xs j d).lit.var ≡ (get_or xs k d).lit.var → j ≡ k
    same_place j k d in_j in_k same =
        elim (cases_lt j k) [
          | inl less ↦ absurd (vars_differ clauses xs trail j k d d less in_k same)
          | inr not_less ↦ elim (cases_lt k j) [
            | inl more ↦ absurd (vars_differ clauses xs trail k j d d more in_j (sym same))
            | inr not_more ↦ omega arith
          ]
        ]

    -- a conflict is at level 0, or has a literal above
    pub flat_or_above : IsFlat clauses xs conflict ⊎ IsAbove clauses xs conflict
    flat_or_above =
        elim (low_or_above (length refuted.clause) (omega arith)) [
          | inr above ↦ inr above
          | inl low ↦ inl (λ clause l j d named c h v.
              let one : clause ≡ refuted.clause = names_one clauses conflict clause refuted.clause named refuted.named in
              let there : Contains refuted.clause l = subst (λ (ls : List Lit). Contains ls l) one c in
              let r = low there.0 l there.1 in
              let w : (get_or xs r.0 d).lit.var ≡ l.var = ap (λ (x : Lit). x.var) (r.2 d ∙ there.2) in
              let is : r.0 ≡ j = same_place r.0 j d r.1 h (w ∙ v) in
              ap (λ (i : ℕ). (get_or xs i d).level) (sym is) ∙ r.3 d)
        ]

-- a value makes its literal false
pub value_false : (falses : List Lit) (var : ℕ) (o : Option Bool) → IsValue falses var o → (value : Bool) × Contains falses (record { var = var; positive = not value }) → Contains falses (record { var = var; positive = not (unwrap_or o false) })
value_false falses var None is (value, there) = absurd (is (not value) there)
value_false falses var (Some value) is has = is

module _ (falses : List Lit) (values : List Bool) (are : AreValues falses values) where
  value_not : (p b : Bool) → cond p b (not b) ≡ false → not b ≡ p
  value_not true true h = cc
  value_not true false h = refl
  value_not false true h = refl
  value_not false false h = cc

  -- a literal that the values make false is false
  false_literal : (l : Lit) → 1 ≤ l.var → l.var ≤ length values → literal_value (value_of values) l ≡ false → Contains falses l
  false_literal l low high is =
      let k : ℕ = l.var - 1 in
      let there : Contains falses (record { var = k + 1; positive = not (get_or values k false) }) = are k false (omega arith) in
      let sign : not (get_or values k false) ≡ l.positive = value_not l.positive (get_or values k false) is in
      let var : k + 1 ≡ l.var = omega arith in
      subst (Contains falses) (lit_equal (record { var = k + 1; positive = not (get_or values k false) }) l var sign) there

  -- a clause that is not falsified is true
  pub clause_true : (clause : List Lit) → IsClause clause → HasVarsUpTo (length values) clause → (¬ IsFalsified (Contains falses) clause) → clause_value (value_of values) clause ≡ true
  clause_true clause variables within not_false =
      elim (cases_Bool (clause_value (value_of values) clause)) [
        | inl t ↦ t
        | inr f ↦ absurd (not_false (λ k d h.
            let l : Lit = get_or clause k d in
            let var = variables.variables k d h in
            false_literal l var.0 (within k d h) (false_clause (value_of values) clause f l (Contains-get_or clause k d h))))
      ]

-- the values of a trail where nothing is left for propagation satisfy these clauses
pub full_model : (vars first : ℕ) (clauses : List (List Lit)) (falses : List Lit) (values : List Bool) → IsClosed clauses falses → All IsClause clauses → All (HasVarsUpTo vars) clauses → length values ≡ vars → first ≤ vars → AreValues falses values → IsModel first clauses values
full_model vars first clauses falses values closed each within long le are =
    let within' : All (HasVarsUpTo (length values)) clauses = subst (λ (n : ℕ). All (HasVarsUpTo n) clauses) (sym long) within in
    record {
      enough = omega arith;
      within = within';
      satisfied = λ k d h. clause_true falses values are (get_or clauses k d) (each k d h) (within' k d h) (closed k d h).0;
    }

-- one more value
pub values_more : (falses : List Lit) (values : List Bool) (v : Bool) → AreValues falses values → Contains falses (record { var = length values + 1; positive = not v }) → AreValues falses (values ++ v ∷ [])
values_more falses values v was here k d h =
    elim (cases_lt k (length values)) [
      | inl lt ↦ subst (λ (b : Bool). Contains falses (record { var = k + 1; positive = not b })) (sym (get_or_append_left values (v ∷ []) d k lt)) (was k d lt)
      | inr ge ↦
          let is : length values ≡ k = omega (arith, length-append values (v ∷ [])) in
          let at : get_or (values ++ v ∷ []) k d ≡ v = ap (λ (i : ℕ). get_or (values ++ v ∷ []) i d) (sym is) ∙ get_or-append_seam values v [] d in
          subst (λ (b : Bool). Contains falses (record { var = k + 1; positive = not b })) (sym at) (subst (λ (n : ℕ). Contains falses (record { var = n + 1; positive = not v })) is here)
    ]
