-- The clauses of several swaps can be satisfied together exactly where those of each swap can.
use Rattle.std.proofs.Common.{◌≡◌, ◌↔◌, ◌⊎◌, inl, inr, ◌<◌, ◌≤◌, ◌+◌, ◌-◌, ℕ, Bool, true, false, cond, List, [], ◌∷◌, ◌++◌, map, filter, flat_map, length, get_or, All, AllPairs, Contains, IsTrue, refl, sym, ◌∙◌, ap, subst, arith}
use Rattle.std.specs.Prelude.{nat_eq}
use Rattle.std.specs.List.{list_any}
use Rattle.std.proofs.lemmas.Bool.{cases_Bool}
use Rattle.std.proofs.lemmas.List.{get_or_default}
use Rattle.tuple_core.specs.declared.atom.Atom.{Atom}
use Rattle.cnf_core.specs.declared.literal.Lit.{Lit}
use Rattle.cnf_core.specs.Valuation.{clause_value, Satisfies}
use Rattle.refutation_check.specs.SearchLog.{IsVarOf}
use Rattle.rel_formula.specs.Bounds.{Bounded, cells_of}
use Rattle.rel_formula.proofs.OpenCells.{cons_cases, cons_first, cons_later, filter_has}
use Rattle.rel_formula.proofs.Lists.{pairs_append}
use Rattle.swap_symmetry.specs.Swaps.{AreNeighbours, SwapIsEarlier, NoSwapIsEarlier}
use Rattle.translation_rules.specs.Free.{IsPicked}
use Rattle.translation_rules.specs.Translation.{SwapClauses, HasCellsOf, IsSatisfiableAt, var_of, IsCellVar, AreApart, clauses_of_swaps}
use Rattle.translation_rules.proofs.Joining.{joined}
use Rattle.translation_rules.proofs.Tests.{any_number, flat_has, front, back, from_each}
use Rattle.translation.specs.Numbered.{pair_of, IsNext, AreNumbered}
use Rattle.translation.proofs.Chains.{member_next}

-- the valuation of a scenario
abbrev pub of_scenario : List ℕ → ℕ → Bool
of_scenario s var = list_any (nat_eq (var - 1)) s

pub has_cells : (p : Bounded) (s : List ℕ) → HasCellsOf p s (of_scenario s)
has_cells p s n l =
    let e : n + 1 - 1 ≡ n = omega arith in
    subst (λ m. IsTrue (list_any (nat_eq m) s) ↔ Contains s n) (sym e) (any_number n s)

nothing_to_satisfy : (p : Bounded) (s : List ℕ) → IsSatisfiableAt p s []
nothing_to_satisfy p s = record { valuation = of_scenario s; cells = has_cells p s; satisfied = λ k d l. absurd (omega arith) }

-- what satisfies a list of clauses satisfies its parts
module _ (p : Bounded) (s : List ℕ) (clauses others : List (List Lit)) (at : IsSatisfiableAt p s (clauses ++ others)) where
  first_part : IsSatisfiableAt p s clauses
  first_part = record { valuation = at.valuation; cells = at.cells; satisfied = front (λ c. IsTrue (clause_value at.valuation c)) clauses others at.satisfied }

  last_part : IsSatisfiableAt p s others
  last_part = record { valuation = at.valuation; cells = at.cells; satisfied = back (λ c. IsTrue (clause_value at.valuation c)) clauses others at.satisfied }

module _ (picks : Atom → Atom → Bool) where
  abbrev test : SwapClauses → Bool
  test x = picks x.first x.second

  abbrev clauses : SwapClauses → List (List Lit)
  clauses x = x.cnf.clauses

  picked : (x : SwapClauses) (xs : List SwapClauses) → test x ≡ true → clauses_of_swaps picks (x ∷ xs) ≡ x.cnf.clauses ++ clauses_of_swaps picks xs
  picked x xs t = ap (λ b. flat_map clauses (cond b (x ∷ filter test xs) (filter test xs))) t

  passed : (x : SwapClauses) (xs : List SwapClauses) → test x ≡ false → clauses_of_swaps picks (x ∷ xs) ≡ clauses_of_swaps picks xs
  passed x xs f = ap (λ b. flat_map clauses (cond b (x ∷ filter test xs) (filter test xs))) f

  module _ (p : Bounded) where
    -- the variables of numbered swaps are those of cells, or come behind
    all_behind : (last : ℕ) (xs : List SwapClauses) → AreNumbered p last xs → (var : ℕ) → IsVarOf (clauses_of_swaps picks xs) var → IsCellVar p var ⊎ (last < var)
    all_behind last xs all var has =
        let found = flat_has clauses (filter test xs) has.clause has.given in
        let next = member_next p last xs all found.0 (filter_has test xs found.0 found.1).0 in
        elim (next.2.variables var (record { clause = has.clause; literal = has.literal; given = found.2; member = has.member; same = has.same })) [
          | inl cell ↦ inl cell
          | inr r ↦ let l = next.1 in let m = r.0 in inr (omega arith)
        ]

    module _ (s : List ℕ) where
      -- none of the picked swaps of the list makes the scenario earlier
      abbrev NoneOf : List SwapClauses → Type 0
      NoneOf xs = (x : SwapClauses) → Contains xs x → test x ≡ true → SwapIsEarlier p x.first x.second (Contains s) → ⊥

      together : (last : ℕ) (xs : List SwapClauses) → AreNumbered p last xs → NoneOf xs → IsSatisfiableAt p s (clauses_of_swaps picks xs)
      together last [] all none = nothing_to_satisfy p s
      together last (x ∷ xs) all none =
          let rest = together x.cnf.vars xs all.1 (λ y c. none y (cons_later x xs y c)) in
          elim (cases_Bool (test x)) [
            | inl t ↦ subst (IsSatisfiableAt p s) (sym (picked x xs t)) (joined p s x.cnf.clauses (clauses_of_swaps picks xs) ((all.0.says s).0 (none x (cons_first x xs) t)) rest
                (λ var one other. elim (all_behind x.cnf.vars xs all.1 var other) [
                  | inl cell ↦ cell
                  | inr past ↦ elim (all.0.variables var one) [ inl cell ↦ cell | inr r ↦ absurd (let l = r.1 in omega arith) ]
                ]))
            | inr f ↦ subst (IsSatisfiableAt p s) (sym (passed x xs f)) rest
          ]

      one_of : (xs : List SwapClauses) (x : SwapClauses) → Contains xs x → test x ≡ true → IsSatisfiableAt p s (clauses_of_swaps picks xs) → IsSatisfiableAt p s x.cnf.clauses
      one_of [] x c t at = absurd (let l = c.1 in omega arith)
      one_of (y ∷ ys) x c t at = elim (cases_Bool (test y)) [
        | inl u ↦
            let split = subst (IsSatisfiableAt p s) (picked y ys u) at in
            elim (cons_cases y ys x c) [
              | inl same ↦ subst (λ (z : SwapClauses). IsSatisfiableAt p s z.cnf.clauses) same (first_part p s y.cnf.clauses (clauses_of_swaps picks ys) split)
              | inr later ↦ one_of ys x later t (last_part p s y.cnf.clauses (clauses_of_swaps picks ys) split)
            ]
        | inr f ↦ elim (cons_cases y ys x c) [
          | inl same ↦ absurd (let e : test y ≡ true = subst (λ z. test z ≡ true) (sym same) t in cc)
          | inr later ↦ one_of ys x later t (subst (IsSatisfiableAt p s) (passed y ys f) at)
        ]
      ]

      neighbour : (xs : List SwapClauses) → All (λ (x : SwapClauses). AreNeighbours p x.first x.second) xs → (x : SwapClauses) → Contains xs x → AreNeighbours p x.first x.second
      neighbour xs neighbours x c = subst (λ (z : SwapClauses). AreNeighbours p z.first z.second) c.2 (neighbours c.0 x c.1)

      -- where the swaps are those of all neighbours
      pub settled : (last : ℕ) (xs : List SwapClauses) → AreNumbered p last xs → All (λ (x : SwapClauses). AreNeighbours p x.first x.second) xs →
          ((a b : Atom) → AreNeighbours p a b → (x : SwapClauses) × Contains xs x × (pair_of x ≡ (a, b))) → NoSwapIsEarlier p (IsPicked p picks) (Contains s) ↔ IsSatisfiableAt p s (clauses_of_swaps picks xs)
      settled last xs all neighbours each = (
        λ none. together last xs all (λ x c t. none x.first x.second (neighbour xs neighbours x c, t)),
        λ at a b w earlier.
            let (x, c, same) = each a b w.0 in
            let t : test x ≡ true = subst (λ (q : Atom × Atom). picks q.0 q.1 ≡ true) (sym same) w.1 in
            let (behind, low, next) = member_next p last xs all x c in
            (next.says s).1 (one_of xs x c t at) (subst (λ (q : Atom × Atom). SwapIsEarlier p q.0 q.1 (Contains s)) (sym same) earlier),
      )

module _ (p : Bounded) where
  -- clauses over the variables up to the last share those of cells alone with each swap
  pub apart : (last : ℕ) (given : List (List Lit)) → ((var : ℕ) → IsVarOf given var → var ≤ last) → (xs : List SwapClauses) → AreNumbered p last xs → All (λ (x : SwapClauses). AreApart p given x.cnf.clauses) xs
  apart last given within xs all k d l var one other =
      let x = get_or xs k d in
      let next = member_next p last xs all x (k, l, get_or_default xs k x d l) in
      elim (next.2.variables var other) [
        | inl cell ↦ cell
        | inr r ↦ absurd (let a = within var one in let b = next.1 in let c = r.0 in omega arith)
      ]

  -- and so do the swaps among each other
  pub swaps_apart : (last : ℕ) (xs : List SwapClauses) → AreNumbered p last xs → AllPairs (λ (x y : SwapClauses). AreApart p x.cnf.clauses y.cnf.clauses) xs
  swaps_apart last [] all = λ i j d less l. absurd (omega arith)
  swaps_apart last (x ∷ xs) all = pairs_append (λ (y z : SwapClauses). AreApart p y.cnf.clauses z.cnf.clauses) (x ∷ []) xs (λ i j d less l. absurd (omega arith)) (swaps_apart x.cnf.vars xs all.1)
      (from_each (λ (y : SwapClauses). All (λ (z : SwapClauses). AreApart p y.cnf.clauses z.cnf.clauses) xs) (x ∷ []) (λ y c. elim (cons_cases x [] y c) [
        | inl same ↦ subst (λ (y : SwapClauses). All (λ (z : SwapClauses). AreApart p y.cnf.clauses z.cnf.clauses) xs) same (from_each (λ (z : SwapClauses). AreApart p x.cnf.clauses z.cnf.clauses) xs (λ z d var one other.
            let next = member_next p x.cnf.vars xs all.1 z d in
            elim (all.0.variables var one) [
              | inl cell ↦ cell
              | inr r ↦ elim (next.2.variables var other) [ inl cell ↦ cell | inr q ↦ absurd (let a = r.1 in let b = next.1 in let e = q.0 in omega arith) ]
            ]))
        | inr none ↦ absurd (let l = none.1 in omega arith)
      ]))
