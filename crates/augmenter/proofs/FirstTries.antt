-- What a trail that is tried first tells of a search for an instance with some cells.
use Rattle.std.proofs.Common.{◌≡◌, ◌<◌, ◌≤◌, ℕ, Bool, List, [], ◌∷◌, ◌++◌, map, length, get_or, inl, inr, All, IsTrue, refl, sym, ◌∙◌, ap, subst, arith, append-nil}
use Rattle.std.proofs.lemmas.List.{get_or_default, length-map, get_or-map}
use Rattle.std.proofs.lemmas.List.Elements.{All-map, All-contains, Contains-append_left, Contains-append_right, Contains-append_cases}
use Rattle.std.specs.List.{Contains}
use Rattle.cnf_core.specs.declared.literal.Lit.{Lit}
use Rattle.cnf_core.specs.Literal.{HasVarsUpTo}
use Rattle.cnf_core.specs.Valuation.{clause_value, value_of}
use Rattle.refutation_check.specs.declared.log.Step.{Step as LogStep}
use Rattle.refutation_check.specs.Chain.{members_of, IsAccepted, IsChain}
use Rattle.rel_formula.specs.Instance.{with_cell}
use Rattle.rel_formula.proofs.WithCell.{with_cell_has}
use Rattle.sat_trail.specs.Trailed.{Trailed}
use Rattle.sat_core.specs.declared.search.Answer.TheVariants.{Found, Refuted, Spent}
use Rattle.sat_core.specs.Answers.{IsModel}
use Rattle.sat_core.specs.Assuming.{IsSplit}
use Rattle.sat_core.specs.Lent.{with_units}
use Rattle.sat_core.specs.Search.{IsAnswerTo, IsSoFar, IsVarIn}
use Rattle.sat_core.proofs.Answered.{answer_so_far, found_answer, refuted_answer, stopped_answer}
use Rattle.sat_core.proofs.Searches.{learnt_none, members_none}
use Rattle.translation_rules.specs.Translation.{Translated}
use Rattle.translation_rules.specs.Locals.{literal_of, units_of}
use Rattle.translation_rules.proofs.Tests.{from_each}
use Rattle.augmenter.specs.Raising.{HasCells, Serves}

-- the units of cells are clauses of one literal, that the cell is there
split_units : (cells : List ℕ) → IsSplit (units_of cells) (map literal_of cells) [] []
split_units cells =
    let unit : ℕ → List Lit = λ cell. literal_of cell ∷ [] in
    record {
      units = λ l h.
          let below : h.0 < length cells = omega (arith, h.1, length-map cells literal_of) in
          (h.0, omega (arith, below, length-map cells unit), get_or-map unit cells h.0 0 (l ∷ []) below ∙ ap (λ (x : Lit). x ∷ []) (sym (get_or-map literal_of cells h.0 0 l below) ∙ h.2));
      each = λ c h.
          let below : h.0 < length cells = omega (arith, h.1, length-map cells unit) in
          let l : Lit = literal_of (get_or cells h.0 0) in
          inr (l, sym h.2 ∙ get_or-map unit cells h.0 0 c below, (h.0, omega (arith, below, length-map cells literal_of), get_or-map literal_of cells h.0 0 l below));
      as_many = refl;
      few = omega arith;
      named = λ i d e h. absurd (omega arith);
      longer = λ k d h. absurd (omega arith);
    }

-- the literals of cells have variables of a trail that has those of the cells
pub literals_in : (vars : ℕ) (cells : List ℕ) → All (λ cell. cell < vars) cells → All (IsVarIn vars) (map literal_of cells)
literals_in vars cells in_range = All-map (IsVarIn vars) literal_of cells (λ k d h. (omega arith, let l = in_range k d h in omega arith))

module _ (t : Translated) (pool : List LogStep) (cells : List ℕ) (budget : ℕ) where
  abbrev given : List (List Lit)
  given = members_of (t.cnf.clauses ++ units_of cells) pool

  abbrev kept : List (List Lit)
  kept = members_of (t.cnf.clauses ++ []) pool

  kept_is : kept ≡ members_of t.cnf.clauses pool
  kept_is = ap (λ (cs : List (List Lit)). members_of cs pool) (append-nil t.cnf.clauses)

  -- no step is needed for what was found
  pub found_at_once : (valuation : List Bool) → HasCells t.cnf.vars (members_of t.cnf.clauses pool) cells valuation → IsAnswerTo t.cnf (units_of cells) pool budget (Found valuation [])
  found_at_once valuation has =
      let model : IsModel (length valuation) (with_units (members_of t.cnf.clauses pool) (map literal_of cells)) valuation =
      record { enough = omega arith; within = has.model.within; satisfied = has.model.satisfied } in
      found_answer t.cnf (units_of cells) (map literal_of cells) [] [] pool budget (split_units cells) [] (length valuation) valuation (learnt_none kept (map literal_of cells)) (omega arith)
      (refl, subst (λ (cs : List (List Lit)). IsModel (length valuation) (with_units cs (map literal_of cells)) valuation) (sym kept_is) model) has.enough has.small

  none_so_far : IsSoFar given (units_of cells) (length t.cnf.clauses) []
  none_so_far = answer_so_far t.cnf (units_of cells) (map literal_of cells) [] [] pool budget (split_units cells) [] (learnt_none kept (map literal_of cells))

  module _ (s : LogStep) (empty : s.clause ≡ []) (chain : IsChain given s.clause s.hints) where
    chain_on : IsChain (members_of given []) s.clause s.hints
    chain_on = subst (λ (cs : List (List Lit)). IsChain cs s.clause s.hints) (sym (members_none given)) chain

    pub stopped_at_once : 0 ≡ budget → IsAnswerTo t.cnf (units_of cells) pool budget (Spent [])
    stopped_at_once none = stopped_answer t.cnf (units_of cells) pool budget [] none_so_far s empty chain_on none

    pub refuted_at_once : IsAccepted t.cnf.clauses pool → 1 ≤ budget → IsAnswerTo t.cnf (units_of cells) pool budget (Refuted (s ∷ []))
    refuted_at_once accepted some = refuted_answer t.cnf (units_of cells) pool budget [] none_so_far s empty chain_on (s ∷ []) accepted some refl

-- a cell has its unit
unit_there : (cells : List ℕ) (n : ℕ) → Contains cells n → Contains (units_of cells) (literal_of n ∷ [])
unit_there cells n (k, h, e) =
    let unit : ℕ → List Lit = λ m. literal_of m ∷ [] in
    (k, omega (arith, h, length-map cells unit), get_or-map unit cells k n (unit n) h ∙ ap unit e)

-- what holds for the clauses of a trail that serves, and for a cell more, holds for those of the translation and for each cell
module _ (t : Translated) (pool : List LogStep) (scenario : List ℕ) (cell : ℕ) where
  abbrev before : List (List Lit)
  before = with_units (members_of (t.cnf.clauses ++ units_of scenario) pool) (literal_of cell ∷ [])

  abbrev after : List (List Lit)
  after = with_units (members_of t.cnf.clauses pool) (map literal_of (with_cell cell scenario))

  units_are : (cells : List ℕ) → map (λ (l : Lit). l ∷ []) (map literal_of cells) ≡ units_of cells
  units_are [] = refl
  units_are (c ∷ cells) = ap (λ (us : List (List Lit)). (literal_of c ∷ []) ∷ us) (units_are cells)

  unit_in : (c : List Lit) → Contains (units_of (with_cell cell scenario)) c → Contains before c
  unit_in c h =
      let unit : ℕ → List Lit = λ n. literal_of n ∷ [] in
      let below : h.0 < length (with_cell cell scenario) = omega (arith, h.1, length-map (with_cell cell scenario) unit) in
      let n : ℕ = get_or (with_cell cell scenario) h.0 0 in
      let is : unit n ≡ c = sym (get_or-map unit (with_cell cell scenario) h.0 0 c below) ∙ h.2 in
      let steps : List (List Lit) = map (λ (s : LogStep). s.clause) pool in
      elim ((with_cell_has cell scenario n).0 (h.0, below, get_or_default (with_cell cell scenario) h.0 n 0 below)) [
        | inl old ↦ Contains-append_left _ _ c (Contains-append_left (t.cnf.clauses ++ units_of scenario) steps c (Contains-append_right t.cnf.clauses (units_of scenario) c (subst (Contains (units_of scenario)) is (unit_there scenario n old))))
        | inr new ↦ Contains-append_right (members_of (t.cnf.clauses ++ units_of scenario) pool) _ c (0, omega arith, ap unit (sym new) ∙ is)
      ]

  each_in : (c : List Lit) → Contains after c → Contains before c
  each_in c h =
      let steps : List (List Lit) = map (λ (s : LogStep). s.clause) pool in
      elim (Contains-append_cases (members_of t.cnf.clauses pool) _ c h) [
        | inl given ↦ Contains-append_left _ _ c (elim (Contains-append_cases t.cnf.clauses steps c given) [
          | inl formula ↦ Contains-append_left (t.cnf.clauses ++ units_of scenario) steps c (Contains-append_left t.cnf.clauses (units_of scenario) c formula)
          | inr step ↦ Contains-append_right (t.cnf.clauses ++ units_of scenario) steps c step
        ])
        | inr unit ↦ unit_in c (subst (λ (cs : List (List Lit)). Contains cs c) (units_are (with_cell cell scenario)) unit)
      ]

  all_after : (P : List Lit → Type 0) → All P before → All P after
  all_after P all = from_each P after (λ c h. All-contains P before c all (each_in c h))

-- what has a cell on a trail that serves has it, and the scenario's cells, in the translation
pub serves_cells : (t : Translated) (pool : List LogStep) (scenario : List ℕ) (trail : Trailed) (cell : ℕ) (valuation : List Bool) → Serves t pool scenario trail → HasCells trail.vars trail.clauses (cell ∷ []) valuation →
    HasCells t.cnf.vars (members_of t.cnf.clauses pool) (with_cell cell scenario) valuation
serves_cells t pool scenario trail cell valuation serves has =
    let low : t.cnf.vars ≤ length valuation = let e = serves.enough in let l = has.enough in omega arith in
    let model : IsModel trail.vars (before t pool scenario cell) valuation = subst (λ (cs : List (List Lit)). IsModel trail.vars (with_units cs (literal_of cell ∷ [])) valuation) serves.clauses_are has.model in
    record {
      enough = low;
      small = has.small;
      model = record { enough = low; within = all_after t pool scenario cell (HasVarsUpTo (length valuation)) model.within; satisfied = all_after t pool scenario cell (λ (c : List Lit). IsTrue (clause_value (value_of valuation) c)) model.satisfied };
    }

-- a trail that serves still does where its clauses and variables are the same
pub serves_on : (t : Translated) (pool : List LogStep) (scenario : List ℕ) (old new : Trailed) → new.clauses ≡ old.clauses → new.vars ≡ old.vars → Serves t pool scenario old → Serves t pool scenario new
serves_on t pool scenario old new clauses vars serves = record { clauses_are = clauses ∙ serves.clauses_are; enough = let e = serves.enough in omega arith }
