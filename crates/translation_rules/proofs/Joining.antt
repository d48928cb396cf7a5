-- Clauses that share no variables but those of cells can be satisfied together.
use Rattle.std.proofs.Common.{◌≡◌, ◌↔◌, inl, inr, ◌==◌, ℕ, Bool, true, false, cond, List, [], ◌∷◌, ◌++◌, get_or, filter, Contains, IsTrue, refl, sym, ◌∙◌, ap, subst}
use Rattle.std.specs.List.{list_any}
use Rattle.std.proofs.lemmas.Bool.{cases_Bool, eqb-true, eq-eqb}
use Rattle.std.proofs.lemmas.List.{get_or_default}
use Rattle.std.proofs.lemmas.List.Elements.{All-append, All-contains}
use Rattle.tuple_core.specs.declared.atom.Atom.{Atom}
use Rattle.cnf_core.specs.declared.literal.Lit.{Lit}
use Rattle.cnf_core.specs.Valuation.{clause_value, Satisfies}
use Rattle.refutation_check.specs.SearchLog.{IsVarOf}
use Rattle.rel_formula.specs.Bounds.{Bounded}
use Rattle.rel_formula.specs.Instance.{IsInstance}
use Rattle.rel_formula.proofs.OpenCells.{cons_first, cons_later, filter_has}
use Rattle.swap_symmetry.specs.Swaps.{NoSwapIsEarlier}
use Rattle.translation_rules.specs.Free.{IsPicked}
use Rattle.translation_rules.specs.Translation.{SwapClauses, Translated, HasCellsOf, IsSatisfiableAt, var_of, IsCellVar, AreApart, StandsFor, clauses_of_swaps}
use Rattle.translation_rules.proofs.Tests.{any_has, has_any, flat_has}

abbrev has_var : ℕ → List Lit → Bool
has_var n clause = list_any (λ l. l.var == n) clause

-- whether some clause has a literal of the variable
abbrev speaks_of : List (List Lit) → ℕ → Bool
speaks_of clauses n = list_any (has_var n) clauses

speaks : (clauses : List (List Lit)) (n : ℕ) → speaks_of clauses n ≡ true → IsVarOf clauses n
speaks clauses n h =
    let c = any_has (has_var n) clauses h in
    let l = any_has (λ (l : Lit). l.var == n) c.0 c.2 in
    record { clause = c.0; literal = l.0; given = c.1; member = l.1; same = eqb-true l.0.var n l.2 }

spoken : (clauses : List (List Lit)) (n : ℕ) → IsVarOf clauses n → speaks_of clauses n ≡ true
spoken clauses n v = has_any (has_var n) clauses v.clause v.given (has_any (λ (l : Lit). l.var == n) v.clause v.literal v.member (eq-eqb v.literal.var n v.same))

-- valuations that agree on its variables give a clause one value
one_value : (v w : ℕ → Bool) (clause : List Lit) → ((l : Lit) → Contains clause l → v l.var ≡ w l.var) → clause_value v clause ≡ clause_value w clause
one_value v w [] same = refl
one_value v w (l ∷ ls) same =
    let first : v l.var ≡ w l.var = same l (cons_first l ls) in
    let others : clause_value v ls ≡ clause_value w ls = one_value v w ls (λ k h. same k (cons_later l ls k h)) in
    cc

-- and so satisfy the same clauses
pub carried : (v w : ℕ → Bool) (clauses : List (List Lit)) → ((n : ℕ) → IsVarOf clauses n → v n ≡ w n) → Satisfies w clauses → Satisfies v clauses
carried v w clauses same holds k d in' =
    one_value v w (get_or clauses k d) (λ l h. same l.var (record {
      clause = get_or clauses k d;
      literal = l;
      given = (k, in', get_or_default clauses k (get_or clauses k d) d in');
      member = h;
      same = refl;
    })) ∙ holds k d in'

same_bool : (a b : Bool) (P : Type 0) → (a ≡ true) ↔ P → (b ≡ true) ↔ P → a ≡ b
same_bool a b P x y = elim (cases_Bool a) [
  | inl t ↦ t ∙ sym (y.1 (x.0 t))
  | inr f ↦ elim (cases_Bool b) [
    | inl u ↦ let t = x.1 (y.0 u) in cc
    | inr g ↦ f ∙ sym g
  ]
]

module _ (p : Bounded) (s : List ℕ) (clauses others : List (List Lit)) (one : IsSatisfiableAt p s clauses) (other : IsSatisfiableAt p s others) (apart : AreApart p clauses others) where
  on_cells : (n : ℕ) → IsCellVar p n → one.valuation n ≡ other.valuation n
  on_cells n (cell, less, is) =
      subst (λ k. one.valuation k ≡ other.valuation k) (sym is)
      (same_bool (one.valuation (var_of cell)) (other.valuation (var_of cell)) (Contains s cell) (one.cells cell less) (other.cells cell less))

  -- the first valuation on the variables of the first clauses, and the other elsewhere
  both : ℕ → Bool
  both n = cond (speaks_of clauses n) (one.valuation n) (other.valuation n)

  module _ (n : ℕ) where
    is_one : speaks_of clauses n ≡ true → both n ≡ one.valuation n
    unfolding both
    is_one t = ap (λ b. cond b (one.valuation n) (other.valuation n)) t

    is_other : speaks_of clauses n ≡ false → both n ≡ other.valuation n
    unfolding both
    is_other f = ap (λ b. cond b (one.valuation n) (other.valuation n)) f

  as_other : (n : ℕ) → IsVarOf others n → both n ≡ other.valuation n
  as_other n v = elim (cases_Bool (speaks_of clauses n)) [
    | inl t ↦ is_one n t ∙ on_cells n (apart n (speaks clauses n t) v)
    | inr f ↦ is_other n f
  ]

  both_cells : HasCellsOf p s both
  both_cells cell less = elim (cases_Bool (speaks_of clauses (var_of cell))) [
    | inl t ↦ subst (λ b. IsTrue b ↔ Contains s cell) (sym (is_one (var_of cell) t)) (one.cells cell less)
    | inr f ↦ subst (λ b. IsTrue b ↔ Contains s cell) (sym (is_other (var_of cell) f)) (other.cells cell less)
  ]

  pub joined : IsSatisfiableAt p s (clauses ++ others)
  joined = record {
    valuation = both;
    cells = both_cells;
    satisfied = All-append (λ c. IsTrue (clause_value both c)) clauses others
        (carried both one.valuation clauses (λ n v. is_one n (spoken clauses n v)) one.satisfied)
        (carried both other.valuation others as_other other.satisfied);
  }

swaps_apart : (p : Bounded) (t : Translated) → StandsFor p t → (picks : Atom → Atom → Bool) → AreApart p t.cnf.clauses (clauses_of_swaps picks t.swaps)
swaps_apart p t stands picks var one other =
    let found = flat_has (λ (x : SwapClauses). x.cnf.clauses) (filter (λ (x : SwapClauses). picks x.first x.second) t.swaps) other.clause other.given in
    All-contains (λ (x : SwapClauses). AreApart p t.cnf.clauses x.cnf.clauses) t.swaps found.0 stands.apart (filter_has (λ (x : SwapClauses). picks x.first x.second) t.swaps found.0 found.1).0 var one
    (record { clause = other.clause; literal = other.literal; given = found.2; member = other.member; same = other.same })

pub satisfies_both : (p : Bounded) (t : Translated) → StandsFor p t → (picks : Atom → Atom → Bool) (s : List ℕ) → IsInstance p s → NoSwapIsEarlier p (IsPicked p picks) (Contains s) →
    IsSatisfiableAt p s (t.cnf.clauses ++ clauses_of_swaps picks t.swaps)
satisfies_both p t stands picks s instance settled =
    joined p s t.cnf.clauses (clauses_of_swaps picks t.swaps) ((stands.instances s instance.scenario).0 instance) ((stands.settled picks s instance.scenario).0 settled) (swaps_apart p t stands picks)
