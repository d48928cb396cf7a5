-- Truth over the relations' sets is truth in the scenario.
use Rattle.std.proofs.Common.{◌≡◌, ℕ, ◌<◌, ◌↔◌, inl, inr, List, [], length, get_or, map, Contains, All, sym, ◌∙◌, subst, arith}
use Rattle.std.proofs.lemmas.Bool.{cases_lt}
use Rattle.std.proofs.lemmas.List.{get_or-map, same_lists, length-map, get_or_past}
use Rattle.std.proofs.lemmas.List.Elements.{All-contains}
use Rattle.tuple_core.specs.Gains.{Same}
use Rattle.tuple_core.specs.Rows.{Rows}
use Rattle.tuple_core.proofs.Congruence.{rows_same}
use Rattle.rel_formula.specs.declared.problem.Relation.{Relation}
use Rattle.rel_formula.specs.Bounds.{Bounded, IsProblem, relation_at}
use Rattle.rel_formula.specs.Instance.{InRelation, InSome, HoldsWhere, structure_of}
use Rattle.rel_formula.specs.Meaning.{Truth}
use Rattle.rel_formula.specs.Tables.{AreTables, AreTablesOf, Tabled, values_of, tabled}
use Rattle.rel_formula.proofs.OpenCells.{cell_open}
use Rattle.rel_formula.proofs.Tabled.{no_rows, no_relation}
use Rattle.rel_formula.proofs.Congruence.{truth_same}

module _ (p : Bounded) (s : List ℕ) (vs : List Rows) (well : IsProblem p) (are : AreTables p s vs) where
  pub arities_are : map (λ (v : Rows). v.arity) vs ≡ map (λ (r : Relation). r.lower.arity) p.relations
  arities_are =
      let f : Rows → ℕ = λ v. v.arity in
      let g : Relation → ℕ = λ r. r.lower.arity in
      same_lists (map f vs) (map g p.relations) (length-map vs f ∙ are.count ∙ sym (length-map p.relations g))
      (λ k d l. let in' : k < length vs = (let e = length-map vs f in omega arith) in
      let there : k < length p.relations = (let e = are.count in omega arith) in
      get_or-map f vs k no_rows d in' ∙ (are.each k no_rows in').arity_is ∙ sym (get_or-map g p.relations k no_relation d there))

  pub tops_there : All (λ r. r < length vs) p.tops
  tops_there k d l = let h = well.tops k d l in let e = are.count in omega arith

  pub tops_unary : (r : ℕ) (d : Rows) → Contains p.tops r → (get_or vs r d).arity ≡ 1
  tops_unary r d c =
      let there : r < length p.relations = All-contains (λ r. r < length p.relations) p.tops r well.tops c in
      let one : (relation_at p.relations r).upper.arity ≡ 1 = All-contains (λ r. (relation_at p.relations r).upper.arity ≡ 1) p.tops r well.unary c in
      (are.each r d (let e = are.count in omega arith)).arity_is ∙ sym (well.relations r no_relation there).arity ∙ one

  values_are : (r : ℕ) → Same (values_of vs r) (InRelation p (Contains s) r)
  values_are r = elim (cases_lt r (length vs)) [
    | inl l ↦ rows_same (are.each r no_rows l)
    | inr past ↦ let e = are.count in
        record {
          to = λ t c. absurd (let h = (subst (λ (v : Rows). Contains v.rows t) (get_or_past vs r no_rows past) c).1 in omega arith);
          back = λ t h. absurd (elim h [
            | inl c ↦ (let m = (subst (λ (x : Relation). Contains x.lower.rows t) (get_or_past p.relations r no_relation (omega arith)) c).1 in omega arith)
            | inr g ↦ (let o = (cell_open p g.0 r t g.2).0 in omega arith)
          ]);
        }
  ]

  pub some_same : Same (InSome p.tops (values_of vs)) (InSome p.tops (InRelation p (Contains s)))
  some_same = record {
    to = λ t h. (h.0, h.1, (values_are h.0).to t h.2);
    back = λ t h. (h.0, h.1, (values_are h.0).back t h.2);
  }

pub holds_is : (p : Bounded) (s : List ℕ) (tables : Tabled) → IsProblem p → AreTablesOf p s tables → Truth (tabled tables) [] p.formula ↔ HoldsWhere p (Contains s)
holds_is p s tables well are = truth_same (tabled tables) (structure_of p (Contains s)) (values_are p s tables.values well are.values) (rows_same are.universe) [] p.formula
