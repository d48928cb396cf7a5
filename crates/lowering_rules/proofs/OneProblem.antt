-- A model and a command have one problem, and where they have one nothing refuses it.
use Rattle.std.proofs.Common.{◌≡◌, ◌≢◌, ℕ, zero, suc, inl, inr, ◌<◌, ◌≤◌, ◌^◌, List, [], ◌∷◌, length, Contains, All, AllPairs, Result, Ok, Err, refl, sym, ◌∙◌, ap, subst, arith}
use Rattle.std.specs.List.{AllZip}
use Rattle.std.proofs.lemmas.Slice.Zip.{AllZip-long}
use Rattle.std.proofs.lemmas.List.Elements.{All-head, All-tail, All-contains}
use Rattle.tuple_core.specs.Operators.{Pred}
use Rattle.tuple_core.specs.Rows.{Rows, IsRows, IsSetOf}
use Rattle.tuple_core.proofs.Ascending.{same_rows}
use Rattle.rel_formula.specs.declared.problem.Relation.{Relation}
use Rattle.rel_formula.specs.declared.problem.Cell.{Cell}
use Rattle.rel_formula.specs.Bounds.{Bounded, IsRelation, IsProblem, cells_of}
use Rattle.rel_formula.proofs.Lists.{some-Contains, some_below}
use Rattle.rel_formula.proofs.Counts.{no_longer}
use Rattle.rel_formula.proofs.OpenCells.{open_cell}
use Rattle.rel_terms.specs.Terms.{HasTerms}
use Rattle.named_model.specs.declared.fault.NameFault.{NameFault}
use Rattle.named_model.specs.Model.{NamedTree}
use Rattle.model_sizes.specs.declared.size.Size.{Size}
use Rattle.model_sizes.specs.Sizes.{sizes_in}
use Rattle.lowering_rules.specs.declared.fault.LowerFault.{LowerFault}
use Rattle.lowering_rules.specs.declared.fault.LowerFault.TheVariants as fault
use Rattle.lowering_rules.specs.Relations.{Outline, outlines, IsOutlined, MayHave, Has}
use Rattle.lowering_rules.specs.Formula.{formula_of}
use Rattle.lowering_rules.specs.Problem.{ProblemOf, IsCellOf, HasMoreCells, IsWant, IsRefusal}
use Rattle.lowering_rules.proofs.Outlined.{outlined_at, same_some}

-- ---- one problem

set_once : (v w : Rows) (n : ℕ) (P : Pred) → IsRows v → IsRows w → IsSetOf v n P → IsSetOf w n P → v ≡ w
set_once v w n P iv iw sv sw = same_rows v w iv iw (sv.arity_is ∙ sym sw.arity_is) (record {
  to = λ t c. (sw.just t).1 ((sv.just t).0 c);
  back = λ t c. (sv.just t).1 ((sw.just t).0 c);
})

relation_once : (sizes : List Size) (o : Outline) (r s : Relation) → IsRelation r → IsRelation s → IsOutlined sizes o r → IsOutlined sizes o s → r ≡ s
relation_once sizes o r s ir is or os =
    let name : r.name ≡ s.name = or.name ∙ sym os.name in
    let lower = set_once r.lower s.lower o.arity (Has sizes o) ir.lower is.lower or.lower os.lower in
    let upper = set_once r.upper s.upper o.arity (MayHave sizes o) ir.upper is.upper or.upper os.upper in
    λ i. record { name = name i; lower = lower i; upper = upper i }

relations_once : (sizes : List Size) (os : List Outline) (rs ss : List Relation) → AllZip (IsOutlined sizes) os rs → AllZip (IsOutlined sizes) os ss → All IsRelation rs → All IsRelation ss → rs ≡ ss
relations_once sizes [] [] [] h g a b = refl
relations_once sizes [] [] (s ∷ ss) h g a b = absurd g
relations_once sizes [] (r ∷ rs) ss h g a b = absurd h
relations_once sizes (o ∷ os) [] ss h g a b = absurd h
relations_once sizes (o ∷ os) (r ∷ rs) [] h g a b = absurd g
relations_once sizes (o ∷ os) (r ∷ rs) (s ∷ ss) h g a b =
    let one = relation_once sizes o r s (All-head IsRelation r rs a) (All-head IsRelation s ss b) h.0 g.0 in
    let rest = relations_once sizes os rs ss h.1 g.1 (All-tail IsRelation r rs a) (All-tail IsRelation s ss b) in
    λ i. one i ∷ rest i

pub same_sizes : (a b : List Size) (r : Result (List Size) NameFault) → r ≡ Ok a → r ≡ Ok b → a ≡ b
same_sizes a b r e f = cc

pub sizes_not : (a : List Size) (f : NameFault) (r : Result (List Size) NameFault) → r ≡ Ok a → r ≡ Err f → ⊥
sizes_not a f r d e = absurd cc

pub problem_once : (m : NamedTree) (n : ℕ) (facts : List ℕ) (p q : Bounded) → IsProblem p → IsProblem q → ProblemOf m n facts p → ProblemOf m n facts q → p ≡ q
problem_once m n facts p q ip iq op oq =
    let sizes : oq.sizes ≡ op.sizes = same_sizes oq.sizes op.sizes (sizes_in m n) oq.commands.sized op.commands.sized in
    let command : op.command ≡ oq.command = same_some op.command oq.command (sym op.commands.there ∙ oq.commands.there) in
    let other = subst (λ zs. AllZip (IsOutlined zs) (outlines m zs) q.relations) sizes oq.relations in
    let relations = relations_once op.sizes (outlines m op.sizes) p.relations q.relations op.relations other ip.relations iq.relations in
    let tops : p.tops ≡ q.tops = op.tops ∙ sym oq.tops in
    let formula : p.formula ≡ q.formula = op.formula ∙ ap (λ c. formula_of m c facts) command ∙ sym oq.formula in
    λ i. record { relations = relations i; tops = tops i; formula = formula i }

-- ---- not refused

module _ (m : NamedTree) (n : ℕ) (facts : List ℕ) (p : Bounded) (is : IsProblem p) (of : ProblemOf m n facts p) where
  count : length p.relations ≡ length (outlines m of.sizes)
  count = AllZip-long (IsOutlined of.sizes) (outlines m of.sizes) p.relations of.relations

  -- each cell of the model is one of the problem
  cell_has : (c : Cell) → IsCellOf of.sizes (outlines m of.sizes) c → Contains (cells_of p) c
  cell_has c h =
      let l : c.relation < length p.relations = (let low = some_below (outlines m of.sizes) c.relation h.0 h.1 in let e = count in omega arith) in
      let o = outlined_at of.sizes (outlines m of.sizes) p.relations of.relations c.relation l in
      let same : h.0 ≡ o.0 = same_some h.0 o.0 (sym h.1 ∙ o.1) in
      let up = (o.2.upper.just c.tuple).1 (subst (λ q. MayHave of.sizes q c.tuple) same h.2) in
      let at = open_cell p c.relation c.tuple l up (λ low. h.3 (subst (λ q. Has of.sizes q c.tuple) (sym same) ((o.2.lower.just c.tuple).0 low))) in
      some-Contains (cells_of p) at.0 c at.1

  pub few_cells : HasMoreCells of.sizes (outlines m of.sizes) 4096 → ⊥
  few_cells h =
      let less = no_longer h.cells (cells_of p) h.differ (λ c e. cell_has c (All-contains (IsCellOf of.sizes (outlines m of.sizes)) h.cells c h.each e)) in
      let more = h.more in
      let few = is.few_cells in
      absurd (omega arith)

  sizes_are : (sizes : List Size) → sizes_in m n ≡ Ok sizes → sizes ≡ of.sizes
  sizes_are sizes e = same_sizes sizes of.sizes (sizes_in m n) e of.commands.sized

  pub not_refused : (k : ℕ) → HasTerms p k → k ≤ 2 ^ 18 → (f : LowerFault) → IsRefusal m n facts f → IsWant f
  not_refused k has few fault.NoCommand h = absurd (let there = of.commands.there in cc)
  not_refused k has few (fault.Scope f) h = absurd (sizes_not of.sizes f (sizes_in m n) of.commands.sized h.2)
  not_refused k has few fault.TooManyRelations h =
      let more = subst (λ zs. 128 < length (outlines m zs)) (sizes_are h.1 h.2.sized) h.3 in
      let e = count in
      let most = is.few in
      absurd (omega arith)
  not_refused k has few fault.TooManyCells h = absurd (few_cells (subst (λ zs. HasMoreCells zs (outlines m zs) 4096) (sizes_are h.1 h.2.sized) h.4))
  not_refused k has few fault.TooManyTerms h =
      let same : h.0 ≡ p = problem_once m n facts h.0 p h.1 is h.2 of in
      let more = h.3 k (subst (λ q. HasTerms q k) (sym same) has) in
      absurd (omega arith)
  not_refused k has few fault.TooLarge h = inr refl
  not_refused k has few fault.Memory h = inl refl
