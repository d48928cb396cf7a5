use Rattle.std.proofs.Common.{◌≡◌, ◌∙◌, sym, ap, subst, List, length, get_or, refl}
use Rattle.std.proofs.lemmas.List.{get_or_default}
use Rattle.tuple_core.specs.declared.atom.Atom.{Atom}
use Rattle.tuple_core.specs.Order.{IsAscending}
use Rattle.tuple_core.proofs.Steps.{row_arity}
use Rattle.bool_matrix.specs.Cells.{ThereIn}
use Rattle.bool_matrix.specs.Edits.{Puts}
use Rattle.rel_formula.specs.declared.problem.Relation.{Relation}
use Rattle.rel_formula.specs.Bounds.{relation_at}
use Rattle.rel_formula.specs.Instance.{InRelation}
use Rattle.rel_formula.proofs.Tabled.{no_relation}
use Rattle.rel_translate.proofs.Tabled.{ChosenAt, row_absent, so_far_none, so_far_more, relation_well, there_more, there_none}
use Rattle.rel_translate.proofs.leaves.relation.Goals as goal

pub loop-tuple-init : goal.loop-tuple-init
loop-tuple-init c = record {
  arity = refl;
  there = there_none c.new-out.result c.rows-tuple-items.result.now c.new-out.ensures.entries;
  value = λ network leaves. so_far_none network c.new-out.result (λ s. InRelation c.args.problem.now (ChosenAt s) c.args.number) c.rows-tuple-items.result.now c.new-out.ensures.entries;
}

pub loop-tuple-preserved : goal.loop-tuple-preserved
loop-tuple-preserved c =
    let p = c.args.problem.now in
    let rows = c.rows-tuple-items.result.now in
    let i = c.loop-tuple.tuple-index in
    let x = c.tuple-item.result in
    let l = c.loop-tuple-test.true in
    let is = c.tuple-item.is in
    let inv = c.loop-tuple.invariant in
    let node = c.node_of-node.result in
    let puts = subst (λ t. Puts c.loop-tuple.out c.put.new.self t node) c.copy.ensures c.in_ok-put.ensures.gains in
    record {
      arity = puts.arity ∙ inv.arity;
      there = there_more c.loop-tuple.out c.put.new.self rows i x l is puts.there inv.there;
      value = λ network leaves. so_far_more network c.loop-tuple.out c.put.new.self (λ s. InRelation p (ChosenAt s) c.args.number) rows i x node l is puts (c.node_of-node.ensures network leaves) (inv.value network leaves);
    }

pub put-requires-clause-arity : goal.put-requires-clause-arity
put-requires-clause-arity c =
    let upper = (get_or c.relations-relations.result.now c.args.number c.index-relations-number.result).upper in
    ap (λ (t : List Atom). length t) c.copy.ensures
    ∙ row_arity c.rows-tuple-items.result.now upper c.loop-tuple.tuple-index c.tuple-item.result c.rows-tuple-items.ensures.value c.rows-tuple-items.ensures.well c.loop-tuple-test.true c.tuple-item.is
    ∙ sym (c.loop-tuple.invariant.arity ∙ c.new-out.ensures.arity ∙ c.arity.ensures.value)

pub put-requires-clause-absent : goal.put-requires-clause-absent
put-requires-clause-absent c = λ g.
    let rows = c.rows-tuple-items.result.now in
    let x = c.tuple-item.result in
    let there = c.loop-tuple.invariant.there.to x (subst (ThereIn c.loop-tuple.out) c.copy.ensures g) in
    row_absent rows c.loop-tuple.tuple-index x (subst IsAscending (sym c.rows-tuple-items.ensures.value) c.rows-tuple-items.ensures.well.ascending) c.loop-tuple-test.true c.tuple-item.is x there refl

pub returns : goal.returns
returns c = λ network leaves.
    let p = c.args.problem.now in
    let r = c.index-relations-number.result in
    let at : get_or c.relations-relations.result.now c.args.number r ≡ relation_at p.relations c.args.number = ap (λ (rs : List Relation). get_or rs c.args.number r) c.relations-relations.ensures.value ∙ get_or_default p.relations c.args.number r no_relation c.requires.number in
    let inv = c.loop-tuple.invariant in
    relation_well p network c.args.number c.loop-tuple.tuple-index c.loop-tuple.out c.rows-tuple-items.result.now c.requires.problem c.requires.number
    (c.rows-tuple-items.ensures.value ∙ ap (λ (y : Relation). y.upper.rows) at) c.loop-tuple-test.false
    (inv.arity ∙ c.new-out.ensures.arity ∙ c.arity.ensures.value ∙ ap (λ (y : Relation). y.upper.arity) at)
    c.entries.ensures.well inv.there (inv.value network leaves)
