use Rattle.std.proofs.Common.{◌≡◌, ap, ◌∙◌, subst, length, arith, Contains, get_or}
use Rattle.std.proofs.lemmas.List.{length_push, get_or_default}
use Rattle.tuple_core.specs.Rows.{IsSetOf}
use Rattle.rel_formula.specs.declared.problem.Relation.{Relation}
use Rattle.rel_formula.specs.Bounds.{relation_at}
use Rattle.rel_formula.specs.Instance.{InRelation}
use Rattle.rel_formula.proofs.Tabled.{tables_push, no_relation}
use Rattle.rel_formula.proofs.tables.all_tables.Goals as goal

pub loop-number-preserved : goal.loop-number-preserved
loop-number-preserved c =
    let p = c.args.problem.now in
    let i = c.loop-number.number in
    let x = c.relation-item.result in
    let at : x ≡ relation_at p.relations i = c.relation-item.is ∙ get_or_default c.relations-relation-items.result.now i x no_relation c.loop-number-test.true ∙ ap (λ rs. get_or rs i no_relation) c.relations-relation-items.ensures.value in
    record {
      count = let e = ap length c.in_ok-push.ensures.items ∙ length_push c.loop-number.tables.items c.in_ok-table.field-0 in let m = c.loop-number.invariant.count in omega arith;
      each = tables_push p c.args.scenario.now c.loop-number.tables.items c.push.new.self.items i c.in_ok-table.field-0 c.loop-number.invariant.count c.in_ok-push.ensures.items
          (subst (λ (r : Relation). IsSetOf c.in_ok-table.field-0 r.lower.arity (InRelation p (Contains c.args.scenario.now) i)) at c.in_ok-table.ensures) c.loop-number.invariant.each;
    }
