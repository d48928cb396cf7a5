use Rattle.std.proofs.Common.{◌-◌, All, List, length, sym, ap, subst, arith}
use Rattle.std.proofs.lemmas.List.{length-map}
use Rattle.std.proofs.lemmas.Result.{err_from_is_err_and}
use Rattle.rel_formula.specs.declared.problem.Relation.{Relation}
use Rattle.rel_formula.specs.Bounds.{cells_from}
use Rattle.named_model.specs.Model.{FieldTree}
use Rattle.named_model.specs.View.{field_view, named_view}
use Rattle.lowering_rules.specs.Relations.{field_outline}
use Rattle.rel_lower.specs.Bounding.Typed.{HasLists}
use Rattle.rel_lower.proofs.Bounding.Cells.{AreSets, few_open, cells_pushed, sets_pushed}
use Rattle.rel_lower.proofs.Bounding.Outlines.{how_many, one_outlined, field_many, signatures_many, many_told, field_at, are_few}
use Rattle.rel_lower.proofs.field_bounds.relations.relations.Goals as goal

pub returns-then-saturating_add-gt-MOST_RELATIONS : goal.returns-then-saturating_add-gt-MOST_RELATIONS
returns-then-saturating_add-gt-MOST_RELATIONS c =
    let h = how_many (named_view c.args.named.now) c.args.sizes.now in
    let k = length-map c.args.named.now.fields.items field_view in
    let l = c.if-saturating_add-gt-MOST_RELATIONS.true in
    let s = c.saturating_add.ensures in
    let a = c.len.ensures in
    let b = c.len-2.ensures in
    omega (arith, h, k, l, s, a, b)

pub returns-then-cells-gt-MOST_CELLS : goal.returns-then-cells-gt-MOST_CELLS
returns-then-cells-gt-MOST_CELLS c =
    let m = named_view c.args.named.now in
    let sizes = c.args.sizes.now in
    let h = how_many m sizes in
    let k = length-map c.args.named.now.fields.items field_view in
    let few = c.if-saturating_add-gt-MOST_RELATIONS.false in
    let s = c.saturating_add.ensures in
    let a = c.len.ensures in
    let b = c.len-2.ensures in
    let rs = c.in_ok-relations.relations.items in
    let count = c.number_of_cells-cells.ensures.count in
    let more = c.if-cells-gt-MOST_CELLS.true in
    let same = ap (λ (ss : List Relation). length (cells_from 0 ss)) c.deref.ensures.value in (
      omega (arith, h, k, few, s, a, b),
      signatures_many m sizes rs c.in_ok-relations.ensures (subst (All AreSets) c.deref.ensures.value c.number_of_cells-cells.ensures.sets) (omega (arith, count, more, same)),
    )

pub returns-in_err-relation : goal.returns-in_err-relation
returns-in_err-relation c =
    let m = named_view c.args.named.now in
    let sizes = c.args.sizes.now in
    let p = err_from_is_err_and c.from_residual-in_err-relation.result c.from_residual-in_err-relation.ensures.1 in
    let h = how_many m sizes in
    let k = length-map c.args.named.now.fields.items field_view in
    let few = c.if-saturating_add-gt-MOST_RELATIONS.false in
    let s = c.saturating_add.ensures in
    let a = c.len.ensures in
    let b = c.len-2.ensures in
    let low = c.loop-field.invariant.few in
    let at = field_at c.args.named.now.fields.items c.deref-field-items.result.now c.loop-field.field-index c.field-item.result c.deref-field-items.ensures.value c.loop-field-test.true c.field-item.is in
    rw (p.1, p.2) (many_told m sizes (field_outline m (field_view c.field-item.result)) (4096 - c.loop-field.cells) c.in_err-relation.field-0.0 (omega (arith, h, k, few, s, a, b))
    (λ large. field_many m sizes c.loop-field.field-index (field_view c.field-item.result) at.0 at.1 c.loop-field.relations.items c.loop-field.cells (4096 - c.loop-field.cells) c.loop-field.invariant.outlined c.loop-field.invariant.sets c.loop-field.invariant.count (omega (arith, low)) large)
    c.in_err-relation.ensures)

pub field_relation-requires-clause-typed : goal.field_relation-requires-clause-typed
field_relation-requires-clause-typed c =
    let m = named_view c.args.named.now in
    let at = field_at c.args.named.now.fields.items c.deref-field-items.result.now c.loop-field.field-index c.field-item.result c.deref-field-items.ensures.value c.loop-field-test.true c.field-item.is in
    subst (λ (f : FieldTree). HasLists m.signatures f.bound) (sym at.1) (c.requires.typed c.loop-field.field-index (field_view c.field-item.result) at.0)

pub overflow_add-cells : goal.overflow_add-cells
overflow_add-cells c =
    let a = few_open c.in_ok-relation.relation in
    let b = c.cells_of-cells.ensures.count in
    let d = c.in_ok-relation.ensures.1 in
    let e = c.loop-field.invariant.few in
    omega (arith, a, b, d, e)

pub loop-field-preserved : goal.loop-field-preserved
loop-field-preserved c =
    let m = named_view c.args.named.now in
    let sizes = c.args.sizes.now in
    let rs = c.loop-field.relations.items in
    let r = c.in_ok-relation.relation in
    let a = few_open r in
    let b = c.cells_of-cells.ensures.count in
    let d = c.in_ok-relation.ensures.1 in
    let e = c.loop-field.invariant.few in
    let count = c.loop-field.invariant.count in
    let more = cells_pushed 0 rs r in
    let at = field_at c.args.named.now.fields.items c.deref-field-items.result.now c.loop-field.field-index c.field-item.result c.deref-field-items.ensures.value c.loop-field-test.true c.field-item.is in
    let pushed = ap (λ (ss : List Relation). length (cells_from 0 ss)) c.in_ok-push.ensures.items in
    record {
      outlined = one_outlined m sizes c.loop-field.field-index (field_view c.field-item.result) at.0 at.1 rs c.push.new.self.items r c.in_ok-push.ensures.items c.loop-field.invariant.outlined c.in_ok-relation.ensures.0;
      sets = sets_pushed rs c.push.new.self.items r c.in_ok-push.ensures.items c.loop-field.invariant.sets c.cells_of-cells.ensures.sets;
      count = omega (arith, b, count, more, pushed);
      few = omega (arith, a, b, d, e);
    }

pub returns : goal.returns
returns c =
    let m = named_view c.args.named.now in
    let sizes = c.args.sizes.now in
    let rs = c.loop-field.relations.items in
    let h = how_many m sizes in
    let k = length-map c.args.named.now.fields.items field_view in
    let few = c.if-saturating_add-gt-MOST_RELATIONS.false in
    let s = c.saturating_add.ensures in
    let a = c.len.ensures in
    let b = c.len-2.ensures in
    let past = c.loop-field-test.false in
    let same = ap length c.deref-field-items.ensures.value in
    let all = are_few m sizes c.loop-field.field-index rs (omega (arith, k, past, same)) c.loop-field.invariant.outlined in
    let long = all.1 in
    let count = c.loop-field.invariant.count in
    let low = c.loop-field.invariant.few in
    record {
      outlined = all.0;
      sets = c.loop-field.invariant.sets;
      few = omega (arith, long, h, k, few, s, a, b);
      few_cells = omega (arith, count, low);
    }
