use Rattle.std.proofs.Common.{[], ◌∷◌, sym, ◌∙◌, Contains, arith}
use Rattle.tuple_core.specs.declared.atom.Atom.{Atom}
use Rattle.tuple_core.specs.Operators.{Pred, EndsWith}
use Rattle.tuple_core.proofs.Steps.{row_arity, kept_more, kept_set, ran_says}
use Rattle.tuple_core.proofs.tuple_set.TupleSet.ran.Goals as goal

pub insert_if-requires : goal.insert_if-requires
insert_if-requires c =
    row_arity c.rows-row-items.result.now c.args.self.now c.loop-row.row-index c.row-item.result c.rows-row-items.ensures.value c.rows-row-items.ensures.well c.loop-row-test.true c.row-item.is
    ∙ sym (c.loop-row.invariant.arity ∙ c.new-out.ensures.arity ∙ c.arity.ensures.value)

pub loop-row-preserved : goal.loop-row-preserved
loop-row-preserved c =
    let K : Pred = λ t. (x : Atom) × EndsWith x t × Contains c.args.atoms.now.rows (x ∷ []) in
    kept_more c.rows-row-items.result.now c.loop-row.row-index c.row-item.result K (c.contains.result) c.new-out.result c.loop-row.out c.insert_if.new.self c.loop-row-test.true c.row-item.is
    (ran_says c.contains.result (Contains c.args.atoms.now.rows) c.last.result c.row-item.result c.single.result c.last.ensures c.single.ensures c.contains.ensures)
    c.loop-row.invariant c.in_ok-insert_if.ensures

pub returns : goal.returns
returns c =
    let K : Pred = λ t. (x : Atom) × EndsWith x t × Contains c.args.atoms.now.rows (x ∷ []) in
    kept_set c.rows-row-items.result.now c.args.self.now.rows c.loop-row.row-index K c.new-out.result c.loop-row.out c.args.self.now.arity (omega arith) c.rows-row-items.ensures.value c.new-out.ensures.rows
    (c.new-out.ensures.arity ∙ c.arity.ensures.value) c.loop-row.invariant
