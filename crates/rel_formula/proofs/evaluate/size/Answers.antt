use Rattle.std.proofs.Common.{◌≡◌, List, length, get_or, refl, reverse, subst, sym}
use Rattle.tuple_core.specs.Rows.{Rows}
use Rattle.tuple_core.proofs.Congruence.{rows_same}
use Rattle.rel_formula.specs.declared.formula.Expression.{Expression}
use Rattle.rel_formula.specs.View.{expression_tree}
use Rattle.rel_formula.specs.Meaning.{InValue}
use Rattle.rel_formula.specs.Shape.{IsWellFormed}
use Rattle.rel_formula.specs.Sizes.{HasSize}
use Rattle.rel_formula.specs.Tables.{arities, tabled}
use Rattle.rel_formula.proofs.Counts.{size_same}
use Rattle.rel_formula.proofs.Valued.{relation_is}
use Rattle.rel_formula.proofs.evaluate.size.Goals as goal

pub returns-in-Rel : goal.returns-in-Rel
returns-in-Rel c =
    let tables = c.args.tables.now in
    let set = c.index-values-r.result in
    let there = subst (λ (e : Expression). IsWellFormed (arities tables) (length c.args.env.now) (expression_tree e)) c.in-Rel.is c.requires in
    let at = subst (λ (zs : List Rows). set ≡ get_or zs c.in-Rel.r set) c.values.ensures c.index-values-r.is in
    subst (λ (e : Expression). HasSize (InValue (tabled tables) (reverse c.args.env.now) (expression_tree e)) c.count.result) (sym c.in-Rel.is)
    (size_same (rows_same (relation_is tables c.in-Rel.r set set there at refl)) c.count.ensures)

pub returns-in_ok-value-in_default : goal.returns-in_ok-value-in_default
returns-in_ok-value-in_default c = size_same (rows_same c.in_ok-value-in_default.ensures) c.count-in_default-2.ensures
