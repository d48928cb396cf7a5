use Rattle.std.proofs.Common.{IsTrue, ◌↔◌, reverse, sym, subst}
use Rattle.tuple_core.proofs.Congruence.{rows_same}
use Rattle.tuple_core.proofs.Steps.{then_same}
use Rattle.rel_formula.specs.declared.connectives.Comparison.{Comparison}
use Rattle.rel_formula.specs.declared.connectives.Comparison.TheVariants as comparison
use Rattle.rel_formula.specs.View.{expression_tree}
use Rattle.rel_formula.specs.Meaning.{InValue, Compares}
use Rattle.rel_formula.specs.Tables.{tabled}
use Rattle.rel_formula.proofs.Congruence.{compares_same}
use Rattle.rel_formula.proofs.Loops.{within_is}
use Rattle.rel_formula.proofs.evaluate.compares.Goals as goal

pub returns-in-In : goal.returns-in-In
returns-in-In c =
    let P = InValue (tabled c.args.tables.now) (reverse c.args.env.now) (expression_tree c.args.a.now) in
    let Q = InValue (tabled c.args.tables.now) (reverse c.args.env.now) (expression_tree c.args.b.now) in
    subst (λ (o : Comparison). IsTrue c.is_subset.result ↔ Compares o P Q) (sym c.in-In.is) (then_same c.is_subset.ensures (within_is c.in_ok-left.ensures c.in_ok-right.ensures))

pub returns : goal.returns
returns c =
    let P = InValue (tabled c.args.tables.now) (reverse c.args.env.now) (expression_tree c.args.a.now) in
    let Q = InValue (tabled c.args.tables.now) (reverse c.args.env.now) (expression_tree c.args.b.now) in
    subst (λ (o : Comparison). IsTrue c.are_equal.result ↔ Compares o P Q) (sym c.in-Equal.is)
    (then_same c.are_equal.ensures (compares_same comparison.Equal _ _ P Q (rows_same c.in_ok-left.ensures) (rows_same c.in_ok-right.ensures)))
