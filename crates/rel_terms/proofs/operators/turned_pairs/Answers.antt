use Rattle.std.proofs.Common.{Contains, subst, sym}
use Rattle.tuple_core.specs.declared.operator.UnaryOperator.{UnaryOperator}
use Rattle.tuple_core.specs.Operators.{turned}
use Rattle.rel_terms.specs.Terms.{turn_terms}
use Rattle.rel_terms.specs.Counting.{IsCounted}
use Rattle.rel_terms.proofs.operators.turned_pairs.Goals as goal

pub returns-in_ok-closed-in-Closure : goal.returns-in_ok-closed-in-Closure
returns-in_ok-closed-in-Closure c =
    let rows = c.args.pairs.now.rows in
    subst (λ (o : UnaryOperator). IsCounted c.in_ok-closed-in-Closure.field-0 2 (turned o (Contains rows)) (turn_terms o (Contains rows)) c.args.tally.now.terms c.closed.new.tally.terms)
    (sym c.in-Closure.is) c.in_ok-closed-in-Closure.ensures
