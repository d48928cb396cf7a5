use Rattle.std.proofs.Common.{Contains, subst, sym}
use Rattle.tuple_core.specs.declared.operator.Operator.{Operator}
use Rattle.tuple_core.specs.Operators.{may_combine, arity_with}
use Rattle.rel_terms.specs.Terms.{own_terms}
use Rattle.rel_terms.specs.Counting.{IsCounted}
use Rattle.rel_terms.proofs.operators.combined.Goals as goal

pub returns-in_ok-overridden-in-Override : goal.returns-in_ok-overridden-in-Override
returns-in_ok-overridden-in-Override c =
    let l = c.args.left in
    let r = c.args.right.now in
    subst (λ (o : Operator). IsCounted c.in_ok-overridden-in-Override.field-0 (arity_with o l.arity r.arity) (may_combine o (Contains l.rows) (Contains r.rows)) (own_terms o (Contains l.rows) (Contains r.rows)) c.args.tally.now.terms c.overridden.new.tally.terms)
    (sym c.in-Override.is) c.in_ok-overridden-in-Override.ensures
