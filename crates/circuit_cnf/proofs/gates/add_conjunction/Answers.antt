use Rattle.cnf_core.specs.Literal.{IsVariable}
use Rattle.circuit_cnf.proofs.Pushed.{others_negated, conjunction_adds}
use Rattle.circuit_cnf.proofs.gates.add_conjunction.Goals as goal

pub add_clause-requires-3 : goal.add_clause-requires-3
add_clause-requires-3 c = others_negated (λ l. IsVariable l.var) (λ l h. h) c.args.both c.args.a c.args.b c.requires c.negation.result c.negation-2.result c.negation.ensures c.negation-2.ensures

pub returns : goal.returns
returns c =
    conjunction_adds c.args.both c.args.a c.args.b c.negation-not_both.result c.negation.result c.negation-2.result _ _ _ _
    c.negation-not_both.ensures c.negation.ensures c.negation-2.ensures c.in_ok-add_clause.ensures c.in_ok-add_clause-2.ensures c.in_ok-add_clause-3.ensures
