use Rattle.circuit_cnf.proofs.Defining.{constant_literal, and_literal, or_literal}
use Rattle.circuit_cnf.proofs.encoding.Encoding.literal_of.Goals as goal

pub returns-in_ok-add_clause-in-Constant-clause-is : goal.returns-in_ok-add_clause-in-Constant-clause-is
returns-in_ok-add_clause-in-Constant-clause-is c =
    constant_literal c.args.self.now.vars c.in-Constant.positive c.args.shape c.args.self.now.literals.items _ _ c.in-Constant.is c.in_ok-add_clause-in-Constant.ensures

pub returns-in_ok-add_conjunction-in-And-clause-is : goal.returns-in_ok-add_conjunction-in-And-clause-is
returns-in_ok-add_conjunction-in-And-clause-is c =
    and_literal c.args.self.now.vars c.in-And.a c.in-And.b c.args.shape c.args.self.now.literals.items _ _ c.index-first.result.now c.index-second.result.now _ _
    c.index-first.ensures c.index-second.ensures c.place-in-And.ensures c.place-in-And-2.ensures c.requires.inputs c.requires.operands c.in-And.is c.in_ok-add_conjunction-in-And.ensures

pub returns-in_ok-add_conjunction-in-Or-clause-is : goal.returns-in_ok-add_conjunction-in-Or-clause-is
returns-in_ok-add_conjunction-in-Or-clause-is c =
    or_literal c.args.self.now.vars c.in-Or.a c.in-Or.b c.args.shape c.args.self.now.literals.items _ _ c.index-first-in-Or.result.now c.index-second-in-Or.result.now _ _
    c.index-first-in-Or.ensures c.index-second-in-Or.ensures c.place-in-Or.ensures c.place-in-Or-2.ensures c.requires.inputs c.requires.operands
    c.negation-in-Or.result c.negation-in-Or-2.result c.negation-in-Or-3.result c.negation-in-Or.ensures c.negation-in-Or-2.ensures c.negation-in-Or-3.ensures
    c.in-Or.is c.in_ok-add_conjunction-in-Or.ensures
