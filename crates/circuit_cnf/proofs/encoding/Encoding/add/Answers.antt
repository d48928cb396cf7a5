use Rattle.std.proofs.Common.{◌∙◌, ◌++◌, ◌∷◌, [], List, ap, sym, subst}
use Rattle.cnf_core.specs.declared.literal.Lit.{Lit}
use Rattle.circuit_cnf.specs.Encoding.{IsEncoding}
use Rattle.circuit_cnf.proofs.GrowingEncodings.{operands_among, add_marked}
use Rattle.circuit_cnf.proofs.encoding.Encoding.add.Goals as goal

pub literal_of-requires-clause-operands : goal.literal_of-requires-clause-operands
literal_of-requires-clause-operands c =
    let h = c.requires.so_far in
    operands_among c.args.circuit.now h.0 c.args.marks.now c.args.self.now.vars c.args.self.now.literals.items c.args.self.now.clauses.items h.2 h.1 c.args.i c.requires.next
    c.at.result c.at.ensures.is c.at.ensures.before c.at.ensures.value c.if-not-marks-i.false

pub returns-clause-so_far : goal.returns-clause-so_far
returns-clause-so_far c node are was =
    subst (λ (ls : List Lit). IsEncoding c.args.circuit.now node c.args.marks.now c.literal_of.new.self.vars ls c.literal_of.new.self.clauses.items)
    (sym (c.in_ok-push-2.ensures.items ∙ ap (λ (ls : List Lit). ls ++ c.in_ok-literal.literal ∷ []) c.in_ok-literal.ensures.kept))
    (add_marked c.args.circuit.now node c.args.marks.now c.args.self.now.vars c.args.self.now.literals.items c.args.self.now.clauses.items was are c.args.i c.requires.next
    c.at.result c.at.ensures.is c.at.ensures.before c.at.ensures.value c.if-not-marks-i.false _ _ c.in_ok-literal.literal c.in_ok-literal.ensures.is)
