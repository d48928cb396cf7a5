use Rattle.std.proofs.Common.{◌≡◌, ℕ, List, [], IsTrue, length, reverse, sym, ◌∙◌, subst, arith}
use Rattle.tuple_core.specs.declared.atom.Atom.{Atom}
use Rattle.bool_circuit.specs.Network.{Network, size}
use Rattle.rel_formula.specs.Bounds.{Bounded}
use Rattle.rel_formula.specs.Kernel.{FormulaTree}
use Rattle.rel_formula.specs.View.{formula_tree}
use Rattle.rel_formula.specs.Shape.{IsProper}
use Rattle.rel_terms.specs.Counting.{arities_of}
use Rattle.rel_translate.specs.Tables.{IsReady}
use Rattle.rel_translate.specs.Makes.{HasRoomFor, FormulaTermsOf, IsTold}
use Rattle.rel_translate.proofs.WholeProblems.{instance_is, whole_room, whole_ready, length_size}
use Rattle.rel_translate.proofs.translate.circuit_of.Goals as goal

pub truth-requires-clause-ready : goal.truth-requires-clause-ready
truth-requires-clause-ready c =
    let p = c.args.problem.now in
    let t = c.in_ok-tables.tables in
    subst (λ (es : List Atom). IsReady c.of.new.circuit p t.always t.relations.items t.universe (reverse es)) (sym c.new-env.ensures.items)
    (whole_ready c.of.new.circuit p t.always t.relations.items t.universe c.requires c.of.ensures.problem c.in_ok-tables.ensures.tables)

pub truth-requires-clause-proper : goal.truth-requires-clause-proper
truth-requires-clause-proper c =
    let p = c.args.problem.now in
    subst (λ (es : List Atom). IsProper (arities_of p) (length es) (formula_tree c.formula.result.now)) (sym c.new-env.ensures.items)
    (subst (λ (f : FormulaTree). IsProper (arities_of p) 0 f) (sym c.formula.ensures) c.of.ensures.problem.proper)

pub truth-requires-clause-room : goal.truth-requires-clause-room
truth-requires-clause-room c =
    let p = c.args.problem.now in
    subst (λ (es : List Atom). HasRoomFor (size c.of.new.circuit) (FormulaTermsOf p (reverse es) (formula_tree c.formula.result.now))) (sym c.new-env.ensures.items)
    (subst (λ (f : FormulaTree). HasRoomFor (size c.of.new.circuit) (FormulaTermsOf p [] f)) (sym c.formula.ensures) (whole_room p (size c.of.new.circuit) c.requires c.of.ensures.problem c.in_ok-tables.ensures.size))

-- what the formula's node tells, once the environment is the empty one and the formula the problem's
whole : (old new : Network) (p : Bounded) (node : ℕ) (es : List Atom) (f : FormulaTree) → es ≡ [] → f ≡ p.formula → IsTold old new p (reverse es) f node → IsTold old new p [] p.formula node
whole old new p node es f empty same told = subst (λ (g : FormulaTree). IsTold old new p [] g node) same (subst (λ (xs : List Atom). IsTold old new p (reverse xs) f node) empty told)

pub returns-clause-inputs : goal.returns-clause-inputs
returns-clause-inputs c =
    let told = whole c.of.new.circuit c.truth.new.circuit c.args.problem.now c.in_ok-node.node _ _ c.new-env.ensures.items c.formula.ensures c.in_ok-node.ensures.told in
    told.spends.extends.inputs ∙ c.in_ok-tables.ensures.inputs

pub returns-clause-value : goal.returns-clause-value
returns-clause-value c =
    let told = whole c.of.new.circuit c.truth.new.circuit c.args.problem.now c.in_ok-node.node _ _ c.new-env.ensures.items c.formula.ensures c.in_ok-node.ensures.told in
    told.says

pub returns-clause-instances : goal.returns-clause-instances
returns-clause-instances c = λ s inputs scenario same.
    let told = whole c.of.new.circuit c.truth.new.circuit c.args.problem.now c.in_ok-node.node _ _ c.new-env.ensures.items c.formula.ensures c.in_ok-node.ensures.told in
    let says = told.says.value inputs in
    let is = instance_is c.args.problem.now (λ n. IsTrue (inputs n)) s scenario same in
    (λ h. is.0 (says.0 h), λ i. says.1 (is.1 i))

pub returns-clause-nodes : goal.returns-clause-nodes
returns-clause-nodes c = λ t h.
    let told = whole c.of.new.circuit c.truth.new.circuit c.args.problem.now c.in_ok-node.node _ _ c.new-env.ensures.items c.formula.ensures c.in_ok-node.ensures.told in
    omega (arith, told.spends.most t h, c.in_ok-tables.ensures.size, length_size c.truth.new.circuit)
