use Rattle.std.proofs.Common.{◌≡◌, ◌∷◌, [], subst, List, arith}
use Rattle.tuple_core.specs.declared.atom.Atom.{Atom}
use Rattle.tuple_core.specs.Gains.{SomeGives}
use Rattle.tuple_core.specs.Operators.{Pred}
use Rattle.tuple_core.specs.Rows.{SetGains}
use Rattle.tuple_core.proofs.Congruence.{same_itself}
use Rattle.tuple_core.proofs.Steps.{set_more, set_all, set_from_gains}
use Rattle.rel_formula.specs.declared.problem.Relation.{Relation}
use Rattle.rel_formula.proofs.problem.all_atoms.Goals as goal

abbrev Gives : Relation → Pred
Gives relation = SomeGives relation.upper.rows (λ row. SomeGives row (λ a t. t ≡ a ∷ []))

pub loop-relation-preserved : goal.loop-relation-preserved
loop-relation-preserved c =
    set_more c.args.relations.now c.loop-relation.relation-index c.relation-item.result Gives c.new-atoms.result c.loop-relation.atoms c.add_atoms.new.atoms c.loop-relation-test.true c.relation-item.is c.loop-relation.invariant
    (subst (λ (rows : List (List Atom)). SetGains c.loop-relation.atoms c.add_atoms.new.atoms (SomeGives rows (λ row. SomeGives row (λ a t. t ≡ a ∷ [])))) c.rows.ensures.value c.in_ok-add_atoms.ensures)

pub returns : goal.returns
returns c =
    set_from_gains c.new-atoms.result c.loop-relation.atoms 1 (SomeGives c.args.relations.now Gives) (SomeGives c.args.relations.now Gives) c.new-atoms.ensures.rows c.new-atoms.ensures.arity
    (set_all c.args.relations.now c.loop-relation.relation-index Gives c.new-atoms.result c.loop-relation.atoms (omega arith) c.loop-relation.invariant)
    (same_itself (SomeGives c.args.relations.now Gives))
