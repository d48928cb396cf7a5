use Rattle.std.proofs.Common.{◌≡◌, ◌∷◌, [], subst, List}
use Rattle.tuple_core.specs.declared.atom.Atom.{Atom}
use Rattle.tuple_core.specs.Gains.{SomeGives}
use Rattle.tuple_core.specs.Rows.{SetGains}
use Rattle.tuple_core.proofs.Steps.{set_more}
use Rattle.rel_formula.proofs.problem.add_atoms.Goals as goal

pub loop-row-preserved : goal.loop-row-preserved
loop-row-preserved c =
    set_more c.args.rows.now c.loop-row.row-index c.row-item.result (λ row. SomeGives row (λ a t. t ≡ a ∷ [])) c.args.atoms.now c.loop-row.atoms c.add_row.new.atoms c.loop-row-test.true c.row-item.is c.loop-row.invariant
    (subst (λ (row : List Atom). SetGains c.loop-row.atoms c.add_row.new.atoms (SomeGives row (λ a t. t ≡ a ∷ []))) c.atoms.ensures.value c.in_ok-add_row.ensures)
