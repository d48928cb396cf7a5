use Rattle.std.proofs.Common.{◌≡◌, ◌∷◌, [], subst, get_or, List}
use Rattle.std.proofs.lemmas.List.{get_or_default}
use Rattle.tuple_core.specs.declared.atom.Atom.{Atom}
use Rattle.tuple_core.specs.Rows.{SetGains}
use Rattle.tuple_core.proofs.Steps.{set_more}
use Rattle.rel_formula.proofs.problem.add_row.Goals as goal

pub loop-atom-preserved : goal.loop-atom-preserved
loop-atom-preserved c =
    let i = c.loop-atom.atom-index in
    let none : Atom = record { top = 0; place = 0 } in
    let x : Atom = get_or c.args.row.now i none in
    set_more c.args.row.now i x (λ a t. t ≡ a ∷ []) c.args.atoms.now c.loop-atom.atoms c.insert.new.self c.loop-atom-test.true (get_or_default c.args.row.now i none x c.loop-atom-test.true) c.loop-atom.invariant
    (subst (λ (t : List Atom). SetGains c.loop-atom.atoms c.insert.new.self (λ u. u ≡ t)) c.single.ensures c.in_ok-insert.ensures.gains)
