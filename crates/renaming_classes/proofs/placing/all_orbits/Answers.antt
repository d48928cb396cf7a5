use Rattle.std.proofs.Common.{◌≡◌, ◌≤◌, ℕ, List, Option, [], length, get_or, take, sym, subst, arith}
use Rattle.renaming_classes.specs.Orbits.{AreOrbits}
use Rattle.renaming_classes.proofs.Searching.{orbits_all}
use Rattle.renaming_classes.proofs.placing.all_orbits.Goals as goal

pub returns-clause-each : goal.returns-clause-each
returns-clause-each c =
    let p = c.args.problem.now in
    let atoms = c.args.atoms.now in
    let i = c.loop-placed.placed in
    let all : i ≡ length atoms = let t = c.loop-placed-test.false in let e = c.loop-placed.auto.placed-end in omega arith in
    subst (λ (xs : List (List (Option ℕ))). (m : ℕ) → m ≤ length atoms → AreOrbits p (take m atoms) (get_or xs m [])) (sym c.in_ok-push-2.ensures.items)
    (orbits_all p atoms i c.loop-placed.orbits.items c.in_ok-of-2.field-0 c.loop-placed.invariant.long all c.loop-placed.invariant.each c.in_ok-of-2.ensures)
