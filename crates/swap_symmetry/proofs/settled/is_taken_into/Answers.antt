use Rattle.std.proofs.Common.{◌≡◌, false, true, Option, None, Contains, refl}
use Rattle.swap_symmetry.proofs.SwapLemmas.{taken_at, taken_nowhere}
use Rattle.swap_symmetry.proofs.settled.is_taken_into.Goals as goal

pub returns-in-Some : goal.returns-in-Some
returns-in-Some c =
    let says = taken_at c.args.problem.now c.args.first c.args.second c.args.number c.image_of.result c.image_of.ensures (Contains c.args.scenario.now) c.in-Some.taken c.in-Some.is in
    (λ e. says.1 (c.has.ensures.0 e), λ t. c.has.ensures.1 (says.0 t))

pub returns-in-None : goal.returns-in-None
returns-in-None c = (
  λ e. absurd (let k : false ≡ true = e in cc),
  λ t. absurd (taken_nowhere c.args.problem.now c.args.first c.args.second c.args.number c.image_of.result c.image_of.ensures (Contains c.args.scenario.now) c.in-None.is t),
)
