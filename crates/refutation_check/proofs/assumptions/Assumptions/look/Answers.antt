use Rattle.std.proofs.Common.{◌≡◌, ◌-◌, length, sym, ap}
use Rattle.refutation_check.specs.Assumed.{Assumed}
use Rattle.refutation_check.proofs.Keeping.{within_marks}
use Rattle.refutation_check.proofs.Sights.{seen_to}
use Rattle.refutation_check.proofs.assumptions.Assumptions.look.Goals as goal

pub returns : goal.returns
returns c =
    let kept = c.self.invariant in
    let vars : c.args.self.now.vars ≡ length c.self.inside.marks.items - 1 = ap (λ (a : Assumed). a.vars) (sym c.self.view_is) in
    let within = within_marks (length c.self.inside.marks.items) _ _ vars kept.some c.requires.in_range in
    let seen = rw c.as_slice.ensures.value at c.look.ensures in
    rw (← c.self.view_is) (seen_to _ _ kept.marked _ within _ seen)
