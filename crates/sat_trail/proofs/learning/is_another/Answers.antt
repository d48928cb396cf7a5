use Rattle.std.proofs.Common.{◌≡◌, ◌<◌, ◌-◌, ◌∙◌, false, None, length, get_or, arith, ap, sym, subst}
use Rattle.std.proofs.lemmas.List.{get_or_default}
use Rattle.unit_propagation.specs.declared.assignment_trail.assigned.Assigned.{Assigned}
use Rattle.sat_trail.specs.Learning.{IsMarked}
use Rattle.sat_trail.proofs.learning.is_another.Goals as goal

pub returns-then-seen-a : goal.returns-then-seen-a
returns-then-seen-a c =
    let none : Assigned = record { lit = record { var = 0; positive = false }; level = 0; reason = None } in
    let below : c.looking.n - 1 < length c.args.older.now = omega (arith, c.looking.invariant.in_range, c.looking-test.true) in (
      c.looking.n - 1,
      below,
      λ d.
          let same : get_or c.args.older.now (c.looking.n - 1) d ≡ get_or c.args.older.now (c.looking.n - 1) none = get_or_default c.args.older.now (c.looking.n - 1) d none below in
          (subst (λ (a : Assigned). IsMarked c.args.seen.now a.lit.var) (sym same) c.if-seen-a.true, ap (λ (a : Assigned). a.level) same ∙ c.if-a-level.true),
    )
