use Rattle.std.proofs.Common.{◌≡◌, length, arith}
use Rattle.refutation_check.proofs.Keeping.{count_none}
use Rattle.refutation_check.proofs.Sights.{Marks-none}
use Rattle.refutation_check.proofs.assumptions.Assumptions.clear.Goals as goal

pub invariant_of-self : goal.invariant_of-self
invariant_of-self c =
    let kept = c.self.invariant in
    let none = c.unmark.ensures.none in
    let long : length c.unmark.new.marks.items ≡ length c.self.inside.marks.items = c.unmark.ensures.long in
    record {
      marked = rw c.clear.ensures.items (Marks-none _ (λ k _. none k));
      within = rw c.clear.ensures.items (λ k d h. absurd (omega arith));
      some = omega (arith, long, kept.some);
      few = omega (arith, long, kept.few);
      room = omega (arith, long, kept.room, c.clear.ensures.capacity);
      open_count = rw c.clear.ensures.items (omega (arith, count_none _ none));
    }
