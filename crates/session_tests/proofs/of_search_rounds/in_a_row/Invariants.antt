use Rattle.std.proofs.Common.{All}
use Rattle.swap_symmetry.specs.Due.{IsDue}
use Rattle.session_rules.specs.Proofs.{IsCopy}
use Rattle.session_tests.proofs.of_search_rounds.in_a_row.Given as goal

abbrev pub invariant-asking : goal.invariant-asking
invariant-asking l = record {
  shown : All (IsDue l.made.problem l.floor) l.shown.items;
  copies : All (IsCopy l.made.problem l.floor l.shown.items) l.copies.items;
}
