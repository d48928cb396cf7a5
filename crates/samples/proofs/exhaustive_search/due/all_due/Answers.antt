use Rattle.std.proofs.Common.{◌↔◌, ℕ, List, Contains, subst}
use Rattle.swap_symmetry.specs.Due.{IsDue}
use Rattle.samples.proofs.exhaustive_search.due.all_due.Goals as goal

pub returns-clause-all : goal.returns-clause-all
returns-clause-all c = subst (λ (floor : List ℕ). (s : List ℕ) → Contains c.in_ok-due.due.items s ↔ IsDue c.args.problem.now floor s) c.new-bottom.ensures c.in_ok-due.ensures.all
