use Rattle.std.proofs.Common.{take, ℕ, Contains, ◌*◌}
use Rattle.rel_formula.specs.Sizes.{HasSize}
use Rattle.rel_terms.specs.Numbers.{Is}
use Rattle.rel_terms.specs.Terms.{Meeting}
use Rattle.rel_terms.specs.Counting.{Adds}
use Rattle.rel_terms.proofs.pairs.add_meetings.Given as goal

abbrev pub invariant-loop-row : goal.invariant-loop-row
invariant-loop-row l =
    (n : ℕ) × HasSize (Meeting (Contains (take l.row-index l.row-items)) (Contains l.right.rows)) n × Adds (Is (l.times * n)) l.fn.tally.terms l.tally.terms
