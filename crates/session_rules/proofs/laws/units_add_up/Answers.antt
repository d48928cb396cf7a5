use Rattle.std.proofs.Common.{refl, arith}
use Rattle.std.proofs.lemmas.List.Sums.{sum_by-cons}
use Rattle.refutation_check.specs.SearchLog.{novel_steps}
use Rattle.refutation_check.specs.Part.{Parted}
use Rattle.translation_rules.specs.Parts.{given_to}
use Rattle.session_rules.proofs.laws.units_add_up.Goals as goal

pub returns-clause-none : goal.returns-clause-none
returns-clause-none c t pool = refl

pub returns-clause-part : goal.returns-clause-part
returns-clause-part c t pool part parts copies =
    let e = sum_by-cons (λ (x : Parted). novel_steps (given_to t pool x) x.log) part parts in
    omega arith

pub returns-clause-copy : goal.returns-clause-copy
returns-clause-copy c t pool parts found copies = omega arith
