use Rattle.std.proofs.Common.{◌∙◌, ap, ℕ, List, subst}
use Rattle.named_model.specs.View.{named_view}
use Rattle.lowering_rules.specs.Formula.{all_facts}
use Rattle.decision_reports.specs.SomeFacts.{without}
use Rattle.decision_reports.specs.Trials.{IsTrial}
use Rattle.decision_reports.proofs.KeptNumbers.{kept_some}
use Rattle.decision_reports.proofs.TriedFacts.{next_right}
use Rattle.decision_reports.proofs.needed_facts.singles.try_without.Goals as goal

pub try_some-requires-clause-some : goal.try_some-requires-clause-some
try_some-requires-clause-some c =
    let m = named_view c.args.model.now in
    kept_some (all_facts m) c.args.tried.core.facts.items c.deref.result.now c.in_ok-others.others.items _ c.requires.core.translation.some c.deref.ensures.value c.in_ok-others.ensures

pub returns : goal.returns
returns c = λ rest so_far.
    let m = named_view c.args.model.now in
    let n = c.args.command in
    let others = c.in_ok-others.ensures ∙ ap (without c.args.fact) c.deref.ensures.value in
    next_right m n c.args.budget c.args.fact rest c.args.tried so_far c.in_ok-trial.trial c.in_ok-next.next
    (subst (λ (xs : List ℕ). IsTrial m n c.args.budget xs c.in_ok-trial.trial) others c.in_ok-trial.ensures) c.in_ok-next.ensures
