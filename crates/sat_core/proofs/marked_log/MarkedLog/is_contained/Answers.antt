use Rattle.std.proofs.Common.{◌∙◌, List, All, subst}
use Rattle.std.specs.Prelude.{MatchBool}
use Rattle.refutation_check.specs.declared.log.Step.{Step}
use Rattle.refutation_check.specs.Chain.{Subsumes}
use Rattle.sat_core.specs.Kept.{IsContainedIn}
use Rattle.sat_core.proofs.marked_log.MarkedLog.is_contained.Goals as goal

pub returns : goal.returns
returns c =
    subst (λ (ss : List Step). MatchBool c.is_contained.result (IsContainedIn c.args.clause.now ss) (All (λ (s : Step). ¬ Subsumes c.args.clause.now s.clause) ss)) (c.steps.ensures.steps ∙ c.self.view_is) c.is_contained.ensures
