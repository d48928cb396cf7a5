-- What stands behind the replies of a run.
use Rattle.std.specs.Prelude.{List, [], ◌∷◌}
use Rattle.refutation_check.specs.declared.log.Step.{Step as LogStep}
use Rattle.translation_rules.specs.Translation.{Translated}
use Rattle.session_rules.specs.States.{State, after}
use Rattle.session_rules.specs.Steps.{Exchange}
use Rattle.session_rules.specs.Evidence.{NeedsEvidence, HasEvidence}
use Rattle.hub_state.specs.Journal.Journal.{IsPool}

-- each reply that makes a proof, or says that the budget is spent, has its evidence in the state before it, over the
-- translation and a pool of steps that rest on the translation alone: each such reply has a pool of its own
abbrev pub AreBacked : Translated → State → List Exchange → Type 0
AreBacked t s [] = Unit {0}
AreBacked t s (x ∷ xs) =
    (NeedsEvidence s x.reply → (pool : List LogStep) × IsPool t pool × HasEvidence t pool s x.step x.reply) × AreBacked t (after s x.reply) xs
