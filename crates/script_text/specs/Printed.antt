-- What is printed of replies.
use Rattle.std.specs.Prelude.{ℕ, List, [], ◌∷◌, ◌++◌, codes, decimal}
use Rattle.cnf_core.specs.declared.literal.Lit.{Lit}
use Rattle.refutation_check.specs.declared.log.Step.{Step}
use Rattle.translation_rules.specs.Translation.{Translated}
use Rattle.translation_rules.specs.Locals.{locals_of}
use Rattle.session_rules.specs.Proofs.{whole_log}
use Rattle.session_rules.specs.declared.answers.Refusal.{Refusal}
use Rattle.session_rules.specs.declared.answers.Refusal.TheVariants as refusal
use Rattle.session_rules.specs.declared.answers.Reply.{Reply}
use Rattle.session_rules.specs.declared.answers.Reply.TheVariants as reply

-- what is printed of a reply: a scenario with its number; how many were shown at an end; cells; the budget; all scenarios of a
-- floor; scenarios with the number of the first; the clauses and the steps of a proof; the words of a refusal
pub data Printed : Type 0 where
  shown : ℕ → List ℕ → Printed
  ended : ℕ → Printed
  offered : List ℕ → Printed
  augmented : Printed
  back : Printed
  budget_set : ℕ → Printed
  listed : List (List ℕ) → Printed
  partly : ℕ → List (List ℕ) → Printed
  proved : List (List Lit) → List Step → Printed
  refused : List ℕ → Printed
  no_memory : Printed

-- why a step changed nothing
abbrev pub refusal_words : Refusal → List ℕ
refusal_words refusal.NoScenario = codes "no_scenario"
refusal_words refusal.UnknownTuple = codes "unknown_tuple"
refusal_words refusal.Present = codes "present"
refusal_words (refusal.NoInstance proof) = codes "no_instance"
refusal_words refusal.Bottom = codes "bottom"
refusal_words refusal.Deep = codes "deep"
refusal_words (refusal.Spent work) = codes "spent " ++ decimal work.budget
refusal_words refusal.NoEnd = codes "no_end"

-- what is printed of a reply at this floor; of proofs, only those that were asked for, as a formula and its refutation
abbrev pub printed : Translated → List ℕ → Reply → Printed
printed t floor (reply.Shown number scenario) = shown number scenario
printed t floor (reply.End number proof) = ended number
printed t floor (reply.Offers cells) = offered cells
printed t floor (reply.Augmented above) = augmented
printed t floor reply.Back = back
printed t floor (reply.BudgetSet budget) = budget_set budget
printed t floor (reply.All scenarios) = listed scenarios
printed t floor (reply.Partly first scenarios) = partly first scenarios
printed t floor (reply.Proof proof) = let local = locals_of t floor proof.blocked in proved (t.cnf.clauses ++ local) (whole_log t local proof)
printed t floor (reply.Refused refusal) = refused (refusal_words refusal)
printed t floor reply.Memory = no_memory

-- what is printed of a transcript: its replies, each at its floor
abbrev pub all_printed : Translated → List (List ℕ) → List Reply → List Printed
all_printed t floors [] = []
all_printed t [] (reply ∷ replies) = []
all_printed t (floor ∷ floors) (reply ∷ replies) = printed t floor reply ∷ all_printed t floors replies
