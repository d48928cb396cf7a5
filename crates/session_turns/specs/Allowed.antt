-- What commands may cost: how many steps their searches may learn.
use Rattle.std.specs.Prelude.{◌≡◌, ◌⊎◌, ◌+◌, ◌*◌, ℕ, List, [], ◌∷◌, max}
use Rattle.session_words.specs.declared.steps.Step.{Step as StepType}
use Rattle.session_words.specs.declared.steps.Step.TheVariants.{Next, Offers, Augment, Back, Budget, Proof}
use Rattle.session_words.specs.declared.commands.Command.{Command}
use Rattle.session_words.specs.declared.commands.Command.TheVariants.{Step, All}

-- a step that searches answer may cost the budget, and the others nothing
abbrev pub cost_of_step : ℕ → StepType → ℕ
cost_of_step budget Next = budget
cost_of_step budget Offers = budget
cost_of_step budget (Augment relation tuple) = budget
cost_of_step budget Back = 0
cost_of_step budget (Budget other) = 0
cost_of_step budget Proof = 0

-- `all` may cost the budget for each scenario that it asks for
abbrev pub cost_of : ℕ → Command → ℕ
cost_of budget (Step step) = cost_of_step budget step
cost_of budget (All n) = n * budget

-- the budget that is in force behind a command: another one where it sets one, unless memory was wanting
abbrev pub MayLeave : ℕ → Command → ℕ → Type 0
MayLeave budget (Step (Budget other)) left = (left ≡ budget) ⊎ (left ≡ other)
MayLeave budget command left = left ≡ budget

-- what commands may cost together, with this budget in force at first: each at most what it may, by the budget that is in force by
-- then; behind one that sets a budget the old one may still be in force, so it is the larger of the two sums
abbrev pub allowed : ℕ → List Command → ℕ
allowed budget [] = 0
allowed budget (Step (Budget other) ∷ commands) = max (allowed budget commands) (allowed other commands)
allowed budget (command ∷ commands) = cost_of budget command + allowed budget commands
