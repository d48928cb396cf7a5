use Rattle.std.proofs.Common.{◌≤◌, ◌∷◌, [], ℕ, List, All, sym, subst, arith}
use Rattle.std.proofs.lemmas.List.Elements.{All-from_recursion}
use Rattle.session_words.specs.declared.atom_names.AtomName.{AtomName}
use Rattle.session_words.specs.declared.steps.Step.TheVariants as step
use Rattle.session_words.specs.declared.commands.Command.{Command}
use Rattle.session_words.specs.declared.commands.Command.TheVariants as command
use Rattle.script_format.specs.Limits.{IsAllowed, asked_by}
use Rattle.hub_tests.proofs.of_explorer_run.commands.Goals as goal

-- the last commands
abbrev on_the_floor : List Command
on_the_floor = command.All 1 ∷ command.All 3 ∷ command.Step step.Proof ∷ command.Step step.Back ∷ command.Step (step.Budget 500) ∷ command.Step step.Next ∷ []

-- all of them, with any tuple
abbrev all_with : List ℕ → List AtomName → List Command
all_with relation tuple = command.Step step.Next ∷ command.Step step.Offers ∷ command.Step (step.Augment relation tuple) ∷ on_the_floor

all_allowed : (relation : List ℕ) (tuple : List AtomName) → All IsAllowed (all_with relation tuple)
all_allowed relation tuple =
    All-from_recursion IsAllowed (all_with relation tuple) (tt, (tt, (tt, ((omega arith, omega arith), ((omega arith, omega arith), (tt, (tt, (omega arith, (tt, tt)))))))))

pub returns-clause-allowed : goal.returns-clause-allowed
returns-clause-allowed c = subst (All IsAllowed) (sym c.in_ok-commands.ensures.items) (all_allowed _ _)

pub returns-clause-asked : goal.returns-clause-asked
returns-clause-asked c =
    let few : 6 ≤ 20000 = omega arith in
    subst (λ (commands : List Command). asked_by commands ≤ 20000) (sym c.in_ok-commands.ensures.items) few
