-- Searches with some of the facts, on the way to facts that are needed.
use Rattle.std.specs.Prelude.{◌≡◌, ◌++◌, ◌∷◌, [], ℕ, List, Vec}
use Rattle.std.specs.List.{AllZip}
use Rattle.std.specs.declared.alloc.Global.{Global}
use Rattle.named_model.specs.Model.{NamedTree}
use Rattle.rel_formula.specs.Bounds.{Bounded, IsProblem}
use Rattle.rel_lower.specs.Lowered.{IsLowered}
use Rattle.translation_rules.specs.Translation.{Translated}
use Rattle.lowering_rules.specs.Formula.{all_facts}
use Rattle.decision_reports.specs.declared.decision.Decision.{Decision}
use Rattle.decision_reports.specs.declared.decision.Decision.TheVariants.{Holds, Fails, Spent as NotDecided}
use Rattle.decision_reports.specs.declared.needed_facts.trials.Core.{Core}
use Rattle.decision_reports.specs.declared.needed_facts.trials.Trial.{Trial}
use Rattle.decision_reports.specs.declared.needed_facts.trials.Trial.TheVariants.{Refuted, Satisfied, Spent}
use Rattle.decision_reports.specs.declared.needed_facts.singles.Tried.{Tried}
use Rattle.decision_reports.specs.declared.needed_facts.singles.Next.{Next}
use Rattle.decision_reports.specs.declared.needed_facts.singles.Next.TheVariants as next
use Rattle.decision_reports.specs.SomeFacts.{without}
use Rattle.decision_reports.specs.FactSets.{IsWitness, IsCore, IsSpentOn, AreOneLess}

-- there is a problem of the command with all facts
abbrev pub HasWholeProblem : NamedTree → ℕ → Type 0
HasWholeProblem m n = (p : Bounded) × IsProblem p × IsLowered m n (all_facts m) p

-- what a search finds of the command's problem with these facts
abbrev pub IsTrial : NamedTree → ℕ → ℕ → List ℕ → Trial → Type 0
IsTrial m n budget facts (Refuted core) = (core.facts.items ≡ facts) × IsCore m n core
IsTrial m n budget facts (Satisfied scenario) = IsWitness m n facts scenario
IsTrial m n budget facts (Spent tried) = (tried.facts.items ≡ facts) × IsSpentOn m n budget tried

-- what was found of the facts whose problem was decided so
abbrev pub tried_by : Vec ℕ Global → Translated → Decision → Trial
tried_by facts translation (Holds proof) = Refuted (record { facts = facts; translation = translation; proof = proof })
tried_by facts translation (Fails scenario) = Satisfied scenario
tried_by facts translation (NotDecided parts) = Spent (record { facts = facts; translation = translation; parts = parts })

-- the facts that were refuted in the trial, or else those before
abbrev pub smaller : Core → Trial → Core
smaller core (Refuted less) = less
smaller core (Satisfied scenario) = core
smaller core (Spent tried) = core

-- of facts that can't all be true, all but these last ones are known to be needed, as the scenarios show
pub record AreTried (m : NamedTree) (n : ℕ) (rest : List ℕ) (tried : Tried) : Type 0 where
  pub core : IsCore m n tried.core
  pub needed : List ℕ
  pub facts : tried.core.facts.items ≡ needed ++ rest
  pub each : AllZip (λ fact s. IsWitness m n (without fact tried.core.facts.items) s) needed tried.scenarios.items

-- one fact more is known to be needed, or isn't among them any more; or the budget was spent without it
abbrev pub IsNext : NamedTree → ℕ → ℕ → List ℕ → Next → Type 0
IsNext m n budget rest (next.Tried tried) = AreTried m n rest tried
IsNext m n budget rest (next.Spent facts) = IsSpentOn m n budget facts × AreOneLess m n facts.facts.items

-- what was refuted goes on; a scenario is put behind the others; or the budget was spent
abbrev pub IsNextOf : Tried → Trial → Next → Type 0
IsNextOf tried (Refuted less) (next.Tried later) = (later.core ≡ less) × (later.scenarios.items ≡ tried.scenarios.items)
IsNextOf tried (Satisfied scenario) (next.Tried later) = (later.core ≡ tried.core) × (later.scenarios.items ≡ tried.scenarios.items ++ scenario ∷ [])
IsNextOf tried (Spent facts) (next.Spent found) = found ≡ facts
IsNextOf tried trial later = ⊥
