-- Facts that can't all be true under a command.
use Rattle.std.specs.Prelude.{◌≡◌, ◌⊎◌, ℕ, List, Contains}
use Rattle.std.specs.List.{AllZip}
use Rattle.named_model.specs.Model.{NamedTree}
use Rattle.rel_formula.specs.Bounds.{Bounded, IsProblem}
use Rattle.rel_formula.specs.Instance.{IsInstance}
use Rattle.translation_rules.specs.Translation.{Translated}
use Rattle.translation.specs.Kept.{IsTranslation}
use Rattle.lowering_rules.specs.Formula.{all_facts}
use Rattle.lowering_rules.specs.Problem.{ProblemOf}
use Rattle.decision_reports.specs.SomeFacts.{AreSomeOf, without}
use Rattle.decision_reports.specs.Decided.{HasNoInstance, IsRefuted, IsSpent}
use Rattle.decision_reports.specs.declared.needed_facts.trials.Core.{Core}
use Rattle.decision_reports.specs.declared.needed_facts.trials.SpentFacts.{SpentFacts}
use Rattle.decision_reports.specs.declared.needed_facts.needed.FactSet.{FactSet}
use Rattle.decision_reports.specs.declared.needed_facts.needed.FactSet.TheVariants.{Satisfiable, Needs, Spent}

-- the scenario is an instance of the command's problem with these facts
abbrev pub IsWitness : NamedTree → ℕ → List ℕ → List ℕ → Type 0
IsWitness m n facts s = (p : Bounded) × IsProblem p × ProblemOf m n facts p × IsInstance p s

-- the command's problem with these facts has no instance
abbrev pub AreRefuted : NamedTree → ℕ → List ℕ → Type 0
AreRefuted m n facts = (p : Bounded) × IsProblem p × ProblemOf m n facts p × HasNoInstance p

-- the translation is made of the command's problem with these facts, which are some of the model's
pub record IsTranslationOf (m : NamedTree) (n : ℕ) (facts : List ℕ) (t : Translated) : Type 0 where
  pub some : AreSomeOf (all_facts m) facts
  pub problem : IsProblem t.problem
  pub lowered : ProblemOf m n facts t.problem
  pub made : IsTranslation t

-- facts that can't all be true, as the proof shows
pub record IsCore (m : NamedTree) (n : ℕ) (core : Core) : Type 0 where
  pub translation : IsTranslationOf m n core.facts.items core.translation
  pub refuted : IsRefuted core.translation core.proof

-- without any one of these facts the others can all be true, as the scenario at its place shows
abbrev pub AreNeeded : NamedTree → ℕ → List ℕ → List (List ℕ) → Type 0
AreNeeded m n facts scenarios = AllZip (λ fact s. IsWitness m n (without fact facts) s) facts scenarios

-- the budget was spent on the command's problem with these facts
pub record IsSpentOn (m : NamedTree) (n budget : ℕ) (tried : SpentFacts) : Type 0 where
  pub translation : IsTranslationOf m n tried.facts.items tried.translation
  pub spent : IsSpent tried.translation budget tried.parts

-- the facts are all but one of some that can't all be true
pub record AreOneLess (m : NamedTree) (n : ℕ) (facts : List ℕ) : Type 0 where
  pub more : List ℕ
  pub some : AreSomeOf (all_facts m) more
  pub refuted : AreRefuted m n more
  pub fact : ℕ
  pub member : Contains more fact
  pub less : facts ≡ without fact more

-- all facts are true in the scenario, with what the command says; or these can't all be true, and are irreducible; or the budget
-- was spent, on all facts, or on all but one of some that can't all be true
abbrev pub IsFactSet : NamedTree → ℕ → ℕ → FactSet → Type 0
IsFactSet m n budget (Satisfiable scenario) = IsWitness m n (all_facts m) scenario
IsFactSet m n budget (Needs core scenarios) = IsCore m n core × AreNeeded m n core.facts.items scenarios
IsFactSet m n budget (Spent tried) = IsSpentOn m n budget tried × ((tried.facts.items ≡ all_facts m) ⊎ AreOneLess m n tried.facts.items)
