-- What one search for an instance with some cells comes to.
use Rattle.std.specs.Prelude.{◌≡◌, ◌≤◌, ℕ, Bool, List, length}
use Rattle.cnf_core.specs.Valuation.{value_of}
use Rattle.refutation_check.specs.declared.log.Step.{Step as LogStep}
use Rattle.refutation_check.specs.Chain.{EndsEmpty}
use Rattle.refutation_check.specs.Part.{Parted}
use Rattle.refutation_check.specs.Renumbering.{not_local}
use Rattle.refutation_check.specs.SearchLog.{IsSearchLog, IsAllNovel, HasNoEmpty}
use Rattle.rel_formula.specs.Bounds.{Bounded, cells_of}
use Rattle.rel_formula.specs.Instance.{IsInstance, Includes}
use Rattle.translation_rules.specs.Translation.{Translated, HasCellsOf}
use Rattle.translation_rules.specs.Locals.{units_of}
use Rattle.translation_rules.specs.Offers.{IsPossible}
use Rattle.translation_rules.specs.Parts.{GoesOn, given_to}
use Rattle.augmenter.specs.Free.{IsFreeButLast}
use Rattle.augmenter.specs.declared.search.Sought.{Sought}
use Rattle.augmenter.specs.declared.search.Sought.TheVariants.{Possible, Impossible, Spent}

abbrev pub part_in : Sought → Parted
part_in (Possible valuation part) = part
part_in (Impossible part) = part
part_in (Spent part) = part

-- no step of the part, save a last empty one, rests on its local clauses
abbrev pub RestsOnNoLocal : Translated → List LogStep → Parted → Type 0
RestsOnNoLocal t pool part = IsFreeButLast (not_local (length t.cnf.clauses) (length part.local) (length pool)) part.log

-- the part has these cells as units; its log is that of a search over the translation and the pool, with at most so many
-- steps, none of which, save a last empty one, rests on the units; where there is any instance, each step is novel
pub record IsSearchFor (t : Translated) (pool : List LogStep) (cells : List ℕ) (budget : ℕ) (part : Parted) : Type 0 where
  pub local : part.local ≡ units_of cells
  pub searched : IsSearchLog (given_to t pool part) part.log
  pub free : RestsOnNoLocal t pool part
  pub few : length part.log ≤ budget
  pub novel : (s : List ℕ) → IsInstance t.problem s → IsAllNovel (given_to t pool part) part.log

-- the cells whose variables are true are an instance, which has these cells
pub record GivesInstance (p : Bounded) (cells : List ℕ) (valuation : List Bool) : Type 0 where
  pub instance : List ℕ
  pub instance_of : IsInstance p instance
  pub has : Includes instance cells
  pub chosen : HasCellsOf p instance (value_of valuation)
  pub enough : length (cells_of p) ≤ length valuation

-- there is such an instance; or there is none, and the log refutes it; or the budget is spent, all of it on novel steps
abbrev pub IsRightFor : Translated → List LogStep → List ℕ → ℕ → Sought → Type 0
IsRightFor t pool cells budget (Possible valuation part) = GivesInstance t.problem cells valuation × HasNoEmpty part.log
IsRightFor t pool cells budget (Impossible part) = (¬ IsPossible t.problem cells) × EndsEmpty part.log
IsRightFor t pool cells budget (Spent part) = (length part.log ≡ budget) × IsAllNovel (given_to t pool part) part.log × HasNoEmpty part.log

-- where the budget is spent, the search was stopped: it goes on
abbrev pub IsStoppedFor : Translated → List LogStep → Sought → Type 0
IsStoppedFor t pool (Possible valuation part) = Unit {0}
IsStoppedFor t pool (Impossible part) = Unit {0}
IsStoppedFor t pool (Spent part) = GoesOn t pool part
