-- What the search for offers comes to, and what its parts are.
use Rattle.std.specs.Prelude.{◌≡◌, ◌<◌, ◌≤◌, ℕ, List, All, Contains, length}
use Rattle.refutation_check.specs.declared.log.Step.{Step as LogStep}
use Rattle.refutation_check.specs.Chain.{EndsEmpty}
use Rattle.refutation_check.specs.Part.{Parted}
use Rattle.rel_formula.specs.Bounds.{Bounded, cells_of}
use Rattle.translation_rules.specs.Translation.{Translated}
use Rattle.translation_rules.specs.Offers.{AreOffers}
use Rattle.translation_rules.specs.Parts.{AreSearched, LastGoesOn, TriesCell, TryCells, novel_in}
use Rattle.augmenter.specs.Search.{RestsOnNoLocal}
use Rattle.augmenter.specs.declared.answer.Offers.{Offers}
use Rattle.augmenter.specs.declared.answer.Offers.TheVariants.{Exactly, Spent}

abbrev pub parts_of : Offers → List Parted
parts_of (Exactly cells parts) = parts.items
parts_of (Spent parts) = parts.items

-- each part tries another cell outside the scenario, over the translation and the pool; none of its steps, save a last empty
-- one, rests on its units; and together they have at most so many novel steps
pub record AreTrials (t : Translated) (pool : List LogStep) (scenario : List ℕ) (budget : ℕ) (parts : List Parted) : Type 0 where
  pub tried : TryCells t.problem scenario parts
  pub searched : AreSearched t pool parts
  pub free : All (RestsOnNoLocal t pool) parts
  pub few : novel_in t pool parts ≤ budget

-- one of the parts tries the cell, and its log ends with the empty clause
pub record IsRefutedIn (p : Bounded) (scenario : List ℕ) (parts : List Parted) (cell : ℕ) : Type 0 where
  pub part : Parted
  pub among : Contains parts part
  pub tries : TriesCell p scenario cell part
  pub ends : EndsEmpty part.log

-- of the other cells outside the scenario each is refuted
abbrev pub OthersAreRefuted : Bounded → List ℕ → List ℕ → List Parted → Type 0
OthersAreRefuted p scenario cells parts = (cell : ℕ) → cell < length (cells_of p) → ¬ Contains scenario cell → ¬ Contains cells cell → IsRefutedIn p scenario parts cell

-- the cells are all that the scenario can be given, in order, as the parts show; or the budget is spent, all of it
abbrev pub IsRight : Translated → List LogStep → List ℕ → ℕ → Offers → Type 0
IsRight t pool scenario budget (Exactly cells parts) = AreOffers t.problem scenario cells.items × OthersAreRefuted t.problem scenario cells.items parts.items
IsRight t pool scenario budget (Spent parts) = novel_in t pool parts.items ≡ budget

-- where the budget is spent, the last search was stopped: it goes on
abbrev pub IsStopped : Translated → List LogStep → Offers → Type 0
IsStopped t pool (Exactly cells parts) = Unit {0}
IsStopped t pool (Spent parts) = LastGoesOn t pool parts.items
