-- Which commands of models are taken, and how models are refused.
use Rattle.std.specs.Prelude.{◌≡◌, ◌⊎◌, ◌∷◌, ◌++◌, [], ℕ, Bool, not, filter, List, Option, length, All, MatchOption, Vec}
use Rattle.std.specs.declared.alloc.Global.{Global}
use Rattle.std.specs.List.{AllZip, range_with_len}
use Rattle.alloy_syntax.specs.declared.tree.CommandKind.{CommandKind}
use Rattle.alloy_syntax.specs.declared.tree.CommandKind.TheVariants.{Run, Check}
use Rattle.named_model.specs.Model.{NamedTree}
use Rattle.named_model.specs.Numbered.{is_check}
use Rattle.named_model.specs.View.{named_view}
use Rattle.rel_formula.specs.Bounds.{Bounded}
use Rattle.model_texts.specs.Texts.ModelText.{SaysModel, IsFaulty}
use Rattle.script_format.specs.declared.entries.ModelEntry.{ModelEntry}
use Rattle.served_models.specs.Served.{IsProblemOf, LacksProblem, model_line}
use Rattle.decision_reports.specs.declared.taken_models.TakenModel.{TakenModel}
use Rattle.decision_reports.specs.declared.taken_models.TakenModels.{TakenModels}
use Rattle.decision_reports.specs.declared.taken_models.TakenModels.TheVariants as models
use Rattle.decision_reports.specs.declared.taken_models.FoundModel.{FoundModel}
use Rattle.decision_reports.specs.declared.taken_models.FoundModel.TheVariants as model

-- ---- commands

-- the command of this number is a `run`, or a `check`
abbrev pub is_of_kind : CommandKind → NamedTree → ℕ → Bool
is_of_kind Run m number = not (is_check m.commands number)
is_of_kind Check m number = is_check m.commands number

-- the numbers of a model's commands of this kind, in rising order
abbrev pub numbers_of : CommandKind → NamedTree → List ℕ
numbers_of kind m = filter (is_of_kind kind m) (range_with_len 1 (length m.commands))

-- the command of this number can be run: it has a problem
abbrev pub CanBeRun : NamedTree → ℕ → Type 0
CanBeRun m number = (p : Bounded) × IsProblemOf m number p

-- ---- models that can be used, and others

-- the text says a model in which each command of this kind can be run
abbrev pub IsUsableFor : CommandKind → List ℕ → Type 0
IsUsableFor kind text = (m : NamedTree) × SaysModel text m × All (CanBeRun m) (numbers_of kind m)

-- of these commands of a model, the first that can't be run; these words tell why
pub record HasBadAmong (m : NamedTree) (numbers words : List ℕ) : Type 0 where
  pub before : List ℕ
  pub number : ℕ
  pub others : List ℕ
  pub numbers_are : numbers ≡ before ++ number ∷ others
  pub earlier : All (CanBeRun m) before
  pub lacks : LacksProblem m number words

-- a command of this kind can't be run; these words tell the first of them
abbrev pub SaysBadCommandOf : CommandKind → List ℕ → List ℕ → Type 0
SaysBadCommandOf kind text words = (m : NamedTree) × SaysModel text m × HasBadAmong m (numbers_of kind m) words

-- the text is no model, or a command of this kind can't be run; these words tell it
abbrev pub IsRefusedFor : CommandKind → List ℕ → List ℕ → Type 0
IsRefusedFor kind text words = IsFaulty text words ⊎ SaysBadCommandOf kind text words

-- the first model that can't be used has this name, and these words tell why
pub record IsFirstRefusedFor (kind : CommandKind) (entries : List ModelEntry) (name words : List ℕ) : Type 0 where
  pub before : List ModelEntry
  pub entry : ModelEntry
  pub others : List ModelEntry
  pub entries_are : entries ≡ before ++ entry ∷ others
  pub usable : All (λ (x : ModelEntry). IsUsableFor kind x.text) before
  pub refused : IsRefusedFor kind entry.text words
  pub name_is : name ≡ entry.name

-- ---- what is found of them

-- each of these commands can be run, or these words tell the first that can't
abbrev pub AreLowered : NamedTree → List ℕ → Option (Vec ℕ Global) → Type 0
AreLowered m numbers found = MatchOption found (All (CanBeRun m) numbers) (λ words. HasBadAmong m numbers words.items)

-- the numbers of the model's commands of this kind are kept with it, and each of these commands can be run
pub record IsTakenOf (kind : CommandKind) (x : TakenModel) : Type 0 where
  pub numbers : x.numbers.items ≡ numbers_of kind (named_view x.model)
  pub problems : All (CanBeRun (named_view x.model)) x.numbers.items

-- the model that the text says, with its commands of this kind
abbrev pub IsTaken : CommandKind → ModelEntry → TakenModel → Type 0
IsTaken kind entry x = SaysModel entry.text (named_view x.model) × IsTakenOf kind x

-- what is found of a model
abbrev pub IsFoundIn : CommandKind → NamedTree → FoundModel → Type 0
IsFoundIn kind m (model.Ready x) = (named_view x.model ≡ m) × IsTakenOf kind x
IsFoundIn kind m (model.Refused words) = HasBadAmong m (numbers_of kind m) words.items

-- what is found of a text
abbrev pub IsFoundFor : CommandKind → List ℕ → FoundModel → Type 0
IsFoundFor kind text (model.Ready x) = SaysModel text (named_view x.model) × IsTakenOf kind x
IsFoundFor kind text (model.Refused words) = IsRefusedFor kind text words.items

-- what is found of models
abbrev pub AreTaken : CommandKind → List ModelEntry → TakenModels → Type 0
AreTaken kind entries (models.Ready found) = AllZip (IsTaken kind) entries found.items
AreTaken kind entries (models.Refused line) = (name : List ℕ) × (words : List ℕ) × IsFirstRefusedFor kind entries name words × (line.items ≡ model_line name words)
