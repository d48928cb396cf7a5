-- Which models and commands sessions can run on, and how the others are refused.
use Rattle.std.specs.Prelude.{◌≡◌, ◌≢◌, ◌⊎◌, ◌+◌, ◌<◌, ◌≤◌, ℕ, List, [], ◌∷◌, ◌++◌, length, codes, decimal, Contains, All, AllPairs, slice_get, Option, Some, MatchOption, Vec}
use Rattle.std.specs.declared.alloc.Global.{Global}
use Rattle.rel_formula.specs.Bounds.{Bounded, IsProblem}
use Rattle.renaming_classes.specs.Counts.{IsNumberOfRenamings}
use Rattle.named_model.specs.declared.fault.NameFault.TheVariants as name
use Rattle.named_model.specs.Model.{NamedTree}
use Rattle.lowering_rules.specs.declared.fault.LowerFault.{LowerFault}
use Rattle.lowering_rules.specs.declared.fault.LowerFault.TheVariants as lower
use Rattle.lowering_rules.specs.Formula.{all_facts}
use Rattle.lowering_rules.specs.Problem.{IsRefusal}
use Rattle.rel_lower.specs.Lowered.{IsLowered}
use Rattle.model_texts.specs.Words.Words.{command_words}
use Rattle.model_texts.specs.Texts.ModelText.{SaysModel, IsFaulty}
use Rattle.script_format.specs.declared.entries.ModelEntry.{ModelEntry}
use Rattle.script_format.specs.declared.entries.SessionEntry.{SessionEntry}
use Rattle.served_models.specs.declared.purposes.Purpose.{Purpose}
use Rattle.served_models.specs.declared.purposes.Purpose.TheVariants.{Lists, Classes}
use Rattle.served_models.specs.declared.commands.ServedCommand.{ServedCommand}
use Rattle.served_models.specs.declared.commands.Commands.{Commands}
use Rattle.served_models.specs.declared.commands.Commands.TheVariants as commands
use Rattle.served_models.specs.declared.models.Models.{Models}
use Rattle.served_models.specs.declared.models.Models.TheVariants as models

-- a session is on the command of this number of the model at this place
abbrev pub IsAsked : List SessionEntry → ℕ → ℕ → Type 0
IsAsked sessions place number = (x : SessionEntry) × Contains sessions x × (x.model ≡ place) × (x.number ≡ number)

-- the problem of a model's command, with all facts
pub record IsProblemOf (m : NamedTree) (number : ℕ) (p : Bounded) : Type 0 where
  pub problem : IsProblem p
  pub lowered : IsLowered m number (all_facts m) p

-- the problem can be used for this: that lists are told whole, or by classes, for which it has at most 40,320 renamings
abbrev pub Fits : Purpose → Bounded → Type 0
Fits Lists p = Unit {0}
Fits Classes p = (n : ℕ) × IsNumberOfRenamings p n × (n ≤ 40320)

-- it can't be
abbrev pub IsUnfit : Purpose → Bounded → Type 0
IsUnfit Lists p = ⊥
IsUnfit Classes p = (n : ℕ) × IsNumberOfRenamings p n × (40320 < n)

-- the command has a problem that can be used for this
abbrev pub HasProblem : Purpose → NamedTree → ℕ → Type 0
HasProblem purpose m number = (p : Bounded) × IsProblemOf m number p × Fits purpose p

-- the text says this model, and each of its commands on which a session is has a problem that can be used for this
pub record IsUsable (purpose : Purpose) (sessions : List SessionEntry) (place : ℕ) (text : List ℕ) (m : NamedTree) : Type 0 where
  pub says : SaysModel text m
  pub served : (number : ℕ) → IsAsked sessions place number → HasProblem purpose m number

-- a fault is no want of memory, or of room
abbrev pub IsToldOf : LowerFault → Type 0
IsToldOf f = (f ≢ lower.Memory) × (f ≢ lower.TooLarge) × (f ≢ lower.Scope name.Memory)

-- the formula of a model's command is too large to build
abbrev pub IsTooLarge : NamedTree → ℕ → Type 0
IsTooLarge m number = IsRefusal m number (all_facts m) lower.TooLarge

-- a command has no problem, and these words tell why
pub record LacksProblem (m : NamedTree) (number : ℕ) (words : List ℕ) : Type 0 where
  pub fault : LowerFault
  pub refused : IsRefusal m number (all_facts m) fault
  pub told : IsToldOf fault
  pub words_are : words ≡ command_words number fault

-- what is told of a command whose problem has too many renamings
abbrev pub renamings_words : ℕ → List ℕ
renamings_words number = codes "command " ++ decimal number ++ codes " too_many_renamings"

-- a command has a problem that can't be used for this, and these words tell it
pub record HasUnfitProblem (purpose : Purpose) (m : NamedTree) (number : ℕ) (words : List ℕ) : Type 0 where
  pub problem : Bounded
  pub is : IsProblemOf m number problem
  pub unfit : IsUnfit purpose problem
  pub words_are : words ≡ renamings_words number

-- a command has no problem, or one that can't be used for this; these words tell why
abbrev pub IsUnusable : Purpose → NamedTree → ℕ → List ℕ → Type 0
IsUnusable purpose m number words = LacksProblem m number words ⊎ HasUnfitProblem purpose m number words

-- of the commands on which sessions are, the first that can't be used for this; these words tell why
pub record HasBadCommand (purpose : Purpose) (sessions : List SessionEntry) (place : ℕ) (m : NamedTree) (words : List ℕ) : Type 0 where
  pub number : ℕ
  pub asked : IsAsked sessions place number
  pub earlier : (n : ℕ) → IsAsked sessions place n → n < number → HasProblem purpose m n
  pub unusable : IsUnusable purpose m number words

abbrev pub SaysBadCommand : Purpose → List SessionEntry → ℕ → List ℕ → List ℕ → Type 0
SaysBadCommand purpose sessions place text words = (m : NamedTree) × SaysModel text m × HasBadCommand purpose sessions place m words

-- the text is no model, or a session is on a command that can't be used; these words tell it
abbrev pub IsRefused : Purpose → List SessionEntry → ℕ → List ℕ → List ℕ → Type 0
IsRefused purpose sessions place text words = IsFaulty text words ⊎ SaysBadCommand purpose sessions place text words

-- the entries from this place on say these models, and can be used for this
abbrev pub AreUsable : Purpose → List SessionEntry → ℕ → List ModelEntry → List NamedTree → Type 0
AreUsable purpose sessions place [] [] = Unit {0}
AreUsable purpose sessions place [] (m ∷ ms) = ⊥
AreUsable purpose sessions place (entry ∷ entries) [] = ⊥
AreUsable purpose sessions place (entry ∷ entries) (m ∷ ms) = IsUsable purpose sessions place entry.text m × AreUsable purpose sessions (place + 1) entries ms

-- the first model that can't be used for this has this name, and these words tell why
pub record IsFirstRefused (purpose : Purpose) (sessions : List SessionEntry) (entries : List ModelEntry) (name words : List ℕ) : Type 0 where
  pub before : List ModelEntry
  pub entry : ModelEntry
  pub others : List ModelEntry
  pub entries_are : entries ≡ before ++ entry ∷ others
  pub models : List NamedTree
  pub usable : AreUsable purpose sessions 0 before models
  pub refused : IsRefused purpose sessions (length before) entry.text words
  pub name_is : name ≡ entry.name

-- the line that refuses the model of this name, with what is wrong with it
abbrev pub model_line : List ℕ → List ℕ → List ℕ
model_line name words = codes "fault model " ++ name ++ codes " " ++ words ++ codes "\n"

-- a session is on a command of this model whose formula is too large to build
abbrev pub HasLargeCommand : List SessionEntry → ℕ → NamedTree → Type 0
HasLargeCommand sessions place m = (number : ℕ) × IsAsked sessions place number × IsTooLarge m number

-- the text says such a model
abbrev pub SaysLargeCommand : List SessionEntry → ℕ → List ℕ → Type 0
SaysLargeCommand sessions place text = (m : NamedTree) × SaysModel text m × HasLargeCommand sessions place m

-- and so does one of these
abbrev pub HasLargeModel : List SessionEntry → List ModelEntry → Type 0
HasLargeModel sessions entries = (place : ℕ) × (entry : ModelEntry) × (slice_get entries place ≡ Some entry) × SaysLargeCommand sessions place entry.text

-- ---- what is made for sessions

-- of the numbers, from this one on, of commands on which sessions are, this is the least
pub record IsLeastAsked (sessions : List SessionEntry) (place from number : ℕ) : Type 0 where
  pub asked : IsAsked sessions place number
  pub behind : from ≤ number
  pub least : (n : ℕ) → IsAsked sessions place n → from ≤ n → number ≤ n

-- the least such number, where there is one
abbrev pub IsNext : List SessionEntry → ℕ → ℕ → Option ℕ → Type 0
IsNext sessions place from found = MatchOption found ((n : ℕ) → IsAsked sessions place n → n < from) (IsLeastAsked sessions place from)

-- this is the problem of the command of this number, which can be used for this
abbrev pub IsServedFor : Purpose → NamedTree → ℕ → ServedCommand → Type 0
IsServedFor purpose m number x = (x.number ≡ number) × IsProblemOf m number x.problem × Fits purpose x.problem

-- each of these is a command's problem
abbrev pub AreOf : NamedTree → List ServedCommand → Type 0
AreOf m made = All (λ (x : ServedCommand). IsProblemOf m x.number x.problem) made

-- and can be used for this
abbrev pub AreFit : Purpose → List ServedCommand → Type 0
AreFit purpose made = All (λ (x : ServedCommand). Fits purpose x.problem) made

-- one of these is that of the command of this number
abbrev pub HasMade : List ServedCommand → ℕ → Type 0
HasMade made number = (x : ServedCommand) × Contains made x × (x.number ≡ number)

-- these are the problems of a model's commands, of just those on which sessions are, in rising order
pub record AreMade (purpose : Purpose) (sessions : List SessionEntry) (place : ℕ) (m : NamedTree) (made : List ServedCommand) : Type 0 where
  pub each : AreOf m made
  pub fit : AreFit purpose made
  pub asked : All (λ (x : ServedCommand). IsAsked sessions place x.number) made
  pub all : (number : ℕ) → IsAsked sessions place number → HasMade made number
  pub rising : AllPairs (λ (x y : ServedCommand). x.number < y.number) made

-- what was found of the commands of a model
abbrev pub AreServed : Purpose → List SessionEntry → ℕ → NamedTree → Commands → Type 0
AreServed purpose sessions place m (commands.Ready made) = AreMade purpose sessions place m made.items
AreServed purpose sessions place m (commands.Refused words) = HasBadCommand purpose sessions place m words.items

-- what was found of the model at this place
abbrev pub IsFound : Purpose → List SessionEntry → ℕ → List ℕ → Commands → Type 0
IsFound purpose sessions place text (commands.Ready made) = (m : NamedTree) × IsUsable purpose sessions place text m × AreMade purpose sessions place m made.items
IsFound purpose sessions place text (commands.Refused words) = IsRefused purpose sessions place text words.items

-- what was made for the models from this place on
abbrev pub AreAllMade : Purpose → List SessionEntry → ℕ → List NamedTree → List (Vec ServedCommand Global) → Type 0
AreAllMade purpose sessions place [] [] = Unit {0}
AreAllMade purpose sessions place [] (x ∷ xs) = ⊥
AreAllMade purpose sessions place (m ∷ ms) [] = ⊥
AreAllMade purpose sessions place (m ∷ ms) (x ∷ xs) = AreMade purpose sessions place m x.items × AreAllMade purpose sessions (place + 1) ms xs

-- the models can be used for this, and this was made for them
abbrev pub AreUsed : Purpose → List SessionEntry → List ModelEntry → List (Vec ServedCommand Global) → Type 0
AreUsed purpose sessions entries found = (ms : List NamedTree) × AreUsable purpose sessions 0 entries ms × AreAllMade purpose sessions 0 ms found

-- the models are what was found
abbrev pub AreFound : Purpose → List SessionEntry → List ModelEntry → Models → Type 0
AreFound purpose sessions entries (models.Ready found) = AreUsed purpose sessions entries found.items
AreFound purpose sessions entries (models.Refused line) = (name : List ℕ) × (words : List ℕ) × IsFirstRefused purpose sessions entries name words × (line.items ≡ model_line name words)
