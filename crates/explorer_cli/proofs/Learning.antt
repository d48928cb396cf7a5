-- What the searches of an answer learn, where sessions are served and where the bytes that are read are a front of all.
use Rattle.std.proofs.Common.{◌≡◌, ◌≤◌, ◌+◌, ◌∙◌, ℕ, List, [], ◌∷◌, take, length, inl, inr, refl, sym, ap, subst, arith}
use Rattle.std.specs.List.{AllZip}
use Rattle.std.proofs.lemmas.Bool.{cases_lt}
use Rattle.std.proofs.lemmas.List.{take_all, length-take-le}
use Rattle.std.specs.Global.{Vec}
use Rattle.command_words.specs.declared.reading.Command.{Command}
use Rattle.command_words.specs.declared.reading.Command.TheVariants.{Run, Distinct, Check, Assert, Facts, Load, Crew}
use Rattle.session_words.specs.declared.commands.Command.{Command as SessionCommand}
use Rattle.session_rules.specs.declared.script.SessionScript.{SessionScript}
use Rattle.script_format.specs.declared.entries.SessionEntry.{SessionEntry}
use Rattle.session_turns.specs.Allowed.{allowed}
use Rattle.served_models.specs.declared.commands.ServedCommand.{ServedCommand}
use Rattle.explorer_run.specs.Served.{allowed_in}
use Rattle.explorer_cli.specs.Outcome.{limit_of}
use Rattle.explorer_cli.specs.Keys.{IsScriptOf}
use Rattle.explorer_cli.specs.Learnt.{allowed_of, KeepsToBudget, MayLearn, HasLearnt}

-- the sessions as they are served may take what those of the script may
pub same_allowed : (models : List (Vec ServedCommand)) (budget : ℕ) (sessions : List SessionEntry) (scripts : List SessionScript) → AllZip (IsScriptOf models budget) sessions scripts → allowed_in scripts ≡ allowed_of budget sessions
same_allowed models budget [] [] zip = refl
same_allowed models budget [] (y ∷ scripts) zip = absurd zip
same_allowed models budget (x ∷ sessions) [] zip = absurd zip
same_allowed models budget (x ∷ sessions) (y ∷ scripts) zip =
    let first : allowed y.budget y.commands ≡ allowed budget x.commands = ap (λ (b : ℕ). allowed b y.commands) zip.0.budget_is ∙ ap (allowed budget) zip.0.commands in
    let others = same_allowed models budget sessions scripts zip.1 in
    omega (arith, first, others)

-- nothing was learnt
pub none_learnt : (command : Command) (bytes : List ℕ) (count : ℕ) → MayLearn command bytes count count
none_learnt (Run workers budget) bytes count = inl refl
none_learnt (Distinct workers budget) bytes count = inl refl
none_learnt Check bytes count = refl
none_learnt (Assert budget) bytes count = tt
none_learnt (Facts budget) bytes count = tt
none_learnt (Load number workers) bytes count = inl refl
none_learnt (Crew workers budget) bytes count = tt

pub none_has_learnt : (command : Command) (tells : Type 0) (had : List ℕ) (count : ℕ) → HasLearnt command tells had count count
none_has_learnt command tells had count = (λ t. none_learnt command had count, (had, none_learnt command had count))

-- a front with a byte more than a script may have is none; a shorter front is the whole
keeps_whole : (budget : ℕ) (bytes : List ℕ) (old new : ℕ) → KeepsToBudget budget (take 1048577 bytes) old new → KeepsToBudget budget bytes old new
keeps_whole budget bytes old new (inl none) = inl none
keeps_whole budget bytes old new (inr learnt) = elim (cases_lt (length bytes) 1048577) [
  | inl less ↦ subst (λ (xs : List ℕ). KeepsToBudget budget xs old new) (take_all 1048577 bytes (omega arith)) (inr learnt)
  | inr more ↦
      let front = length-take-le 1048577 bytes (omega arith) in
      let short = learnt.1.is_text.0 in
      absurd (omega arith)
]

learnt_whole : (command : Command) (bytes : List ℕ) (old new : ℕ) → MayLearn command (take (limit_of command) bytes) old new → MayLearn command bytes old new
learnt_whole (Run workers budget) bytes old new learnt = keeps_whole budget bytes old new learnt
learnt_whole (Distinct workers budget) bytes old new learnt = keeps_whole budget bytes old new learnt
learnt_whole Check bytes old new learnt = learnt
learnt_whole (Assert budget) bytes old new learnt = tt
learnt_whole (Facts budget) bytes old new learnt = tt
learnt_whole (Load number workers) bytes old new learnt = learnt
learnt_whole (Crew workers budget) bytes old new learnt = tt

pub has_learnt : (command : Command) (tells : Type 0) (had bytes : List ℕ) (old new : ℕ) → (tells → bytes ≡ take (limit_of command) had) → MayLearn command bytes old new → HasLearnt command tells had old new
has_learnt command tells had bytes old new read learnt =
    (λ t. learnt_whole command had old new (subst (λ (xs : List ℕ). MayLearn command xs old new) (read t) learnt), (bytes, learnt))

-- a command without an input
pub has_learnt_unread : (command : Command) → limit_of command ≡ 0 → (tells : Type 0) (had bytes : List ℕ) (old new : ℕ) → bytes ≡ [] → MayLearn command bytes old new → HasLearnt command tells had old new
has_learnt_unread command none tells had bytes old new empty learnt = has_learnt command tells had bytes old new (λ t. empty ∙ sym (ap (λ (n : ℕ). take n had) none)) learnt
