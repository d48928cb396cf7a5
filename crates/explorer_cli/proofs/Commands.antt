-- The command that the words say, its numbers, and the statuses of its answers.
use Rattle.std.proofs.Common.{◌≡◌, ◌≤◌, ◌⊎◌, inl, inr, ℕ, List, Option, Some, None, subst, arith}
use Rattle.std.specs.Prelude.{IfSome, IfNone}
use Rattle.outside_io.specs.declared.status.Status.{Status}
use Rattle.outside_io.specs.declared.status.Status.TheVariants.{Done, WordsRefused, InputRefused, ModelRefused, SourceFailed, SinkFailed, NoMemory}
use Rattle.command_words.specs.declared.reading.Command.{Command}
use Rattle.command_words.specs.declared.reading.Command.TheVariants.{Run, Distinct, Check, Assert, Facts, Load, Crew}
use Rattle.command_words.specs.Words.{Says, SaysNone, AreOfLoad, AreOptions, IsBudgetAlone}
use Rattle.explorer_cli.specs.Outcome.{HasNumbersInRange, HasFailed, IsStatusOf}

-- the numbers of the words
numbers_of_options : (words : List (List ℕ)) (workers budget : ℕ) → AreOptions words workers budget → (1 ≤ workers) × (workers ≤ 16) × (budget ≤ 100000)
numbers_of_options words workers budget (inl none) = let w = none.1 in let b = none.2 in (omega arith, omega arith, omega arith)
numbers_of_options words workers budget (inr (inl one)) = let b = one.1 in (one.0.least, one.0.most, omega arith)
numbers_of_options words workers budget (inr (inr (inl one))) = let w = one.1 in (omega arith, omega arith, one.0.most)
numbers_of_options words workers budget (inr (inr (inr (inl both)))) = (both.first.least, both.first.most, both.second.most)
numbers_of_options words workers budget (inr (inr (inr (inr both)))) = (both.second.least, both.second.most, both.first.most)

few_alone : (words : List (List ℕ)) (budget : ℕ) → IsBudgetAlone words budget → budget ≤ 100000
few_alone words budget (inl none) = let e = none.1 in omega arith
few_alone words budget (inr one) = one.most

numbers_of_load : (words : List (List ℕ)) (number workers : ℕ) → AreOfLoad words number workers → (1 ≤ number) × (number ≤ 16) × (1 ≤ workers) × (workers ≤ 16)
numbers_of_load words number workers (inl one) = let w = one.1 in (one.0.least, one.0.most, omega arith, omega arith)
numbers_of_load words number workers (inr (inl both)) = (both.first.least, both.first.most, both.second.least, both.second.most)
numbers_of_load words number workers (inr (inr both)) = (both.second.least, both.second.most, both.first.least, both.first.most)

pub numbers_in_range : (words : List (List ℕ)) (command : Command) → Says words command → HasNumbersInRange command
numbers_in_range words (Run workers budget) says = numbers_of_options says.0 workers budget says.2
numbers_in_range words (Distinct workers budget) says = numbers_of_options says.0 workers budget says.2
numbers_in_range words Check says = tt
numbers_in_range words (Assert budget) says = few_alone says.0 budget says.2
numbers_in_range words (Facts budget) says = few_alone says.0 budget says.2
numbers_in_range words (Load number workers) says = numbers_of_load says.0 number workers says.2
numbers_in_range words (Crew workers budget) says = numbers_of_options says.0 workers budget says.2

-- what is answered of the words, where the answer is known
pub some_said : (words : List (List ℕ)) (said : Option Command) (command : Command) → said ≡ Some command → IfSome said (Says words) → Says words command
some_said words said command e h = subst (λ (s : Option Command). IfSome s (Says words)) e h

pub none_said : (words : List (List ℕ)) (said : Option Command) → said ≡ None → IfNone said (SaysNone words) → SaysNone words
none_said words said e h = subst (λ (s : Option Command). IfNone s (SaysNone words)) e h

-- no answer's status tells that something failed, or that the words are refused
abbrev IsOther : Status → Type 0
IsOther status = (status ≡ Done) ⊎ (status ≡ InputRefused) ⊎ (status ≡ ModelRefused)

abbrev IsAnswered : Status → Type 0
IsAnswered status = (HasFailed status → ⊥) × (status ≡ WordsRefused → ⊥)

unlike_failed : (status : Status) → (status ≡ SourceFailed → ⊥) → (status ≡ SinkFailed → ⊥) → (status ≡ NoMemory → ⊥) → HasFailed status → ⊥
unlike_failed status source sink memory (inl failed) = source failed
unlike_failed status source sink memory (inr (inl failed)) = sink failed
unlike_failed status source sink memory (inr (inr failed)) = memory failed

checked : (status : Status) → IsStatusOf Check status → IsAnswered status
checked status (inl done) = (unlike_failed status (λ e. cc) (λ e. cc) (λ e. cc), λ e. cc)
checked status (inr (inl done)) = (unlike_failed status (λ e. cc) (λ e. cc) (λ e. cc), λ e. cc)
checked status (inr (inr done)) = (unlike_failed status (λ e. cc) (λ e. cc) (λ e. cc), λ e. cc)

other : (status : Status) → IsOther status → IsAnswered status
other status (inl done) = (unlike_failed status (λ e. cc) (λ e. cc) (λ e. cc), λ e. cc)
other status (inr (inl done)) = (unlike_failed status (λ e. cc) (λ e. cc) (λ e. cc), λ e. cc)
other status (inr (inr done)) = (unlike_failed status (λ e. cc) (λ e. cc) (λ e. cc), λ e. cc)

answered : (command : Command) (status : Status) → IsStatusOf command status → IsAnswered status
answered (Run workers budget) status is = other status is
answered (Distinct workers budget) status is = other status is
answered Check status is = checked status is
answered (Assert budget) status is = other status is
answered (Facts budget) status is = other status is
answered (Load number workers) status is = other status is
answered (Crew workers budget) status is = other status is

pub not_failed : (command : Command) (status : Status) → IsStatusOf command status → HasFailed status → ⊥
not_failed command status is = (answered command status is).0

pub not_refused_words : (command : Command) (status : Status) → HasFailed status ⊎ IsStatusOf command status → status ≡ WordsRefused → ⊥
not_refused_words command status (inl (inl source)) refused = cc
not_refused_words command status (inl (inr (inl sink))) refused = cc
not_refused_words command status (inl (inr (inr memory))) refused = cc
not_refused_words command status (inr is) refused = (answered command status is).1 refused
