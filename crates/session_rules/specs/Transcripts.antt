-- The replies to the commands of a session, read as the steps that they stand for.
use Rattle.std.specs.Prelude.{Bool, true, false, not, filter, ◌≡◌, ◌↔◌, ◌⊎◌, ◌+◌, ◌<◌, ℕ, List, [], ◌∷◌, ◌++◌, length, AllPairs, Contains}
use Rattle.rel_formula.specs.Bounds.{Bounded}
use Rattle.swap_symmetry.specs.Order.{IsEarlier}
use Rattle.session_words.specs.declared.steps.Step.TheVariants.{Next}
use Rattle.session_words.specs.declared.commands.Command.{Command}
use Rattle.session_words.specs.declared.commands.Command.TheVariants.{Step, All}
use Rattle.session_rules.specs.ProofOfEnd.{ProofOfEnd}
use Rattle.session_rules.specs.States.{State, top_floor, shown_here}
use Rattle.session_rules.specs.Steps.{Exchange, MachineRun, state_after}
use Rattle.session_rules.specs.declared.answers.Reply.{Reply}
use Rattle.session_rules.specs.declared.answers.Reply.TheVariants.{Shown, End, All as AllShown, Partly, Refused, Memory}

-- the scenarios were shown one after the other, with numbers from the first on
abbrev pub showings : ℕ → List (List ℕ) → List Exchange
showings first [] = []
showings first (s ∷ ss) = record { step = Next; reply = Shown first s } ∷ showings (first + 1) ss

-- fewer than n scenarios were shown, and then the next one was asked for with this reply
pub record ComesTo (n : ℕ) (reply : Reply) (xs : List Exchange) : Type 0 where
  pub first : ℕ
  pub scenarios : List (List ℕ)
  pub few : length scenarios < n
  pub exchanges : xs ≡ showings first scenarios ++ record { step = Next; reply = reply } ∷ []

-- fewer than n scenarios were shown, and then the end of the floor
pub record ComesToEnd (n : ℕ) (xs : List Exchange) : Type 0 where
  pub number : ℕ
  pub proof : ProofOfEnd
  pub comes : ComesTo n (End number proof) xs

-- the list has the scenarios shown at the top floor, the earlier ones first
pub record ListsShown (s : State) (scenarios : List (List ℕ)) : Type 0 where
  pub same : (x : List ℕ) → Contains scenarios x ↔ Contains (shown_here s) x
  pub sorted : AllPairs IsEarlier scenarios

-- the reply to the command stands for these exchanges, which begin in this state
abbrev pub ReadsAs : Command → Reply → State → List Exchange → Type 0
ReadsAs (Step step) reply old xs = xs ≡ record { step = step; reply = reply } ∷ []
ReadsAs (All n) (AllShown scenarios) old xs = ComesToEnd n xs × ListsShown (state_after old xs) scenarios
ReadsAs (All n) (Partly first scenarios) old xs = (length scenarios ≡ n) × (xs ≡ showings first scenarios)
ReadsAs (All n) (Refused refusal) old xs = ComesTo n (Refused refusal) xs
ReadsAs (All n) Memory old xs = ComesTo n Memory xs ⊎ ComesToEnd n xs
ReadsAs (All n) reply old xs = ⊥

-- the reply to one command stands for these exchanges, which are a run from this state
pub record Serves (p : Bounded) (old : State) (command : Command) (reply : Reply) (xs : List Exchange) : Type 0 where
  pub read : ReadsAs command reply old xs
  pub run : MachineRun p old xs

-- the replies stand one for each command, with the top floor before each, and are read as these exchanges
abbrev pub IsTranscript : Bounded → State → List Command → List Reply → List (List ℕ) → List Exchange → Type 0
IsTranscript p old [] [] [] xs = xs ≡ []
IsTranscript p old (command ∷ commands) (reply ∷ replies) (floor ∷ floors) xs =
    (here : List Exchange) × (later : List Exchange) × (xs ≡ here ++ later) × (floor ≡ top_floor old) × Serves p old command reply here × IsTranscript p (state_after old here) commands replies floors later
IsTranscript p old commands replies floors xs = ⊥

-- whether the reply says that there was not enough memory
abbrev pub is_memory : Reply → Bool
is_memory Memory = true
is_memory reply = false

-- the exchanges in which there was enough memory
abbrev pub without_memory : List Exchange → List Exchange
without_memory xs = filter (λ x. not (is_memory x.reply)) xs
