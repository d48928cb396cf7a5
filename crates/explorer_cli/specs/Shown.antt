-- What the replies of a session show, offer and augment, and what was told of it before.
use Rattle.std.specs.Prelude.{◌≡◌, ◌≢◌, ◌<◌, ◌⊎◌, ℕ, List, [], ◌∷◌, ◌++◌, length, Some, slice_get, All, AllPairs, Contains}
use Rattle.rel_formula.specs.Bounds.{Bounded}
use Rattle.rel_formula.specs.Instance.{with_cell}
use Rattle.swap_symmetry.specs.Due.{IsDue}
use Rattle.translation_rules.specs.Offers.{AreOffers}
use Rattle.session_words.specs.declared.atom_names.AtomName.{AtomName}
use Rattle.session_words.specs.declared.steps.Step.TheVariants.{Budget, Augment}
use Rattle.session_words.specs.declared.commands.Command.{Command}
use Rattle.session_words.specs.declared.commands.Command.TheVariants.{Step, All as AskedAll}
use Rattle.session_rules.specs.Naming.{NamesCell}
use Rattle.session_rules.specs.States.{KeepsFloors}
use Rattle.session_rules.specs.declared.answers.Reply.{Reply}
use Rattle.session_rules.specs.declared.answers.Reply.TheVariants.{Shown, All as AllShown, Partly, Refused, Memory}
use Rattle.script_text.specs.Printed.{Printed, listed, budget_set}

-- the reply at a place, and the top floor before it
abbrev pub IsReplyAt : List Reply → List (List ℕ) → ℕ → Reply → List ℕ → Type 0
IsReplyAt replies floors place reply floor = (slice_get replies place ≡ Some reply) × (slice_get floors place ≡ Some floor)

-- the reply shows the scenario, maybe again
abbrev pub Shows : Reply → List ℕ → Type 0
Shows (Shown number scenario) x = x ≡ scenario
Shows (AllShown scenarios) x = Contains scenarios x
Shows (Partly first scenarios) x = Contains scenarios x
Shows reply x = ⊥

-- the reply shows the scenario for the first time
abbrev pub ShowsNew : Reply → List ℕ → Type 0
ShowsNew (AllShown scenarios) x = ⊥
ShowsNew reply x = Shows reply x

-- a reply before this place shows the scenario, at this floor
pub record WasTold (replies : List Reply) (floors : List (List ℕ)) (place : ℕ) (floor x : List ℕ) : Type 0 where
  pub earlier : ℕ
  pub reply : Reply
  pub before : earlier < place
  pub at : IsReplyAt replies floors earlier reply floor
  pub shows : Shows reply x

-- the reply is a refusal, or want of memory
abbrev pub IsFailure : Reply → Type 0
IsFailure (Refused refusal) = Unit {0}
IsFailure Memory = Unit {0}
IsFailure reply = ⊥

-- an `all` before this place failed at this floor: what it had found counts as shown, and nothing of it was printed
pub record AllHasFailed (commands : List Command) (replies : List Reply) (floors : List (List ℕ)) (place : ℕ) (floor : List ℕ) : Type 0 where
  pub earlier : ℕ
  pub asked : ℕ
  pub reply : Reply
  pub before : earlier < place
  pub command : slice_get commands earlier ≡ Some (AskedAll asked)
  pub at : IsReplyAt replies floors earlier reply floor
  pub failed : IsFailure reply

-- what counts as shown at a floor, before this place: all of it is due, none twice; what the replies before show there is among
-- it; and nothing else is, but for what an `all` had found that failed there
pub record IsShownBefore (p : Bounded) (commands : List Command) (replies : List Reply) (floors : List (List ℕ)) (place : ℕ) (floor : List ℕ) (shown : List (List ℕ)) : Type 0 where
  pub due : All (IsDue p floor) shown
  pub once : AllPairs (λ x y. x ≢ y) shown
  pub told : (x : List ℕ) → WasTold replies floors place floor x → Contains shown x
  pub known : (x : List ℕ) → Contains shown x → WasTold replies floors place floor x ⊎ AllHasFailed commands replies floors place floor

-- the floor has ended at this place: all that is due counts as shown, and that is so many
pub record EndsAt (p : Bounded) (commands : List Command) (replies : List Reply) (floors : List (List ℕ)) (place : ℕ) (floor : List ℕ) (number : ℕ) : Type 0 where
  pub shown : List (List ℕ)
  pub before : IsShownBefore p commands replies floors place floor shown
  pub all : (x : List ℕ) → IsDue p floor x → Contains shown x
  pub number_is : number ≡ length shown

-- at this place this scenario is the current one: the last of those that count as shown at the floor
pub record IsCurrentAt (p : Bounded) (commands : List Command) (replies : List Reply) (floors : List (List ℕ)) (place : ℕ) (floor current : List ℕ) : Type 0 where
  pub earlier : List (List ℕ)
  pub before : IsShownBefore p commands replies floors place floor (earlier ++ current ∷ [])

-- the cells are all that some instance adds to the current scenario, in order
pub record OffersAt (p : Bounded) (commands : List Command) (replies : List Reply) (floors : List (List ℕ)) (place : ℕ) (floor cells : List ℕ) : Type 0 where
  pub current : List ℕ
  pub is_current : IsCurrentAt p commands replies floors place floor current
  pub offers : AreOffers p current cells

-- the command at this place asks for a floor: the current scenario with a cell that isn't in it, which the names stand for
pub record AsksAt (p : Bounded) (commands : List Command) (replies : List Reply) (floors : List (List ℕ)) (place : ℕ) (floor above : List ℕ) : Type 0 where
  pub name : List ℕ
  pub names : List AtomName
  pub command : slice_get commands place ≡ Some (Step (Augment name names))
  pub current : List ℕ
  pub is_current : IsCurrentAt p commands replies floors place floor current
  pub cell : ℕ
  pub named : NamesCell p name names cell
  pub absent : ¬ Contains current cell
  pub above_is : above ≡ with_cell cell current

-- each reply between these places neither adds a floor nor leaves one
abbrev pub AllKeepFloors : List Reply → ℕ → ℕ → Type 0
AllKeepFloors replies first second = (place : ℕ) (reply : Reply) → first < place → place < second → slice_get replies place ≡ Some reply → KeepsFloors reply

-- ---- scripts that ask for lists

-- the command is `all` or `budget`
abbrev pub AsksForList : Command → Type 0
AsksForList (AskedAll n) = Unit {0}
AsksForList (Step (Budget budget)) = Unit {0}
AsksForList command = ⊥

-- a list that ends a floor, or a budget
abbrev pub IsListed : Printed → Type 0
IsListed (listed scenarios) = Unit {0}
IsListed (budget_set budget) = Unit {0}
IsListed printed = ⊥
