-- The session machine: which reply each step may have in a state. No clause, search or pool is mentioned.
use Rattle.std.specs.Prelude.{◌≡◌, ◌≢◌, ◌⊎◌, ◌+◌, ◌<◌, ◌≤◌, ℕ, List, [], ◌∷◌, length, IsTrue, Contains}
use Rattle.tuple_core.specs.declared.atom.Atom.{Atom}
use Rattle.rel_formula.specs.Bounds.{Bounded}
use Rattle.rel_formula.specs.Instance.{InRelation, with_cell}
use Rattle.swap_symmetry.specs.Due.{IsDue}
use Rattle.translation_rules.specs.Offers.{IsPossible, AreOffers}
use Rattle.session_words.specs.declared.atom_names.AtomName.{AtomName}
use Rattle.session_words.specs.declared.steps.Step.{Step}
use Rattle.session_words.specs.declared.steps.Step.TheVariants.{Next, Offers, Augment, Back, Budget, Proof}
use Rattle.session_rules.specs.Naming.{IsNamed, NamesTuple, NamesCell}
use Rattle.session_rules.specs.States.{State, Start, top_floor, shown_here, IsCurrent, has_ended, HasEndedWith, after}
use Rattle.session_rules.specs.declared.answers.Refusal.{Refusal}
use Rattle.session_rules.specs.declared.answers.Refusal.TheVariants.{NoScenario, UnknownTuple, Present, NoInstance, Bottom, Deep, Spent, NoEnd}
use Rattle.session_rules.specs.declared.answers.Reply.{Reply}
use Rattle.session_rules.specs.declared.answers.Reply.TheVariants.{Shown, End, Offers as OffersAre, Augmented, Back as WentBack, BudgetSet, Proof as ProofIs, Refused, Memory}

-- the floor has not ended; the scenario is due there and new, and its number is its place among those shown there
pub record ShowsNext (p : Bounded) (s : State) (number : ℕ) (scenario : List ℕ) : Type 0 where
  pub not_ended : ¬ IsTrue (has_ended (top_floor s) s)
  pub due : IsDue p (top_floor s) scenario
  pub fresh : ¬ Contains (shown_here s) scenario
  pub place : number ≡ length (shown_here s) + 1

-- the floor has not ended, and all that is due there was shown
pub record EndsNow (p : Bounded) (s : State) : Type 0 where
  pub not_ended : ¬ IsTrue (has_ended (top_floor s) s)
  pub all_shown : (x : List ℕ) → IsDue p (top_floor s) x → Contains (shown_here s) x

-- the cells are all that the current scenario can be given, in order
pub record OffersCells (p : Bounded) (s : State) (cells : List ℕ) : Type 0 where
  pub current : List ℕ
  pub is_current : IsCurrent s current
  pub offers : AreOffers p current cells

-- the names are those of a cell outside the current scenario, and the floor is that scenario with it
pub record AsksFor (p : Bounded) (s : State) (name : List ℕ) (names : List AtomName) (floor : List ℕ) : Type 0 where
  pub current : List ℕ
  pub is_current : IsCurrent s current
  pub cell : ℕ
  pub named : NamesCell p name names cell
  pub absent : ¬ Contains current cell
  pub floor_is : floor ≡ with_cell cell current

-- there is room for this one more floor, and some instance contains it
pub record Augments (p : Bounded) (s : State) (name : List ℕ) (names : List AtomName) (floor : List ℕ) : Type 0 where
  pub asked : AsksFor p s name names floor
  pub room : length s.above < 64
  pub possible : IsPossible p floor

-- there is a current scenario, and the names are those of no tuple that the relation may have
pub record NamesNothing (p : Bounded) (s : State) (name : List ℕ) (names : List AtomName) : Type 0 where
  pub current : List ℕ
  pub is_current : IsCurrent s current
  pub unknown : ¬ IsNamed p name names

-- the named tuple is in the relation's value in the current scenario
pub record NamesPresent (p : Bounded) (s : State) (name : List ℕ) (names : List AtomName) : Type 0 where
  pub current : List ℕ
  pub is_current : IsCurrent s current
  pub relation : ℕ
  pub tuple : List Atom
  pub named : NamesTuple p name names relation tuple
  pub present : InRelation p (Contains current) relation tuple

-- there is room for one more floor, and no instance contains this one
pub record AsksImpossible (p : Bounded) (s : State) (name : List ℕ) (names : List AtomName) : Type 0 where
  pub floor : List ℕ
  pub asked : AsksFor p s name names floor
  pub room : length s.above < 64
  pub impossible : ¬ IsPossible p floor

-- the answer to the step is what a search finds: the floor has not ended; there is a current scenario; the named cell is not
-- in it, and there is room for one more floor
abbrev pub NeedsSearch : Bounded → State → Step → Type 0
NeedsSearch p s Next = ¬ IsTrue (has_ended (top_floor s) s)
NeedsSearch p s Offers = (current : List ℕ) × IsCurrent s current
NeedsSearch p s (Augment name names) = (floor : List ℕ) × AsksFor p s name names floor × (length s.above < 64)
NeedsSearch p s Back = ⊥
NeedsSearch p s (Budget budget) = ⊥
NeedsSearch p s Proof = ⊥

-- the step is refused for this reason
abbrev pub IsRefused : Bounded → State → Step → Refusal → Type 0
IsRefused p s step (Spent work) = (work.budget ≡ s.budget) × NeedsSearch p s step
IsRefused p s Offers NoScenario = shown_here s ≡ []
IsRefused p s (Augment name names) NoScenario = shown_here s ≡ []
IsRefused p s (Augment name names) UnknownTuple = NamesNothing p s name names
IsRefused p s (Augment name names) Present = NamesPresent p s name names
IsRefused p s (Augment name names) Deep = (floor : List ℕ) × AsksFor p s name names floor × (64 ≤ length s.above)
IsRefused p s (Augment name names) (NoInstance proof) = AsksImpossible p s name names
IsRefused p s Back Bottom = s.above ≡ []
IsRefused p s Proof NoEnd = ¬ IsTrue (has_ended (top_floor s) s)
IsRefused p s step refusal = ⊥

-- the step may have this reply in this state
abbrev pub MayAnswer : Bounded → State → Step → Reply → Type 0
MayAnswer p s step (Refused refusal) = IsRefused p s step refusal
MayAnswer p s step Memory = Unit {0}
MayAnswer p s Next (Shown number scenario) = ShowsNext p s number scenario
MayAnswer p s Next (End number proof) = (number ≡ length (shown_here s)) × (HasEndedWith s proof ⊎ EndsNow p s)
MayAnswer p s Offers (OffersAre cells) = OffersCells p s cells
MayAnswer p s (Augment name names) (Augmented floor) = Augments p s name names floor
MayAnswer p s Back WentBack = s.above ≢ []
MayAnswer p s (Budget asked) (BudgetSet budget) = budget ≡ asked
MayAnswer p s Proof (ProofIs proof) = HasEndedWith s proof
MayAnswer p s step reply = ⊥

-- the step may have this reply in the old state, and the new one is what the reply leaves
abbrev pub MachineStep : Bounded → State → Step → Reply → State → Type 0
MachineStep p old step reply new = MayAnswer p old step reply × (new ≡ after old reply)

-- a step with its reply
pub record Exchange : Type 0 where
  pub step : Step
  pub reply : Reply

-- the state after these exchanges
abbrev pub state_after : State → List Exchange → State
state_after s [] = s
state_after s (x ∷ xs) = state_after (after s x.reply) xs

-- each exchange is one that the machine may have in the state after those before it
abbrev pub MachineRun : Bounded → State → List Exchange → Type 0
MachineRun p s [] = Unit {0}
MachineRun p s (x ∷ xs) = MayAnswer p s x.step x.reply × MachineRun p (after s x.reply) xs

-- some run from the start leads to the state
pub record IsReached (p : Bounded) (s : State) : Type 0 where
  pub budget : ℕ
  pub exchanges : List Exchange
  pub run : MachineRun p (Start budget) exchanges
  pub state : s ≡ state_after (Start budget) exchanges
