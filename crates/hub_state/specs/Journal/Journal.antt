-- Which journals are legal. Each condition is one on an entry and on those before it.
use Rattle.std.specs.Prelude.{◌≡◌, ◌≢◌, ◌+◌, ◌≤◌, ◌==◌, ℕ, List, [], ◌∷◌, ◌++◌, length, take, slice_get, flat_map, sum_by, Some, Contains, if◌then◌else◌}
use Rattle.refutation_check.specs.declared.log.Step.{Step as LogStep}
use Rattle.refutation_check.specs.Chain.{IsAccepted}
use Rattle.clause_pool.specs.Limits.{IsWithinLimits}
use Rattle.rel_formula.specs.Bounds.{Bounded}
use Rattle.translation_rules.specs.Translation.{Translated, StandsFor}
use Rattle.session_words.specs.declared.steps.Step.{Step}
use Rattle.session_rules.specs.States.{State, Start}
use Rattle.session_rules.specs.Steps.{Exchange, MayAnswer, MachineRun, state_after}
use Rattle.session_rules.specs.Evidence.{NeedsEvidence, HasEvidence}
use Rattle.session_rules.specs.declared.answers.Reply.{Reply}
use Rattle.session_rules.specs.declared.answers.Reply.TheVariants.{Memory}
use Rattle.hub_state.specs.Journal.Noted.{Note, Published, Imported, Shared, Opened, Recorded, Noted}

-- the steps that the entry adds to the key's pool
abbrev pub added_to : ℕ → Note → List LogStep
added_to key (Published at translation) = []
added_to key (Imported at steps) = []
added_to key (Shared at steps) = if at == key then steps else []
added_to key (Opened at budget) = []
added_to key (Recorded step reply) = []

-- the pool of the key: the lists that were shared for it, one after the other
abbrev pub pool_of : ℕ → List Noted → List LogStep
pool_of key journal = flat_map (λ x. added_to key x.note) journal

-- the step with its reply, where the entry records one
abbrev pub recorded_in : Note → List Exchange
recorded_in (Published key translation) = []
recorded_in (Imported key steps) = []
recorded_in (Shared key steps) = []
recorded_in (Opened key budget) = []
recorded_in (Recorded step reply) = record { step = step; reply = reply } ∷ []

-- the recorded exchanges of the session of this number, in order
abbrev pub exchanges_of : ℕ → List Noted → List Exchange
exchanges_of by journal = flat_map (λ x. if x.by == by then recorded_in x.note else []) journal

-- the session of this number has this entry
abbrev pub HasNoted : List Noted → ℕ → Note → Type 0
HasNoted journal by note = Contains journal (record { by = by; note = note })

-- the translation was put there for the key
abbrev pub IsPublished : List Noted → ℕ → Translated → Type 0
IsPublished journal key t = (by : ℕ) × HasNoted journal by (Published key t)

-- the session's last import of the key names this number of steps
pub record ImportedLast (journal : List Noted) (by key steps : ℕ) : Type 0 where
  pub before : List Noted
  pub after : List Noted
  pub split : journal ≡ before ++ record { by = by; note = Imported key steps } ∷ after
  pub last : (n : ℕ) → ¬ HasNoted after by (Imported key n)

-- the key's translation, and the steps that the session imported last
pub record HasImported (journal : List Noted) (by key : ℕ) (t : Translated) (pool : List LogStep) : Type 0 where
  pub published : IsPublished journal key t
  pub steps : ℕ
  pub imported : ImportedLast journal by key steps
  pub prefix : pool ≡ take steps (pool_of key journal)

-- the steps of a pool are a log over the translation's clauses alone, and are within the limits
pub record IsPool (t : Translated) (pool : List LogStep) : Type 0 where
  pub accepted : IsAccepted t.cnf.clauses pool
  pub limits : IsWithinLimits pool

-- the key has a problem, for which the translation stands, and none was put there before
pub record Publishes (problems : List Bounded) (before : List Noted) (key : ℕ) (t : Translated) : Type 0 where
  pub problem : Bounded
  pub of_key : slice_get problems key ≡ Some problem
  pub stands : StandsFor problem t
  pub first : (other : Translated) → ¬ IsPublished before key other

-- the key's translation is there, and the whole pool is taken
pub record Imports (before : List Noted) (key steps : ℕ) : Type 0 where
  pub translation : Translated
  pub published : IsPublished before key translation
  pub whole : steps ≡ length (pool_of key before)

-- the key's translation is there, and the pool with the steps is one over it
pub record Shares (before : List Noted) (key : ℕ) (steps : List LogStep) : Type 0 where
  pub translation : Translated
  pub published : IsPublished before key translation
  pub pool : IsPool translation (pool_of key before ++ steps)

-- the key has a problem, and the session was not opened before
pub record Opens (problems : List Bounded) (before : List Noted) (by key : ℕ) : Type 0 where
  pub problem : Bounded
  pub of_key : slice_get problems key ≡ Some problem
  pub first : (other budget : ℕ) → ¬ HasNoted before by (Opened other budget)

-- the session was opened, on the problem of a key; what it recorded is a run, and leads to this state
pub record IsReplay (problems : List Bounded) (journal : List Noted) (by key : ℕ) (problem : Bounded) (s : State) : Type 0 where
  pub budget : ℕ
  pub opened : HasNoted journal by (Opened key budget)
  pub of_key : slice_get problems key ≡ Some problem
  pub run : MachineRun problem (Start budget) (exchanges_of by journal)
  pub state : s ≡ state_after (Start budget) (exchanges_of by journal)

-- the step may have the reply in the state that the session has reached; and what the reply rests on is right over the
-- key's translation and the steps that the session imported last
pub record Records (problems : List Bounded) (before : List Noted) (by : ℕ) (step : Step) (reply : Reply) : Type 0 where
  pub key : ℕ
  pub problem : Bounded
  pub old : State
  pub replay : IsReplay problems before by key problem old
  pub may : MayAnswer problem old step reply
  pub not_memory : reply ≢ Memory
  pub evidence : NeedsEvidence old reply → (t : Translated) × (pool : List LogStep) × HasImported before by key t pool × HasEvidence t pool old step reply

-- the entry may follow these
abbrev pub MayFollow : List Bounded → List Noted → ℕ → Note → Type 0
MayFollow problems before by (Published key t) = Publishes problems before key t
MayFollow problems before by (Imported key steps) = Imports before key steps
MayFollow problems before by (Shared key steps) = Shares before key steps
MayFollow problems before by (Opened key budget) = Opens problems before by key
MayFollow problems before by (Recorded step reply) = Records problems before by step reply

-- each entry may follow those before it
abbrev pub IsLegal : List Bounded → List Noted → Type 0
IsLegal problems journal = (before : List Noted) (x : Noted) (after : List Noted) → journal ≡ before ++ x ∷ after → MayFollow problems before x.by x.note
