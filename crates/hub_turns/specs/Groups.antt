-- What a command adds to the journal, and what a session has to share before it records a proof.
use Rattle.std.specs.Prelude.{◌≡◌, ◌⊎◌, ℕ, Bool, true, false, List, [], ◌∷◌, ◌++◌, map, length, take, All, IsTrue}
use Rattle.cnf_core.specs.declared.literal.Lit.{Lit}
use Rattle.refutation_check.specs.declared.log.Step.{Step as LogStep}
use Rattle.refutation_check.specs.Renumbering.{free_steps, not_local}
use Rattle.clause_pool.specs.Limits.{IsLongestFit, moved_behind}
use Rattle.hub_lock.specs.Passes.{of_pass}
use Rattle.translation_rules.specs.Translation.{Translated}
use Rattle.translation_rules.specs.Locals.{units_of}
use Rattle.session_words.specs.declared.steps.Step.{Step}
use Rattle.session_words.specs.declared.steps.Step.TheVariants.{Next, Augment, Back, Budget, Proof}
use Rattle.session_rules.specs.ProofOfEnd.{ProofOfEnd}
use Rattle.session_rules.specs.States.{State, top_floor, has_ended}
use Rattle.session_rules.specs.Steps.{Exchange, AsksFor}
use Rattle.session_rules.specs.Proofs.{locals_for}
use Rattle.session_rules.specs.Transcripts.{is_memory}
use Rattle.session_rules.specs.declared.end_proof.ProofKind.TheVariants.{End as OfEnd}
use Rattle.session_rules.specs.declared.answers.Refusal.TheVariants.{NoInstance}
use Rattle.session_rules.specs.declared.answers.Reply.{Reply}
use Rattle.session_rules.specs.declared.answers.Reply.TheVariants.{End, Refused}
use Rattle.hub_state.specs.Journal.Noted.{Note, Imported, Shared, Recorded, Noted}
use Rattle.hub_state.specs.Journal.Journal.{HasNoted, pool_of}

-- what happened under a number, in order
abbrev pub notes_of : ℕ → List Noted → List Note
notes_of by journal = map (λ x. x.note) (of_pass (λ x. x.by) by journal)

-- steps were shared for the key, any number of times
abbrev pub AreShared : ℕ → List Note → Type 0
AreShared key notes = All (λ note. (steps : List LogStep) × (note ≡ Shared key steps)) notes

-- the key's pool was imported, and then steps were shared for it
pub record IsSearch (key : ℕ) (notes : List Note) : Type 0 where
  pub imported : ℕ
  pub shared : List Note
  pub notes_are : notes ≡ Imported key imported ∷ shared
  pub are_shared : AreShared key shared

-- what comes before the record: a search, where a search answers the step, and else nothing
abbrev pub IsBeforeRecord : Step → ℕ → List Note → Type 0
IsBeforeRecord Back key notes = notes ≡ []
IsBeforeRecord (Budget budget) key notes = notes ≡ []
IsBeforeRecord Proof key notes = notes ≡ []
IsBeforeRecord step key notes = IsSearch key notes

-- what one exchange adds: what comes before the record, and the record; without the record where memory was wanting, or
-- nothing at all
abbrev pub IsGroupOf : Bool → ℕ → Exchange → List Note → Type 0
IsGroupOf true key x notes = (notes ≡ []) ⊎ IsBeforeRecord x.step key notes
IsGroupOf false key x notes = (before : List Note) × IsBeforeRecord x.step key before × (notes ≡ before ++ Recorded x.step x.reply ∷ [])

abbrev pub IsGroup : ℕ → Exchange → List Note → Type 0
IsGroup key x notes = IsGroupOf (is_memory x.reply) key x notes

-- one group for each exchange, one after the other
abbrev pub AreGroups : ℕ → List Exchange → List Note → Type 0
AreGroups key [] notes = notes ≡ []
AreGroups key (x ∷ xs) notes = (here : List Note) × (later : List Note) × (notes ≡ here ++ later) × IsGroup key x here × AreGroups key xs later

-- the reply makes this proof, by a search with these local clauses
abbrev pub MakesProof : Translated → State → Step → Reply → ProofOfEnd → List (List Lit) → Type 0
MakesProof t s Next (End number made) proof local = (proof ≡ made) × (¬ IsTrue (has_ended (top_floor s) s)) × (local ≡ locals_for t (top_floor s) OfEnd made.blocked)
MakesProof t s (Augment name names) (Refused (NoInstance made)) proof local =
    (proof ≡ made) × ((floor : List ℕ) × AsksFor t.problem s name names floor × (local ≡ units_of floor))
MakesProof t s step reply proof local = ⊥

-- the steps of a search's log that rest on none of its local clauses
abbrev pub free_in : Translated → List (List Lit) → List LogStep → List LogStep → List LogStep
free_in t local pool log = free_steps (not_local (length t.cnf.clauses) (length local) (length pool)) log

-- since its last import of so many steps the session shared as many of these steps, the first ones, as fitted the key's pool,
-- with hints that make room for what others had shared meanwhile
pub record SharesFront (t : Translated) (by key imported : ℕ) (steps : List LogStep) (journal : List Noted) : Type 0 where
  pub before : List Noted
  pub after : List Noted
  pub shared : List LogStep
  pub split : journal ≡ before ++ record { by = by; note = Shared key shared } ∷ after
  pub front : shared ≡ take (length shared) (moved_behind (length t.cnf.clauses) imported (pool_of key before) steps)
  pub longest : IsLongestFit (pool_of key before) (moved_behind (length t.cnf.clauses) imported (pool_of key before) steps) (length shared)
  pub same_search : (n : ℕ) → ¬ HasNoted after by (Imported key n)

-- the search with these local clauses, over this imported pool, has no free step, or its free steps were shared
abbrev pub SharesItsSteps : List Noted → ℕ → ℕ → Translated → List (List Lit) → List LogStep → List LogStep → Type 0
SharesItsSteps journal by key t local pool log = (free_in t local pool log ≡ []) ⊎ SharesFront t by key (length pool) (free_in t local pool log) journal

-- behind these entries the session may record the reply to the step, once it has shared the free steps of the proof that it makes
abbrev pub SharesItsProof : List Noted → ℕ → ℕ → Translated → State → Step → Reply → Type 0
SharesItsProof journal by key t s step reply =
    (proof : ProofOfEnd) (local : List (List Lit)) → MakesProof t s step reply proof local → SharesItsSteps journal by key t local proof.pool proof.log
