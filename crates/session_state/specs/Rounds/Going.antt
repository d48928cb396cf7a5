-- A round of a search that is gone on with.
use Rattle.std.specs.Prelude.{◌≡◌, ◌⊎◌, ◌≤◌, ◌+◌, ◌++◌, ◌∷◌, [], ℕ, List, length}
use Rattle.cnf_core.specs.declared.literal.Lit.{Lit}
use Rattle.refutation_check.specs.declared.log.Step.{Step as LogStep}
use Rattle.refutation_check.specs.Chain.{IsChain, members_of}
use Rattle.refutation_check.specs.Part.{Parted}
use Rattle.rel_formula.specs.Instance.{Includes}
use Rattle.translation_rules.specs.Translation.{Translated}
use Rattle.translation_rules.specs.Locals.{IsLeft, locals_of}
use Rattle.translation_rules.specs.Parts.{novel_in}
use Rattle.minimiser.specs.Down.{IsDescent}
use Rattle.session_rules.specs.Proofs.{IsCopy}
use Rattle.sat_core.specs.Kept.{Kept, IsKept, told}
use Rattle.session_state.specs.declared.search_rounds.round.RoundEnd.{RoundEnd}
use Rattle.session_state.specs.declared.search_rounds.round.RoundEnd.TheVariants.{Due, Copy, Refuted, Spent}
use Rattle.session_state.specs.declared.search_rounds.next.Found.{Found}
use Rattle.session_state.specs.declared.search_rounds.next.Found.TheVariants.{Shown, Ended, Spent as SpentAll}

-- the search is one at the floor with these scenarios blocked, over the translation and the pool
abbrev pub IsGoing : Translated → List LogStep → List ℕ → List (List ℕ) → Kept → Type 0
IsGoing t pool floor blocked k = IsKept t.cnf (locals_of t floor blocked) pool k

-- behind what is due the search stays as it is, and behind a copy it goes on with the copy blocked too, and keeps no more steps than are left
abbrev pub GoesOnWith : Translated → List LogStep → List ℕ → List (List ℕ) → Kept → RoundEnd → Type 0
GoesOnWith t pool floor blocked k (Due scenario parts) = IsGoing t pool floor blocked k
GoesOnWith t pool floor blocked k (Copy scenario parts left) = IsGoing t pool floor (blocked ++ scenario ∷ []) k × (length k.steps ≤ left)
GoesOnWith t pool floor blocked k (Refuted part) = Unit {0}
GoesOnWith t pool floor blocked k (Spent parts) = Unit {0}

-- the local clauses are those at the floor with these scenarios blocked, and behind a copy with the copy blocked too
abbrev pub HasLocals : Translated → List ℕ → List (List ℕ) → List (List Lit) → RoundEnd → Type 0
HasLocals t floor blocked local (Due scenario parts) = local ≡ locals_of t floor blocked
HasLocals t floor blocked local (Copy scenario parts left) = local ≡ locals_of t floor (blocked ++ scenario ∷ [])
HasLocals t floor blocked local (Refuted part) = Unit {0}
HasLocals t floor blocked local (Spent parts) = Unit {0}

-- where a scenario is shown, the search is one at the floor with these scenarios blocked
abbrev pub StaysAt : Translated → List LogStep → List ℕ → List (List ℕ) → Kept → Found → Type 0
StaysAt t pool floor blocked k (Shown scenario) = IsGoing t pool floor blocked k
StaysAt t pool floor blocked k (Ended proof) = Unit {0}
StaysAt t pool floor blocked k SpentAll = Unit {0}

-- where a scenario is shown, these are the local clauses at the floor with these scenarios blocked
abbrev pub IsBlockedAt : Translated → List ℕ → List (List ℕ) → List (List Lit) → Found → Type 0
IsBlockedAt t floor blocked local (Shown scenario) = local ≡ locals_of t floor blocked
IsBlockedAt t floor blocked local (Ended proof) = Unit {0}
IsBlockedAt t floor blocked local SpentAll = Unit {0}

-- how many steps are kept for the rounds to come
abbrev pub kept_in : Kept → RoundEnd → ℕ
kept_in k (Due scenario parts) = 0
kept_in k (Copy scenario parts left) = length k.steps
kept_in k (Refuted part) = 0
kept_in k (Spent parts) = 0

-- the part of a search at the floor with these scenarios blocked that tells no step
abbrev pub silent : Translated → List ℕ → List (List ℕ) → Parted
silent t floor blocked = record { local = locals_of t floor blocked; log = [] }

-- the part that tells what is kept
abbrev pub telling : Translated → List ℕ → List (List ℕ) → Kept → Parted
telling t floor blocked k = record { local = locals_of t floor blocked; log = told k }

-- the first part of a round tells nothing of what is kept, and its descent came to this copy: what is left with it, and what is kept, are left
pub record IsUntold (t : Translated) (pool : List LogStep) (floor : List ℕ) (shown blocked : List (List ℕ)) (budget : ℕ) (k : Kept) (copy : List ℕ) (all : List Parted) (over : ℕ) : Type 0 where
  pub start : List ℕ
  pub found : IsLeft t.problem floor blocked start
  pub no_chain : (hints : List ℕ) → ¬ IsChain (members_of (t.cnf.clauses ++ locals_of t floor blocked) pool) [] hints
  pub left : ℕ
  pub room : length k.steps + left ≡ budget
  pub parts : List Parted
  pub in_order : all ≡ silent t floor blocked ∷ parts
  pub descent : IsDescent t pool floor start left parts
  pub is_copy : IsCopy t.problem floor shown copy
  pub within : Includes start copy
  pub rest : ℕ
  pub units : novel_in t pool parts + 1 + rest ≡ left
  pub over_is : over ≡ rest + length k.steps

-- and so it is where a round ends with a copy
abbrev pub TellsNoCopy : Translated → List LogStep → List ℕ → List (List ℕ) → List (List ℕ) → ℕ → Kept → RoundEnd → Type 0
TellsNoCopy t pool floor shown blocked budget k (Due scenario parts) = Unit {0}
TellsNoCopy t pool floor shown blocked budget k (Copy scenario parts left) = IsUntold t pool floor shown blocked budget k scenario parts.items left
TellsNoCopy t pool floor shown blocked budget k (Refuted part) = Unit {0}
TellsNoCopy t pool floor shown blocked budget k (Spent parts) = Unit {0}

-- the copy is blocked from now on, and what was kept is kept on, and stays left; or the first part tells it, and nothing is kept
abbrev pub IsCopied : Translated → List LogStep → List ℕ → List (List ℕ) → Kept → Kept → List (List Lit) → List ℕ → List Parted → ℕ → RoundEnd → Type 0
IsCopied t pool floor blocked old new local copy rest left (Due scenario parts) = ⊥
IsCopied t pool floor blocked old new local copy rest left (Copy scenario parts over) =
    (scenario ≡ copy) × IsGoing t pool floor (blocked ++ copy ∷ []) new × (local ≡ locals_of t floor (blocked ++ copy ∷ []))
    × (((parts.items ≡ silent t floor blocked ∷ rest) × (new.steps ≡ old.steps) × (over ≡ left)) ⊎ ((parts.items ≡ telling t floor blocked old ∷ rest) × (new.steps ≡ []) × (over + length old.steps ≡ left)))
IsCopied t pool floor blocked old new local copy rest left (Refuted part) = ⊥
IsCopied t pool floor blocked old new local copy rest left (Spent parts) = ⊥
