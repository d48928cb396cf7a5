-- What becomes of hints where members get other numbers, and which steps need none but some of the members.
use Rattle.std.specs.Prelude.{◌+◌, ◌-◌, ◌++◌, ◌∷◌, [], ℕ, zero, suc, Bool, true, false, List, All, map, replicate, slice_index_or, if◌then◌else◌}
use Rattle.std.specs.List.{list_all}
use Rattle.cnf_core.specs.declared.literal.Lit.{Lit}
use Rattle.refutation_check.specs.declared.log.Step.{Step}
use Rattle.refutation_check.specs.Chain.{Names}

-- the clause that one of these hints names has its new number among the others
abbrev pub Renumbers : (ℕ → ℕ) → List ℕ → List (List Lit) → List (List Lit) → Type 0
Renumbers renumber hints members others = All (λ hint. (clause : List Lit) → Names members hint clause → Names others (renumber hint) clause) hints

-- the members that are kept, one mark for each
abbrev pub kept_of : List Bool → List (List Lit) → List (List Lit)
kept_of [] members = []
kept_of (k ∷ kept) [] = []
kept_of (k ∷ kept) (m ∷ members) = if k then m ∷ kept_of kept members else kept_of kept members

-- how many of the first members are kept: the new number of the last of them
abbrev pub kept_number : ℕ → List Bool → ℕ
kept_number zero kept = 0
kept_number (suc number) [] = 0
kept_number (suc number) (k ∷ kept) = (if k then 1 else 0) + kept_number number kept

-- whether each hint names a member that is kept
abbrev pub is_free : List Bool → List ℕ → Bool
is_free kept hints = list_all (λ hint. slice_index_or kept (hint - 1) false) hints

-- the steps whose hints, followed down, name none but the members that are kept, with hints that number these alone
abbrev pub free_steps : List Bool → List Step → List Step
free_steps kept [] = []
free_steps kept (s ∷ steps) =
    if is_free kept s.hints then record { clause = s.clause; hints = map (λ hint. kept_number hint kept) s.hints } ∷ free_steps (kept ++ true ∷ []) steps else free_steps (kept ++ false ∷ []) steps

-- of the members of a search, all but its local clauses
abbrev pub not_local : ℕ → ℕ → ℕ → List Bool
not_local clauses local pool = (replicate clauses true ++ replicate local false) ++ replicate pool true
