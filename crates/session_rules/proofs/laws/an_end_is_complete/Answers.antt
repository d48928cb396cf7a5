use Rattle.std.proofs.Common.{◌⊎◌, inl, inr, ℕ, List, [], ◌∷◌, Contains, slice_index_or, All, length, ◌<◌, arith}
use Rattle.std.proofs.lemmas.List.Elements.{All-nil}
use Rattle.rel_formula.specs.Bounds.{Bounded, cells_of}
use Rattle.rel_formula.specs.Instance.{IsScenario}
use Rattle.rel_formula.proofs.Lists.{pairs_nil}
use Rattle.swap_symmetry.specs.Due.{IsDue}
use Rattle.session_rules.specs.ProofOfEnd.{ProofOfEnd}
use Rattle.session_rules.specs.States.{State, top_floor, shown_here, HasEndedWith}
use Rattle.session_rules.specs.Steps.{EndsNow}
use Rattle.session_rules.specs.Sound.{IsFloor, IsSound}
use Rattle.session_rules.proofs.Runs.{with_ended}
use Rattle.session_rules.proofs.laws.an_end_is_complete.Goals as goal

-- at an end all that is due at the top floor was shown
all_due : (p : Bounded) (s : State) (proof : ProofOfEnd) → IsSound p s → HasEndedWith s proof ⊎ EndsNow p s → (x : List ℕ) → IsDue p (top_floor s) x → Contains (shown_here s) x
all_due p s proof sound (inl was) = sound.complete (top_floor s) (with_ended (top_floor s) s proof was)
all_due p s proof sound (inr now) = now.all_shown

-- the first of some floors, or the bottom, is a scenario
top_in : (p : Bounded) (above : List (List ℕ)) → All (IsFloor p) above → IsScenario p (slice_index_or above 0 [])
top_in p [] all = record { cells = All-nil (λ n. n < length (cells_of p)); rising = pairs_nil (λ m n. m < n) }
top_in p (floor ∷ above) all = (all 0 [] (omega arith)).scenario

pub returns : goal.returns
returns c p well symmetric s reached number proof end x minimal =
    let sound = c.a_run_is_sound.ensures p s reached in
    let found = c.each_minimal_has_a_due_renaming_beside.ensures p well symmetric (top_floor s) (top_in p s.above sound.floors) x minimal in
    (found.0, all_due p s proof sound end.1 found.0 found.2, found.1)
