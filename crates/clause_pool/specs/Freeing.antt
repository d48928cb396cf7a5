-- One step of a search's log, and what becomes of a hint, where some members are kept.
use Rattle.std.specs.Prelude.{◌-◌, ◌∷◌, [], ℕ, Bool, false, List, map, slice_index_or, if◌then◌else◌}
use Rattle.refutation_check.specs.declared.log.Step.{Step}
use Rattle.refutation_check.specs.Renumbering.{kept_number, is_free}

-- the new number of a member, or 0 where it isn't kept
abbrev pub new_number : List Bool → ℕ → ℕ
new_number kept hint = if slice_index_or kept (hint - 1) false then kept_number hint kept else 0

-- the step with new hints, or none where it names a member that isn't kept
abbrev pub free_step : List Bool → Step → List Step
free_step kept s = if is_free kept s.hints then record { clause = s.clause; hints = map (λ hint. kept_number hint kept) s.hints } ∷ [] else []
