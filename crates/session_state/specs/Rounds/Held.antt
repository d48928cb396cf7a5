-- A search that is held from round to round.
use Rattle.std.specs.Prelude.{◌≡◌, ◌≤◌, ℕ, List, length}
use Rattle.refutation_check.specs.declared.log.Step.{Step as LogStep}
use Rattle.sat_trail.specs.Trailed.{IsBase}
use Rattle.minimiser.specs.Lowering.{IsOver}
use Rattle.translation_rules.specs.Translation.{Translated}
use Rattle.translation_rules.specs.Locals.{locals_of}
use Rattle.session_state.specs.declared.search_rounds.held.HeldSearch.{HeldSearch}
use Rattle.session_state.specs.Rounds.Going.{IsGoing}

-- the search is one at the floor with these scenarios blocked, over the translation and the pool, and keeps no more steps than a budget has
pub record IsHeldAt (t : Translated) (pool : List LogStep) (floor : List ℕ) (blocked : List (List ℕ)) (h : HeldSearch) : Type 0 where
  pub base : IsBase t.cnf h.base
  pub descents : IsOver t.cnf h.descents
  pub local : h.local ≡ locals_of t floor blocked
  pub going : IsGoing t pool floor blocked h.search
  pub few : length h.search.steps ≤ 100000000
