-- A session that is served over the hub.
use Rattle.std.specs.Prelude.{◌≡◌, ℕ, List}
use mathlib.Core.List.{IsPrefix}
use Rattle.atomic_table.specs.Seated.{TableId}
use Rattle.hub_lock.specs.Passes.{PassView}
use Rattle.refutation_check.specs.declared.log.Step.{Step as LogStep}
use Rattle.rel_formula.specs.Bounds.{Bounded}
use Rattle.translation_rules.specs.Translation.{Translated}
use Rattle.session_state.specs.Sessions.Fits.{InSession}
use Rattle.session_turns.specs.Serving.{IsOn}
use Rattle.hub_state.specs.Journal.Noted.{Noted}
use Rattle.hub_state.specs.Journal.Journal.{IsPublished, IsReplay, pool_of}
use Rattle.hub_turns.specs.Interleaved.{SharesItsProofs}
use Rattle.hub_turns.specs.Turned.{IsIdle}

-- the session has the number of the pass, which is out of turn, and is one on the key's translation, which the pass has seen;
-- its state is what its own entries lead to, and before each of its records it shared the free steps of the proof
pub record IsSeated (lock : TableId) (t : Translated) (shown : ℕ) (p : PassView Noted (List Bounded)) (x : InSession) : Type 0 where
  pub idle : IsIdle lock p
  pub owner : x.owner ≡ p.view.number
  pub published : IsPublished p.view.seen x.key t
  pub on : IsOn t shown x.kept
  pub replay : IsReplay idle.problems p.view.own p.view.number x.key t.problem x.kept.state
  pub shares : SharesItsProofs idle.problems p.view.seen p.view.number x.key t

-- these steps begin the pool of the session's key, by what the pass has seen: the session has so much of it
abbrev pub BeginsPool : List LogStep → PassView Noted (List Bounded) → InSession → Type 0
BeginsPool pool p x = IsPrefix pool (pool_of x.key p.view.seen)
