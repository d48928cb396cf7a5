use Rattle.std.proofs.Common.{◌≡◌, true, false, ℕ, List, refl, arith}
use Rattle.rel_formula.specs.Instance.{Includes}
use Rattle.tuple_core.proofs.Steps.{all_at, all_step, all_done}
use Rattle.samples.proofs.exhaustive_search.minimal.is_minimal_among.Goals.{else-includes-via-then-includes+else-not-includes, else-includes-via-else-includes}
use Rattle.samples.proofs.exhaustive_search.minimal.is_minimal_among.Goals as goal

-- the scenario is the whole of t, or t is no part of it
abbrev IsNoPart : List ℕ → List ℕ → Type 0
IsNoPart s t = Includes s t → Includes t s

pub returns-then-not-includes : goal.returns-then-not-includes
returns-then-not-includes c = (
  λ e. absurd (let h : false ≡ true = e in cc),
  λ all.
      let whole = all_at (IsNoPart c.args.scenario.now) c.args.scenarios.now c.loop-other.other-index c.other-item.result all c.loop-other-test.true c.other-item.is in
      absurd (let h = c.includes-then-includes.ensures.1 (whole (c.includes.ensures.0 c.if-includes.true)) in let g = c.if-not-includes.true in cc),
)

pub loop-other-preserved : goal.loop-other-preserved
loop-other-preserved c =
    all_step (IsNoPart c.args.scenario.now) c.args.scenarios.now c.loop-other.other-index c.other-item.result c.loop-other-test.true c.other-item.is c.loop-other.invariant
    (elim c.else-includes.branch [
      | else-includes-via-then-includes+else-not-includes w ↦ λ part. w.includes-then-includes.ensures.0 w.if-not-includes.false
      | else-includes-via-else-includes w ↦ λ part. absurd (let h = c.includes.ensures.1 part in let g = w.if-includes.false in cc)
    ])

pub returns : goal.returns
returns c =
    (λ e. all_done (IsNoPart c.args.scenario.now) c.args.scenarios.now c.loop-other.other-index (omega arith) c.loop-other.invariant, λ h. refl)
