use Rattle.std.proofs.Common.{◌≡◌, ◌≢◌, true, false, ℕ, List, refl, sym, ◌∙◌, arith}
use Rattle.std.proofs.lemmas.List.{get_or_default}
use Rattle.std.proofs.lemmas.List.Elements.{All-contains}
use Rattle.tuple_core.proofs.Steps.{all_step, all_done}
use Rattle.session_state.proofs.search_rounds.due.is_among.Goals as goal

pub returns-then-is_same : goal.returns-then-is_same
returns-then-is_same c =
    let xs = c.args.scenarios.now in
    let i = c.loop-other.other-index in
    let same = get_or_default xs i c.args.scenario.now c.other-item.result c.loop-other-test.true in
    (λ e. (i, c.loop-other-test.true, same ∙ sym c.other-item.is ∙ c.is_same.ensures.0 c.if-is_same.true), λ h. refl)

pub loop-other-preserved : goal.loop-other-preserved
loop-other-preserved c =
    let xs = c.args.scenarios.now in
    let other : List ℕ = c.other-item.result in
    all_step (λ (s : List ℕ). s ≢ c.args.scenario.now) xs c.loop-other.other-index other c.loop-other-test.true c.other-item.is c.loop-other.invariant
    (λ e. absurd (let t = c.is_same.ensures.1 e in let f = c.if-is_same.false in cc))

pub returns : goal.returns
returns c =
    let P : List ℕ → Type 0 = λ s. s ≢ c.args.scenario.now in
    let all = all_done P c.args.scenarios.now c.loop-other.other-index (omega arith) c.loop-other.invariant in (
      λ e. absurd (let h : false ≡ true = e in cc),
      λ h. absurd (All-contains P c.args.scenarios.now c.args.scenario.now all h refl),
    )
