use Rattle.std.proofs.Common.{◌≡◌, ℕ, sym, ◌∙◌, subst}
use Rattle.hub_lock.specs.Passes.{of_pass}
use Rattle.hub_state.specs.Journal.Noted.{Noted}
use Rattle.hub_state.specs.Journal.Journal.{Opens}
use Rattle.hub_state.specs.HubView.{HubView}
use Rattle.hub_tests.proofs.Turned.{may_open_in_turn}
use Rattle.hub_tests.proofs.of_hub_state.open_in_turn.Goals as goal

pub record-requires : goal.record-requires
record-requires g c =
    let hub : HubView = c.take-held.result.value in
    let mine = subst (λ (n : ℕ). of_pass (λ (x : Noted). x.by) n hub.journal ≡ c.args.pass.now.view.own) c.requires.first c.take-held.ensures.mine in
    subst (λ (h : HubView). Opens h.problems h.journal 0 0) (sym c.get_mut.ensures.value)
    (may_open_in_turn hub c.args.pass.now.view.own 0 mine c.requires.none (sym c.requires.base ∙ c.take-held.ensures.base))
