use Rattle.std.proofs.Common.{◌≢◌, ◌∙◌, ℕ, List, AllPairs, sym, ap, subst}
use Rattle.std.proofs.lemmas.Result.{IfOk-weaker}
use Rattle.session_rules.specs.States.{State, shown_here, top_floor}
use Rattle.session_state.specs.Store.Stored.{Stored}
use Rattle.session_state.specs.Sessions.Fits.{InSession}
use Rattle.session_state.specs.Sessions.Listed.{AreInOrder}
use Rattle.session_state.proofs.session_search.session.Session.listed.Goals as goal

pub in_order-requires : goal.in_order-requires
in_order-requires c =
    let (p, fits) = c.requires in
    let s : State = c.args.self.now.kept.state in
    let kept_is = ap (λ (x : InSession). x.kept) c.self.view_is in
    let here = c.as_slice.ensures.value ∙ c.in_ok-shown.ensures ∙ ap (λ (k : Stored). shown_here k.state) kept_is in
    let sound = c.a_run_is_sound.ensures p s fits.reached in
    subst (AllPairs (λ (x y : List ℕ). x ≢ y)) (sym here) (sound.once (top_floor s))

pub returns : goal.returns
returns c =
    let kept_is = ap (λ (x : InSession). x.kept) c.self.view_is in
    let here = c.as_slice.ensures.value ∙ c.in_ok-shown.ensures ∙ ap (λ (k : Stored). shown_here k.state) kept_is in
    IfOk-weaker c.in_order.result _ _ (λ xs is. let told = subst (λ (all : List (List ℕ)). AreInOrder all xs.items) here is in record { same = told.same; sorted = told.sorted }) c.in_order.ensures
