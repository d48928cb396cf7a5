use Rattle.std.proofs.Common.{◌≢◌, ℕ, List, [], AllPairs, sym, ◌∙◌, subst}
use Rattle.session_state.specs.Sessions.Listed.{AreInOrder}
use Rattle.crew_run.specs.Crew.{found, ListsAll}
use Rattle.crew_run.proofs.Endings.{once, lists_all}
use Rattle.crew_run.proofs.answer.listed.Goals as goal

pub in_order-requires : goal.in_order-requires
in_order-requires c =
    let (budget, most, legal) = c.requires.legal in
    subst (λ (fs : List (List ℕ)). AllPairs (λ (x y : List ℕ). x ≢ y) fs) (sym (c.as_slice.ensures.value ∙ c.in_ok-go_on.ensures.found_is)) (once c.args.translation.now budget most c.args.entries.now legal)

pub returns : goal.returns
returns c = λ workers bound limit.
    let (budget, most, legal) = c.requires.legal in
    let t = c.args.translation.now in
    let order : AreInOrder (found c.args.entries.now) c.in_ok-scenarios.scenarios.items = subst (λ (fs : List (List ℕ)). AreInOrder fs c.in_ok-scenarios.scenarios.items) (c.as_slice.ensures.value ∙ c.in_ok-go_on.ensures.found_is) c.in_ok-scenarios.ensures in
    subst (ListsAll t c.in_ok-scenarios.scenarios.items) (sym c.in_ok-proof.ensures)
    (lists_all t budget most c.args.entries.now legal c.args.proof.now c.requires.end
    (λ u stands shown due proof proves covered x is. c.a_proof_of_an_end_is_right.ensures u.problem u stands [] shown due proof proves covered x is)
    c.problem.ensures.well.stands c.in_ok-scenarios.scenarios.items order)
