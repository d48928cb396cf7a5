use Rattle.std.proofs.Common.{◌≡◌, ◌∙◌, ℕ, List, [], sym, subst}
use Rattle.std.proofs.lemmas.Result.{IfOk-weaker}
use Rattle.refutation_check.specs.Part.{Parted}
use Rattle.translation_rules.specs.Parts.{LastGoesOn, novel_in}
use Rattle.session_words.specs.declared.steps.Step.TheVariants.{Offers}
use Rattle.session_rules.specs.declared.answers.Refusal.TheVariants.{Spent}
use Rattle.session_rules.specs.declared.answers.Reply.TheVariants.{Offers as OffersAre, Refused}
use Rattle.augmenter.specs.Offering.{parts_of, AreTrials, IsRight, IsStopped}
use Rattle.augmenter.specs.declared.answer.Offers.{Offers as Told}
use Rattle.session_state.specs.Sessions.Proposed.{IsProposal}
use Rattle.session_state.proofs.Sessions.OfferProposals.{offered, spent_on_offers}
use Rattle.session_state.proofs.session_search.offering.offers_of.Goals as goal

pub returns-in-Exactly-clause-proposal : goal.returns-in-Exactly-clause-proposal
returns-in-Exactly-clause-proposal c = λ s is most.
    let t = c.args.translation.now in
    let pool = c.args.pool.now in
    let current = c.args.current.now in
    let budget = c.args.budget in
    let cells : List ℕ = c.in-Exactly.cells.items in
    let trials : AreTrials t pool current budget c.in-Exactly.parts.items = subst (λ (told : Told). AreTrials t pool current budget (parts_of told)) c.in-Exactly.is c.in_ok-told.ensures.parts in
    let right = subst (IsRight t pool current budget) c.in-Exactly.is c.in_ok-told.ensures.answer in
    subst (IsProposal t pool s Offers) (sym c.searched.ensures)
    (subst (λ (cs : List ℕ). IsProposal t pool s Offers (record { reply = OffersAre cs; parts = c.of-parts.result; copies = [] })) (sym c.of-cells.ensures)
    (subst (λ (ps : List Parted). IsProposal t pool s Offers (record { reply = OffersAre cells; parts = ps; copies = [] })) (sym c.of-parts.ensures)
    (offered t pool s current budget c.in-Exactly.parts.items is most trials cells right.0)))

pub returns-in-Spent-clause-proposal : goal.returns-in-Spent-clause-proposal
returns-in-Spent-clause-proposal c =
    let t = c.args.translation.now in
    let pool = c.args.pool.now in
    let current = c.args.current.now in
    let budget = c.args.budget in
    let parts : List Parted = c.in-Spent.parts.items in
    let trials : AreTrials t pool current budget parts = subst (λ (told : Told). AreTrials t pool current budget (parts_of told)) c.in-Spent.is c.in_ok-told.ensures.parts in
    let right : novel_in t pool parts ≡ budget = subst (IsRight t pool current budget) c.in-Spent.is c.in_ok-told.ensures.answer in
    let on : LastGoesOn t pool parts = subst (IsStopped t pool) c.in-Spent.is c.in_ok-told.ensures.stopped in
    let none : c.of-none.result ≡ [] = c.of-none.ensures ∙ c.new.ensures.items in
    IfOk-weaker c.spent.result _ _ (λ p e s is most.
    subst (IsProposal t pool s Offers) (sym e)
    (subst (λ (cs : List (List ℕ)). IsProposal t pool s Offers (record { reply = Refused (Spent (record { budget = budget; parts = c.of-parts-in-Spent.result; copies = cs })); parts = c.of-parts-in-Spent.result; copies = cs })) (sym none)
    (subst (λ (ps : List Parted). IsProposal t pool s Offers (record { reply = Refused (Spent (record { budget = budget; parts = ps; copies = [] })); parts = ps; copies = [] })) (sym c.of-parts-in-Spent.ensures)
    (spent_on_offers t pool s current budget parts is most trials right on)))) c.spent.ensures
