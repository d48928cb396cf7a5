use Rattle.std.proofs.Common.{◌≡◌, ◌∙◌, ℕ, List, [], sym, subst}
use Rattle.std.proofs.lemmas.Result.{IfOk-weaker}
use Rattle.refutation_check.specs.Part.{Parted}
use Rattle.translation_rules.specs.Parts.{GoesOn}
use Rattle.session_words.specs.declared.steps.Step.TheVariants.{Augment}
use Rattle.session_rules.specs.declared.answers.Refusal.TheVariants.{NoInstance, Spent}
use Rattle.session_rules.specs.declared.answers.Reply.TheVariants.{Augmented, Refused}
use Rattle.augmenter.specs.Search.{part_in, IsSearchFor, IsRightFor, IsStoppedFor}
use Rattle.augmenter.specs.declared.search.Sought.{Sought}
use Rattle.session_state.specs.Sessions.Proposed.{IsProposal}
use Rattle.session_state.proofs.Sessions.FloorProposals.{goes_up, goes_nowhere, spent_on_floor}
use Rattle.session_state.proofs.session_search.augmenting.go_up.Goals as goal

pub returns-in_ok-parts-in-Possible-clause-proposal : goal.returns-in_ok-parts-in-Possible-clause-proposal
returns-in_ok-parts-in-Possible-clause-proposal c = λ s name names asked room most.
    let t = c.args.translation.now in
    let pool = c.args.pool.now in
    let floor : List ℕ = c.args.floor in
    let budget = c.args.budget in
    let part : Parted = c.in-Possible.part in
    let search : IsSearchFor t pool floor budget part = subst (λ (told : Sought). IsSearchFor t pool floor budget (part_in told)) c.in-Possible.is c.in_ok-sought.ensures.part in
    let right = subst (IsRightFor t pool floor budget) c.in-Possible.is c.in_ok-sought.ensures.answer in
    subst (IsProposal t pool s (Augment name names)) (sym c.searched.ensures)
    (subst (λ (ps : List Parted). IsProposal t pool s (Augment name names) (record { reply = Augmented floor; parts = ps; copies = [] })) (sym c.in_ok-parts-in-Possible.ensures)
    (goes_up t pool s name names floor budget part asked most search c.in-Possible._valuation room right.0))

pub returns-in_ok-parts-in-Impossible-clause-proposal : goal.returns-in_ok-parts-in-Impossible-clause-proposal
returns-in_ok-parts-in-Impossible-clause-proposal c = λ s name names asked room most.
    let t = c.args.translation.now in
    let pool = c.args.pool.now in
    let floor : List ℕ = c.args.floor in
    let budget = c.args.budget in
    let part : Parted = c.in-Impossible.part in
    let proof = c.in_ok-proof-in-Impossible.proof in
    let search : IsSearchFor t pool floor budget part = subst (λ (told : Sought). IsSearchFor t pool floor budget (part_in told)) c.in-Impossible.is c.in_ok-sought.ensures.part in
    let right = subst (IsRightFor t pool floor budget) c.in-Impossible.is c.in_ok-sought.ensures.answer in
    let refutes = c.a_refuting_part_makes_a_proof.ensures t pool part [] c.requires.import.accepted search.searched right.1 in
    subst (IsProposal t pool s (Augment name names)) (sym c.searched-in-Impossible.ensures)
    (subst (λ (ps : List Parted). IsProposal t pool s (Augment name names) (record { reply = Refused (NoInstance proof); parts = ps; copies = [] })) (sym c.in_ok-parts-in-Impossible.ensures)
    (goes_nowhere t pool s name names floor budget part asked most search proof room right.0 refutes c.in_ok-proof-in-Impossible.ensures))

pub returns-in_ok-parts-in-Spent-clause-proposal : goal.returns-in_ok-parts-in-Spent-clause-proposal
returns-in_ok-parts-in-Spent-clause-proposal c =
    let t = c.args.translation.now in
    let pool = c.args.pool.now in
    let floor : List ℕ = c.args.floor in
    let budget = c.args.budget in
    let part : Parted = c.in-Spent.part in
    let search : IsSearchFor t pool floor budget part = subst (λ (told : Sought). IsSearchFor t pool floor budget (part_in told)) c.in-Spent.is c.in_ok-sought.ensures.part in
    let right = subst (IsRightFor t pool floor budget) c.in-Spent.is c.in_ok-sought.ensures.answer in
    let on : GoesOn t pool part = subst (IsStoppedFor t pool) c.in-Spent.is c.in_ok-sought.ensures.stopped in
    let none : c.of-none.result ≡ [] = c.of-none.ensures ∙ c.new.ensures.items in
    let parts : List Parted = c.in_ok-parts-in-Spent.parts in
    IfOk-weaker c.spent.result _ _ (λ p e s name names asked room most.
    subst (IsProposal t pool s (Augment name names)) (sym e)
    (subst (λ (cs : List (List ℕ)). IsProposal t pool s (Augment name names) (record { reply = Refused (Spent (record { budget = budget; parts = parts; copies = cs })); parts = parts; copies = cs })) (sym none)
    (subst (λ (ps : List Parted). IsProposal t pool s (Augment name names) (record { reply = Refused (Spent (record { budget = budget; parts = ps; copies = [] })); parts = ps; copies = [] })) (sym c.in_ok-parts-in-Spent.ensures)
    (spent_on_floor t pool s name names floor budget part asked most search room right.0 right.1 on)))) c.spent.ensures
