use Rattle.std.proofs.Common.{◌≡◌, [], ℕ, List, All, subst}
use Rattle.std.proofs.lemmas.List.Elements.{All-weaker}
use Rattle.session_rules.specs.Proofs.{IsCopy}
use Rattle.session_state.specs.declared.search_rounds.next.Found.{Found}
use Rattle.session_state.specs.Rounds.Next.{IsAnswer}
use Rattle.session_state.proofs.Rounds.RoundStates.{IsNewCopy, cells_of_blocked}
use Rattle.session_tests.proofs.of_search_rounds.searched.Goals as goal

pub returns-clause-copies : goal.returns-clause-copies
returns-clause-copies c =
    let p = c.args.made.now.problem in
    All-weaker (IsNewCopy p c.args.floor.now c.args.shown.now c.args.copies.now) (IsCopy p c.args.floor.now c.args.shown.now) (λ (s : List ℕ) h. h.0) c.in_ok-next.next.copies c.in_ok-next.ensures.copies

pub returns-clause-shown : goal.returns-clause-shown
returns-clause-shown c = λ s is.
    let told = subst (λ (f : Found). IsAnswer c.args.made.now c.new-pool.result c.args.floor.now c.args.shown.now c.args.copies.now c.args.budget c.in_ok-next.next.parts c.in_ok-next.next.copies f) is c.in_ok-next.ensures.answer in
    told.0

pub returns-clause-ended : goal.returns-clause-ended
returns-clause-ended c = λ proof is.
    let told = subst (λ (f : Found). IsAnswer c.args.made.now c.new-pool.result c.args.floor.now c.args.shown.now c.args.copies.now c.args.budget c.in_ok-next.next.parts c.in_ok-next.next.copies f) is c.in_ok-next.ensures.answer in
    cells_of_blocked c.args.made.now.problem c.args.floor.now c.args.shown.now c.args.copies.now [] c.requires.shown c.requires.copies proof.blocked told.covered
