use Rattle.std.proofs.Common.{ℕ, List, All, Contains, sym, subst}
use Rattle.std.proofs.lemmas.Result.{IfOk-weaker}
use Rattle.session_words.specs.declared.steps.Step.TheVariants.{Next}
use Rattle.session_state.specs.Sessions.Proposed.{Proposed, IsProposal}
use Rattle.session_state.proofs.Sessions.NextScenarios.{IsFound, shows}
use Rattle.session_state.proofs.session_search.asking.look_for.Goals as goal

pub returns-clause-proposal : goal.returns-clause-proposal
returns-clause-proposal c =
    let t = c.args.translation.now in
    let pool = c.args.pool.now in
    let floor = c.args.floor.now in
    let shown = c.args.shown.now in
    let known = c.args.copies.now in
    let budget = c.args.budget in
    let next = c.in_ok-next.next in
    let told = c.in_ok-next.ensures in
    let found : IsFound t pool floor shown known budget next.parts next.copies next.found = record {
      searched = told.searched;
      work = told.work.0;
      copies_are = told.copies;
      units = told.units;
      answer = told.answer;
      stopped = told.stopped;
    } in
    IfOk-weaker c.proposal_of.result _ _ (λ p is s open' top here most.
    subst (IsProposal t pool s Next) (sym is) (shows t pool s known next.parts next.copies open' floor shown budget next.found top here most found)) c.proposal_of.ensures

pub returns-clause-new : goal.returns-clause-new
returns-clause-new c =
    let known = c.args.copies.now in
    let copies = c.in_ok-next.ensures.copies in
    IfOk-weaker c.proposal_of.result _ _ (λ p is. subst (λ (q : Proposed). All (λ (copy : List ℕ). ¬ Contains known copy) q.copies) (sym is) (λ k d l. (copies k d l).1)) c.proposal_of.ensures
