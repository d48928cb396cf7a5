use Rattle.std.proofs.Common.{◌≡◌, ◌∙◌, ℕ, List, All, sym, ap, subst}
use Rattle.std.proofs.lemmas.List.Elements.{All-nil}
use Rattle.session_rules.specs.States.{top_floor, shown_here, after}
use Rattle.session_rules.specs.Proofs.{IsCopy}
use Rattle.session_rules.specs.declared.answers.Reply.{Reply}
use Rattle.session_state.specs.Store.Stored.{Stored, copies_after}
use Rattle.session_state.specs.Sessions.Fits.{InSession, FitsProblem}
use Rattle.session_state.specs.Sessions.Proposed.{IsProposal, IsPlainProposal}
use Rattle.session_state.proofs.Sessions.LaterSessions.{fits_later}
use Rattle.session_state.proofs.session_search.session.Session.apply.Goals as goal

pub returns-clause-fits : goal.returns-clause-fits
returns-clause-fits c = λ t pool step.
    let kept : Stored = c.self.inside.kept in
    let now : Stored = c.apply.new.self in
    let reply : Reply = c.args.proposal.reply in
    let found : List (List ℕ) = c.args.proposal.copies in
    let told = c.into_answer-reply.ensures in
    let state_is : now.state ≡ after kept.state reply = c.apply.ensures.state ∙ ap (after kept.state) told.reply in
    let copies_are : now.copies ≡ copies_after kept reply found = c.apply.ensures.copies ∙ ap (λ (r : Reply). copies_after kept r c.into_answer-reply.result.1) told.reply ∙ ap (copies_after kept reply) told.copies in
    subst (λ (k : Stored). FitsProblem t.problem k → IsProposal t pool k.state step c.args.proposal → FitsProblem t.problem now) (ap (λ (s : InSession). s.kept) c.self.view_is)
    (λ fits is. fits_later t.problem kept now step reply found fits is.may is.copies state_is copies_are)

pub returns-clause-plain : goal.returns-clause-plain
returns-clause-plain c = λ p step.
    let kept : Stored = c.self.inside.kept in
    let now : Stored = c.apply.new.self in
    let reply : Reply = c.args.proposal.reply in
    let found : List (List ℕ) = c.args.proposal.copies in
    let told = c.into_answer-reply.ensures in
    let state_is : now.state ≡ after kept.state reply = c.apply.ensures.state ∙ ap (after kept.state) told.reply in
    let copies_are : now.copies ≡ copies_after kept reply found = c.apply.ensures.copies ∙ ap (λ (r : Reply). copies_after kept r c.into_answer-reply.result.1) told.reply ∙ ap (copies_after kept reply) told.copies in
    subst (λ (k : Stored). FitsProblem p k → IsPlainProposal k.state step c.args.proposal → FitsProblem p now) (ap (λ (s : InSession). s.kept) c.self.view_is)
    (λ fits is. fits_later p kept now step reply found fits (is.may p)
    (subst (All (IsCopy p (top_floor kept.state) (shown_here kept.state))) (sym is.no_copies) (All-nil (IsCopy p (top_floor kept.state) (shown_here kept.state)))) state_is copies_are)
