use Rattle.std.proofs.Common.{◌≤◌, ◌+◌, inl, inr, ℕ, List, All, Contains, IfOk, sym, ap, subst}
use Rattle.std.proofs.lemmas.List.Elements.{All-nil}
use Rattle.std.proofs.lemmas.Result.{IfOk-weaker}
use Rattle.session_rules.specs.States.{top_floor}
use Rattle.session_state.specs.Store.Stored.{Stored, copies_at}
use Rattle.session_state.specs.Sessions.Fits.{InSession}
use Rattle.session_words.specs.declared.steps.Step.{Step}
use Rattle.session_state.specs.Sessions.Proposed.{Proposed, IsPlain, IsPlainProposal, IsProposal, NeedsTranslation}
use Rattle.session_state.proofs.session_search.session.Session.propose.Goals as goal

-- none of these copies is one that the session knows at its top floor
abbrev AreNew : Stored → List (List ℕ) → Type 0
AreNew kept copies = All (λ copy. ¬ Contains (copies_at (top_floor kept.state) kept) copy) copies

pub returns-in-Next-clause-new : goal.returns-in-Next-clause-new
returns-in-Next-clause-new c = subst (λ (kept : Stored). IfOk c.next.result (λ (p : Proposed). AreNew kept p.copies)) (ap (λ (s : InSession). s.kept) c.self.view_is) c.next.ensures.new

pub returns-in-Next-clause-spent : goal.returns-in-Next-clause-spent
returns-in-Next-clause-spent c = subst (λ (kept : Stored). c.next.new.count ≤ c.args.count.now + kept.state.budget) (ap (λ (s : InSession). s.kept) c.self.view_is) c.next.ensures.spent

pub returns-in-Offers-clause-new : goal.returns-in-Offers-clause-new
returns-in-Offers-clause-new c =
    let kept = c.args.self.now.kept in
    IfOk-weaker c.offer.result _ _ (λ p is. subst (AreNew kept) (sym is.work.work.1) (All-nil (λ (copy : List ℕ). ¬ Contains (copies_at (top_floor kept.state) kept) copy))) c.offer.ensures.proposal

pub returns-in-Offers-clause-spent : goal.returns-in-Offers-clause-spent
returns-in-Offers-clause-spent c = subst (λ (kept : Stored). c.offer.new.count ≤ c.args.count.now + kept.state.budget) (ap (λ (s : InSession). s.kept) c.self.view_is) c.offer.ensures.spent

pub returns-in-Augment-clause-new : goal.returns-in-Augment-clause-new
returns-in-Augment-clause-new c =
    let kept = c.args.self.now.kept in
    IfOk-weaker c.augment.result _ _ (λ p is. subst (AreNew kept) (sym is.work.work.1) (All-nil (λ (copy : List ℕ). ¬ Contains (copies_at (top_floor kept.state) kept) copy))) c.augment.ensures.proposal

pub returns-in-Augment-clause-spent : goal.returns-in-Augment-clause-spent
returns-in-Augment-clause-spent c = subst (λ (kept : Stored). c.augment.new.count ≤ c.args.count.now + kept.state.budget) (ap (λ (s : InSession). s.kept) c.self.view_is) c.augment.ensures.spent

pub returns-in-Next-clause-plain : goal.returns-in-Next-clause-plain
returns-in-Next-clause-plain c = λ is. absurd (subst IsPlain c.in-Next.is is)

pub returns-in-Offers-clause-plain : goal.returns-in-Offers-clause-plain
returns-in-Offers-clause-plain c = λ is. absurd (subst IsPlain c.in-Offers.is is)

pub returns-in-Augment-clause-plain : goal.returns-in-Augment-clause-plain
returns-in-Augment-clause-plain c = λ is. absurd (subst IsPlain c.in-Augment.is is)

pub next-requires-clause-import : goal.next-requires-clause-import
next-requires-clause-import c = c.requires.import (subst NeedsTranslation (sym c.in-Next.is) tt)

pub offer-requires-clause-import : goal.offer-requires-clause-import
offer-requires-clause-import c = c.requires.import (subst NeedsTranslation (sym c.in-Offers.is) tt)

pub augment-requires-clause-import : goal.augment-requires-clause-import
augment-requires-clause-import c = c.requires.import (subst NeedsTranslation (sym c.in-Augment.is) tt)

pub set-requires : goal.set-requires
set-requires c = elim c.requires.asked [ inl needs ↦ absurd (subst NeedsTranslation c.in-Budget.is needs) | inr is ↦ subst IsPlain c.in-Budget.is is ]

pub returns-in-Budget-clause-plain : goal.returns-in-Budget-clause-plain
returns-in-Budget-clause-plain c = let s = c.args.self.now.kept.state in λ is. subst (λ (step : Step). IsPlainProposal s step c.set.result) (sym c.in-Budget.is) (c.set.ensures s)

pub returns-in-Next-clause-idle : goal.returns-in-Next-clause-idle
returns-in-Next-clause-idle c = λ is. absurd (subst IsPlain c.in-Next.is is)

pub returns-in-Offers-clause-idle : goal.returns-in-Offers-clause-idle
returns-in-Offers-clause-idle c = λ is. absurd (subst IsPlain c.in-Offers.is is)

pub returns-in-Augment-clause-idle : goal.returns-in-Augment-clause-idle
returns-in-Augment-clause-idle c = λ is. absurd (subst IsPlain c.in-Augment.is is)

pub returns-in-Budget-clause-new : goal.returns-in-Budget-clause-new
returns-in-Budget-clause-new c =
    let kept = c.args.self.now.kept in
    subst (AreNew kept) (sym (c.set.ensures kept.state).no_copies) (All-nil (λ (copy : List ℕ). ¬ Contains (copies_at (top_floor kept.state) kept) copy))
