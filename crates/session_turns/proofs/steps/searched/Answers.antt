use Rattle.std.proofs.Common.{inl, inr, ℕ, List, All, length, refl, sym, subst}
use mathlib.Core.List.{IsPrefix}
use Rattle.refutation_check.specs.declared.log.Step.{Step as LogStep}
use Rattle.refutation_check.specs.Part.{Parted}
use Rattle.rel_formula.specs.Bounds.{IsProblem}
use Rattle.translation_rules.specs.Translation.{Translated}
use Rattle.translation_rules.specs.Parts.{AreSearched}
use Rattle.hub_state.specs.Journal.Noted.{Imported}
use Rattle.hub_state.specs.Journal.Journal.{IsPublished, HasImported, pool_of}
use Rattle.hub_turns.specs.Groups.{AreShared, SharesItsSteps}
use Rattle.hub_turns.specs.Turned.{HasAdded}
use Rattle.hub_turns.proofs.Onward.{went_then, same_number}
use Rattle.session_turns.proofs.Turning.{Seen, shares_none, begins_still}
use Rattle.session_turns.proofs.Answering.{begun_search, proposed_by_search}
use Rattle.session_turns.proofs.steps.searched.Goals as goal

-- the part's free steps are shared
abbrev Shares : Seen → ℕ → ℕ → Translated → List LogStep → Parted → Type 0
Shares p n key t pool part = SharesItsSteps p.view.seen n key t part.local pool part.log

pub import-requires-clause-published : goal.import-requires-clause-published
import-requires-clause-published g c = (c.args.translation.now, subst (λ (k : ℕ). IsPublished c.args.pass.now.view.seen k c.args.translation.now) (sym c.key-key.ensures) c.requires.published)

pub import-requires-clause-begins : goal.import-requires-clause-begins
import-requires-clause-begins g c = subst (λ (k : ℕ). IsPrefix c.args.pool.now (pool_of k c.args.pass.now.view.seen)) (sym c.key-key.ensures) c.requires.begins

pub returns-in_err-import-clause-begins : goal.returns-in_err-import-clause-begins
returns-in_err-import-clause-begins g c = subst (λ (k : ℕ). IsPrefix c.import.new.have (pool_of k c.import.new.pass.view.seen)) c.key-key.ensures c.in_err-import.ensures.begins

pub returns-in_err-import-clause-cut : goal.returns-in_err-import-clause-cut
returns-in_err-import-clause-cut g c = inl c.in_err-import.ensures.err

pub returns-in_err-proposal-clause-begins : goal.returns-in_err-proposal-clause-begins
returns-in_err-proposal-clause-begins g c = subst (λ (k : ℕ). IsPrefix c.import.new.have (pool_of k c.import.new.pass.view.seen)) c.key-key.ensures c.in_ok-import.ensures.begins

pub returns-in_err-proposal-clause-cut : goal.returns-in_err-proposal-clause-cut
returns-in_err-proposal-clause-cut g c =
    let a = c.args.pass.now in
    let b = c.import.new.pass in
    let x = c.args.session.now in
    let added = subst (λ (k : ℕ). HasAdded a b (Imported k (length c.import.new.have))) c.key-key.ensures c.in_ok-import.ensures.added in
    let none = shares_none b x.key in
    inr (begun_search a b b c.args.step.now x (length c.import.new.have) none.0 (same_number c.args.lock.now a b c.in_ok-import.ensures.goes) added none.1 none.2 c.requires.asked)

pub propose-requires-clause-import : goal.propose-requires-clause-import
propose-requires-clause-import g c =
    let t = c.args.translation.now in
    let pool = (c.in_ok-import.ensures.imported t (subst (λ (k : ℕ). IsPublished c.args.pass.now.view.seen k t) (sym c.key-key.ensures) c.requires.published)).1 in
    λ needs. record { accepted = pool.accepted; few = pool.limits.few_steps }

pub share_parts-requires-clause-imported : goal.share_parts-requires-clause-imported
share_parts-requires-clause-imported g c =
    let t = c.args.translation.now in
    let got = c.in_ok-import.ensures.imported t (subst (λ (k : ℕ). IsPublished c.args.pass.now.view.seen k t) (sym c.key-key.ensures) c.requires.published) in
    subst (λ (n : ℕ). HasImported c.import.new.pass.view.seen n c.key-key.result t c.import.new.have) (sym (same_number c.args.lock.now c.args.pass.now c.import.new.pass c.in_ok-import.ensures.goes)) got.0

pub share_parts-requires-clause-few : goal.share_parts-requires-clause-few
share_parts-requires-clause-few g c =
    let t = c.args.translation.now in
    (c.in_ok-import.ensures.imported t (subst (λ (k : ℕ). IsPublished c.args.pass.now.view.seen k t) (sym c.key-key.ensures) c.requires.published)).1.limits.few_steps

pub share_parts-requires-clause-searched : goal.share_parts-requires-clause-searched
share_parts-requires-clause-searched g c = subst (AreSearched c.args.translation.now c.import.new.have) (sym c.parts.ensures) (c.in_ok-proposal.ensures.proposal c.requires.asked).work.searched

pub returns-in_err-share_parts-clause-goes : goal.returns-in_err-share_parts-clause-goes
returns-in_err-share_parts-clause-goes g c = went_then c.args.lock.now c.args.pass.now c.import.new.pass c.share_parts.new.pass c.in_ok-import.ensures.goes c.in_err-share_parts.ensures.goes

pub returns-in_err-share_parts-clause-begins : goal.returns-in_err-share_parts-clause-begins
returns-in_err-share_parts-clause-begins g c =
    let x = c.args.session.now in
    begins_still c.args.lock.now c.import.new.pass c.share_parts.new.pass x x c.import.new.have (subst (λ (k : ℕ). IsPrefix c.import.new.have (pool_of k c.import.new.pass.view.seen)) c.key-key.ensures c.in_ok-import.ensures.begins) c.in_err-share_parts.ensures.goes refl

pub returns-in_err-share_parts-clause-cut : goal.returns-in_err-share_parts-clause-cut
returns-in_err-share_parts-clause-cut g c =
    let a = c.args.pass.now in
    let b = c.import.new.pass in
    let x = c.args.session.now in
    let more = c.in_err-share_parts.ensures.added in
    let added = subst (λ (k : ℕ). HasAdded a b (Imported k (length c.import.new.have))) c.key-key.ensures c.in_ok-import.ensures.added in
    inr (begun_search a b c.share_parts.new.pass c.args.step.now x (length c.import.new.have) more.0 (same_number c.args.lock.now a b c.in_ok-import.ensures.goes) added more.1 (subst (λ (k : ℕ). AreShared k more.0) c.key-key.ensures more.2) c.requires.asked)

pub returns-clause-goes : goal.returns-clause-goes
returns-clause-goes g c = went_then c.args.lock.now c.args.pass.now c.import.new.pass c.share_parts.new.pass c.in_ok-import.ensures.goes c.in_ok-share_parts.ensures.goes

pub returns-clause-begins : goal.returns-clause-begins
returns-clause-begins g c =
    let x = c.args.session.now in
    begins_still c.args.lock.now c.import.new.pass c.share_parts.new.pass x x c.import.new.have (subst (λ (k : ℕ). IsPrefix c.import.new.have (pool_of k c.import.new.pass.view.seen)) c.key-key.ensures c.in_ok-import.ensures.begins) c.in_ok-share_parts.ensures.goes refl

pub returns-clause-begun : goal.returns-clause-begun
returns-clause-begun g c =
    let a = c.args.pass.now in
    let b = c.import.new.pass in
    let x = c.args.session.now in
    let more = c.in_ok-share_parts.ensures.added in
    let added = subst (λ (k : ℕ). HasAdded a b (Imported k (length c.import.new.have))) c.key-key.ensures c.in_ok-import.ensures.added in
    begun_search a b c.share_parts.new.pass c.args.step.now x (length c.import.new.have) more.0 (same_number c.args.lock.now a b c.in_ok-import.ensures.goes) added more.1 (subst (λ (k : ℕ). AreShared k more.0) c.key-key.ensures more.2) c.requires.asked

pub returns-clause-cut : goal.returns-clause-cut
returns-clause-cut g c =
    let a = c.args.pass.now in
    let b = c.import.new.pass in
    let x = c.args.session.now in
    let more = c.in_ok-share_parts.ensures.added in
    let added = subst (λ (k : ℕ). HasAdded a b (Imported k (length c.import.new.have))) c.key-key.ensures c.in_ok-import.ensures.added in
    inr (begun_search a b c.share_parts.new.pass c.args.step.now x (length c.import.new.have) more.0 (same_number c.args.lock.now a b c.in_ok-import.ensures.goes) added more.1 (subst (λ (k : ℕ). AreShared k more.0) c.key-key.ensures more.2) c.requires.asked)

pub returns-clause-proposal : goal.returns-clause-proposal
returns-clause-proposal g c =
    let lock = c.args.lock.now in
    let t = c.args.translation.now in
    let a = c.args.pass.now in
    let b = c.import.new.pass in
    let d = c.share_parts.new.pass in
    let pool = c.import.new.have in
    let number = same_number lock a b c.in_ok-import.ensures.goes in
    let whole = same_number lock a d (went_then lock a b d c.in_ok-import.ensures.goes c.in_ok-share_parts.ensures.goes) in
    let one = c.one_floor_is_asked_for.ensures t.problem (subst IsProblem c.problem.ensures.value c.relations.ensures.well) in
    let imported = subst (λ (k : ℕ). HasImported d.view.seen a.view.number k t pool) c.key-key.ensures (subst (λ (n : ℕ). HasImported d.view.seen n c.key-key.result t pool) number c.in_ok-share_parts.ensures.imported) in
    let shared = subst (All (Shares d a.view.number c.args.session.now.key t pool)) c.parts.ensures
    (subst (λ (k : ℕ). All (Shares d a.view.number k t pool) c.parts.result.now) c.key-key.ensures (subst (λ (n : ℕ). All (Shares d n c.key-key.result t pool) c.parts.result.now) number c.in_ok-share_parts.ensures.shared)) in
    proposed_by_search t d a.view.number c.args.session.now c.args.step.now c.in_ok-proposal.proposal pool one whole (c.in_ok-proposal.ensures.proposal c.requires.asked) imported shared

pub propose-requires-clause-asked : goal.propose-requires-clause-asked
propose-requires-clause-asked g c = inl c.requires.asked
