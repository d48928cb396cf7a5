use Rattle.std.proofs.Common.{◌≡◌, ◌++◌, ℕ, List, [], All, get_or, take, refl, sym, subst, arith}
use Rattle.std.proofs.lemmas.List.{take_all}
use Rattle.std.proofs.lemmas.List.Elements.{All-nil, All-weaker}
use Rattle.refutation_check.specs.Part.{Parted}
use Rattle.refutation_check.specs.SearchLog.{IsSearchLog}
use Rattle.refutation_check.specs.declared.log.Step.{Step as LogStep}
use Rattle.clause_pool.proofs.Fitting.{all_more}
use Rattle.translation_rules.specs.Parts.{given_to}
use Rattle.hub_state.specs.Journal.Noted.{Note, Shared}
use Rattle.hub_state.specs.Journal.Journal.{HasImported}
use Rattle.hub_turns.specs.Groups.{SharesItsSteps}
use Rattle.hub_turns.proofs.Onward.{went_none, went_then, same_number}
use Rattle.session_turns.proofs.Turning.{added_none, added_then, both_shared, steps_stay}
use Rattle.session_turns.proofs.sharing.share_parts.Goals as goal

pub loop-part-init : goal.loop-part-init
loop-part-init g c =
    let p = c.args.pass.now in
    record {
      goes = went_none c.args.lock.now p c.requires.idle;
      imported = c.requires.imported;
      added = ([], added_none p p refl, All-nil (λ (note : Note). (steps : List LogStep) × (note ≡ Shared c.args.key steps)));
      shared = All-nil (λ (part : Parted). SharesItsSteps p.view.seen p.view.number c.args.key c.args.translation.now part.local c.args.pool.now part.log);
    }

pub share_part-requires-clause-imported : goal.share_part-requires-clause-imported
share_part-requires-clause-imported g c =
    let before = c.loop-part.invariant in
    subst (λ (n : ℕ). HasImported c.loop-part.pass.view.seen n c.args.key c.args.translation.now c.args.pool.now) (sym (same_number c.args.lock.now c.args.pass.now c.loop-part.pass before.goes)) before.imported

pub share_part-requires-clause-searched : goal.share_part-requires-clause-searched
share_part-requires-clause-searched g c =
    let item = c.part-item.result in
    subst (λ (part : Parted). IsSearchLog (given_to c.args.translation.now c.args.pool.now part) part.log) (sym c.part-item.is) (c.requires.searched c.loop-part.part-index item c.loop-part-test.true)

pub loop-part-preserved : goal.loop-part-preserved
loop-part-preserved g c =
    let lock = c.args.lock.now in
    let t = c.args.translation.now in
    let pool = c.args.pool.now in
    let key = c.args.key in
    let a = c.args.pass.now in
    let b = c.loop-part.pass in
    let d = c.share_part.new.pass in
    let parts = c.args.parts.now in
    let i = c.loop-part.part-index in
    let item = c.part-item.result in
    let before = c.loop-part.invariant in
    let now = c.share_part.ensures in
    let number = same_number lock a b before.goes in
    let Old : Parted → Type 0 = λ (part : Parted). SharesItsSteps b.view.seen a.view.number key t part.local pool part.log in
    let New : Parted → Type 0 = λ (part : Parted). SharesItsSteps d.view.seen a.view.number key t part.local pool part.log in
    let stay : (part : Parted) → Old part → New part = λ part old. subst (λ (n : ℕ). SharesItsSteps d.view.seen n key t part.local pool part.log) number
    (steps_stay lock b d key now.added.0 before.goes.idle now.goes now.added.1 now.added.2 t part.local pool part.log (subst (λ (n : ℕ). SharesItsSteps b.view.seen n key t part.local pool part.log) (sym number) old)) in
    let here : New (get_or parts i item) = subst New c.part-item.is (subst (λ (n : ℕ). SharesItsSteps d.view.seen n key t item.local pool item.log) number c.in_ok-share_part.ensures.shared) in
    record {
      goes = went_then lock a b d before.goes now.goes;
      imported = subst (λ (n : ℕ). HasImported d.view.seen n key t pool) number now.imported;
      added = (before.added.0 ++ now.added.0, added_then a b d before.added.0 now.added.0 number before.added.1 now.added.1, both_shared key before.added.0 now.added.0 before.added.2 now.added.2);
      shared = all_more New parts i item c.loop-part-test.true (All-weaker Old New stay (take i parts) before.shared) here;
    }

pub returns-in_err-share_part-clause-goes : goal.returns-in_err-share_part-clause-goes
returns-in_err-share_part-clause-goes g c = went_then c.args.lock.now c.args.pass.now c.loop-part.pass c.share_part.new.pass c.loop-part.invariant.goes c.in_err-share_part.ensures.goes

pub returns-in_err-share_part-clause-added : goal.returns-in_err-share_part-clause-added
returns-in_err-share_part-clause-added g c =
    let a = c.args.pass.now in
    let b = c.loop-part.pass in
    let before = c.loop-part.invariant in
    let now = c.in_err-share_part.ensures in
    let number = same_number c.args.lock.now a b before.goes in
    (before.added.0 ++ now.added.0, added_then a b c.share_part.new.pass before.added.0 now.added.0 number before.added.1 now.added.1, both_shared c.args.key before.added.0 now.added.0 before.added.2 now.added.2)

pub returns-clause-goes : goal.returns-clause-goes
returns-clause-goes g c = c.loop-part.invariant.goes

pub returns-clause-imported : goal.returns-clause-imported
returns-clause-imported g c = c.loop-part.invariant.imported

pub returns-clause-added : goal.returns-clause-added
returns-clause-added g c = c.loop-part.invariant.added

pub returns-clause-shared : goal.returns-clause-shared
returns-clause-shared g c =
    let t = c.args.translation.now in
    subst (All (λ (part : Parted). SharesItsSteps c.loop-part.pass.view.seen c.args.pass.now.view.number c.args.key t part.local c.args.pool.now part.log)) (take_all c.loop-part.part-index c.args.parts.now (omega (arith, c.loop-part-test.false))) c.loop-part.invariant.shared
