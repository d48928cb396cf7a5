use Rattle.std.proofs.Common.{◌≡◌, ◌==◌, true, List, length, refl, sym, ◌∙◌, ap, subst, rules}
use Rattle.std.proofs.lemmas.Bool.{eqb-true}
use mathlib.Core.List.{IsPrefix}
use base.Growing.{prefix_trans}
use Rattle.cnf_core.specs.Formula.{Formula}
use Rattle.refutation_check.specs.declared.log.Step.{Step as LogStep}
use Rattle.translation_rules.specs.Translation.{Translated}
use Rattle.hub_state.specs.Journal.Journal.{pool_of}
use Rattle.hub_turns.proofs.Going.{pool_grows}
use Rattle.hub_turns.proofs.Onward.{went_then}
use Rattle.hub_turns.proofs.OwnEntries.{published_grows}
use Rattle.hub_tests.proofs.Turns.{goes_on_from_none}
use Rattle.hub_tests.proofs.of_hub_turns.publish_and_share.Goals as goal

pub import-requires-clause-begins : goal.import-requires-clause-begins
import-requires-clause-begins g c =
    let pool = pool_of 0 c.publish.new.pass.view.seen in
    subst (λ (xs : List LogStep). IsPrefix xs pool) (sym c.new-pool.ensures) (pool, refl)

pub share-requires-clause-imported : goal.share-requires-clause-imported
share-requires-clause-imported g c =
    let t : Translated = c.in_ok-kept.kept.value in
    let pool : List LogStep = c.import.new.have in
    let has = (c.in_ok-import.ensures.imported t c.in_ok-kept.ensures.kept).0 in
    let so : c.is_empty.result ≡ true = search rules in
    let none : length pool ≡ 0 = eqb-true (length pool) 0 (sym (c.is_empty.ensures ∙ ap (λ (steps : List LogStep). length steps == 0) c.steps.ensures.steps) ∙ so) in
    let same = ap (λ (f : Formula). f.clauses) c.cnf.ensures ∙ ap (λ (u : Translated). u.cnf.clauses) c.deref.ensures in
    goes_on_from_none c.args.lock.now c.publish.new.pass c.import.new.pass t pool c.in_ok-steps.steps c.cnf.result.now.clauses c.in_ok-import.ensures.goes has none same c.in_ok-steps.ensures

pub import-requires-2-clause-published : goal.import-requires-2-clause-published
import-requires-2-clause-published g c =
    let first = c.publish.new.pass in
    let third = c.share.new.pass in
    let went = went_then c.args.lock.now first c.import.new.pass third c.in_ok-import.ensures.goes c.in_ok-shared.ensures.goes in
    (c.in_ok-kept.kept.value, published_grows first.view.seen third.view.seen went.seen 0 c.in_ok-kept.kept.value c.in_ok-kept.ensures.kept)

pub import-requires-2-clause-begins : goal.import-requires-2-clause-begins
import-requires-2-clause-begins g c =
    let second = c.import.new.pass.view.seen in
    let third = c.share.new.pass.view.seen in
    prefix_trans c.import.new.have (pool_of 0 second) (pool_of 0 third) c.in_ok-import.ensures.begins (pool_grows 0 second third c.in_ok-shared.ensures.goes.seen)

pub import-requires-3-clause-published : goal.import-requires-3-clause-published
import-requires-3-clause-published g c =
    let first = c.publish.new.pass in
    let fourth = c.import-2.new.pass in
    let went = went_then c.args.lock.now first c.share.new.pass fourth (went_then c.args.lock.now first c.import.new.pass c.share.new.pass c.in_ok-import.ensures.goes c.in_ok-shared.ensures.goes) c.in_ok-import-2.ensures.goes in
    (c.in_ok-kept.kept.value, published_grows first.view.seen fourth.view.seen went.seen 0 c.in_ok-kept.kept.value c.in_ok-kept.ensures.kept)
