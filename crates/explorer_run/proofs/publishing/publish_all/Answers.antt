use Rattle.std.proofs.Common.{◌≡◌, ◌∷◌, [], ℕ, Some, List, map, length, length-append, sym, ◌∙◌, ap, subst, arith}
use Rattle.std.specs.Prelude.{slice_get}
use Rattle.hub_lock.specs.declared.view.View.{View}
use Rattle.rel_formula.specs.Bounds.{Bounded}
use Rattle.translation_rules.specs.Translation.{Translated}
use Rattle.hub_state.specs.Journal.Noted.{Noted}
use Rattle.hub_state.specs.Journal.Journal.{IsPublished}
use Rattle.hub_turns.proofs.Onward.{went_then}
use Rattle.explorer_run.specs.Served.{values_of, ArePublished}
use Rattle.explorer_run.proofs.Rooted.{problem_at, publishes_only, publishes_nothing, published_one_more}
use Rattle.explorer_run.proofs.publishing.publish_all.Goals as goal

pub publish-requires-clause-key : goal.publish-requires-clause-key
publish-requires-clause-key g c =
    let ts = c.args.translations.now in
    let item = c.translation-item.result in
    let keys : List Bounded = map (λ (t : Translated). t.problem) (values_of ts) in
    let before = c.loop-translation.invariant in
    let place = c.len-key.ensures ∙ c.loop-translation.kept.ok.0 ∙ before.count in
    let at : slice_get keys c.loop-translation.translation-index ≡ Some item.value.problem = problem_at ts c.loop-translation.translation-index item c.loop-translation-test.true c.translation-item.is in (
      keys,
      ap (λ (v : View Noted (List Bounded)). v.base) before.goes.same ∙ c.requires.keys,
      subst (λ (k : ℕ). slice_get keys k ≡ Some c.in_ok-try_clone.field-0.value.problem) (sym place) (at ∙ ap (λ (t : Translated). Some t.problem) (sym c.in_ok-try_clone.ensures)),
    )

pub returns-in_err-publish-clause-own : goal.returns-in_err-publish-clause-own
returns-in_err-publish-clause-own g c = publishes_nothing c.loop-translation.root c.publish.new.pass c.in_err-publish.ensures.err c.loop-translation.invariant.own

pub returns-in_err-push-clause-own : goal.returns-in_err-push-clause-own
returns-in_err-push-clause-own g c =
    publishes_only c.loop-translation.root c.publish.new.pass c.len-key.result c.in_ok-try_clone.field-0.value c.in_ok-publish.field-0.value c.in_ok-publish.ensures.added c.loop-translation.invariant.own

pub loop-translation-preserved : goal.loop-translation-preserved
loop-translation-preserved g c =
    let before = c.loop-translation.invariant in
    let root = c.loop-translation.root in
    let new = c.publish.new.pass in
    let kept = c.loop-translation.kept.items in
    let one = c.in_ok-publish.field-0 in
    let place = c.len-key.ensures ∙ c.loop-translation.kept.ok.0 in
    let long = ap (λ xs. length xs) c.in_ok-push.ensures.items ∙ length-append kept (one ∷ []) in
    let count = before.count in
    record {
      goes = went_then c.args.lock.now c.args.root.now root new before.goes c.publish.ensures.goes;
      own = publishes_only root new c.len-key.result c.in_ok-try_clone.field-0.value one.value c.in_ok-publish.ensures.added before.own;
      count = omega (arith, long, count);
      published = subst (λ xs. ArePublished new.view.seen (values_of xs)) (sym c.in_ok-push.ensures.items)
          (published_one_more root.view.seen new.view.seen kept one c.publish.ensures.goes.seen before.published (subst (λ (k : ℕ). IsPublished new.view.seen k one.value) place c.in_ok-publish.ensures.kept));
    }
