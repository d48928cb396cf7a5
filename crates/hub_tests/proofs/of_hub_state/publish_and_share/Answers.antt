use Rattle.std.proofs.Common.{◌≡◌, ◌∙◌, ap}
use Rattle.hub_state.specs.HubView.{HubView}
use Rattle.hub_tests.proofs.Growing.{publishing_keeps, publishing_grows, entry_grows, pool_begins, published_with}
use Rattle.hub_tests.proofs.of_hub_state.publish_and_share.Goals as goal

pub returns-clause-problems : goal.returns-clause-problems
returns-clause-problems c =
    ap (λ (h : HubView). h.problems) (c.in_ok-share.ensures.entry c.in_ok-kept.kept.value c.in_ok-kept.ensures.kept)
    ∙ publishing_keeps c.args.hub.now c.publish.new.self 1 0 c.args.t.value c.in_ok-kept.kept.value c.in_ok-kept.ensures.entry

pub returns-clause-published : goal.returns-clause-published
returns-clause-published c =
    (c.in_ok-kept.kept.value, published_with c.publish.new.self c.share.new.self 1 _ 0 c.in_ok-kept.kept.value (c.in_ok-share.ensures.entry c.in_ok-kept.kept.value c.in_ok-kept.ensures.kept) c.in_ok-kept.ensures.kept)

pub returns-clause-grows : goal.returns-clause-grows
returns-clause-grows c =
    pool_begins c.args.hub.now c.publish.new.self c.share.new.self (publishing_grows c.args.hub.now c.publish.new.self 1 0 c.args.t.value c.in_ok-kept.kept.value c.in_ok-kept.ensures.entry)
    (entry_grows c.publish.new.self c.share.new.self 1 _ (c.in_ok-share.ensures.entry c.in_ok-kept.kept.value c.in_ok-kept.ensures.kept))
