use Rattle.std.proofs.Common.{map, sym, ap, subst, ◌∙◌}
use Rattle.named_model.specs.Phrase.{LinkTree, links_of}
use Rattle.named_model.specs.View.{link_view, phrase_view}
use Rattle.model_types.specs.Bounds.Same.{AreSame}
use Rattle.rel_lower.specs.Bounding.Bounds.{bound_type, links_type_in}
use Rattle.rel_lower.proofs.Bounding.Lists.{chain_seen, parts_of, one_link, at_end}
use Rattle.rel_lower.proofs.field_bounds.types.+bound.Goals as goal

pub bound_type-returns-in_ok-with_links-in-Chain : goal.bound_type-returns-in_ok-with_links-in-Chain
bound_type-returns-in_ok-with_links-in-Chain t c =
    let xs = c.args.signatures.now in
    let made = c.in_ok-with_links-in-Chain.field-0 in
    let first = c.deref-in-Chain.result.now in
    subst (λ y. AreSame made (bound_type xs y)) (sym (ap phrase_view c.in-Chain.is ∙ chain_seen c.in-Chain.first c.in-Chain.links))
    (subst (λ y. AreSame made (links_type_in xs (bound_type xs y) (links_of (map link_view c.in-Chain.links.items)))) (ap phrase_view c.deref-in-Chain.ensures)
    (subst (λ ls. AreSame made (links_type_in xs (bound_type xs (phrase_view first)) (links_of (map link_view ls)))) c.deref-in-Chain-2.ensures.value
    (c.in_ok-with_links-in-Chain.ensures (bound_type xs (phrase_view first)) c.in_ok-start-in-Chain.ensures)))

pub with_links-loop-link-preserved : goal.with_links-loop-link-preserved
with_links-loop-link-preserved t c = λ x same.
    one_link c.args.signatures.now c.args.links.now x c.loop-link.link-index c.link-item.result c.link-item.result.operator (phrase_view c.link-item.result.operand)
    c.loop-link.lists c.in_ok-lists.lists c.in_ok-operand.operand c.loop-link-test.true c.link-item.is
    (ap (λ (k : LinkTree). k.operator) (parts_of c.link-item.result)) (ap (λ (k : LinkTree). k.operand) (parts_of c.link-item.result))
    c.in_ok-operand.ensures c.in_ok-lists.ensures (c.loop-link.invariant x same)

pub with_links-returns : goal.with_links-returns
with_links-returns t c = λ x same. at_end c.args.signatures.now c.args.links.now x c.loop-link.link-index c.loop-link.lists c.loop-link-test.false (c.loop-link.invariant x same)
