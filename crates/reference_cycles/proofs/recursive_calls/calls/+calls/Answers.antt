use Rattle.std.proofs.Common.{[], ◌∷◌, ◌++◌, map, refl, ap, ◌∙◌}
use Rattle.named_model.specs.Faults.{calls_in, calls_in_all, calls_in_links, calls_in_steps, calls_in_domains}
use Rattle.named_model.specs.Phrase.{links_of, steps_of, domains_of}
use Rattle.named_model.specs.View.{phrase_view, phrases_view, link_view, step_view, domain_view}
use Rattle.reference_cycles.specs.Recursion.Calls.{calls_in_step}
use Rattle.reference_cycles.proofs.Recursion.Adding.{added_more, added_all, step_more}
use Rattle.named_model.proofs.phrase.Phrase.TheLaws.{the_size}
use Rattle.named_model.proofs.phrase.Link.TheLaws.{the_size as link_size}
use Rattle.named_model.proofs.phrase.Step.TheLaws.{the_size as step_size}
use Rattle.named_model.proofs.phrase.Domain.TheLaws.{the_size as domain_size}
use Rattle.reference_cycles.proofs.Recursion.CallsInParts.{calls_of, calls_of_all, calls_of_links, calls_of_steps, calls_of_domains, nothing_added, added_for, added_behind, both_added, block_calls, bracketed_calls, called_calls, chain_calls, compared_calls, constant_calls, domain_calls, implies_calls, implies_else_calls, in_brackets_calls, joined_calls, let_calls, link_calls, numbered_calls, path_calls, prefixed_calls, quantified_calls, refers_calls}
use Rattle.reference_cycles.proofs.Recursion.Smaller.{part_falls, row_falls, item_falls, block_smaller, body_smaller, bracketed_smaller, called_smaller, conclusion_smaller, condition_smaller, domain_smaller, domains_smaller, else_smaller, first_smaller, head_smaller, in_brackets_smaller, joined_smaller, left_smaller, let_body_smaller, links_smaller, operand_smaller, prefixed_smaller, premise_smaller, right_smaller, steps_smaller, then_smaller, values_smaller}
use Rattle.reference_cycles.proofs.recursive_calls.calls.+calls.Goals as goal

pub add_all-loop-phrase-preserved : goal.add_all-loop-phrase-preserved
add_all-loop-phrase-preserved t c =
    added_more (λ xs. calls_in_all (phrases_view xs)) (λ x. calls_in (phrase_view x)) c.args.phrases.now c.loop-phrase.phrase-index c.phrase-item.result c.loop-phrase.calls.items c.add.new.calls.items _ (λ y ys. refl) c.loop-phrase-test.true c.phrase-item.is c.loop-phrase.invariant c.in_ok-add.ensures

pub add_all-returns : goal.add_all-returns
add_all-returns t c =
    added_all (λ xs. calls_in_all (phrases_view xs)) c.args.phrases.now c.loop-phrase.phrase-index c.loop-phrase.calls.items _ refl c.loop-phrase-test.false c.loop-phrase.invariant

pub add_links-loop-link-preserved : goal.add_links-loop-link-preserved
add_links-loop-link-preserved t c =
    added_more (λ xs. calls_in_links (links_of (map link_view xs))) (λ x. calls_in (link_view x).operand) c.args.links.now c.loop-link.link-index c.link-item.result c.loop-link.calls.items c.add_link.new.calls.items _ (λ y ys. refl) c.loop-link-test.true c.link-item.is c.loop-link.invariant c.in_ok-add_link.ensures

pub add_links-returns : goal.add_links-returns
add_links-returns t c =
    added_all (λ xs. calls_in_links (links_of (map link_view xs))) c.args.links.now c.loop-link.link-index c.loop-link.calls.items _ refl c.loop-link-test.false c.loop-link.invariant

pub add_steps-loop-step-preserved : goal.add_steps-loop-step-preserved
add_steps-loop-step-preserved t c =
    added_more (λ xs. calls_in_steps (steps_of (map step_view xs))) (λ x. calls_in_step (step_view x)) c.args.steps.now c.loop-step.step-index c.step-item.result c.loop-step.calls.items c.add_step.new.calls.items _ (λ y ys. step_more (step_view y) (steps_of (map step_view ys))) c.loop-step-test.true c.step-item.is c.loop-step.invariant c.in_ok-add_step.ensures

pub add_steps-returns : goal.add_steps-returns
add_steps-returns t c =
    added_all (λ xs. calls_in_steps (steps_of (map step_view xs))) c.args.steps.now c.loop-step.step-index c.loop-step.calls.items _ refl c.loop-step-test.false c.loop-step.invariant

pub add_domains-loop-domain-preserved : goal.add_domains-loop-domain-preserved
add_domains-loop-domain-preserved t c =
    added_more (λ xs. calls_in_domains (domains_of (map domain_view xs))) (λ x. calls_in (domain_view x).domain) c.args.domains.now c.loop-domain.domain-index c.domain-item.result c.loop-domain.calls.items c.add_domain.new.calls.items _ (λ y ys. refl) c.loop-domain-test.true c.domain-item.is c.loop-domain.invariant c.in_ok-add_domain.ensures

pub add_domains-returns : goal.add_domains-returns
add_domains-returns t c =
    added_all (λ xs. calls_in_domains (domains_of (map domain_view xs))) c.args.domains.now c.loop-domain.domain-index c.loop-domain.calls.items _ refl c.loop-domain-test.false c.loop-domain.invariant

pub add-add_all-requires : goal.add-add_all-requires
add-add_all-requires t c =
    (row_falls the_size t the_size _ _ c.decreases c.in-Called.is _ _ c.deref.ensures.value (called_smaller _ _ _), tt)

pub add-add-requires : goal.add-add-requires
add-add-requires t c =
    (part_falls the_size t the_size _ _ c.decreases c.in-Bracketed.is _ _ c.deref-in-Bracketed.ensures (bracketed_smaller _ _), tt)

pub add-add_all-requires-in-Block : goal.add-add_all-requires-in-Block
add-add_all-requires-in-Block t c =
    (row_falls the_size t the_size _ _ c.decreases c.in-Block.is _ _ c.deref-in-Block.ensures.value (block_smaller _ _), tt)

pub add-add-requires-in-Prefixed : goal.add-add-requires-in-Prefixed
add-add-requires-in-Prefixed t c =
    (part_falls the_size t the_size _ _ c.decreases c.in-Prefixed.is _ _ c.deref-in-Prefixed.ensures (prefixed_smaller _ _ _), tt)

pub add-add-requires-in-Chain : goal.add-add-requires-in-Chain
add-add-requires-in-Chain t c =
    (part_falls the_size t the_size _ _ c.decreases c.in-Chain.is _ _ c.deref-in-Chain.ensures (first_smaller _ _), tt)

pub add-add_links-requires : goal.add-add_links-requires
add-add_links-requires t c =
    (row_falls the_size t link_size _ _ c.decreases c.in-Chain.is _ _ c.deref-in-Chain-2.ensures.value (links_smaller _ _), tt)

pub add-add-requires-in-Path : goal.add-add-requires-in-Path
add-add-requires-in-Path t c =
    (part_falls the_size t the_size _ _ c.decreases c.in-Path.is _ _ c.deref-in-Path.ensures (head_smaller _ _), tt)

pub add-add_steps-requires : goal.add-add_steps-requires
add-add_steps-requires t c =
    (row_falls the_size t step_size _ _ c.decreases c.in-Path.is _ _ c.deref-in-Path-2.ensures.value (steps_smaller _ _), tt)

pub add-add-requires-in-Compared : goal.add-add-requires-in-Compared
add-add-requires-in-Compared t c =
    (part_falls the_size t the_size _ _ c.decreases c.in-Compared.is _ _ c.deref-in-Compared.ensures (left_smaller _ _ _), tt)

pub add-add-requires-in-Compared-2 : goal.add-add-requires-in-Compared-2
add-add-requires-in-Compared-2 t c =
    (part_falls the_size t the_size _ _ c.decreases c.in-Compared.is _ _ c.deref-in-Compared-2.ensures (right_smaller _ _ _), tt)

pub add-add-requires-in-Implies : goal.add-add-requires-in-Implies
add-add-requires-in-Implies t c =
    (part_falls the_size t the_size _ _ c.decreases c.in-Implies.is _ _ c.deref-in-Implies.ensures (premise_smaller _ _ _), tt)

pub add-add-requires-in-Implies-2 : goal.add-add-requires-in-Implies-2
add-add-requires-in-Implies-2 t c =
    (part_falls the_size t the_size _ _ c.decreases c.in-Implies.is _ _ c.deref-in-Implies-2.ensures (conclusion_smaller _ _ _), tt)

pub add-add-requires-in-ImpliesElse : goal.add-add-requires-in-ImpliesElse
add-add-requires-in-ImpliesElse t c =
    (part_falls the_size t the_size _ _ c.decreases c.in-ImpliesElse.is _ _ c.deref-in-ImpliesElse.ensures (condition_smaller _ _ _ _), tt)

pub add-add-requires-in-ImpliesElse-2 : goal.add-add-requires-in-ImpliesElse-2
add-add-requires-in-ImpliesElse-2 t c =
    (part_falls the_size t the_size _ _ c.decreases c.in-ImpliesElse.is _ _ c.deref-in-ImpliesElse-2.ensures (then_smaller _ _ _ _), tt)

pub add-add-requires-in-ImpliesElse-3 : goal.add-add-requires-in-ImpliesElse-3
add-add-requires-in-ImpliesElse-3 t c =
    (part_falls the_size t the_size _ _ c.decreases c.in-ImpliesElse.is _ _ c.deref-in-ImpliesElse-3.ensures (else_smaller _ _ _ _), tt)

pub add-add_domains-requires : goal.add-add_domains-requires
add-add_domains-requires t c =
    (row_falls the_size t domain_size _ _ c.decreases c.in-Quantified.is _ _ c.deref-in-Quantified.ensures.value (domains_smaller _ _ _ _), tt)

pub add-add-requires-in-Quantified : goal.add-add-requires-in-Quantified
add-add-requires-in-Quantified t c =
    (part_falls the_size t the_size _ _ c.decreases c.in-Quantified.is _ _ c.deref-in-Quantified-2.ensures (body_smaller _ _ _ _), tt)

pub add-add_all-requires-in-Let : goal.add-add_all-requires-in-Let
add-add_all-requires-in-Let t c =
    (row_falls the_size t the_size _ _ c.decreases c.in-Let.is _ _ c.deref-in-Let.ensures.value (values_smaller _ _ _), tt)

pub add-add-requires-in-Let : goal.add-add-requires-in-Let
add-add-requires-in-Let t c =
    (part_falls the_size t the_size _ _ c.decreases c.in-Let.is _ _ c.deref-in-Let-2.ensures (let_body_smaller _ _ _), tt)

pub add_all-add-requires : goal.add_all-add-requires
add_all-add-requires t c =
    (item_falls the_size t _ _ _ c.decreases c.loop-phrase-test.true c.phrase-item.is, tt)

pub add_links-add_link-requires : goal.add_links-add_link-requires
add_links-add_link-requires t c =
    (item_falls link_size t _ _ _ c.decreases c.loop-link-test.true c.link-item.is, tt)

pub add_steps-add_step-requires : goal.add_steps-add_step-requires
add_steps-add_step-requires t c =
    (item_falls step_size t _ _ _ c.decreases c.loop-step-test.true c.step-item.is, tt)

pub add_domains-add_domain-requires : goal.add_domains-add_domain-requires
add_domains-add_domain-requires t c =
    (item_falls domain_size t _ _ _ c.decreases c.loop-domain-test.true c.domain-item.is, tt)

pub add_link-add-requires : goal.add_link-add-requires
add_link-add-requires t c =
    (part_falls link_size t the_size c.args.link.now c.args.link.now c.decreases refl c.args.link.now.operand c.args.link.now.operand refl (operand_smaller _), tt)

pub add_domain-add-requires : goal.add_domain-add-requires
add_domain-add-requires t c =
    (part_falls domain_size t the_size c.args.domain.now c.args.domain.now c.decreases refl c.args.domain.now.domain c.args.domain.now.domain refl (domain_smaller _), tt)

pub add_step-add-requires : goal.add_step-add-requires
add_step-add-requires t c =
    (part_falls step_size t the_size _ _ c.decreases c.in-Join.is c.in-Join.phrase c.in-Join.phrase refl (joined_smaller _ _), tt)

pub add_step-add_all-requires : goal.add_step-add_all-requires
add_step-add_all-requires t c =
    (row_falls step_size t the_size _ _ c.decreases c.in-Brackets.is _ _ c.deref.ensures.value (in_brackets_smaller _ _), tt)

pub add-returns-in-Refers : goal.add-returns-in-Refers
add-returns-in-Refers t c =
    nothing_added c.args.calls.now.items (calls_of c.args.phrase.now) (ap calls_of c.in-Refers.is ∙ refers_calls _ _)

pub add-returns-in-Numbered : goal.add-returns-in-Numbered
add-returns-in-Numbered t c =
    nothing_added c.args.calls.now.items (calls_of c.args.phrase.now) (ap calls_of c.in-Numbered.is ∙ numbered_calls _)

pub add-returns-in-Constant : goal.add-returns-in-Constant
add-returns-in-Constant t c =
    nothing_added c.args.calls.now.items (calls_of c.args.phrase.now) (ap calls_of c.in-Constant.is ∙ constant_calls _ _)

pub add-returns-in-Bracketed : goal.add-returns-in-Bracketed
add-returns-in-Bracketed t c =
    added_for calls_of c.add.result c.args.calls.now.items c.add.new.calls.items (calls_of c.args.phrase.now) c.in-Bracketed.inner.value c.deref-in-Bracketed.result.now (ap calls_of c.in-Bracketed.is ∙ bracketed_calls _ _) c.deref-in-Bracketed.ensures c.add.ensures

pub add-returns-in-Block : goal.add-returns-in-Block
add-returns-in-Block t c =
    added_for calls_of_all c.add_all-in-Block.result c.args.calls.now.items c.add_all-in-Block.new.calls.items (calls_of c.args.phrase.now) c.in-Block.parts.items c.deref-in-Block.result.now (ap calls_of c.in-Block.is ∙ block_calls _ _) c.deref-in-Block.ensures.value c.add_all-in-Block.ensures

pub add-returns-in-Prefixed : goal.add-returns-in-Prefixed
add-returns-in-Prefixed t c =
    added_for calls_of c.add-in-Prefixed.result c.args.calls.now.items c.add-in-Prefixed.new.calls.items (calls_of c.args.phrase.now) c.in-Prefixed.inner.value c.deref-in-Prefixed.result.now (ap calls_of c.in-Prefixed.is ∙ prefixed_calls _ _ _) c.deref-in-Prefixed.ensures c.add-in-Prefixed.ensures

pub add-returns-in_ok-push-in-Called : goal.add-returns-in_ok-push-in-Called
add-returns-in_ok-push-in-Called t c =
    added_behind calls_of_all c.add_all.result c.args.calls.now.items c.push.new.self.items c.add_all.new.calls.items (calls_of c.args.phrase.now) (c.in-Called.number ∷ []) c.in-Called.arguments.items c.deref.result.now
    c.in_ok-push-in-Called.ensures.items (ap calls_of c.in-Called.is ∙ called_calls _ _ _) c.deref.ensures.value c.add_all.ensures

pub add-returns-in_ok-add-in-Chain : goal.add-returns-in_ok-add-in-Chain
add-returns-in_ok-add-in-Chain t c =
    added_behind calls_of_links c.add_links.result c.args.calls.now.items c.add-in-Chain.new.calls.items c.add_links.new.calls.items (calls_of c.args.phrase.now) (calls_of c.in-Chain.first.value) c.in-Chain.links.items c.deref-in-Chain-2.result.now
    (c.in_ok-add-in-Chain.ensures ∙ ap (λ x. c.args.calls.now.items ++ calls_of x) c.deref-in-Chain.ensures) (ap calls_of c.in-Chain.is ∙ chain_calls _ _) c.deref-in-Chain-2.ensures.value c.add_links.ensures

pub add-returns-in_ok-add-in-Path : goal.add-returns-in_ok-add-in-Path
add-returns-in_ok-add-in-Path t c =
    added_behind calls_of_steps c.add_steps.result c.args.calls.now.items c.add-in-Path.new.calls.items c.add_steps.new.calls.items (calls_of c.args.phrase.now) (calls_of c.in-Path.head.value) c.in-Path.steps.items c.deref-in-Path-2.result.now
    (c.in_ok-add-in-Path.ensures ∙ ap (λ x. c.args.calls.now.items ++ calls_of x) c.deref-in-Path.ensures) (ap calls_of c.in-Path.is ∙ path_calls _ _) c.deref-in-Path-2.ensures.value c.add_steps.ensures

pub add-returns-in_ok-add-in-Compared : goal.add-returns-in_ok-add-in-Compared
add-returns-in_ok-add-in-Compared t c =
    added_behind calls_of c.add-in-Compared-2.result c.args.calls.now.items c.add-in-Compared.new.calls.items c.add-in-Compared-2.new.calls.items (calls_of c.args.phrase.now) (calls_of c.in-Compared.left.value) c.in-Compared.right.value c.deref-in-Compared-2.result.now
    (c.in_ok-add-in-Compared.ensures ∙ ap (λ x. c.args.calls.now.items ++ calls_of x) c.deref-in-Compared.ensures) (ap calls_of c.in-Compared.is ∙ compared_calls _ _ _) c.deref-in-Compared-2.ensures c.add-in-Compared-2.ensures

pub add-returns-in_ok-add-in-Implies : goal.add-returns-in_ok-add-in-Implies
add-returns-in_ok-add-in-Implies t c =
    added_behind calls_of c.add-in-Implies-2.result c.args.calls.now.items c.add-in-Implies.new.calls.items c.add-in-Implies-2.new.calls.items (calls_of c.args.phrase.now) (calls_of c.in-Implies.left.value) c.in-Implies.right.value c.deref-in-Implies-2.result.now
    (c.in_ok-add-in-Implies.ensures ∙ ap (λ x. c.args.calls.now.items ++ calls_of x) c.deref-in-Implies.ensures) (ap calls_of c.in-Implies.is ∙ implies_calls _ _ _) c.deref-in-Implies-2.ensures c.add-in-Implies-2.ensures

pub add-returns-in_ok-add_domains-in-Quantified : goal.add-returns-in_ok-add_domains-in-Quantified
add-returns-in_ok-add_domains-in-Quantified t c =
    added_behind calls_of c.add-in-Quantified.result c.args.calls.now.items c.add_domains.new.calls.items c.add-in-Quantified.new.calls.items (calls_of c.args.phrase.now) (calls_of_domains c.in-Quantified.domains.items) c.in-Quantified.inner.value c.deref-in-Quantified-2.result.now
    (c.in_ok-add_domains-in-Quantified.ensures ∙ ap (λ x. c.args.calls.now.items ++ calls_of_domains x) c.deref-in-Quantified.ensures.value) (ap calls_of c.in-Quantified.is ∙ quantified_calls _ _ _ _) c.deref-in-Quantified-2.ensures c.add-in-Quantified.ensures

pub add-returns-in_ok-add_all-in-Let : goal.add-returns-in_ok-add_all-in-Let
add-returns-in_ok-add_all-in-Let t c =
    added_behind calls_of c.add-in-Let.result c.args.calls.now.items c.add_all-in-Let.new.calls.items c.add-in-Let.new.calls.items (calls_of c.args.phrase.now) (calls_of_all c.in-Let.values.items) c.in-Let.inner.value c.deref-in-Let-2.result.now
    (c.in_ok-add_all-in-Let.ensures ∙ ap (λ x. c.args.calls.now.items ++ calls_of_all x) c.deref-in-Let.ensures.value) (ap calls_of c.in-Let.is ∙ let_calls _ _ _) c.deref-in-Let-2.ensures c.add-in-Let.ensures

pub add-returns-in_ok-add-in-ImpliesElse-2 : goal.add-returns-in_ok-add-in-ImpliesElse-2
add-returns-in_ok-add-in-ImpliesElse-2 t c =
    added_behind calls_of c.add-in-ImpliesElse-3.result c.args.calls.now.items c.add-in-ImpliesElse-2.new.calls.items c.add-in-ImpliesElse-3.new.calls.items (calls_of c.args.phrase.now) (calls_of c.in-ImpliesElse.left.value ++ calls_of c.in-ImpliesElse.right.value) c.in-ImpliesElse.other.value c.deref-in-ImpliesElse-3.result.now
    (both_added c.args.calls.now.items c.add-in-ImpliesElse.new.calls.items _ _ _ (c.in_ok-add-in-ImpliesElse.ensures ∙ ap (λ x. c.args.calls.now.items ++ calls_of x) c.deref-in-ImpliesElse.ensures) (c.in_ok-add-in-ImpliesElse-2.ensures ∙ ap (λ x. c.add-in-ImpliesElse.new.calls.items ++ calls_of x) c.deref-in-ImpliesElse-2.ensures)) (ap calls_of c.in-ImpliesElse.is ∙ implies_else_calls _ _ _ _) c.deref-in-ImpliesElse-3.ensures c.add-in-ImpliesElse-3.ensures

pub add_link-returns : goal.add_link-returns
add_link-returns t c =
    added_for calls_of c.add.result c.args.calls.now.items c.add.new.calls.items (calls_in (link_view c.args.link.now).operand) c.args.link.now.operand c.args.link.now.operand (link_calls c.args.link.now) refl c.add.ensures

pub add_domain-returns : goal.add_domain-returns
add_domain-returns t c =
    added_for calls_of c.add.result c.args.calls.now.items c.add.new.calls.items (calls_in (domain_view c.args.domain.now).domain) c.args.domain.now.domain c.args.domain.now.domain (domain_calls c.args.domain.now) refl c.add.ensures

pub add_step-returns-in-Join : goal.add_step-returns-in-Join
add_step-returns-in-Join t c =
    added_for calls_of c.add.result c.args.calls.now.items c.add.new.calls.items (calls_in_step (step_view c.args.step.now)) c.in-Join.phrase c.in-Join.phrase (ap (λ s. calls_in_step (step_view s)) c.in-Join.is ∙ joined_calls _ _) refl c.add.ensures

pub add_step-returns-in-Brackets : goal.add_step-returns-in-Brackets
add_step-returns-in-Brackets t c =
    added_for calls_of_all c.add_all.result c.args.calls.now.items c.add_all.new.calls.items (calls_in_step (step_view c.args.step.now)) c.in-Brackets.phrases.items c.deref.result.now (ap (λ s. calls_in_step (step_view s)) c.in-Brackets.is ∙ in_brackets_calls _ _) c.deref.ensures.value c.add_all.ensures
