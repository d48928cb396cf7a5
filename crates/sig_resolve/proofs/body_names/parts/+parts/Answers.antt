use Rattle.std.proofs.Common.{◌≡◌, ◌+◌, ◌*◌, [], ◌∷◌, ◌++◌, map, length, drop, true, false, refl, ap, ◌∙◌, sym, subst, arith, vec_len, Box, Vec, Global}
use Rattle.std.specs.Option.{option_copied}
use Rattle.std.proofs.lemmas.Result.{err_from_is_err_and}
use Rattle.alloy_syntax.specs.declared.tree.Node.{Node}
use Rattle.alloy_syntax.specs.Tree as tree
use Rattle.alloy_syntax.specs.Tree.{trees_of, links_of, steps_of, declarations_of, bindings_of}
use Rattle.alloy_syntax.specs.View.{view, views, link_view, step_view, declaration_view, binding_view}
use Rattle.named_model.specs.declared.phrase.Phrase.{Phrase}
use Rattle.named_model.specs.declared.phrase.Phrase.TheVariants as part
use Rattle.named_model.specs.Names as spec
use Rattle.named_model.specs.Names.{Globals}
use Rattle.named_model.specs.Phrase as phrase
use Rattle.named_model.specs.View as seen
use Rattle.name_tables.specs.InForce.{InForce}
use Rattle.name_tables.specs.Told.{IsTold, Answers}
use Rattle.sig_resolve.specs.Bodies.Each.{faults_of_step, resolved_before, domain_resolved}
use Rattle.sig_resolve.proofs.Bodies.Arms.{handed, nothing_made, told_second, told_at, made_at, told_of, made_of, bracketed_made, prefixed_made, none_in_both, compared_made, implies_made, else_made}
use Rattle.sig_resolve.proofs.Bodies.SeenNodes.{bracketed_node, block_node, prefixed_node, chain_node, compared_node, implies_node, else_node}
use Rattle.name_tables.proofs.Telling.{told_first}
use Rattle.sig_resolve.proofs.Bodies.Listed.{moved, only_memory, DomainsTold, ValuesTold, StepsTold, HeadTold, HeadMade, AllMade, LinksMade, DomainsMade, ValuesMade, PathMade, bracketed, behind_domains, behind_values}
use Rattle.sig_resolve.proofs.Bodies.Listed.{named_told, named_made, numbered_made, constant_made, block_made, chain_made, head_told, steps_told, path_made, domains_told, within_told, quantified_made, values_told, inner_told, let_made}
use Rattle.sig_resolve.proofs.Bodies.Calls.{call_taken, call_told, call_rest_told, call_kept, call_joined, plain_told}
use Rattle.sig_resolve.proofs.Bodies.Depths.{declarations_inside, bindings_inside, all_left}
use Rattle.sig_resolve.proofs.Bodies.SeenPaths.{called_seen}
use Rattle.sig_resolve.proofs.Bodies.Nodes.{nodes_more, nodes_fault, nodes_all, links_more, links_fault, links_all, steps_more, steps_fault, steps_all}
use Rattle.sig_resolve.proofs.Bodies.Variables.{DomainsLeft, ValuesLeft, declarations_behind, bindings_behind, domains_more, domains_mark, domains_fault, domains_all, values_more, values_fault, values_all}
use Rattle.sig_resolve.proofs.Bodies.Smaller.{part_falls, row_falls, item_falls, rank_falls, bracketed_smaller, block_smaller, prefixed_smaller, first_smaller, links_smaller, head_smaller, steps_smaller, left_smaller, right_smaller, premise_smaller, conclusion_smaller}
use Rattle.sig_resolve.proofs.Bodies.Smaller.{condition_smaller, then_smaller, else_smaller, declarations_smaller, body_smaller, bindings_smaller, let_body_smaller, operand_smaller, domain_smaller, value_smaller, joined_smaller, in_brackets_smaller}
use Rattle.alloy_syntax.proofs.tree.Node.TheLaws.{the_size}
use Rattle.alloy_syntax.proofs.tree.Link.TheLaws.{the_size as link_size}
use Rattle.alloy_syntax.proofs.tree.Step.TheLaws.{the_size as step_size}
use Rattle.alloy_syntax.proofs.tree.Declaration.TheLaws.{the_size as declaration_size}
use Rattle.alloy_syntax.proofs.tree.Binding.TheLaws.{the_size as binding_size}
use denote.Param.Weighed.{most}
use Rattle.sig_resolve.proofs.body_names.parts.+parts.Goals as goal

pub formulas-loop-node-preserved : goal.formulas-loop-node-preserved
formulas-loop-node-preserved t c =
    let n : InForce = c.args.names.now in
    let x = c.node-item.result in
    let y = c.in_ok-another.another in
    let one = subst (λ (m : InForce). (spec.faults_of m.globals m.locals 0 (view x) ≡ []) × (seen.phrase_view y ≡ spec.resolved m.globals m.locals (view x))) c.loop-node.invariant.same c.in_ok-another.ensures.value in
    record {
      same = c.in_ok-another.ensures.names ∙ c.loop-node.invariant.same;
      left = nodes_more n.globals n.locals c.args.nodes.now c.loop-node.node-index x y c.loop-node.all.items c.push.new.self.items c.loop-node-test.true c.node-item.is c.in_ok-push.ensures.items one c.loop-node.invariant.left;
    }

pub formulas-returns-in_err-another-clause-value : goal.formulas-returns-in_err-another-clause-value
formulas-returns-in_err-another-clause-value t c =
    let n : InForce = c.args.names.now in
    let p = err_from_is_err_and c.from_residual.result c.from_residual.ensures.1 in
    let told = subst (λ (m : InForce). IsTold c.in_err-another.field-0.0 (spec.faults_of m.globals m.locals 0 (view c.node-item.result))) c.loop-node.invariant.same c.in_err-another.ensures.value in
    rw (p.1, p.2) (nodes_fault n.globals n.locals c.args.nodes.now c.loop-node.node-index c.node-item.result c.loop-node.all.items c.in_err-another.field-0.0 c.loop-node-test.true c.node-item.is told c.loop-node.invariant.left)

pub formulas-returns-clause-value : goal.formulas-returns-clause-value
formulas-returns-clause-value t c =
    let n : InForce = c.args.names.now in
    nodes_all n.globals n.locals c.args.nodes.now c.loop-node.node-index c.loop-node.all.items c.loop-node-test.false c.loop-node.invariant.left

pub links-loop-link-preserved : goal.links-loop-link-preserved
links-loop-link-preserved t c =
    let n : InForce = c.args.names.now in
    let x = c.link-item.result in
    let y = c.in_ok-another.another in
    let one = subst (λ (m : InForce). (spec.faults_of m.globals m.locals 0 (link_view x).operand ≡ []) × (seen.link_view y ≡ record { operator = (link_view x).operator; place = (link_view x).place; operand = spec.resolved m.globals m.locals (link_view x).operand })) c.loop-link.invariant.same c.in_ok-another.ensures.value in
    record {
      same = c.in_ok-another.ensures.names ∙ c.loop-link.invariant.same;
      left = links_more n.globals n.locals c.args.links.now c.loop-link.link-index x y c.loop-link.all.items c.push.new.self.items c.loop-link-test.true c.link-item.is c.in_ok-push.ensures.items one c.loop-link.invariant.left;
    }

pub links-returns-in_err-another-clause-value : goal.links-returns-in_err-another-clause-value
links-returns-in_err-another-clause-value t c =
    let n : InForce = c.args.names.now in
    let p = err_from_is_err_and c.from_residual.result c.from_residual.ensures.1 in
    let told = subst (λ (m : InForce). IsTold c.in_err-another.field-0.0 (spec.faults_of m.globals m.locals 0 (link_view c.link-item.result).operand)) c.loop-link.invariant.same c.in_err-another.ensures.value in
    rw (p.1, p.2) (links_fault n.globals n.locals c.args.links.now c.loop-link.link-index c.link-item.result c.loop-link.all.items c.in_err-another.field-0.0 c.loop-link-test.true c.link-item.is told c.loop-link.invariant.left)

pub links-returns-clause-value : goal.links-returns-clause-value
links-returns-clause-value t c =
    let n : InForce = c.args.names.now in
    links_all n.globals n.locals c.args.links.now c.loop-link.link-index c.loop-link.all.items c.loop-link-test.false c.loop-link.invariant.left

pub steps_from-loop-place-preserved : goal.steps_from-loop-place-preserved
steps_from-loop-place-preserved t c =
    let n : InForce = c.args.names.now in
    let x = c.index-steps-place.result in
    let y = c.in_ok-another.another in
    let one = subst (λ (m : InForce). (faults_of_step m.globals m.locals (step_view x) ≡ []) × ((rest : phrase.StepTrees) → phrase.step_first (seen.step_view y) rest ≡ resolved_before m.globals m.locals (step_view x) rest)) c.loop-place.invariant.same c.in_ok-another.ensures.value in
    record {
      same = c.in_ok-another.ensures.names ∙ c.loop-place.invariant.same;
      left = steps_more n.globals n.locals c.args.steps.now (drop c.args.from c.args.steps.now) c.loop-place.place x y c.loop-place.all.items c.push.new.self.items c.loop-place-test.true c.index-steps-place.is c.in_ok-push.ensures.items one c.loop-place.invariant.left;
    }

pub steps_from-returns-in_err-another-clause-value : goal.steps_from-returns-in_err-another-clause-value
steps_from-returns-in_err-another-clause-value t c =
    let n : InForce = c.args.names.now in
    let p = err_from_is_err_and c.from_residual.result c.from_residual.ensures.1 in
    let told = subst (λ (m : InForce). IsTold c.in_err-another.field-0.0 (faults_of_step m.globals m.locals (step_view c.index-steps-place.result))) c.loop-place.invariant.same c.in_err-another.ensures.value in
    rw (p.1, p.2) (steps_fault n.globals n.locals c.args.steps.now (drop c.args.from c.args.steps.now) c.loop-place.place c.index-steps-place.result c.loop-place.all.items c.in_err-another.field-0.0 c.loop-place-test.true c.index-steps-place.is told c.loop-place.invariant.left)

pub steps_from-returns-clause-value : goal.steps_from-returns-clause-value
steps_from-returns-clause-value t c =
    let n : InForce = c.args.names.now in
    steps_all n.globals n.locals c.args.steps.now (drop c.args.from c.args.steps.now) c.loop-place.place c.loop-place.all.items c.loop-place-test.false c.loop-place.invariant.left

pub domains-loop-declaration-preserved : goal.domains-loop-declaration-preserved
domains-loop-declaration-preserved t c =
    let n : InForce = c.args.names.now in
    let x = c.declaration-item.result in
    let y = c.in_ok-another.another in
    let inner = c.loop-declaration.names.locals in
    let one = subst (λ (g : Globals). (spec.faults_of g inner 0 (declaration_view x).domain ≡ []) × (seen.domain_view y ≡ domain_resolved g inner (declaration_view x))) c.loop-declaration.invariant.same c.in_ok-another.ensures.value in
    let names_are = c.in_ok-another.ensures.names in
    let locals_are : c.domain.new.names.locals ≡ spec.onto (declaration_view x).names inner = ap (λ (m : InForce). m.locals) names_are in
    record {
      same = ap (λ (m : InForce). m.globals) names_are ∙ c.loop-declaration.invariant.same;
      behind = rw locals_are (declarations_behind c.args.declarations.now c.loop-declaration.declaration-index x inner _ c.loop-declaration-test.true c.declaration-item.is c.loop-declaration.invariant.behind);
      left = subst (λ ls. DomainsLeft n.globals n.locals c.args.declarations.now ls (drop (c.loop-declaration.declaration-index + 1) c.args.declarations.now) c.push.new.self.items) (sym locals_are) (domains_more n.globals n.locals c.args.declarations.now inner c.loop-declaration.declaration-index x y c.loop-declaration.all.items c.push.new.self.items c.loop-declaration-test.true c.declaration-item.is c.in_ok-push.ensures.items c.in_ok-single_of.ensures.0 one c.loop-declaration.invariant.left);
    }

pub domains-returns-in_err-single_of-clause-value : goal.domains-returns-in_err-single_of-clause-value
domains-returns-in_err-single_of-clause-value t c =
    let n : InForce = c.args.names.now in
    let p = err_from_is_err_and c.from_residual.result c.from_residual.ensures.1 in
    rw (p.1, p.2) (domains_mark n.globals n.locals c.args.declarations.now c.loop-declaration.names.locals c.loop-declaration.declaration-index c.declaration-item.result c.loop-declaration.all.items c.in_err-single_of.field-0.0 c.loop-declaration-test.true c.declaration-item.is c.in_err-single_of.ensures c.loop-declaration.invariant.left)

pub domains-returns-in_err-another-clause-value : goal.domains-returns-in_err-another-clause-value
domains-returns-in_err-another-clause-value t c =
    let n : InForce = c.args.names.now in
    let p = err_from_is_err_and c.from_residual-in_err-another.result c.from_residual-in_err-another.ensures.1 in
    let inner = c.loop-declaration.names.locals in
    let told = subst (λ (g : Globals). IsTold c.in_err-another.field-0.0 (spec.faults_of g inner 0 (declaration_view c.declaration-item.result).domain)) c.loop-declaration.invariant.same c.in_err-another.ensures.value in
    rw (p.1, p.2) (domains_fault n.globals n.locals c.args.declarations.now inner c.loop-declaration.declaration-index c.declaration-item.result c.loop-declaration.all.items c.in_err-another.field-0.0 c.loop-declaration-test.true c.declaration-item.is c.in_ok-single_of.ensures.0 told c.loop-declaration.invariant.left)

pub domains-returns-clause-value : goal.domains-returns-clause-value
domains-returns-clause-value t c =
    let n : InForce = c.args.names.now in
    domains_all n.globals n.locals c.args.declarations.now c.loop-declaration.names.locals c.loop-declaration.declaration-index c.loop-declaration.all.items c.loop-declaration-test.false c.loop-declaration.invariant.left

pub values-loop-binding-preserved : goal.values-loop-binding-preserved
values-loop-binding-preserved t c =
    let n : InForce = c.args.names.now in
    let x = c.binding-item.result in
    let y = c.in_ok-another.another in
    let inner = c.loop-binding.names.locals in
    let one = subst (λ (g : Globals). (spec.faults_of g inner 0 (binding_view x).value ≡ []) × (seen.phrase_view y ≡ spec.resolved g inner (binding_view x).value)) c.loop-binding.invariant.same c.in_ok-another.ensures.value in
    let names_are = c.in_ok-another.ensures.names in
    let locals_are : c.value.new.names.locals ≡ (binding_view x).name.text ∷ inner = ap (λ (m : InForce). m.locals) names_are in
    record {
      same = ap (λ (m : InForce). m.globals) names_are ∙ c.loop-binding.invariant.same;
      behind = rw locals_are (bindings_behind c.args.bindings.now c.loop-binding.binding-index x inner _ c.loop-binding-test.true c.binding-item.is c.loop-binding.invariant.behind);
      left = subst (λ ls. ValuesLeft n.globals n.locals c.args.bindings.now ls (drop (c.loop-binding.binding-index + 1) c.args.bindings.now) c.push.new.self.items) (sym locals_are) (values_more n.globals n.locals c.args.bindings.now inner c.loop-binding.binding-index x y c.loop-binding.all.items c.push.new.self.items c.loop-binding-test.true c.binding-item.is c.in_ok-push.ensures.items one c.loop-binding.invariant.left);
    }

pub values-returns-in_err-another-clause-value : goal.values-returns-in_err-another-clause-value
values-returns-in_err-another-clause-value t c =
    let n : InForce = c.args.names.now in
    let p = err_from_is_err_and c.from_residual.result c.from_residual.ensures.1 in
    let inner = c.loop-binding.names.locals in
    let told = subst (λ (g : Globals). IsTold c.in_err-another.field-0.0 (spec.faults_of g inner 0 (binding_view c.binding-item.result).value)) c.loop-binding.invariant.same c.in_err-another.ensures.value in
    rw (p.1, p.2) (values_fault n.globals n.locals c.args.bindings.now inner c.loop-binding.binding-index c.binding-item.result c.loop-binding.all.items c.in_err-another.field-0.0 c.loop-binding-test.true c.binding-item.is told c.loop-binding.invariant.left)

pub values-returns-clause-value : goal.values-returns-clause-value
values-returns-clause-value t c =
    let n : InForce = c.args.names.now in
    values_all n.globals n.locals c.args.bindings.now c.loop-binding.names.locals c.loop-binding.binding-index c.loop-binding.all.items c.loop-binding-test.false c.loop-binding.invariant.left

pub call-returns-then-not-takes-clause-value : goal.call-returns-then-not-takes-clause-value
call-returns-then-not-takes-clause-value t c own is =
    let n : InForce = c.args.names.now in
    let there = sym (ap option_copied c.in-Some-Brackets.is) ∙ c.first.ensures.value in
    let count : c.len.result ≡ length c.in-Some-Brackets.parts.items = omega (arith, c.len.ensures, ap vec_len c.in-Some-Brackets.parts-is) in
    let kept = subst (λ k. spec.takes (spec.header_at n.globals c.args.number) k ≡ false) count (sym c.if-not-takes.ensures) in
    let same = call_kept n.globals n.locals c.args.steps.now c.in-Some-Brackets.field-0.now c.in-Some-Brackets.field-0-0 c.in-Some-Brackets.parts c.args.place c.args.number own there c.in-Some-Brackets.field-0-is kept in
    plain_told n.globals n.locals c.args.steps.now c.plain.result c.args.place c.args.number own (seen.phrase_view c.args.called) is same c.plain.ensures.value

pub call-returns-in_err-arguments-in-Some-Brackets-clause-value : goal.call-returns-in_err-arguments-in-Some-Brackets-clause-value
call-returns-in_err-arguments-in-Some-Brackets-clause-value t c own is =
    let n : InForce = c.args.names.now in
    let p = err_from_is_err_and c.from_residual.result c.from_residual.ensures.1 in
    let there = sym (ap option_copied c.in-Some-Brackets.is) ∙ c.first.ensures.value in
    let same = c.deref.ensures.value ∙ ap (λ (v : Vec Node Global). v.items) c.in-Some-Brackets.parts-is in
    let told = subst (λ xs. IsTold c.in_err-arguments-in-Some-Brackets.field-0.0 (spec.all_faults n.globals n.locals (trees_of (views xs)))) same c.in_err-arguments-in-Some-Brackets.ensures.value in
    rw (p.1, p.2) (call_told n.globals n.locals c.args.steps.now c.in-Some-Brackets.field-0.now c.in-Some-Brackets.field-0-0 c.in-Some-Brackets.parts c.in_err-arguments-in-Some-Brackets.field-0.0 there c.in-Some-Brackets.field-0-is told)

pub call-returns-in_ok-path_of-in-Some-Brackets-clause-value : goal.call-returns-in_ok-path_of-in-Some-Brackets-clause-value
call-returns-in_ok-path_of-in-Some-Brackets-clause-value t c own is =
    let n : InForce = c.args.names.now in
    let there = sym (ap option_copied c.in-Some-Brackets.is) ∙ c.first.ensures.value in
    let count : c.len.result ≡ length c.in-Some-Brackets.parts.items = omega (arith, c.len.ensures, ap vec_len c.in-Some-Brackets.parts-is) in
    let taken = subst (λ k. spec.takes (spec.header_at n.globals c.args.number) k ≡ true) count (sym c.if-not-takes.ensures) in
    let arguments = c.in_ok-arguments-in-Some-Brackets.arguments in
    let rest = phrase.steps_of (map seen.step_view c.in_ok-rest-in-Some-Brackets.rest.items) in
    let more = steps_of (map step_view (drop 1 c.args.steps.now)) in
    let same = c.deref.ensures.value ∙ ap (λ (v : Vec Node Global). v.items) c.in-Some-Brackets.parts-is in
    let given = subst (λ xs. (spec.all_faults n.globals n.locals (trees_of (views xs)) ≡ []) × (seen.phrases_view arguments.items ≡ spec.all_resolved n.globals n.locals (trees_of (views xs)))) same c.in_ok-arguments-in-Some-Brackets.ensures.value in
    let behind = subst (λ (m : InForce). (spec.step_faults m.globals m.locals more ≡ []) × (rest ≡ spec.steps_resolved m.globals m.locals more)) c.in_ok-arguments-in-Some-Brackets.ensures.names c.in_ok-rest-in-Some-Brackets.ensures.value in
    let made = c.in_ok-path_of-in-Some-Brackets.ensures.1 ∙ ap (λ h. spec.path_of h rest) (called_seen c.args.place c.args.number arguments) in
    call_taken n.globals n.locals c.args.steps.now c.in-Some-Brackets.field-0.now c.in-Some-Brackets.field-0-0 c.in-Some-Brackets.parts c.args.place c.args.number own (seen.phrases_view arguments.items) rest (seen.phrase_view c.in_ok-path_of-in-Some-Brackets.field-0) there c.in-Some-Brackets.field-0-is taken given behind made

pub call-returns-in-Some-Join-clause-value : goal.call-returns-in-Some-Join-clause-value
call-returns-in-Some-Join-clause-value t c own is =
    let n : InForce = c.args.names.now in
    let there = sym (ap option_copied c.in-Some-Join.is) ∙ c.first.ensures.value in
    let same = call_joined n.globals n.locals c.args.steps.now c.in-Some-Join.field-0.now c.in-Some-Join.field-0-0 c.in-Some-Join.field-0-1 c.args.place c.args.number own there c.in-Some-Join.field-0-is in
    plain_told n.globals n.locals c.args.steps.now c.plain-in-Some-Join.result c.args.place c.args.number own (seen.phrase_view c.args.called) is same c.plain-in-Some-Join.ensures.value

pub path-returns-in-Called-clause-value : goal.path-returns-in-Called-clause-value
path-returns-in-Called-clause-value t c =
    let n : InForce = c.args.names.now in
    let is = ap seen.phrase_view c.in-Called.is ∙ called_seen c.in-Called.place c.in-Called.number c.in-Called.field-2 in
    let steps = steps_of (map step_view c.args.steps.now) in
    subst (λ (h : phrase.PhraseTree). Answers c.call.result (spec.step_faults n.globals n.locals steps) (λ x. seen.phrase_view x ≡ spec.with_steps n.globals h (spec.steps_resolved n.globals n.locals steps))) (sym is) (c.call.ensures.value (seen.phrases_view c.in-Called.field-2.items) is)

pub part-returns-in_ok-inner-in-Quantified-clause-names : goal.part-returns-in_ok-inner-in-Quantified-clause-names
part-returns-in_ok-inner-in-Quantified-clause-names t c =
    let n : InForce = c.args.names.now in
    let ds = declarations_of (map declaration_view c.deref-in-Quantified.result.now) in
    all_left n c.boxed-in-Quantified.new.names c.leave_until.new.names c.depth-depth.result (spec.behind_declarations n.locals ds) (declarations_inside ds n.locals) (c.in_ok-inner-in-Quantified.ensures.names ∙ c.in_ok-domains-in-Quantified.ensures.names) c.leave_until.ensures.left c.depth-depth.ensures

pub part-returns-in_ok-inner-in-Let-clause-names : goal.part-returns-in_ok-inner-in-Let-clause-names
part-returns-in_ok-inner-in-Let-clause-names t c =
    let n : InForce = c.args.names.now in
    let bs = bindings_of (map binding_view c.deref-in-Let.result.now) in
    all_left n c.boxed-in-Let.new.names c.leave_until-in-Let.new.names c.depth-depth-in-Let.result (spec.behind_bindings n.locals bs) (bindings_inside bs n.locals) (c.in_ok-inner-in-Let.ensures.names ∙ c.in_ok-values-in-Let.ensures.names) c.leave_until-in-Let.ensures.left c.depth-depth-in-Let.ensures

pub part-returns-in_err-boxed-in-Bracketed-clause-names : goal.part-returns-in_err-boxed-in-Bracketed-clause-names
part-returns-in_err-boxed-in-Bracketed-clause-names t c =
    nothing_made c.from_residual-in_err-boxed-in-Bracketed.result (c.boxed.new.names ≡ c.args.names.now) c.from_residual-in_err-boxed-in-Bracketed.ensures.0

pub part-returns-in_err-boxed-in-Bracketed-clause-value : goal.part-returns-in_err-boxed-in-Bracketed-clause-value
part-returns-in_err-boxed-in-Bracketed-clause-value t c =
    let n : InForce = c.args.names.now in
    let a = c.in-Bracketed in
    let e = c.in_err-boxed-in-Bracketed.field-0.0 in
    let told = told_at e n n c.deref.result.now a.inner.value refl c.deref.ensures c.in_err-boxed-in-Bracketed.ensures.value in
    handed (λ (x : Phrase). seen.phrase_view x ≡ spec.resolved n.globals n.locals (view c.args.node.now)) c.from_residual-in_err-boxed-in-Bracketed.result e (spec.faults_of n.globals n.locals c.args.behind (view c.args.node.now)) c.from_residual-in_err-boxed-in-Bracketed.ensures.1 (told_of n c.args.behind c.args.node.now (tree.bracketed a.place (view a.inner.value)) e (ap view a.is ∙ bracketed_node a.place a.inner) (told))

pub part-returns-in_ok-boxed-in-Bracketed-clause-names : goal.part-returns-in_ok-boxed-in-Bracketed-clause-names
part-returns-in_ok-boxed-in-Bracketed-clause-names t c =
    c.in_ok-boxed-in-Bracketed.ensures.names

pub part-returns-in_ok-boxed-in-Bracketed-clause-value : goal.part-returns-in_ok-boxed-in-Bracketed-clause-value
part-returns-in_ok-boxed-in-Bracketed-clause-value t c =
    let n : InForce = c.args.names.now in
    let a = c.in-Bracketed in
    let one = made_at (seen.phrase_view c.in_ok-boxed-in-Bracketed.field-0.value) n n c.deref.result.now a.inner.value refl c.deref.ensures c.in_ok-boxed-in-Bracketed.ensures.value in
    made_of n c.args.behind c.args.node.now (tree.bracketed a.place (view a.inner.value)) (seen.phrase_view (part.Bracketed a.place c.in_ok-boxed-in-Bracketed.field-0)) (ap view a.is ∙ bracketed_node a.place a.inner) ((one.0, bracketed_made n a.place a.inner c.in_ok-boxed-in-Bracketed.field-0 one))

pub part-returns-in_err-boxed-in-Prefixed-clause-names : goal.part-returns-in_err-boxed-in-Prefixed-clause-names
part-returns-in_err-boxed-in-Prefixed-clause-names t c =
    nothing_made c.from_residual-in_err-boxed-in-Prefixed.result (c.boxed-in-Prefixed.new.names ≡ c.args.names.now) c.from_residual-in_err-boxed-in-Prefixed.ensures.0

pub part-returns-in_err-boxed-in-Prefixed-clause-value : goal.part-returns-in_err-boxed-in-Prefixed-clause-value
part-returns-in_err-boxed-in-Prefixed-clause-value t c =
    let n : InForce = c.args.names.now in
    let a = c.in-Prefixed in
    let e = c.in_err-boxed-in-Prefixed.field-0.0 in
    let told = told_at e n n c.deref-in-Prefixed.result.now a.inner.value refl c.deref-in-Prefixed.ensures c.in_err-boxed-in-Prefixed.ensures.value in
    handed (λ (x : Phrase). seen.phrase_view x ≡ spec.resolved n.globals n.locals (view c.args.node.now)) c.from_residual-in_err-boxed-in-Prefixed.result e (spec.faults_of n.globals n.locals c.args.behind (view c.args.node.now)) c.from_residual-in_err-boxed-in-Prefixed.ensures.1 (told_of n c.args.behind c.args.node.now (tree.prefixed a.prefix a.place (view a.inner.value)) e (ap view a.is ∙ prefixed_node a.prefix a.place a.inner) (told))

pub part-returns-in_ok-boxed-in-Prefixed-clause-names : goal.part-returns-in_ok-boxed-in-Prefixed-clause-names
part-returns-in_ok-boxed-in-Prefixed-clause-names t c =
    c.in_ok-boxed-in-Prefixed.ensures.names

pub part-returns-in_ok-boxed-in-Prefixed-clause-value : goal.part-returns-in_ok-boxed-in-Prefixed-clause-value
part-returns-in_ok-boxed-in-Prefixed-clause-value t c =
    let n : InForce = c.args.names.now in
    let a = c.in-Prefixed in
    let one = made_at (seen.phrase_view c.in_ok-boxed-in-Prefixed.field-0.value) n n c.deref-in-Prefixed.result.now a.inner.value refl c.deref-in-Prefixed.ensures c.in_ok-boxed-in-Prefixed.ensures.value in
    made_of n c.args.behind c.args.node.now (tree.prefixed a.prefix a.place (view a.inner.value)) (seen.phrase_view (part.Prefixed a.prefix a.place c.in_ok-boxed-in-Prefixed.field-0)) (ap view a.is ∙ prefixed_node a.prefix a.place a.inner) ((one.0, prefixed_made n a.prefix a.place a.inner c.in_ok-boxed-in-Prefixed.field-0 one))

pub part-returns-in_err-left-in-Compared-clause-names : goal.part-returns-in_err-left-in-Compared-clause-names
part-returns-in_err-left-in-Compared-clause-names t c =
    nothing_made c.from_residual-in_err-left-in-Compared.result (c.boxed-in-Compared.new.names ≡ c.args.names.now) c.from_residual-in_err-left-in-Compared.ensures.0

pub part-returns-in_err-left-in-Compared-clause-value : goal.part-returns-in_err-left-in-Compared-clause-value
part-returns-in_err-left-in-Compared-clause-value t c =
    let n : InForce = c.args.names.now in
    let a = c.in-Compared in
    let e = c.in_err-left-in-Compared.field-0.0 in
    let told = told_at e n n c.deref-in-Compared.result.now a.left.value refl c.deref-in-Compared.ensures c.in_err-left-in-Compared.ensures.value in
    handed (λ (x : Phrase). seen.phrase_view x ≡ spec.resolved n.globals n.locals (view c.args.node.now)) c.from_residual-in_err-left-in-Compared.result e (spec.faults_of n.globals n.locals c.args.behind (view c.args.node.now)) c.from_residual-in_err-left-in-Compared.ensures.1 (told_of n c.args.behind c.args.node.now (tree.compared (view a.left.value) a.comparing (view a.right.value)) e (ap view a.is ∙ compared_node a.left a.comparing a.right) (told_first e (spec.faults_of n.globals n.locals 0 (view a.left.value)) (spec.faults_of n.globals n.locals 0 (view a.right.value)) told))

pub part-returns-in_err-boxed-in-Compared-clause-names : goal.part-returns-in_err-boxed-in-Compared-clause-names
part-returns-in_err-boxed-in-Compared-clause-names t c =
    nothing_made c.from_residual-in_err-boxed-in-Compared.result (c.boxed-in-Compared-2.new.names ≡ c.args.names.now) c.from_residual-in_err-boxed-in-Compared.ensures.0

pub part-returns-in_err-boxed-in-Compared-clause-value : goal.part-returns-in_err-boxed-in-Compared-clause-value
part-returns-in_err-boxed-in-Compared-clause-value t c =
    let n : InForce = c.args.names.now in
    let a = c.in-Compared in
    let e = c.in_err-boxed-in-Compared.field-0.0 in
    let one = made_at (seen.phrase_view c.in_ok-left-in-Compared.left.value) n n c.deref-in-Compared.result.now a.left.value refl c.deref-in-Compared.ensures c.in_ok-left-in-Compared.ensures.value in
    let told = told_at e c.boxed-in-Compared.new.names n c.deref-in-Compared-2.result.now a.right.value c.in_ok-left-in-Compared.ensures.names c.deref-in-Compared-2.ensures c.in_err-boxed-in-Compared.ensures.value in
    handed (λ (x : Phrase). seen.phrase_view x ≡ spec.resolved n.globals n.locals (view c.args.node.now)) c.from_residual-in_err-boxed-in-Compared.result e (spec.faults_of n.globals n.locals c.args.behind (view c.args.node.now)) c.from_residual-in_err-boxed-in-Compared.ensures.1 (told_of n c.args.behind c.args.node.now (tree.compared (view a.left.value) a.comparing (view a.right.value)) e (ap view a.is ∙ compared_node a.left a.comparing a.right) (told_second e (spec.faults_of n.globals n.locals 0 (view a.left.value)) (spec.faults_of n.globals n.locals 0 (view a.right.value)) one.0 told))

pub part-returns-in_ok-boxed-in-Compared-clause-names : goal.part-returns-in_ok-boxed-in-Compared-clause-names
part-returns-in_ok-boxed-in-Compared-clause-names t c =
    c.in_ok-boxed-in-Compared.ensures.names ∙ c.in_ok-left-in-Compared.ensures.names

pub part-returns-in_ok-boxed-in-Compared-clause-value : goal.part-returns-in_ok-boxed-in-Compared-clause-value
part-returns-in_ok-boxed-in-Compared-clause-value t c =
    let n : InForce = c.args.names.now in
    let a = c.in-Compared in
    let one = made_at (seen.phrase_view c.in_ok-left-in-Compared.left.value) n n c.deref-in-Compared.result.now a.left.value refl c.deref-in-Compared.ensures c.in_ok-left-in-Compared.ensures.value in
    let two = made_at (seen.phrase_view c.in_ok-boxed-in-Compared.field-0.value) c.boxed-in-Compared.new.names n c.deref-in-Compared-2.result.now a.right.value c.in_ok-left-in-Compared.ensures.names c.deref-in-Compared-2.ensures c.in_ok-boxed-in-Compared.ensures.value in
    made_of n c.args.behind c.args.node.now (tree.compared (view a.left.value) a.comparing (view a.right.value)) (seen.phrase_view (part.Compared c.in_ok-left-in-Compared.left a.comparing c.in_ok-boxed-in-Compared.field-0)) (ap view a.is ∙ compared_node a.left a.comparing a.right) ((none_in_both n a.left a.right c.in_ok-left-in-Compared.left c.in_ok-boxed-in-Compared.field-0 one two, compared_made n a.left a.right c.in_ok-left-in-Compared.left c.in_ok-boxed-in-Compared.field-0 a.comparing one two))

pub part-returns-in_err-left-in-Implies-clause-names : goal.part-returns-in_err-left-in-Implies-clause-names
part-returns-in_err-left-in-Implies-clause-names t c =
    nothing_made c.from_residual-in_err-left-in-Implies.result (c.boxed-in-Implies.new.names ≡ c.args.names.now) c.from_residual-in_err-left-in-Implies.ensures.0

pub part-returns-in_err-left-in-Implies-clause-value : goal.part-returns-in_err-left-in-Implies-clause-value
part-returns-in_err-left-in-Implies-clause-value t c =
    let n : InForce = c.args.names.now in
    let a = c.in-Implies in
    let e = c.in_err-left-in-Implies.field-0.0 in
    let told = told_at e n n c.deref-in-Implies.result.now a.left.value refl c.deref-in-Implies.ensures c.in_err-left-in-Implies.ensures.value in
    handed (λ (x : Phrase). seen.phrase_view x ≡ spec.resolved n.globals n.locals (view c.args.node.now)) c.from_residual-in_err-left-in-Implies.result e (spec.faults_of n.globals n.locals c.args.behind (view c.args.node.now)) c.from_residual-in_err-left-in-Implies.ensures.1 (told_of n c.args.behind c.args.node.now (tree.implies (view a.left.value) a.place (view a.right.value)) e (ap view a.is ∙ implies_node a.left a.place a.right) (told_first e (spec.faults_of n.globals n.locals 0 (view a.left.value)) (spec.faults_of n.globals n.locals 0 (view a.right.value)) told))

pub part-returns-in_err-boxed-in-Implies-clause-names : goal.part-returns-in_err-boxed-in-Implies-clause-names
part-returns-in_err-boxed-in-Implies-clause-names t c =
    nothing_made c.from_residual-in_err-boxed-in-Implies.result (c.boxed-in-Implies-2.new.names ≡ c.args.names.now) c.from_residual-in_err-boxed-in-Implies.ensures.0

pub part-returns-in_err-boxed-in-Implies-clause-value : goal.part-returns-in_err-boxed-in-Implies-clause-value
part-returns-in_err-boxed-in-Implies-clause-value t c =
    let n : InForce = c.args.names.now in
    let a = c.in-Implies in
    let e = c.in_err-boxed-in-Implies.field-0.0 in
    let one = made_at (seen.phrase_view c.in_ok-left-in-Implies.left.value) n n c.deref-in-Implies.result.now a.left.value refl c.deref-in-Implies.ensures c.in_ok-left-in-Implies.ensures.value in
    let told = told_at e c.boxed-in-Implies.new.names n c.deref-in-Implies-2.result.now a.right.value c.in_ok-left-in-Implies.ensures.names c.deref-in-Implies-2.ensures c.in_err-boxed-in-Implies.ensures.value in
    handed (λ (x : Phrase). seen.phrase_view x ≡ spec.resolved n.globals n.locals (view c.args.node.now)) c.from_residual-in_err-boxed-in-Implies.result e (spec.faults_of n.globals n.locals c.args.behind (view c.args.node.now)) c.from_residual-in_err-boxed-in-Implies.ensures.1 (told_of n c.args.behind c.args.node.now (tree.implies (view a.left.value) a.place (view a.right.value)) e (ap view a.is ∙ implies_node a.left a.place a.right) (told_second e (spec.faults_of n.globals n.locals 0 (view a.left.value)) (spec.faults_of n.globals n.locals 0 (view a.right.value)) one.0 told))

pub part-returns-in_ok-boxed-in-Implies-clause-names : goal.part-returns-in_ok-boxed-in-Implies-clause-names
part-returns-in_ok-boxed-in-Implies-clause-names t c =
    c.in_ok-boxed-in-Implies.ensures.names ∙ c.in_ok-left-in-Implies.ensures.names

pub part-returns-in_ok-boxed-in-Implies-clause-value : goal.part-returns-in_ok-boxed-in-Implies-clause-value
part-returns-in_ok-boxed-in-Implies-clause-value t c =
    let n : InForce = c.args.names.now in
    let a = c.in-Implies in
    let one = made_at (seen.phrase_view c.in_ok-left-in-Implies.left.value) n n c.deref-in-Implies.result.now a.left.value refl c.deref-in-Implies.ensures c.in_ok-left-in-Implies.ensures.value in
    let two = made_at (seen.phrase_view c.in_ok-boxed-in-Implies.field-0.value) c.boxed-in-Implies.new.names n c.deref-in-Implies-2.result.now a.right.value c.in_ok-left-in-Implies.ensures.names c.deref-in-Implies-2.ensures c.in_ok-boxed-in-Implies.ensures.value in
    made_of n c.args.behind c.args.node.now (tree.implies (view a.left.value) a.place (view a.right.value)) (seen.phrase_view (part.Implies c.in_ok-left-in-Implies.left a.place c.in_ok-boxed-in-Implies.field-0)) (ap view a.is ∙ implies_node a.left a.place a.right) ((none_in_both n a.left a.right c.in_ok-left-in-Implies.left c.in_ok-boxed-in-Implies.field-0 one two, implies_made n a.left a.right c.in_ok-left-in-Implies.left c.in_ok-boxed-in-Implies.field-0 a.place one two))

pub part-returns-in_err-left-in-ImpliesElse-clause-names : goal.part-returns-in_err-left-in-ImpliesElse-clause-names
part-returns-in_err-left-in-ImpliesElse-clause-names t c =
    nothing_made c.from_residual-in_err-left-in-ImpliesElse.result (c.boxed-in-ImpliesElse.new.names ≡ c.args.names.now) c.from_residual-in_err-left-in-ImpliesElse.ensures.0

pub part-returns-in_err-left-in-ImpliesElse-clause-value : goal.part-returns-in_err-left-in-ImpliesElse-clause-value
part-returns-in_err-left-in-ImpliesElse-clause-value t c =
    let n : InForce = c.args.names.now in
    let a = c.in-ImpliesElse in
    let e = c.in_err-left-in-ImpliesElse.field-0.0 in
    let told = told_at e n n c.deref-in-ImpliesElse.result.now a.left.value refl c.deref-in-ImpliesElse.ensures c.in_err-left-in-ImpliesElse.ensures.value in
    handed (λ (x : Phrase). seen.phrase_view x ≡ spec.resolved n.globals n.locals (view c.args.node.now)) c.from_residual-in_err-left-in-ImpliesElse.result e (spec.faults_of n.globals n.locals c.args.behind (view c.args.node.now)) c.from_residual-in_err-left-in-ImpliesElse.ensures.1 (told_of n c.args.behind c.args.node.now (tree.implies_else (view a.left.value) a.place (view a.right.value) (view a.other.value)) e (ap view a.is ∙ else_node a.left a.place a.right a.other) (told_first e (spec.faults_of n.globals n.locals 0 (view a.left.value) ++ spec.faults_of n.globals n.locals 0 (view a.right.value)) (spec.faults_of n.globals n.locals 0 (view a.other.value)) (told_first e (spec.faults_of n.globals n.locals 0 (view a.left.value)) (spec.faults_of n.globals n.locals 0 (view a.right.value)) told)))

pub part-returns-in_err-right-in-ImpliesElse-clause-names : goal.part-returns-in_err-right-in-ImpliesElse-clause-names
part-returns-in_err-right-in-ImpliesElse-clause-names t c =
    nothing_made c.from_residual-in_err-right-in-ImpliesElse.result (c.boxed-in-ImpliesElse-2.new.names ≡ c.args.names.now) c.from_residual-in_err-right-in-ImpliesElse.ensures.0

pub part-returns-in_err-right-in-ImpliesElse-clause-value : goal.part-returns-in_err-right-in-ImpliesElse-clause-value
part-returns-in_err-right-in-ImpliesElse-clause-value t c =
    let n : InForce = c.args.names.now in
    let a = c.in-ImpliesElse in
    let e = c.in_err-right-in-ImpliesElse.field-0.0 in
    let one = made_at (seen.phrase_view c.in_ok-left-in-ImpliesElse.left.value) n n c.deref-in-ImpliesElse.result.now a.left.value refl c.deref-in-ImpliesElse.ensures c.in_ok-left-in-ImpliesElse.ensures.value in
    let told = told_at e c.boxed-in-ImpliesElse.new.names n c.deref-in-ImpliesElse-2.result.now a.right.value c.in_ok-left-in-ImpliesElse.ensures.names c.deref-in-ImpliesElse-2.ensures c.in_err-right-in-ImpliesElse.ensures.value in
    handed (λ (x : Phrase). seen.phrase_view x ≡ spec.resolved n.globals n.locals (view c.args.node.now)) c.from_residual-in_err-right-in-ImpliesElse.result e (spec.faults_of n.globals n.locals c.args.behind (view c.args.node.now)) c.from_residual-in_err-right-in-ImpliesElse.ensures.1 (told_of n c.args.behind c.args.node.now (tree.implies_else (view a.left.value) a.place (view a.right.value) (view a.other.value)) e (ap view a.is ∙ else_node a.left a.place a.right a.other) (told_first e (spec.faults_of n.globals n.locals 0 (view a.left.value) ++ spec.faults_of n.globals n.locals 0 (view a.right.value)) (spec.faults_of n.globals n.locals 0 (view a.other.value)) (told_second e (spec.faults_of n.globals n.locals 0 (view a.left.value)) (spec.faults_of n.globals n.locals 0 (view a.right.value)) one.0 told)))

pub part-returns-in_err-boxed-in-ImpliesElse-clause-names : goal.part-returns-in_err-boxed-in-ImpliesElse-clause-names
part-returns-in_err-boxed-in-ImpliesElse-clause-names t c =
    nothing_made c.from_residual-in_err-boxed-in-ImpliesElse.result (c.boxed-in-ImpliesElse-3.new.names ≡ c.args.names.now) c.from_residual-in_err-boxed-in-ImpliesElse.ensures.0

pub part-returns-in_err-boxed-in-ImpliesElse-clause-value : goal.part-returns-in_err-boxed-in-ImpliesElse-clause-value
part-returns-in_err-boxed-in-ImpliesElse-clause-value t c =
    let n : InForce = c.args.names.now in
    let a = c.in-ImpliesElse in
    let e = c.in_err-boxed-in-ImpliesElse.field-0.0 in
    let one = made_at (seen.phrase_view c.in_ok-left-in-ImpliesElse.left.value) n n c.deref-in-ImpliesElse.result.now a.left.value refl c.deref-in-ImpliesElse.ensures c.in_ok-left-in-ImpliesElse.ensures.value in
    let two = made_at (seen.phrase_view c.in_ok-right-in-ImpliesElse.right.value) c.boxed-in-ImpliesElse.new.names n c.deref-in-ImpliesElse-2.result.now a.right.value c.in_ok-left-in-ImpliesElse.ensures.names c.deref-in-ImpliesElse-2.ensures c.in_ok-right-in-ImpliesElse.ensures.value in
    let right_names = c.in_ok-right-in-ImpliesElse.ensures.names ∙ c.in_ok-left-in-ImpliesElse.ensures.names in
    let told = told_at e c.boxed-in-ImpliesElse-2.new.names n c.deref-in-ImpliesElse-3.result.now a.other.value right_names c.deref-in-ImpliesElse-3.ensures c.in_err-boxed-in-ImpliesElse.ensures.value in
    handed (λ (x : Phrase). seen.phrase_view x ≡ spec.resolved n.globals n.locals (view c.args.node.now)) c.from_residual-in_err-boxed-in-ImpliesElse.result e (spec.faults_of n.globals n.locals c.args.behind (view c.args.node.now)) c.from_residual-in_err-boxed-in-ImpliesElse.ensures.1 (told_of n c.args.behind c.args.node.now (tree.implies_else (view a.left.value) a.place (view a.right.value) (view a.other.value)) e (ap view a.is ∙ else_node a.left a.place a.right a.other) (told_second e (spec.faults_of n.globals n.locals 0 (view a.left.value) ++ spec.faults_of n.globals n.locals 0 (view a.right.value)) (spec.faults_of n.globals n.locals 0 (view a.other.value)) (none_in_both n a.left a.right c.in_ok-left-in-ImpliesElse.left c.in_ok-right-in-ImpliesElse.right one two) told))

pub part-returns-in_ok-boxed-in-ImpliesElse-clause-names : goal.part-returns-in_ok-boxed-in-ImpliesElse-clause-names
part-returns-in_ok-boxed-in-ImpliesElse-clause-names t c =
    c.in_ok-boxed-in-ImpliesElse.ensures.names ∙ (c.in_ok-right-in-ImpliesElse.ensures.names ∙ c.in_ok-left-in-ImpliesElse.ensures.names)

pub part-returns-in_ok-boxed-in-ImpliesElse-clause-value : goal.part-returns-in_ok-boxed-in-ImpliesElse-clause-value
part-returns-in_ok-boxed-in-ImpliesElse-clause-value t c =
    let n : InForce = c.args.names.now in
    let a = c.in-ImpliesElse in
    let one = made_at (seen.phrase_view c.in_ok-left-in-ImpliesElse.left.value) n n c.deref-in-ImpliesElse.result.now a.left.value refl c.deref-in-ImpliesElse.ensures c.in_ok-left-in-ImpliesElse.ensures.value in
    let two = made_at (seen.phrase_view c.in_ok-right-in-ImpliesElse.right.value) c.boxed-in-ImpliesElse.new.names n c.deref-in-ImpliesElse-2.result.now a.right.value c.in_ok-left-in-ImpliesElse.ensures.names c.deref-in-ImpliesElse-2.ensures c.in_ok-right-in-ImpliesElse.ensures.value in
    let right_names = c.in_ok-right-in-ImpliesElse.ensures.names ∙ c.in_ok-left-in-ImpliesElse.ensures.names in
    let three = made_at (seen.phrase_view c.in_ok-boxed-in-ImpliesElse.field-0.value) c.boxed-in-ImpliesElse-2.new.names n c.deref-in-ImpliesElse-3.result.now a.other.value right_names c.deref-in-ImpliesElse-3.ensures c.in_ok-boxed-in-ImpliesElse.ensures.value in
    made_of n c.args.behind c.args.node.now (tree.implies_else (view a.left.value) a.place (view a.right.value) (view a.other.value)) (seen.phrase_view (part.ImpliesElse c.in_ok-left-in-ImpliesElse.left a.place c.in_ok-right-in-ImpliesElse.right c.in_ok-boxed-in-ImpliesElse.field-0)) (ap view a.is ∙ else_node a.left a.place a.right a.other) ((ap (λ fs. fs ++ spec.faults_of n.globals n.locals 0 (view a.other.value)) (none_in_both n a.left a.right c.in_ok-left-in-ImpliesElse.left c.in_ok-right-in-ImpliesElse.right one two) ∙ three.0, else_made n a.left a.right c.in_ok-left-in-ImpliesElse.left c.in_ok-right-in-ImpliesElse.right a.place a.other c.in_ok-boxed-in-ImpliesElse.field-0 one two three))

pub part-returns-in_err-domains-in-Quantified-clause-names : goal.part-returns-in_err-domains-in-Quantified-clause-names
part-returns-in_err-domains-in-Quantified-clause-names t c =
    nothing_made c.from_residual-in_err-domains-in-Quantified.result (c.domains.new.names ≡ c.args.names.now) c.from_residual-in_err-domains-in-Quantified.ensures.0

pub part-returns-in_err-first-in-Chain-clause-names : goal.part-returns-in_err-first-in-Chain-clause-names
part-returns-in_err-first-in-Chain-clause-names t c =
    nothing_made c.from_residual-in_err-first-in-Chain.result (c.boxed-in-Chain.new.names ≡ c.args.names.now) c.from_residual-in_err-first-in-Chain.ensures.0

pub part-returns-in_err-formulas-in-Block-clause-names : goal.part-returns-in_err-formulas-in-Block-clause-names
part-returns-in_err-formulas-in-Block-clause-names t c =
    nothing_made c.from_residual-in_err-formulas-in-Block.result (c.formulas.new.names ≡ c.args.names.now) c.from_residual-in_err-formulas-in-Block.ensures.0

pub part-returns-in_err-head-in-Path-clause-names : goal.part-returns-in_err-head-in-Path-clause-names
part-returns-in_err-head-in-Path-clause-names t c =
    nothing_made c.from_residual-in_err-head-in-Path.result (c.part.new.names ≡ c.args.names.now) c.from_residual-in_err-head-in-Path.ensures.0

pub part-returns-in_err-inner-in-Let-clause-names : goal.part-returns-in_err-inner-in-Let-clause-names
part-returns-in_err-inner-in-Let-clause-names t c =
    nothing_made c.from_residual-in_err-inner-in-Let.result (c.boxed-in-Let.new.names ≡ c.args.names.now) c.from_residual-in_err-inner-in-Let.ensures.0

pub part-returns-in_err-inner-in-Quantified-clause-names : goal.part-returns-in_err-inner-in-Quantified-clause-names
part-returns-in_err-inner-in-Quantified-clause-names t c =
    nothing_made c.from_residual-in_err-inner-in-Quantified.result (c.boxed-in-Quantified.new.names ≡ c.args.names.now) c.from_residual-in_err-inner-in-Quantified.ensures.0

pub part-returns-in_err-links-in-Chain-clause-names : goal.part-returns-in_err-links-in-Chain-clause-names
part-returns-in_err-links-in-Chain-clause-names t c =
    nothing_made c.from_residual-in_err-links-in-Chain.result (c.links.new.names ≡ c.args.names.now) c.from_residual-in_err-links-in-Chain.ensures.0

pub part-returns-in_err-path-in-Path-clause-names : goal.part-returns-in_err-path-in-Path-clause-names
part-returns-in_err-path-in-Path-clause-names t c =
    nothing_made c.from_residual-in_err-path-in-Path.result (c.path.new.names ≡ c.args.names.now) c.from_residual-in_err-path-in-Path.ensures.0

pub part-returns-in_err-values-in-Let-clause-names : goal.part-returns-in_err-values-in-Let-clause-names
part-returns-in_err-values-in-Let-clause-names t c =
    nothing_made c.from_residual-in_err-values-in-Let.result (c.values.new.names ≡ c.args.names.now) c.from_residual-in_err-values-in-Let.ensures.0

pub part-returns-in_err-first-in-Chain-clause-value : goal.part-returns-in_err-first-in-Chain-clause-value
part-returns-in_err-first-in-Chain-clause-value t c =
    let n : InForce = c.args.names.now in
    let a = c.in-Chain in
    let e = c.in_err-first-in-Chain.field-0.0 in
    let told = told_at e n n c.deref-in-Chain.result.now a.first.value refl c.deref-in-Chain.ensures c.in_err-first-in-Chain.ensures.value in
    handed (λ (x : Phrase). seen.phrase_view x ≡ spec.resolved n.globals n.locals (view c.args.node.now)) c.from_residual-in_err-first-in-Chain.result e (spec.faults_of n.globals n.locals c.args.behind (view c.args.node.now)) c.from_residual-in_err-first-in-Chain.ensures.1 (told_of n c.args.behind c.args.node.now (tree.chain (view a.first.value) (links_of (map link_view a.others.items))) e (ap view a.is ∙ chain_node a.first a.others) (told_first e (spec.faults_of n.globals n.locals 0 (view a.first.value)) (spec.link_faults n.globals n.locals (links_of (map link_view a.others.items))) told))

pub part-returns-in_err-links-in-Chain-clause-value : goal.part-returns-in_err-links-in-Chain-clause-value
part-returns-in_err-links-in-Chain-clause-value t c =
    let n : InForce = c.args.names.now in
    let a = c.in-Chain in
    let e = c.in_err-links-in-Chain.field-0.0 in
    let one = made_at (seen.phrase_view c.in_ok-first-in-Chain.first.value) n n c.deref-in-Chain.result.now a.first.value refl c.deref-in-Chain.ensures c.in_ok-first-in-Chain.ensures.value in
    let links = subst (λ (m : InForce). IsTold e (spec.link_faults m.globals m.locals (links_of (map link_view c.deref-in-Chain-2.result.now)))) c.in_ok-first-in-Chain.ensures.names c.in_err-links-in-Chain.ensures.value in
    let told = subst (λ xs. IsTold e (spec.link_faults n.globals n.locals (links_of (map link_view xs)))) c.deref-in-Chain-2.ensures.value links in
    handed (λ (x : Phrase). seen.phrase_view x ≡ spec.resolved n.globals n.locals (view c.args.node.now)) c.from_residual-in_err-links-in-Chain.result e (spec.faults_of n.globals n.locals c.args.behind (view c.args.node.now)) c.from_residual-in_err-links-in-Chain.ensures.1 (told_of n c.args.behind c.args.node.now (tree.chain (view a.first.value) (links_of (map link_view a.others.items))) e (ap view a.is ∙ chain_node a.first a.others) (told_second e (spec.faults_of n.globals n.locals 0 (view a.first.value)) (spec.link_faults n.globals n.locals (links_of (map link_view a.others.items))) one.0 told))

pub part-returns-in_err-formulas-in-Block-clause-value : goal.part-returns-in_err-formulas-in-Block-clause-value
part-returns-in_err-formulas-in-Block-clause-value t c =
    let n : InForce = c.args.names.now in
    let a = c.in-Block in
    let e = c.in_err-formulas-in-Block.field-0.0 in
    let told = subst (λ xs. IsTold e (spec.all_faults n.globals n.locals (trees_of (views xs)))) c.deref-in-Block.ensures.value c.in_err-formulas-in-Block.ensures.value in
    handed (λ (x : Phrase). seen.phrase_view x ≡ spec.resolved n.globals n.locals (view c.args.node.now)) c.from_residual-in_err-formulas-in-Block.result e (spec.faults_of n.globals n.locals c.args.behind (view c.args.node.now)) c.from_residual-in_err-formulas-in-Block.ensures.1 (told_of n c.args.behind c.args.node.now (tree.block a.place (trees_of (views a.nodes.items))) e (ap view a.is ∙ block_node a.place a.nodes) (told))

pub part-returns-in_ok-formulas-in-Block-clause-names : goal.part-returns-in_ok-formulas-in-Block-clause-names
part-returns-in_ok-formulas-in-Block-clause-names t c =
    c.in_ok-formulas-in-Block.ensures.names

pub part-returns-in_ok-links-in-Chain-clause-names : goal.part-returns-in_ok-links-in-Chain-clause-names
part-returns-in_ok-links-in-Chain-clause-names t c =
    c.in_ok-links-in-Chain.ensures.names ∙ c.in_ok-first-in-Chain.ensures.names

pub part-returns-in_ok-path-in-Path-clause-names : goal.part-returns-in_ok-path-in-Path-clause-names
part-returns-in_ok-path-in-Path-clause-names t c =
    c.in_ok-path-in-Path.ensures.names ∙ c.in_ok-head-in-Path.ensures.names

pub part-returns-in-Constant-clause-names : goal.part-returns-in-Constant-clause-names
part-returns-in-Constant-clause-names t c =
    refl

pub part-returns-in-Numbered-clause-names : goal.part-returns-in-Numbered-clause-names
part-returns-in-Numbered-clause-names t c =
    refl

pub part-returns-in_ok-tied-in-Named-clause-names : goal.part-returns-in_ok-tied-in-Named-clause-names
part-returns-in_ok-tied-in-Named-clause-names t c =
    refl

pub part-returns-in_err-tied-in-Named-clause-value : goal.part-returns-in_err-tied-in-Named-clause-value
part-returns-in_err-tied-in-Named-clause-value t c =
    let n : InForce = c.args.names.now in
    let a = c.in-Named in
    handed (λ (x : Phrase). seen.phrase_view x ≡ spec.resolved n.globals n.locals (view c.args.node.now)) c.from_residual.result c.in_err-tied-in-Named.field-0.0 (spec.faults_of n.globals n.locals c.args.behind (view c.args.node.now)) c.from_residual.ensures.1 (named_told n c.args.behind c.args.node.now a.name c.in_err-tied-in-Named.field-0.0 a.is c.in_err-tied-in-Named.ensures)

pub part-returns-in_ok-tied-in-Named-clause-value : goal.part-returns-in_ok-tied-in-Named-clause-value
part-returns-in_ok-tied-in-Named-clause-value t c =
    let n : InForce = c.args.names.now in
    let a = c.in-Named in
    named_made n c.args.behind c.args.node.now a.name (seen.phrase_view c.in_ok-tied-in-Named.field-0) a.is c.in_ok-tied-in-Named.ensures

pub part-returns-in-Numbered-clause-value : goal.part-returns-in-Numbered-clause-value
part-returns-in-Numbered-clause-value t c =
    let n : InForce = c.args.names.now in
    let a = c.in-Numbered in
    numbered_made n c.args.behind c.args.node.now a.number a.is

pub part-returns-in-Constant-clause-value : goal.part-returns-in-Constant-clause-value
part-returns-in-Constant-clause-value t c =
    let n : InForce = c.args.names.now in
    let a = c.in-Constant in
    constant_made n c.args.behind c.args.node.now a.constant a.place a.is

pub part-returns-in_ok-formulas-in-Block-clause-value : goal.part-returns-in_ok-formulas-in-Block-clause-value
part-returns-in_ok-formulas-in-Block-clause-value t c =
    let n : InForce = c.args.names.now in
    let a = c.in-Block in
    let made = moved (AllMade (seen.phrases_view c.in_ok-formulas-in-Block.field-0.items)) n n c.deref-in-Block.result.now a.nodes.items refl c.deref-in-Block.ensures.value c.in_ok-formulas-in-Block.ensures.value in
    block_made n c.args.behind c.args.node.now a.place a.nodes c.in_ok-formulas-in-Block.field-0 a.is made

pub part-returns-in_ok-links-in-Chain-clause-value : goal.part-returns-in_ok-links-in-Chain-clause-value
part-returns-in_ok-links-in-Chain-clause-value t c =
    let n : InForce = c.args.names.now in
    let a = c.in-Chain in
    let first = c.in_ok-first-in-Chain.first in
    let links = c.in_ok-links-in-Chain.field-0 in
    let one = made_at (seen.phrase_view first.value) n n c.deref-in-Chain.result.now a.first.value refl c.deref-in-Chain.ensures c.in_ok-first-in-Chain.ensures.value in
    let two = moved (LinksMade (phrase.links_of (map seen.link_view links.items))) c.boxed-in-Chain.new.names n c.deref-in-Chain-2.result.now a.others.items c.in_ok-first-in-Chain.ensures.names c.deref-in-Chain-2.ensures.value c.in_ok-links-in-Chain.ensures.value in
    chain_made n c.args.behind c.args.node.now a.first a.others first links a.is one two

pub part-returns-in_err-head-in-Path-clause-value : goal.part-returns-in_err-head-in-Path-clause-value
part-returns-in_err-head-in-Path-clause-value t c =
    let n : InForce = c.args.names.now in
    let a = c.in-Path in
    let count = c.bracketed_in.ensures ∙ ap bracketed c.deref-in-Path.ensures.value in
    let e = c.in_err-head-in-Path.field-0.0 in
    let told = moved (HeadTold n e) c.bracketed_in.result (bracketed a.steps.items) c.deref-in-Path-2.result.now a.head.value count c.deref-in-Path-2.ensures c.in_err-head-in-Path.ensures.value in
    handed (λ (x : Phrase). seen.phrase_view x ≡ spec.resolved n.globals n.locals (view c.args.node.now)) c.from_residual-in_err-head-in-Path.result e (spec.faults_of n.globals n.locals c.args.behind (view c.args.node.now)) c.from_residual-in_err-head-in-Path.ensures.1 (head_told n c.args.behind c.args.node.now a.head a.steps a.is e told)

pub part-returns-in_err-path-in-Path-clause-value : goal.part-returns-in_err-path-in-Path-clause-value
part-returns-in_err-path-in-Path-clause-value t c =
    let n : InForce = c.args.names.now in
    let a = c.in-Path in
    let count = c.bracketed_in.ensures ∙ ap bracketed c.deref-in-Path.ensures.value in
    let e = c.in_err-path-in-Path.field-0.0 in
    let head = seen.phrase_view c.in_ok-head-in-Path.head in
    let one = moved (HeadMade n head) c.bracketed_in.result (bracketed a.steps.items) c.deref-in-Path-2.result.now a.head.value count c.deref-in-Path-2.ensures c.in_ok-head-in-Path.ensures.value in
    let told = moved (StepsTold e) c.part.new.names n c.deref-in-Path-3.result.now a.steps.items c.in_ok-head-in-Path.ensures.names c.deref-in-Path-3.ensures.value c.in_err-path-in-Path.ensures.value in
    handed (λ (x : Phrase). seen.phrase_view x ≡ spec.resolved n.globals n.locals (view c.args.node.now)) c.from_residual-in_err-path-in-Path.result e (spec.faults_of n.globals n.locals c.args.behind (view c.args.node.now)) c.from_residual-in_err-path-in-Path.ensures.1 (steps_told n c.args.behind c.args.node.now a.head a.steps a.is head one e told)

pub part-returns-in_ok-path-in-Path-clause-value : goal.part-returns-in_ok-path-in-Path-clause-value
part-returns-in_ok-path-in-Path-clause-value t c =
    let n : InForce = c.args.names.now in
    let a = c.in-Path in
    let count = c.bracketed_in.ensures ∙ ap bracketed c.deref-in-Path.ensures.value in
    let head = seen.phrase_view c.in_ok-head-in-Path.head in
    let one = moved (HeadMade n head) c.bracketed_in.result (bracketed a.steps.items) c.deref-in-Path-2.result.now a.head.value count c.deref-in-Path-2.ensures c.in_ok-head-in-Path.ensures.value in
    let whole = seen.phrase_view c.in_ok-path-in-Path.field-0 in
    let two = moved (PathMade head whole) c.part.new.names n c.deref-in-Path-3.result.now a.steps.items c.in_ok-head-in-Path.ensures.names c.deref-in-Path-3.ensures.value c.in_ok-path-in-Path.ensures.value in
    path_made n c.args.behind c.args.node.now a.head a.steps a.is head one whole two

pub part-returns-in_err-domains-in-Quantified-clause-value : goal.part-returns-in_err-domains-in-Quantified-clause-value
part-returns-in_err-domains-in-Quantified-clause-value t c =
    let n : InForce = c.args.names.now in
    let a = c.in-Quantified in
    let e = c.in_err-domains-in-Quantified.field-0.0 in
    let told = moved (DomainsTold e) n n c.deref-in-Quantified.result.now a.declarations.items refl c.deref-in-Quantified.ensures.value c.in_err-domains-in-Quantified.ensures.value in
    handed (λ (x : Phrase). seen.phrase_view x ≡ spec.resolved n.globals n.locals (view c.args.node.now)) c.from_residual-in_err-domains-in-Quantified.result e (spec.faults_of n.globals n.locals c.args.behind (view c.args.node.now)) c.from_residual-in_err-domains-in-Quantified.ensures.1 (domains_told n c.args.behind c.args.node.now a.quantifier a.place a.declarations a.inner a.is e told)

pub part-returns-in_err-inner-in-Quantified-clause-value : goal.part-returns-in_err-inner-in-Quantified-clause-value
part-returns-in_err-inner-in-Quantified-clause-value t c =
    let n : InForce = c.args.names.now in
    let a = c.in-Quantified in
    let e = c.in_err-inner-in-Quantified.field-0.0 in
    let domains = c.in_ok-domains-in-Quantified.domains in
    let found = phrase.domains_of (map seen.domain_view domains.items) in
    let one = moved (DomainsMade found) n n c.deref-in-Quantified.result.now a.declarations.items refl c.deref-in-Quantified.ensures.value c.in_ok-domains-in-Quantified.ensures.value in
    let names = c.in_ok-domains-in-Quantified.ensures.names ∙ ap (behind_domains n) c.deref-in-Quantified.ensures.value in
    let told = told_at e c.domains.new.names (behind_domains n a.declarations.items) c.deref-in-Quantified-2.result.now a.inner.value names c.deref-in-Quantified-2.ensures c.in_err-inner-in-Quantified.ensures.value in
    handed (λ (x : Phrase). seen.phrase_view x ≡ spec.resolved n.globals n.locals (view c.args.node.now)) c.from_residual-in_err-inner-in-Quantified.result e (spec.faults_of n.globals n.locals c.args.behind (view c.args.node.now)) c.from_residual-in_err-inner-in-Quantified.ensures.1 (within_told n c.args.behind c.args.node.now a.quantifier a.place a.declarations a.inner a.is found one e told)

pub part-returns-in_ok-inner-in-Quantified-clause-value : goal.part-returns-in_ok-inner-in-Quantified-clause-value
part-returns-in_ok-inner-in-Quantified-clause-value t c =
    let n : InForce = c.args.names.now in
    let a = c.in-Quantified in
    let domains = c.in_ok-domains-in-Quantified.domains in
    let found = phrase.domains_of (map seen.domain_view domains.items) in
    let one = moved (DomainsMade found) n n c.deref-in-Quantified.result.now a.declarations.items refl c.deref-in-Quantified.ensures.value c.in_ok-domains-in-Quantified.ensures.value in
    let names = c.in_ok-domains-in-Quantified.ensures.names ∙ ap (behind_domains n) c.deref-in-Quantified.ensures.value in
    let inner = c.in_ok-inner-in-Quantified.inner in
    let two = made_at (seen.phrase_view inner.value) c.domains.new.names (behind_domains n a.declarations.items) c.deref-in-Quantified-2.result.now a.inner.value names c.deref-in-Quantified-2.ensures c.in_ok-inner-in-Quantified.ensures.value in
    quantified_made n c.args.behind c.args.node.now a.quantifier a.place a.declarations a.inner a.is found one domains inner refl two

pub part-returns-in_err-values-in-Let-clause-value : goal.part-returns-in_err-values-in-Let-clause-value
part-returns-in_err-values-in-Let-clause-value t c =
    let n : InForce = c.args.names.now in
    let a = c.in-Let in
    let e = c.in_err-values-in-Let.field-0.0 in
    let told = moved (ValuesTold e) n n c.deref-in-Let.result.now a.bindings.items refl c.deref-in-Let.ensures.value c.in_err-values-in-Let.ensures.value in
    handed (λ (x : Phrase). seen.phrase_view x ≡ spec.resolved n.globals n.locals (view c.args.node.now)) c.from_residual-in_err-values-in-Let.result e (spec.faults_of n.globals n.locals c.args.behind (view c.args.node.now)) c.from_residual-in_err-values-in-Let.ensures.1 (values_told n c.args.behind c.args.node.now a.place a.bindings a.inner a.is e told)

pub part-returns-in_err-inner-in-Let-clause-value : goal.part-returns-in_err-inner-in-Let-clause-value
part-returns-in_err-inner-in-Let-clause-value t c =
    let n : InForce = c.args.names.now in
    let a = c.in-Let in
    let e = c.in_err-inner-in-Let.field-0.0 in
    let values = c.in_ok-values-in-Let.values in
    let found = seen.phrases_view values.items in
    let one = moved (ValuesMade found) n n c.deref-in-Let.result.now a.bindings.items refl c.deref-in-Let.ensures.value c.in_ok-values-in-Let.ensures.value in
    let names = c.in_ok-values-in-Let.ensures.names ∙ ap (behind_values n) c.deref-in-Let.ensures.value in
    let told = told_at e c.values.new.names (behind_values n a.bindings.items) c.deref-in-Let-2.result.now a.inner.value names c.deref-in-Let-2.ensures c.in_err-inner-in-Let.ensures.value in
    handed (λ (x : Phrase). seen.phrase_view x ≡ spec.resolved n.globals n.locals (view c.args.node.now)) c.from_residual-in_err-inner-in-Let.result e (spec.faults_of n.globals n.locals c.args.behind (view c.args.node.now)) c.from_residual-in_err-inner-in-Let.ensures.1 (inner_told n c.args.behind c.args.node.now a.place a.bindings a.inner a.is found one e told)

pub part-returns-in_ok-inner-in-Let-clause-value : goal.part-returns-in_ok-inner-in-Let-clause-value
part-returns-in_ok-inner-in-Let-clause-value t c =
    let n : InForce = c.args.names.now in
    let a = c.in-Let in
    let values = c.in_ok-values-in-Let.values in
    let found = seen.phrases_view values.items in
    let one = moved (ValuesMade found) n n c.deref-in-Let.result.now a.bindings.items refl c.deref-in-Let.ensures.value c.in_ok-values-in-Let.ensures.value in
    let names = c.in_ok-values-in-Let.ensures.names ∙ ap (behind_values n) c.deref-in-Let.ensures.value in
    let inner = c.in_ok-inner-in-Let.inner in
    let two = made_at (seen.phrase_view inner.value) c.values.new.names (behind_values n a.bindings.items) c.deref-in-Let-2.result.now a.inner.value names c.deref-in-Let-2.ensures c.in_ok-inner-in-Let.ensures.value in
    let_made n c.args.behind c.args.node.now a.place a.bindings a.inner a.is found one values inner refl two

pub part-boxed-requires : goal.part-boxed-requires
part-boxed-requires t c = (part_falls 1 0 t the_size the_size (omega arith) _ _ c.decreases c.in-Bracketed.is _ _ c.deref.ensures (bracketed_smaller _ _), tt)

pub part-formulas-requires : goal.part-formulas-requires
part-formulas-requires t c = (row_falls 1 0 t the_size the_size (omega arith) _ _ c.decreases c.in-Block.is _ _ c.deref-in-Block.ensures.value (block_smaller _ _), tt)

pub part-boxed-requires-in-Prefixed : goal.part-boxed-requires-in-Prefixed
part-boxed-requires-in-Prefixed t c = (part_falls 1 0 t the_size the_size (omega arith) _ _ c.decreases c.in-Prefixed.is _ _ c.deref-in-Prefixed.ensures (prefixed_smaller _ _ _), tt)

pub part-boxed-requires-in-Chain : goal.part-boxed-requires-in-Chain
part-boxed-requires-in-Chain t c = (part_falls 1 0 t the_size the_size (omega arith) _ _ c.decreases c.in-Chain.is _ _ c.deref-in-Chain.ensures (first_smaller _ _), tt)

pub part-links-requires : goal.part-links-requires
part-links-requires t c = (row_falls 1 0 t the_size link_size (omega arith) _ _ c.decreases c.in-Chain.is _ _ c.deref-in-Chain-2.ensures.value (links_smaller _ _), tt)

pub part-part-requires : goal.part-part-requires
part-part-requires t c = (part_falls 0 0 t the_size the_size (omega arith) _ _ c.decreases c.in-Path.is _ _ c.deref-in-Path-2.ensures (head_smaller _ _), tt)

pub part-path-requires : goal.part-path-requires
part-path-requires t c = (row_falls 4 0 t the_size step_size (omega arith) _ _ c.decreases c.in-Path.is _ _ c.deref-in-Path-3.ensures.value (steps_smaller _ _), tt)

pub part-boxed-requires-in-Compared : goal.part-boxed-requires-in-Compared
part-boxed-requires-in-Compared t c = (part_falls 1 0 t the_size the_size (omega arith) _ _ c.decreases c.in-Compared.is _ _ c.deref-in-Compared.ensures (left_smaller _ _ _), tt)

pub part-boxed-requires-in-Compared-2 : goal.part-boxed-requires-in-Compared-2
part-boxed-requires-in-Compared-2 t c = (part_falls 1 0 t the_size the_size (omega arith) _ _ c.decreases c.in-Compared.is _ _ c.deref-in-Compared-2.ensures (right_smaller _ _ _), tt)

pub part-boxed-requires-in-Implies : goal.part-boxed-requires-in-Implies
part-boxed-requires-in-Implies t c = (part_falls 1 0 t the_size the_size (omega arith) _ _ c.decreases c.in-Implies.is _ _ c.deref-in-Implies.ensures (premise_smaller _ _ _), tt)

pub part-boxed-requires-in-Implies-2 : goal.part-boxed-requires-in-Implies-2
part-boxed-requires-in-Implies-2 t c = (part_falls 1 0 t the_size the_size (omega arith) _ _ c.decreases c.in-Implies.is _ _ c.deref-in-Implies-2.ensures (conclusion_smaller _ _ _), tt)

pub part-boxed-requires-in-ImpliesElse : goal.part-boxed-requires-in-ImpliesElse
part-boxed-requires-in-ImpliesElse t c = (part_falls 1 0 t the_size the_size (omega arith) _ _ c.decreases c.in-ImpliesElse.is _ _ c.deref-in-ImpliesElse.ensures (condition_smaller _ _ _ _), tt)

pub part-boxed-requires-in-ImpliesElse-2 : goal.part-boxed-requires-in-ImpliesElse-2
part-boxed-requires-in-ImpliesElse-2 t c = (part_falls 1 0 t the_size the_size (omega arith) _ _ c.decreases c.in-ImpliesElse.is _ _ c.deref-in-ImpliesElse-2.ensures (then_smaller _ _ _ _), tt)

pub part-boxed-requires-in-ImpliesElse-3 : goal.part-boxed-requires-in-ImpliesElse-3
part-boxed-requires-in-ImpliesElse-3 t c = (part_falls 1 0 t the_size the_size (omega arith) _ _ c.decreases c.in-ImpliesElse.is _ _ c.deref-in-ImpliesElse-3.ensures (else_smaller _ _ _ _), tt)

pub part-domains-requires : goal.part-domains-requires
part-domains-requires t c = (row_falls 1 0 t the_size declaration_size (omega arith) _ _ c.decreases c.in-Quantified.is _ _ c.deref-in-Quantified.ensures.value (declarations_smaller _ _ _ _), tt)

pub part-boxed-requires-in-Quantified : goal.part-boxed-requires-in-Quantified
part-boxed-requires-in-Quantified t c = (part_falls 1 0 t the_size the_size (omega arith) _ _ c.decreases c.in-Quantified.is _ _ c.deref-in-Quantified-2.ensures (body_smaller _ _ _ _), tt)

pub part-values-requires : goal.part-values-requires
part-values-requires t c = (row_falls 1 0 t the_size binding_size (omega arith) _ _ c.decreases c.in-Let.is _ _ c.deref-in-Let.ensures.value (bindings_smaller _ _ _), tt)

pub part-boxed-requires-in-Let : goal.part-boxed-requires-in-Let
part-boxed-requires-in-Let t c = (part_falls 1 0 t the_size the_size (omega arith) _ _ c.decreases c.in-Let.is _ _ c.deref-in-Let-2.ensures (let_body_smaller _ _ _), tt)

pub boxed-part-requires : goal.boxed-part-requires
boxed-part-requires t c = (rank_falls 0 1 t (5 * the_size c.args.node.now) (omega arith) c.decreases, tt)

pub formulas-part-requires : goal.formulas-part-requires
formulas-part-requires t c = (item_falls 0 1 t the_size (omega arith) c.args.nodes.now c.loop-node.node-index c.node-item.result c.decreases c.loop-node-test.true c.node-item.is, tt)

pub links-link_of-requires : goal.links-link_of-requires
links-link_of-requires t c = (item_falls 0 1 t link_size (omega arith) c.args.links.now c.loop-link.link-index c.link-item.result c.decreases c.loop-link-test.true c.link-item.is, tt)

pub steps_from-step_of-requires : goal.steps_from-step_of-requires
steps_from-step_of-requires t c = (item_falls 0 1 t step_size (omega arith) c.args.steps.now c.loop-place.place c.index-steps-place.result c.decreases c.loop-place-test.true c.index-steps-place.is, tt)

pub domains-domain-requires : goal.domains-domain-requires
domains-domain-requires t c = (item_falls 0 1 t declaration_size (omega arith) c.args.declarations.now c.loop-declaration.declaration-index c.declaration-item.result c.decreases c.loop-declaration-test.true c.declaration-item.is, tt)

pub values-value-requires : goal.values-value-requires
values-value-requires t c = (item_falls 0 1 t binding_size (omega arith) c.args.bindings.now c.loop-binding.binding-index c.binding-item.result c.decreases c.loop-binding-test.true c.binding-item.is, tt)

pub link_of-part-requires : goal.link_of-part-requires
link_of-part-requires t c = (part_falls 0 0 t link_size the_size (omega arith) c.args.link.now c.args.link.now c.decreases refl c.args.link.now.operand c.args.link.now.operand refl (operand_smaller _), tt)

pub domain-boxed-requires : goal.domain-boxed-requires
domain-boxed-requires t c = (part_falls 1 0 t declaration_size the_size (omega arith) c.args.declaration.now c.args.declaration.now c.decreases refl c.args.declaration.now.domain c.args.declaration.now.domain refl (domain_smaller _), tt)

pub value-boxed-requires : goal.value-boxed-requires
value-boxed-requires t c = (part_falls 1 0 t binding_size the_size (omega arith) c.args.binding.now c.args.binding.now c.decreases refl c.args.binding.now.value c.args.binding.now.value refl (value_smaller _), tt)

pub step_of-part-requires : goal.step_of-part-requires
step_of-part-requires t c = (part_falls 0 0 t step_size the_size (omega arith) _ _ c.decreases c.in-Join.is c.in-Join.node c.in-Join.node refl (joined_smaller _ _), tt)

pub step_of-formulas-requires : goal.step_of-formulas-requires
step_of-formulas-requires t c = (row_falls 1 0 t step_size the_size (omega arith) _ _ c.decreases c.in-Brackets.is _ _ c.deref.ensures.value (in_brackets_smaller _ _), tt)

pub plain-steps_from-requires : goal.plain-steps_from-requires
plain-steps_from-requires t c = (rank_falls 1 2 t (5 * most step_size c.args.steps.now) (omega arith) c.decreases, tt)

pub path-call-requires : goal.path-call-requires
path-call-requires t c = (rank_falls 3 4 t (5 * most step_size c.args.steps.now) (omega arith) c.decreases, tt)

pub path-steps_from-requires : goal.path-steps_from-requires
path-steps_from-requires t c = (rank_falls 1 4 t (5 * most step_size c.args.steps.now) (omega arith) c.decreases, tt)

pub call-plain-requires : goal.call-plain-requires
call-plain-requires t c = (rank_falls 2 3 t (5 * most step_size c.args.steps.now) (omega arith) c.decreases, tt)

pub call-plain-requires-in-None : goal.call-plain-requires-in-None
call-plain-requires-in-None t c = (rank_falls 2 3 t (5 * most step_size c.args.steps.now) (omega arith) c.decreases, tt)

pub call-plain-requires-in-Some-Join : goal.call-plain-requires-in-Some-Join
call-plain-requires-in-Some-Join t c = (rank_falls 2 3 t (5 * most step_size c.args.steps.now) (omega arith) c.decreases, tt)

pub call-steps_from-requires : goal.call-steps_from-requires
call-steps_from-requires t c = (rank_falls 1 3 t (5 * most step_size c.args.steps.now) (omega arith) c.decreases, tt)

pub boxed-returns-in_err-phrase-clause-names : goal.boxed-returns-in_err-phrase-clause-names
boxed-returns-in_err-phrase-clause-names t c =
    nothing_made c.from_residual.result _ c.from_residual.ensures.0

pub boxed-returns-in_err-phrase-clause-value : goal.boxed-returns-in_err-phrase-clause-value
boxed-returns-in_err-phrase-clause-value t c =
    let n : InForce = c.args.names.now in
    handed (λ (x : Box Phrase Global). seen.phrase_view x.value ≡ spec.resolved n.globals n.locals (view c.args.node.now)) c.from_residual.result c.in_err-phrase.field-0.0 (spec.faults_of n.globals n.locals 0 (view c.args.node.now)) c.from_residual.ensures.1 c.in_err-phrase.ensures.value

pub boxed-returns-clause-names : goal.boxed-returns-clause-names
boxed-returns-clause-names t c =
    c.in_ok-phrase.ensures.names

pub link_of-returns-in_err-operand-clause-names : goal.link_of-returns-in_err-operand-clause-names
link_of-returns-in_err-operand-clause-names t c =
    nothing_made c.from_residual.result _ c.from_residual.ensures.0

pub link_of-returns-clause-names : goal.link_of-returns-clause-names
link_of-returns-clause-names t c =
    c.in_ok-operand.ensures.names

pub domain-returns-in_err-domain-clause-names : goal.domain-returns-in_err-domain-clause-names
domain-returns-in_err-domain-clause-names t c =
    nothing_made c.from_residual.result _ c.from_residual.ensures.0

pub value-returns-in_err-value-clause-names : goal.value-returns-in_err-value-clause-names
value-returns-in_err-value-clause-names t c =
    nothing_made c.from_residual.result _ c.from_residual.ensures.0

pub plain-returns-in_err-steps-clause-names : goal.plain-returns-in_err-steps-clause-names
plain-returns-in_err-steps-clause-names t c =
    nothing_made c.from_residual.result _ c.from_residual.ensures.0

pub plain-returns-in_err-steps-clause-value : goal.plain-returns-in_err-steps-clause-value
plain-returns-in_err-steps-clause-value t c =
    let n : InForce = c.args.names.now in
    handed (λ (x : Phrase). seen.phrase_view x ≡ spec.path_of (seen.phrase_view c.args.called) (spec.steps_resolved n.globals n.locals (steps_of (map step_view c.args.steps.now)))) c.from_residual.result c.in_err-steps.field-0.0 (spec.step_faults n.globals n.locals (steps_of (map step_view c.args.steps.now))) c.from_residual.ensures.1 c.in_err-steps.ensures.value

pub plain-returns-clause-names : goal.plain-returns-clause-names
plain-returns-clause-names t c =
    c.in_ok-steps.ensures.names

pub step_of-returns-in_err-node-in-Join-clause-names : goal.step_of-returns-in_err-node-in-Join-clause-names
step_of-returns-in_err-node-in-Join-clause-names t c =
    nothing_made c.from_residual.result _ c.from_residual.ensures.0

pub step_of-returns-in_ok-node-in-Join-clause-names : goal.step_of-returns-in_ok-node-in-Join-clause-names
step_of-returns-in_ok-node-in-Join-clause-names t c =
    c.in_ok-node-in-Join.ensures.names

pub step_of-returns-in_ok-parts-in-Brackets-clause-names : goal.step_of-returns-in_ok-parts-in-Brackets-clause-names
step_of-returns-in_ok-parts-in-Brackets-clause-names t c =
    c.in_ok-parts-in-Brackets.ensures.names

pub step_of-returns-in_err-parts-in-Brackets-clause-names : goal.step_of-returns-in_err-parts-in-Brackets-clause-names
step_of-returns-in_err-parts-in-Brackets-clause-names t c =
    nothing_made c.from_residual-in_err-parts-in-Brackets.result _ c.from_residual-in_err-parts-in-Brackets.ensures.0

pub formulas-returns-in_err-another-clause-names : goal.formulas-returns-in_err-another-clause-names
formulas-returns-in_err-another-clause-names t c =
    nothing_made c.from_residual.result _ c.from_residual.ensures.0

pub formulas-returns-clause-names : goal.formulas-returns-clause-names
formulas-returns-clause-names t c =
    c.loop-node.invariant.same

pub links-returns-in_err-another-clause-names : goal.links-returns-in_err-another-clause-names
links-returns-in_err-another-clause-names t c =
    nothing_made c.from_residual.result _ c.from_residual.ensures.0

pub links-returns-clause-names : goal.links-returns-clause-names
links-returns-clause-names t c =
    c.loop-link.invariant.same

pub steps_from-returns-in_err-another-clause-names : goal.steps_from-returns-in_err-another-clause-names
steps_from-returns-in_err-another-clause-names t c =
    nothing_made c.from_residual.result _ c.from_residual.ensures.0

pub steps_from-returns-clause-names : goal.steps_from-returns-clause-names
steps_from-returns-clause-names t c =
    c.loop-place.invariant.same

pub values-returns-in_err-another-clause-names : goal.values-returns-in_err-another-clause-names
values-returns-in_err-another-clause-names t c =
    nothing_made c.from_residual.result _ c.from_residual.ensures.0

pub domains-returns-in_err-single_of-clause-names : goal.domains-returns-in_err-single_of-clause-names
domains-returns-in_err-single_of-clause-names t c =
    nothing_made c.from_residual.result _ c.from_residual.ensures.0

pub domains-returns-in_err-another-clause-names : goal.domains-returns-in_err-another-clause-names
domains-returns-in_err-another-clause-names t c =
    nothing_made c.from_residual-in_err-another.result _ c.from_residual-in_err-another.ensures.0

pub call-returns-then-not-takes-clause-names : goal.call-returns-then-not-takes-clause-names
call-returns-then-not-takes-clause-names t c =
    c.plain.ensures.names

pub call-returns-in-Some-Join-clause-names : goal.call-returns-in-Some-Join-clause-names
call-returns-in-Some-Join-clause-names t c =
    c.plain-in-Some-Join.ensures.names

pub call-returns-in-None-clause-names : goal.call-returns-in-None-clause-names
call-returns-in-None-clause-names t c =
    c.plain-in-None.ensures.names

pub call-returns-in_err-arguments-in-Some-Brackets-clause-names : goal.call-returns-in_err-arguments-in-Some-Brackets-clause-names
call-returns-in_err-arguments-in-Some-Brackets-clause-names t c =
    nothing_made c.from_residual.result _ c.from_residual.ensures.0

pub call-returns-in_err-rest-in-Some-Brackets-clause-names : goal.call-returns-in_err-rest-in-Some-Brackets-clause-names
call-returns-in_err-rest-in-Some-Brackets-clause-names t c =
    nothing_made c.from_residual-in_err-rest-in-Some-Brackets.result _ c.from_residual-in_err-rest-in-Some-Brackets.ensures.0

pub call-returns-in_err-path_of-in-Some-Brackets-clause-names : goal.call-returns-in_err-path_of-in-Some-Brackets-clause-names
call-returns-in_err-path_of-in-Some-Brackets-clause-names t c =
    nothing_made c.from_residual-in_err-path_of-in-Some-Brackets.result _ c.from_residual-in_err-path_of-in-Some-Brackets.ensures.0

pub call-returns-in_ok-path_of-in-Some-Brackets-clause-names : goal.call-returns-in_ok-path_of-in-Some-Brackets-clause-names
call-returns-in_ok-path_of-in-Some-Brackets-clause-names t c =
    c.in_ok-rest-in-Some-Brackets.ensures.names ∙ c.in_ok-arguments-in-Some-Brackets.ensures.names

pub path-returns-in-Called-clause-names : goal.path-returns-in-Called-clause-names
path-returns-in-Called-clause-names t c =
    c.call.ensures.names

pub part-returns-in_err-tied-in-Named-clause-names : goal.part-returns-in_err-tied-in-Named-clause-names
part-returns-in_err-tied-in-Named-clause-names t c =
    nothing_made c.from_residual.result _ c.from_residual.ensures.0

pub call-returns-in_err-rest-in-Some-Brackets-clause-value : goal.call-returns-in_err-rest-in-Some-Brackets-clause-value
call-returns-in_err-rest-in-Some-Brackets-clause-value t c own is =
    let n : InForce = c.args.names.now in
    let e = c.in_err-rest-in-Some-Brackets.field-0.0 in
    let p = err_from_is_err_and c.from_residual-in_err-rest-in-Some-Brackets.result c.from_residual-in_err-rest-in-Some-Brackets.ensures.1 in
    let there = sym (ap option_copied c.in-Some-Brackets.is) ∙ c.first.ensures.value in
    let same = c.deref.ensures.value ∙ ap (λ (v : Vec Node Global). v.items) c.in-Some-Brackets.parts-is in
    let none = subst (λ xs. spec.all_faults n.globals n.locals (trees_of (views xs)) ≡ []) same c.in_ok-arguments-in-Some-Brackets.ensures.value.0 in
    let told = subst (λ (m : InForce). IsTold e (spec.step_faults m.globals m.locals (steps_of (map step_view (drop 1 c.args.steps.now))))) c.in_ok-arguments-in-Some-Brackets.ensures.names c.in_err-rest-in-Some-Brackets.ensures.value in
    rw (p.1, p.2) (call_rest_told n.globals n.locals c.args.steps.now c.in-Some-Brackets.field-0.now c.in-Some-Brackets.field-0-0 c.in-Some-Brackets.parts e there c.in-Some-Brackets.field-0-is none told)

pub call-returns-in_err-path_of-in-Some-Brackets-clause-value : goal.call-returns-in_err-path_of-in-Some-Brackets-clause-value
call-returns-in_err-path_of-in-Some-Brackets-clause-value t c own is =
    let n : InForce = c.args.names.now in
    let e = c.in_err-path_of-in-Some-Brackets.field-0.0 in
    let p = err_from_is_err_and c.from_residual-in_err-path_of-in-Some-Brackets.result c.from_residual-in_err-path_of-in-Some-Brackets.ensures.1 in
    rw (p.1, p.2) (only_memory e (spec.step_faults n.globals n.locals (steps_of (map step_view c.args.steps.now))) c.in_err-path_of-in-Some-Brackets.ensures)

pub plain-returns-in_err-path_of-clause-value : goal.plain-returns-in_err-path_of-clause-value
plain-returns-in_err-path_of-clause-value t c =
    let n : InForce = c.args.names.now in
    let e = c.in_err-path_of.field-0.0 in
    let p = err_from_is_err_and c.from_residual-in_err-path_of.result c.from_residual-in_err-path_of.ensures.1 in
    rw (p.1, p.2) (only_memory e (spec.step_faults n.globals n.locals (steps_of (map step_view c.args.steps.now))) c.in_err-path_of.ensures)
