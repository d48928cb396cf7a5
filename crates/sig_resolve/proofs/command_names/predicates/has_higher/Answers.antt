use Rattle.std.proofs.Common.{map, refl, sym, ◌∙◌}
use Rattle.std.specs.List.{list_any}
use Rattle.alloy_syntax.specs.View.{declaration_view}
use Rattle.named_model.specs.Faults.{is_higher_domain}
use Rattle.sig_resolve.proofs.Commands.TestsOfParts.{any_more, any_found, any_none}
use Rattle.sig_resolve.proofs.command_names.predicates.has_higher.Goals as goal

pub loop-declaration-preserved : goal.loop-declaration-preserved
loop-declaration-preserved c =
    any_more (λ xs. list_any is_higher_domain (map declaration_view xs)) (λ x. is_higher_domain (declaration_view x)) (λ x xs. refl) c.args.declarations.now c.loop-declaration.declaration-index c.declaration-item.result _ c.loop-declaration-test.true c.declaration-item.is (sym c.is_higher.ensures ∙ c.if-is_higher.false) c.loop-declaration.invariant

pub returns-then-is_higher : goal.returns-then-is_higher
returns-then-is_higher c =
    any_found (λ xs. list_any is_higher_domain (map declaration_view xs)) (λ x. is_higher_domain (declaration_view x)) (λ x xs. refl) c.args.declarations.now c.loop-declaration.declaration-index c.declaration-item.result _ c.loop-declaration-test.true c.declaration-item.is (sym c.is_higher.ensures ∙ c.if-is_higher.true) c.loop-declaration.invariant

pub returns : goal.returns
returns c = any_none (λ xs. list_any is_higher_domain (map declaration_view xs)) (λ x. is_higher_domain (declaration_view x)) refl c.args.declarations.now c.loop-declaration.declaration-index _ c.loop-declaration-test.false c.loop-declaration.invariant
