use Rattle.std.proofs.Common.{List, [], map, ap, sym, ◌∙◌}
use Rattle.named_model.specs.Phrase.{domains_of}
use Rattle.named_model.specs.View.{domain_view}
use Rattle.model_types.specs.Models.{domains_known, domains_unary}
use Rattle.overload_resolution.specs.Scopes.Declaring.{declared_by}
use Rattle.alloy_types.specs.declared.known_callees.groups.Group.{Group}
use Rattle.alloy_types.specs.Calls.Groups.{GroupTree, group_view}
use Rattle.alloy_types.specs.Meanings.{groups_unary}
use Rattle.alloy_types.proofs.NamedRelations.{groups_known, gives_same}
use Rattle.alloy_types.proofs.commands.parameters_unary.Goals as goal

pub returns : goal.returns
returns c =
    let d = declared_by c.args.setting.now in
    let xs = map domain_view c.args.parameters.now in
    gives_same c.groups_unary.result (domains_unary (domains_known d [] (domains_of xs)))
    (groups_known d [] xs ∙ ap (λ (gs : List GroupTree). groups_unary gs xs) (sym c.in_ok-groups.ensures.value)
    ∙ ap (λ (gs : List Group). groups_unary (map group_view gs) xs) (sym c.deref.ensures.value) ∙ sym c.groups_unary.ensures)
