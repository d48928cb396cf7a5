use Rattle.std.proofs.Common.{◌++◌, ◌∷◌, [], map, ap, ◌∙◌, sym, subst}
use Rattle.std.specs.List.{list_any}
use Rattle.alloy_syntax.specs.declared.tree.Paragraph.{Paragraph}
use Rattle.alloy_syntax.specs.View.{declaration_view, paragraph_view}
use Rattle.named_model.specs.Faults.{is_higher_domain}
use Rattle.sig_resolve.specs.Commands.Predicates.{run_of, AreRuns}
use Rattle.sig_resolve.proofs.command_names.predicates.add.Goals as goal

pub returns-in_ok-enter-in-Predicate : goal.returns-in_ok-enter-in-Predicate
returns-in_ok-enter-in-Predicate c = λ runs are.
    let all = c.enter.new.all in
    subst (λ (p : Paragraph). AreRuns (runs ++ run_of (paragraph_view p)) all.names all.higher.items) (sym c.in-Predicate.is)
    (subst (λ b. AreRuns (runs ++ record { name = c.in-Predicate.name.text; is_higher = b } ∷ []) all.names all.higher.items)
    (c.has_higher.ensures ∙ ap (λ ds. list_any is_higher_domain (map declaration_view ds)) c.deref.ensures.value)
    (c.in_ok-enter-in-Predicate.ensures runs are))
