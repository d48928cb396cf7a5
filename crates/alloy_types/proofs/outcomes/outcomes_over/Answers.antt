use Rattle.std.proofs.Common.{List, [], map, ap, sym, ◌∙◌}
use Rattle.named_model.specs.declared.named.Field.{Field}
use Rattle.named_model.specs.declared.named.Callee.{Callee}
use Rattle.named_model.specs.declared.named.Formulas.{Formulas}
use Rattle.named_model.specs.declared.named.Command.{Command}
use Rattle.named_model.specs.Model.{CommandTree}
use Rattle.named_model.specs.View.{field_view, callee_view, formulas_view, command_view, named_view}
use Rattle.model_types.specs.Typing.{formulas_settled}
use Rattle.model_types.specs.Models.{field_checked, callee_settled, target_settled}
use Rattle.overload_resolution.specs.Scopes.Declaring.{declared_by}
use Rattle.alloy_types.proofs.outcomes.outcomes_over.Goals as goal

pub returns : goal.returns
returns c =
    let m = named_view c.args.model.now in
    let d = declared_by c.args.setting.now in
    record {
      fields = c.in_ok-fields.ensures ∙ ap (λ (xs : List Field). map (field_checked d) (map field_view xs)) c.deref.ensures.value;
      callees = c.in_ok-callees.ensures ∙ ap (λ (xs : List Callee). map (callee_settled d) (map callee_view xs)) c.deref-2.ensures.value;
      facts = c.in_ok-facts.ensures ∙ ap (λ (xs : List Formulas). map (formulas_settled d []) (map formulas_view xs)) c.deref-3.ensures.value;
      assertions = c.in_ok-assertions.ensures ∙ ap (λ (xs : List Formulas). map (formulas_settled d []) (map formulas_view xs)) c.deref-4.ensures.value;
      targets = c.in_ok-targets.ensures m (sym (ap (map callee_view) c.deref-5.ensures.value)) ∙ ap (λ (xs : List Command). map (λ (x : CommandTree). target_settled m d x.target) (map command_view xs)) c.deref-6.ensures.value;
    }
