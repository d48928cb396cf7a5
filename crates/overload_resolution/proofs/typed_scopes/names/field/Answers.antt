use Rattle.std.proofs.Common.{Some, None, inr, sym, subst, ◌∙◌}
use Rattle.std.specs.Prelude.{Result}
use Rattle.model_types.specs.declared.fault.TypeFault.{TypeFault}
use Rattle.model_types.specs.Typing.{Settled}
use Rattle.overload_resolution.specs.Settling.Told.{Gives}
use Rattle.overload_resolution.specs.Scopes.Given.{settled_view}
use Rattle.overload_resolution.proofs.Scopes.Standing.{field_declared}
use Rattle.overload_resolution.proofs.typed_scopes.names.field.Goals as goal

pub returns-in-Some : goal.returns-in-Some
returns-in-Some c =
    subst (λ (read : Result Settled TypeFault). Gives settled_view c.field_of.result read)
    (sym (field_declared c.args.setting.now c.args.place c.args.number (Some c.in-Some.arity) (sym c.in-Some.is ∙ c.arity-arity.ensures))) c.field_of.ensures

pub returns-in-None : goal.returns-in-None
returns-in-None c = inr (field_declared c.args.setting.now c.args.place c.args.number None (sym c.in-None.is ∙ c.arity-arity.ensures))
