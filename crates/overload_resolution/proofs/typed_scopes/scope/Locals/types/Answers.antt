use Rattle.std.proofs.Common.{reverse, ap, ◌∙◌}
use Rattle.model_types.specs.Typing.{local_types}
use Rattle.overload_resolution.proofs.Scopes.Zipped.{types_are}
use Rattle.overload_resolution.proofs.typed_scopes.scope.Locals.types.Goals as goal

pub returns : goal.returns
returns c = ap reverse c.as_slice.ensures.value ∙ types_are c.self.inside.arities.items c.self.inside.types.items c.self.invariant ∙ ap local_types c.self.view_is
