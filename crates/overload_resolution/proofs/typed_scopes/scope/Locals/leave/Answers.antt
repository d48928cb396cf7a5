use Rattle.std.proofs.Common.{◌-◌, List, drop, reverse, ap, ◌∙◌, arith}
use Rattle.model_types.specs.Typing.{Local}
use Rattle.overload_resolution.specs.Scopes.Zipped.{locals_of}
use Rattle.overload_resolution.proofs.Scopes.Zipped.{left_is}
use Rattle.overload_resolution.proofs.typed_scopes.scope.Locals.leave.Goals as goal

pub returns : goal.returns
returns c =
    (λ i. reverse (locals_of (c.pop-arity.ensures.rest i) (c.pop-type.ensures.rest i)))
    ∙ left_is c.self.inside.arities.items c.self.inside.types.items (c.self.inside.arities.len - 1) (c.self.inside.types.len - 1) c.self.invariant
    (omega (arith, c.self.inside.arities.ok)) (omega (arith, c.self.inside.types.ok))
    ∙ ap (λ (ls : List Local). drop 1 ls) c.self.view_is
