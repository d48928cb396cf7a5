use Rattle.std.proofs.Common.{◌≡◌, List, [], ◌∷◌, ◌++◌, reverse, ap, ◌∙◌, if◌then◌else◌, arith}
use Rattle.model_types.specs.Typing.{Local}
use Rattle.overload_resolution.specs.Scopes.Zipped.{locals_of}
use Rattle.overload_resolution.proofs.Scopes.Zipped.{entered_is}
use Rattle.overload_resolution.proofs.typed_scopes.scope.Locals.enter.Goals as goal

pub returns-clause-ok : goal.returns-clause-ok
returns-clause-ok c =
    let arities_are : c.push-entered.new.self.items ≡ c.self.inside.arities.items ++ c.args.arity ∷ [] =
    c.push-entered.ensures.items
    ∙ ap (λ b. if b then c.reserve.new.self.items ++ c.args.arity ∷ [] else c.reserve.new.self.items) (c.push-entered.ensures.succeeds (omega (arith, c.in_ok-reserve.ensures.ok)))
    ∙ ap (λ ns. ns ++ c.args.arity ∷ []) c.in_ok-reserve.ensures.items in
    (λ i. reverse (locals_of (arities_are i) (c.in_ok-push.ensures.items i)))
    ∙ entered_is c.self.inside.arities.items c.self.inside.types.items c.args.arity c.args.of c.self.invariant
    ∙ ap (λ (ls : List Local). record { arity = c.args.arity; type = c.args.of } ∷ ls) c.self.view_is
