use Rattle.std.proofs.Common.{◌≡◌, ◌-◌, ℕ, List, length, ap, sym, ◌∙◌, Some, get_or, arith}
use Rattle.std.specs.List.{slice_get}
use Rattle.std.specs.Option.{option_map}
use Rattle.model_types.specs.Typing.{Local}
use Rattle.overload_resolution.proofs.Scopes.Zipped.{arity_of, arity_past, arity_inside}
use Rattle.overload_resolution.proofs.typed_scopes.scope.Locals.arity.Goals as goal

pub returns-then-number-count : goal.returns-then-number-count
returns-then-number-count c =
    sym (arity_past c.self.inside.arities.items c.self.inside.types.items c.args.number c.self.invariant (omega (arith, c.len-count.ensures, c.self.inside.arities.ok.0, c.if-number-count.true)))
    ∙ ap (λ (ls : List Local). option_map arity_of (slice_get ls c.args.number)) c.self.view_is

pub returns : goal.returns
returns c =
    let count : c.len-count.result ≡ length c.self.inside.arities.items = c.len-count.ensures ∙ c.self.inside.arities.ok.0 in
    ap Some (c.index.ensures ∙ ap (λ (n : ℕ). get_or c.self.inside.arities.items (n - 1 - c.args.number) c.index.result.now) count)
    ∙ sym (arity_inside c.self.inside.arities.items c.self.inside.types.items c.args.number c.index.result.now c.self.invariant (omega (arith, count, c.if-number-count.false)))
    ∙ ap (λ (ls : List Local). option_map arity_of (slice_get ls c.args.number)) c.self.view_is
