use Rattle.std.proofs.Common.{length, ap, sym, ◌∙◌}
use Rattle.overload_resolution.proofs.Scopes.Zipped.{depth_is}
use Rattle.overload_resolution.proofs.typed_scopes.scope.Locals.depth.Goals as goal

pub returns : goal.returns
returns c = c.len.ensures ∙ c.self.inside.arities.ok.0 ∙ sym (depth_is c.self.inside.arities.items c.self.inside.types.items c.self.invariant) ∙ ap length c.self.view_is
