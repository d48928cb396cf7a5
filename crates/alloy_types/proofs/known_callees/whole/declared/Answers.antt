use Rattle.std.proofs.Common.{ap, ◌∙◌}
use Rattle.overload_resolution.specs.Scopes.Declaring.{alone}
use Rattle.alloy_types.proofs.known_callees.whole.declared.Goals as goal

pub put_known-requires-clause-declared : goal.put_known-requires-clause-declared
put_known-requires-clause-declared c = c.in_ok-setting.ensures.declared ∙ ap alone c.deref.ensures.value
