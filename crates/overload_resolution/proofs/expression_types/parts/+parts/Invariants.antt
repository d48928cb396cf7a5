use Rattle.std.proofs.Common.{◌+◌, ◌*◌}
use Rattle.overload_resolution.proofs.Expressions.Chaining.{Typed, Linked, Stepped}
use Rattle.overload_resolution.proofs.expression_types.parts.+parts.Given as goal

abbrev pub decreases-part_type : goal.decreases-part_type
decreases-part_type l = 4 * l.depth.parts

abbrev pub decreases-part_types : goal.decreases-part_types
decreases-part_types l = 4 * l.depth.parts + 1

abbrev pub decreases-called_type : goal.decreases-called_type
decreases-called_type l = 4 * l.depth.parts + 2

abbrev pub decreases-opened_type : goal.decreases-opened_type
decreases-opened_type l = 4 * l.depth.parts + 1

abbrev pub decreases-with_link : goal.decreases-with_link
decreases-with_link l = 4 * l.depth.parts + 1

abbrev pub decreases-with_links : goal.decreases-with_links
decreases-with_links l = 4 * l.depth.parts + 2

abbrev pub decreases-with_step : goal.decreases-with_step
decreases-with_step l = 4 * l.depth.parts + 2

abbrev pub decreases-with_steps : goal.decreases-with_steps
decreases-with_steps l = 4 * l.depth.parts + 3

abbrev pub invariant-part_types-loop-phrase : goal.invariant-part_types-loop-phrase
invariant-part_types-loop-phrase l = Typed l.known l.depth.calls l.locals l.phrases l.phrase-index l.types.items

abbrev pub invariant-with_links-loop-link : goal.invariant-with_links-loop-link
invariant-with_links-loop-link l = Linked l.known l.depth.calls l.locals l.fn.first l.links l.link-index l.all

abbrev pub invariant-with_steps-loop-step : goal.invariant-with_steps-loop-step
invariant-with_steps-loop-step l = Stepped l.known l.depth.calls l.locals l.fn.head l.steps l.step-index l.all
