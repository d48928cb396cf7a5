use Rattle.rel_lower.proofs.Placing.Steps.{IsOfFirst}
use Rattle.rel_lower.proofs.relation_bounds.places.places_of.Given as goal

abbrev pub invariant-loop-top : goal.invariant-loop-top
invariant-loop-top l = IsOfFirst l.places l.sizes l.signature l.top
