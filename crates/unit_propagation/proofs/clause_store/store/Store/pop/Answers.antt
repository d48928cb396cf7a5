use Rattle.std.proofs.Common.{◌-◌, ℕ, List, length, All, arith, ap, sym, subst, length-take}
use Rattle.std.proofs.lemmas.List.Elements.{All-take}
use Rattle.cnf_core.specs.Literal.{IsClause}
use Rattle.unit_propagation.specs.Clauses.Parts.{start_at}
use Rattle.unit_propagation.proofs.Clauses.Ends.{stored_pop, length-clauses_from}
use Rattle.unit_propagation.proofs.clause_store.store.Store.pop.Goals as goal

pub cut_last-requires : goal.cut_last-requires
cut_last-requires c = let some = rw (← c.self.view_is) at c.requires in omega (arith, some, length-clauses_from c.self.inside.codes.items 0 c.self.inside.ends.items)

pub invariant_of-self : goal.invariant_of-self
invariant_of-self c =
    let kept = c.self.invariant in
    let codes : List ℕ = c.self.inside.codes.items in
    let ends : List ℕ = c.self.inside.ends.items in
    let some = rw (← c.self.view_is) at c.requires in
    let popped = stored_pop codes ends _ _ kept.ends (omega (arith, some, length-clauses_from codes 0 ends)) c.cut_last.ensures.codes c.cut_last.ensures.ends in
    record {
      ends = popped.0;
      clauses = subst (All IsClause) (sym popped.1) (All-take IsClause (length ends - 1) _ kept.clauses);
      few = omega (arith, kept.few, ap length c.cut_last.ensures.ends, length-take (length ends - 1) ends);
      small = omega (arith, kept.small, ap length c.cut_last.ensures.codes, length-take (start_at 0 ends (length ends - 1)) codes);
    }

pub returns : goal.returns
returns c =
    let codes : List ℕ = c.self.inside.codes.items in
    let ends : List ℕ = c.self.inside.ends.items in
    let some = rw (← c.self.view_is) at c.requires in
    let popped = stored_pop codes ends _ _ c.self.invariant.ends (omega (arith, some, length-clauses_from codes 0 ends)) c.cut_last.ensures.codes c.cut_last.ensures.ends in
    rw (← c.self.view_is, length-clauses_from codes 0 ends) popped.1
