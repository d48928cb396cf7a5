use Rattle.std.proofs.Common.{◌≡◌, length, arith, ap, ◌∙◌, sym}
use Rattle.unit_propagation.proofs.Clauses.Ends.{length-clauses_from}
use Rattle.unit_propagation.proofs.clause_store.store.Store.len.Goals as goal

pub returns-clause-len : goal.returns-clause-len
returns-clause-len c =
    let long : length c.args.self.now ≡ length c.self.inside.ends.items = ap length (sym c.self.view_is) ∙ length-clauses_from _ 0 _ in
    omega (arith, long)

pub returns-clause-clauses : goal.returns-clause-clauses
returns-clause-clauses c = rw (← c.self.view_is) c.self.invariant.clauses
