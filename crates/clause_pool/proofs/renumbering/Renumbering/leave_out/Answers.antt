use Rattle.std.proofs.Common.{◌≡◌, ◌+◌, ◌∷◌, [], sym, ◌∙◌, ap, length, arith, length-append}
use Rattle.clause_pool.proofs.NewNumbers.{table_left_out, long_all}
use Rattle.clause_pool.proofs.renumbering.Renumbering.leave_out.Goals as goal

pub invariant_of-self-2 : goal.invariant_of-self-2
invariant_of-self-2 c =
    let r = c.self.inside in
    let all : length c.args.self.now ≡ r.clauses + r.local + r.pool + length r.own.items = sym (ap length c.self.view_is) ∙ long_all r.clauses r.local r.pool r.own.items in
    rw c.in_ok-push.ensures.items ((
      omega (arith, length-append r.own.items (0 ∷ [])),
      table_left_out r.own.items (r.clauses + r.pool) r.last c.self.invariant.1,
    ))
