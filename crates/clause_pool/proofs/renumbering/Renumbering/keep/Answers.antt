use Rattle.std.proofs.Common.{◌≡◌, ◌+◌, ◌≤◌, ◌∷◌, [], sym, ◌∙◌, ap, length, arith, length-append}
use Rattle.clause_pool.proofs.NewNumbers.{table_kept, long_all, last_few}
use Rattle.clause_pool.proofs.renumbering.Renumbering.keep.Goals as goal

pub overflow_add-number : goal.overflow_add-number
overflow_add-number c =
    let r = c.self.inside in
    let all : length c.args.self.now ≡ r.clauses + r.local + r.pool + length r.own.items = sym (ap length c.self.view_is) ∙ long_all r.clauses r.local r.pool r.own.items in
    let few : r.last ≤ r.clauses + r.local + r.pool + length r.own.items = last_few r.clauses r.local r.pool r.own.items r.last c.self.invariant.1 in
    omega arith

pub invariant_of-self-2 : goal.invariant_of-self-2
invariant_of-self-2 c =
    let r = c.self.inside in
    let all : length c.args.self.now ≡ r.clauses + r.local + r.pool + length r.own.items = sym (ap length c.self.view_is) ∙ long_all r.clauses r.local r.pool r.own.items in
    rw c.in_ok-push.ensures.items ((
      omega (arith, length-append r.own.items ((r.last + 1) ∷ [])),
      table_kept r.own.items (r.clauses + r.pool) r.last c.self.invariant.1,
    ))
