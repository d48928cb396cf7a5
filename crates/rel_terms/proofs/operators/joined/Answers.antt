use Rattle.std.proofs.Common.{Contains, arith}
use Rattle.rel_terms.specs.Terms.{Meeting}
use Rattle.rel_terms.proofs.Adding.{adds_once}
use Rattle.rel_terms.proofs.Counted.{counted}
use Rattle.rel_terms.proofs.operators.joined.Goals as goal

pub returns-then-is_above : goal.returns-then-is_above
returns-then-is_above c = record {
  arity_is = let e = c.new.ensures.arity in let l = c.arity.ensures.value in let r = c.arity-then-is_above.ensures.value in omega arith;
  just = λ l. absurd (let over = c.is_above.ensures.0 c.if-is_above.true in omega arith);
  adds = adds_once (Meeting (Contains c.args.left.now.rows) (Contains c.args.right.now.rows)) _ _ c.add_meetings.ensures;
}

pub returns : goal.returns
returns c = counted c.in_ok-tuples.ensures (adds_once (Meeting (Contains c.args.left.now.rows) (Contains c.args.right.now.rows)) _ _ c.add_meetings.ensures)
