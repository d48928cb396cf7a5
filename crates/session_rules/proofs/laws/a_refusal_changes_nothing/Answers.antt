use Rattle.std.proofs.Common.{sym, ◌∙◌}
use Rattle.session_rules.proofs.laws.a_refusal_changes_nothing.Goals as goal

pub returns-clause-run : goal.returns-clause-run
returns-clause-run c p s xs ys step refusal run =
    let parts = (c.runs_join.ensures.run p s xs _).0 run in
    (c.runs_join.ensures.run p s xs ys).1 (parts.0, parts.1.1)

pub returns-clause-state : goal.returns-clause-state
returns-clause-state c s xs ys step refusal = c.runs_join.ensures.state s xs _ ∙ sym (c.runs_join.ensures.state s xs ys)
