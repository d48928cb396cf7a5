use Rattle.std.proofs.Common.{◌∙◌, arith}
use Rattle.session_state.proofs.search_rounds.held.HeldSearch.round.Goals as goal

pub forget-requires-clause-local : goal.forget-requires-clause-local
forget-requires-clause-local c = c.as_slice.ensures ∙ c.requires.held.local

pub round_by-requires-clause-kept : goal.round_by-requires-clause-kept
round_by-requires-clause-kept c = let few = c.in_ok-forget.ensures.few in omega arith

pub returns-clause-held : goal.returns-clause-held
returns-clause-held c = record {
  base = c.requires.held.base;
  descents = c.in_ok-end.ensures.trail;
  local = c.in_ok-end.ensures.local;
  going = c.in_ok-end.ensures.going;
  few = let most = c.in_ok-end.ensures.most in let budget = c.requires.budget in omega arith;
}
