use Rattle.session_state.proofs.search_rounds.held.HeldSearch.block.Goals as goal

pub returns : goal.returns
returns c = record {
  base = c.requires.held.base;
  descents = c.requires.held.descents;
  local = c.in_ok-block_too.ensures.local;
  going = c.in_ok-block_too.ensures.going;
  few = c.in_ok-block_too.ensures.few;
}
