use Rattle.session_rules.proofs.laws.nothing_is_shown_when_all_was.Goals as goal

pub returns : goal.returns
returns c p s all number scenario shows = shows.fresh (all scenario shows.due)
