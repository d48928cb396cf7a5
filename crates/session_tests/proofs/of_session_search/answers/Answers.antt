use Rattle.session_tests.proofs.of_session_search.answers.Goals as goal

pub listed-requires : goal.listed-requires
listed-requires c = (c.args.made.now.problem, c.loop-ask.invariant.fits)
