use Rattle.session_state.proofs.Sessions.TopFloors.{current_here}
use Rattle.session_state.proofs.session_search.offering.offer.Goals as goal

pub offers_of-requires-clause-current : goal.offers_of-requires-clause-current
offers_of-requires-clause-current c =
    let p = c.args.translation.now.problem in
    let s = c.args.store.now.state in
    current_here p s c.in-Some.current.now (c.a_run_is_sound.ensures p s c.requires.fits.reached) c.in-Some.ensures
