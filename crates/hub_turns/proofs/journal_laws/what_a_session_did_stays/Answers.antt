use Rattle.hub_turns.proofs.Staying.{served_grows}
use Rattle.hub_turns.proofs.journal_laws.what_a_session_did_stays.Goals as goal

pub returns : goal.returns
returns c problems seen journal t number key budget commands replies floors begins same served = served_grows problems seen journal begins number same key budget commands replies floors t served
