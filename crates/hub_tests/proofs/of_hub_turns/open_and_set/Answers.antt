use Rattle.hub_tests.proofs.Turns.{may_open_once, may_set}
use Rattle.hub_tests.proofs.of_hub_turns.open_and_set.Goals as goal

pub record_opening-requires-clause-may : goal.record_opening-requires-clause-may
record_opening-requires-clause-may g c = may_open_once c.args.lock.now c.args.pass.now c.requires.idle c.requires.none c.requires.base

pub record_step-requires-clause-may : goal.record_step-requires-clause-may
record_step-requires-clause-may g c =
    may_set c.args.lock.now c.args.pass.now c.record_opening.new.pass c.in_ok-record_opening.ensures.goes c.requires.none c.in_ok-record_opening.ensures.ok c.requires.base
