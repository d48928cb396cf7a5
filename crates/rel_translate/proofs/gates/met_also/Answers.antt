use Rattle.bool_circuit.proofs.CallerLemmas.{Extends-trans}
use Rattle.rel_translate.proofs.Gated.{there_later, room_for_one, room_behind, size_more, size_less, met_says}
use Rattle.rel_translate.proofs.gates.met_also.Goals as goal

pub returns-clause-says : goal.returns-clause-says
returns-clause-says c =
    met_says c.args.circuit.now c.and.new.self c.or.new.self c.args.any c.args.guard c.args.body c.in_ok-met.met c.in_ok-node.node
    c.and.ensures.extends c.requires.any c.in_ok-met.ensures.value c.in_ok-node.ensures.value

pub and-requires : goal.and-requires
and-requires c = record { first = c.requires.guard; second = c.requires.body; room = room_for_one c.args.circuit.now 1 c.requires.room }

pub or-requires : goal.or-requires
or-requires c = record {
  first = there_later c.args.circuit.now c.and.new.self c.args.any c.and.ensures.extends c.requires.any;
  second = c.in_ok-met.ensures.value.there;
  room = room_behind c.args.circuit.now c.and.new.self 1 0 c.and.ensures.size c.requires.room;
}

pub returns-in_err-met-clause-extends : goal.returns-in_err-met-clause-extends
returns-in_err-met-clause-extends c = c.and.ensures.extends

pub returns-in_err-met-clause-size : goal.returns-in_err-met-clause-size
returns-in_err-met-clause-size c = size_less c.args.circuit.now c.and.new.self 1 1 c.and.ensures.size

pub returns-in_err-node-clause-extends : goal.returns-in_err-node-clause-extends
returns-in_err-node-clause-extends c = Extends-trans c.args.circuit.now c.and.new.self c.or.new.self c.and.ensures.extends c.or.ensures.extends

pub returns-in_err-node-clause-size : goal.returns-in_err-node-clause-size
returns-in_err-node-clause-size c = size_more c.args.circuit.now c.and.new.self c.or.new.self 1 c.and.ensures.size c.or.ensures.size

pub returns-clause-extends : goal.returns-clause-extends
returns-clause-extends c = Extends-trans c.args.circuit.now c.and.new.self c.or.new.self c.and.ensures.extends c.or.ensures.extends

pub returns-clause-size : goal.returns-clause-size
returns-clause-size c = size_more c.args.circuit.now c.and.new.self c.or.new.self 1 c.and.ensures.size c.or.ensures.size
