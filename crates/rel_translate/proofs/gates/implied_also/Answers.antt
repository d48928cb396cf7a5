use Rattle.bool_circuit.proofs.CallerLemmas.{Extends-trans}
use Rattle.rel_translate.proofs.Gated.{there_later, room_for_one, room_behind, size_more, size_less, implied_says}
use Rattle.rel_translate.proofs.gates.implied_also.Goals as goal

pub returns-clause-says : goal.returns-clause-says
returns-clause-says c =
    implied_says c.args.circuit.now c.not.new.self c.or.new.self c.and.new.self c.args.all c.args.guard c.args.body c.in_ok-absent.absent c.in_ok-implied.implied c.in_ok-node.node
    c.not.ensures.extends c.or.ensures.extends c.requires.all c.requires.body c.in_ok-absent.ensures.value c.in_ok-implied.ensures.value c.in_ok-node.ensures.value

pub not-requires : goal.not-requires
not-requires c = record { operand = c.requires.guard; room = room_for_one c.args.circuit.now 2 c.requires.room }

pub or-requires : goal.or-requires
or-requires c = record {
  first = c.in_ok-absent.ensures.value.there;
  second = there_later c.args.circuit.now c.not.new.self c.args.body c.not.ensures.extends c.requires.body;
  room = room_behind c.args.circuit.now c.not.new.self 1 1 c.not.ensures.size c.requires.room;
}

pub and-requires : goal.and-requires
and-requires c = record {
  first = there_later c.args.circuit.now c.or.new.self c.args.all (Extends-trans c.args.circuit.now c.not.new.self c.or.new.self c.not.ensures.extends c.or.ensures.extends) c.requires.all;
  second = c.in_ok-implied.ensures.value.there;
  room = room_behind c.args.circuit.now c.or.new.self 2 0 (size_more c.args.circuit.now c.not.new.self c.or.new.self 1 c.not.ensures.size c.or.ensures.size) c.requires.room;
}

pub returns-in_err-absent-clause-extends : goal.returns-in_err-absent-clause-extends
returns-in_err-absent-clause-extends c = c.not.ensures.extends

pub returns-in_err-absent-clause-size : goal.returns-in_err-absent-clause-size
returns-in_err-absent-clause-size c = size_less c.args.circuit.now c.not.new.self 1 2 c.not.ensures.size

pub returns-in_err-implied-clause-extends : goal.returns-in_err-implied-clause-extends
returns-in_err-implied-clause-extends c = Extends-trans c.args.circuit.now c.not.new.self c.or.new.self c.not.ensures.extends c.or.ensures.extends

pub returns-in_err-implied-clause-size : goal.returns-in_err-implied-clause-size
returns-in_err-implied-clause-size c = size_less c.args.circuit.now c.or.new.self 2 1 (size_more c.args.circuit.now c.not.new.self c.or.new.self 1 c.not.ensures.size c.or.ensures.size)

pub returns-in_err-node-clause-extends : goal.returns-in_err-node-clause-extends
returns-in_err-node-clause-extends c = Extends-trans c.args.circuit.now c.or.new.self c.and.new.self (Extends-trans c.args.circuit.now c.not.new.self c.or.new.self c.not.ensures.extends c.or.ensures.extends) c.and.ensures.extends

pub returns-in_err-node-clause-size : goal.returns-in_err-node-clause-size
returns-in_err-node-clause-size c = size_more c.args.circuit.now c.or.new.self c.and.new.self 2 (size_more c.args.circuit.now c.not.new.self c.or.new.self 1 c.not.ensures.size c.or.ensures.size) c.and.ensures.size

pub returns-clause-extends : goal.returns-clause-extends
returns-clause-extends c = Extends-trans c.args.circuit.now c.or.new.self c.and.new.self (Extends-trans c.args.circuit.now c.not.new.self c.or.new.self c.not.ensures.extends c.or.ensures.extends) c.and.ensures.extends

pub returns-clause-size : goal.returns-clause-size
returns-clause-size c = size_more c.args.circuit.now c.or.new.self c.and.new.self 2 (size_more c.args.circuit.now c.not.new.self c.or.new.self 1 c.not.ensures.size c.or.ensures.size) c.and.ensures.size
