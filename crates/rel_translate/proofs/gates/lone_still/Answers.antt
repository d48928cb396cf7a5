use Rattle.bool_circuit.proofs.CallerLemmas.{Extends-trans}
use Rattle.rel_translate.proofs.Gated.{there_later, room_for_one, room_behind, size_more, size_less, lone_says}
use Rattle.rel_translate.proofs.gates.lone_still.Goals as goal

pub returns-clause-says : goal.returns-clause-says
returns-clause-says c =
    lone_says c.args.circuit.now c.and.new.self c.and-2.new.self c.not.new.self c.and-3.new.self c.args.lone c.args.found c.args.guard c.args.body c.in_ok-met.met c.in_ok-again.again c.in_ok-first.first c.in_ok-node.node
    c.and.ensures.extends c.and-2.ensures.extends c.not.ensures.extends c.requires.lone c.requires.found c.in_ok-met.ensures.value c.in_ok-again.ensures.value c.in_ok-first.ensures.value c.in_ok-node.ensures.value

pub and-requires : goal.and-requires
and-requires c = record { first = c.requires.guard; second = c.requires.body; room = room_for_one c.args.circuit.now 3 c.requires.room }

pub and-requires-2 : goal.and-requires-2
and-requires-2 c = record {
  first = there_later c.args.circuit.now c.and.new.self c.args.found c.and.ensures.extends c.requires.found;
  second = c.in_ok-met.ensures.value.there;
  room = room_behind c.args.circuit.now c.and.new.self 1 2 c.and.ensures.size c.requires.room;
}

pub not-requires : goal.not-requires
not-requires c = record {
  operand = c.in_ok-again.ensures.value.there;
  room = room_behind c.args.circuit.now c.and-2.new.self 2 1 (size_more c.args.circuit.now c.and.new.self c.and-2.new.self 1 c.and.ensures.size c.and-2.ensures.size) c.requires.room;
}

pub and-requires-3 : goal.and-requires-3
and-requires-3 c =
    let a = c.args.circuit.now in
    let grown = Extends-trans a c.and-2.new.self c.not.new.self (Extends-trans a c.and.new.self c.and-2.new.self c.and.ensures.extends c.and-2.ensures.extends) c.not.ensures.extends in
    let made = size_more a c.and-2.new.self c.not.new.self 2 (size_more a c.and.new.self c.and-2.new.self 1 c.and.ensures.size c.and-2.ensures.size) c.not.ensures.size in record {
      first = there_later a c.not.new.self c.args.lone grown c.requires.lone;
      second = c.in_ok-first.ensures.value.there;
      room = room_behind a c.not.new.self 3 0 made c.requires.room;
    }

pub returns-in_err-met-clause-extends : goal.returns-in_err-met-clause-extends
returns-in_err-met-clause-extends c = c.and.ensures.extends

pub returns-in_err-met-clause-size : goal.returns-in_err-met-clause-size
returns-in_err-met-clause-size c = size_less c.args.circuit.now c.and.new.self 1 3 c.and.ensures.size

pub returns-in_err-again-clause-extends : goal.returns-in_err-again-clause-extends
returns-in_err-again-clause-extends c = Extends-trans c.args.circuit.now c.and.new.self c.and-2.new.self c.and.ensures.extends c.and-2.ensures.extends

pub returns-in_err-again-clause-size : goal.returns-in_err-again-clause-size
returns-in_err-again-clause-size c = size_less c.args.circuit.now c.and-2.new.self 2 2 (size_more c.args.circuit.now c.and.new.self c.and-2.new.self 1 c.and.ensures.size c.and-2.ensures.size)

pub returns-in_err-first-clause-extends : goal.returns-in_err-first-clause-extends
returns-in_err-first-clause-extends c =
    let a = c.args.circuit.now in
    Extends-trans a c.and-2.new.self c.not.new.self (Extends-trans a c.and.new.self c.and-2.new.self c.and.ensures.extends c.and-2.ensures.extends) c.not.ensures.extends

pub returns-in_err-first-clause-size : goal.returns-in_err-first-clause-size
returns-in_err-first-clause-size c =
    let a = c.args.circuit.now in
    size_less a c.not.new.self 3 1 (size_more a c.and-2.new.self c.not.new.self 2 (size_more a c.and.new.self c.and-2.new.self 1 c.and.ensures.size c.and-2.ensures.size) c.not.ensures.size)

pub returns-in_err-node-clause-extends : goal.returns-in_err-node-clause-extends
returns-in_err-node-clause-extends c =
    let a = c.args.circuit.now in
    let grown = Extends-trans a c.and-2.new.self c.not.new.self (Extends-trans a c.and.new.self c.and-2.new.self c.and.ensures.extends c.and-2.ensures.extends) c.not.ensures.extends in
    Extends-trans a c.not.new.self c.and-3.new.self grown c.and-3.ensures.extends

pub returns-in_err-node-clause-size : goal.returns-in_err-node-clause-size
returns-in_err-node-clause-size c =
    let a = c.args.circuit.now in
    let made = size_more a c.and-2.new.self c.not.new.self 2 (size_more a c.and.new.self c.and-2.new.self 1 c.and.ensures.size c.and-2.ensures.size) c.not.ensures.size in
    size_more a c.not.new.self c.and-3.new.self 3 made c.and-3.ensures.size

pub returns-clause-extends : goal.returns-clause-extends
returns-clause-extends c =
    let a = c.args.circuit.now in
    let grown = Extends-trans a c.and-2.new.self c.not.new.self (Extends-trans a c.and.new.self c.and-2.new.self c.and.ensures.extends c.and-2.ensures.extends) c.not.ensures.extends in
    Extends-trans a c.not.new.self c.and-3.new.self grown c.and-3.ensures.extends

pub returns-clause-size : goal.returns-clause-size
returns-clause-size c =
    let a = c.args.circuit.now in
    let made = size_more a c.and-2.new.self c.not.new.self 2 (size_more a c.and.new.self c.and-2.new.self 1 c.and.ensures.size c.and-2.ensures.size) c.not.ensures.size in
    size_more a c.not.new.self c.and-3.new.self 3 made c.and-3.ensures.size
