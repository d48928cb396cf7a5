use Rattle.std.proofs.Common.{◌≡◌, sym, ◌∙◌, Contains, List, arith}
use Rattle.tuple_core.specs.declared.atom.Atom.{Atom}
use Rattle.tuple_core.specs.Operators.{Transposed}
use Rattle.tuple_core.specs.Gains.{SomeGives}
use Rattle.tuple_core.proofs.Steps.{TurnsTo, turned_once, turned_gives, row_arity, set_more, set_all, set_same, set_from_gains}
use Rattle.tuple_core.proofs.tuple_set.TupleSet.transpose.Goals as goal

pub transpose-requires : goal.transpose-requires
transpose-requires c =
    row_arity c.rows-row-items.result.now c.args.self.now c.loop-row.row-index c.row-item.result c.rows-row-items.ensures.value c.rows-row-items.ensures.well c.loop-row-test.true c.row-item.is ∙ c.requires

pub insert-requires : goal.insert-requires
insert-requires c =
    let two = row_arity c.rows-row-items.result.now c.args.self.now c.loop-row.row-index c.row-item.result c.rows-row-items.ensures.value c.rows-row-items.ensures.well c.loop-row-test.true c.row-item.is ∙ c.requires in
    (turned_once c.row-item.result c.transpose.result two c.transpose.ensures).2 ∙ sym (c.loop-row.invariant.arity ∙ c.new-out.ensures.arity)

pub loop-row-preserved : goal.loop-row-preserved
loop-row-preserved c =
    let two = row_arity c.rows-row-items.result.now c.args.self.now c.loop-row.row-index c.row-item.result c.rows-row-items.ensures.value c.rows-row-items.ensures.well c.loop-row-test.true c.row-item.is ∙ c.requires in
    let once = turned_once c.row-item.result c.transpose.result two c.transpose.ensures in
    set_more c.rows-row-items.result.now c.loop-row.row-index c.row-item.result TurnsTo c.new-out.result c.loop-row.out c.insert.new.self c.loop-row-test.true c.row-item.is c.loop-row.invariant
    (set_same c.loop-row.out c.insert.new.self (λ t. t ≡ c.transpose.result) (TurnsTo c.row-item.result) (record { to = once.0; back = once.1 }) c.in_ok-insert.ensures.gains)

pub returns : goal.returns
returns c =
    let xs : List (List Atom) = c.rows-row-items.result.now in
    set_from_gains c.new-out.result c.loop-row.out 2 (SomeGives xs TurnsTo) (Transposed (Contains c.args.self.now.rows)) c.new-out.ensures.rows c.new-out.ensures.arity
    (set_all xs c.loop-row.row-index TurnsTo c.new-out.result c.loop-row.out (omega arith) c.loop-row.invariant)
    (turned_gives xs c.args.self.now.rows c.rows-row-items.ensures.value)
