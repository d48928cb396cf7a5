use Rattle.std.proofs.Common.{◌≡◌, ◌<◌, ◌≤◌, ◌+◌, length, arith, ◌∙◌, refl}
use Rattle.std.proofs.lemmas.List.{get_or_read}
use Rattle.unit_propagation.specs.Activity.Heap.{rank_at, place_of}
use Rattle.unit_propagation.proofs.Activity.Places.{ranks_swapped, waits_more}
use Rattle.unit_propagation.proofs.Activity.Steps.{rising_more, waits_already}
use Rattle.unit_propagation.proofs.activity_order.heap.VarHeap.put_back.Goals as goal

pub rise-requires-clause-rising : goal.rise-requires-clause-rising
rise-requires-clause-rising c =
    let ranks = ranks_swapped c.args.activities.now c.index.result.now c.args.self.now.waiting c.args.self.now c.swap.new.self c.swap.ensures in
    rising_more c.args.self.now.waiting c.index.result.now (rank_at c.args.activities.now c.args.self.now) (rank_at c.args.activities.now c.swap.new.self) c.requires.heap.ranked ranks (omega (arith, c.if-place-last.true))

pub returns-then-place-last-clause-waits : goal.returns-then-place-last-clause-waits
returns-then-place-last-clause-waits c =
    let indexed = c.requires.heap.indexed in
    let var_in : c.args.var < length c.args.self.now.variables.items = omega (arith, c.requires.in_range, c.requires.heap.long) in
    let in' : c.args.var < length c.args.self.now.places.items = omega (arith, var_in, indexed.places.long) in
    let is : c.index.result.now ≡ place_of c.args.self.now c.args.var = get_or_read _ _ _ in' c.index.ensures 0 in
    let behind : c.args.self.now.waiting ≤ c.index.result.now = omega (arith, c.if-place-last.true) in
    c.rise.ensures.same.same ∙ waits_more c.args.var c.index.result.now c.args.self.now c.swap.new.self (record { variables = c.swap.new.self.variables; places = c.swap.new.self.places; waiting = c.args.self.now.waiting + 1 }) indexed var_in is behind c.swap.ensures refl refl

pub returns-else-place-last-clause-waits : goal.returns-else-place-last-clause-waits
returns-else-place-last-clause-waits c =
    let in' : c.args.var < length c.args.self.now.places.items = omega (arith, c.requires.in_range, c.requires.heap.long, c.requires.heap.indexed.places.long) in
    let is : c.index.result.now ≡ place_of c.args.self.now c.args.var = get_or_read _ _ _ in' c.index.ensures 0 in
    waits_already c.args.self.now c.args.var in' (omega (arith, is, c.if-place-last.false))
