use Rattle.std.proofs.Common.{◌≡◌, ◌<◌, ◌+◌, ◌-◌, ℕ, false, length, set, arith, ap, sym, ◌∙◌, refl}
use Rattle.std.proofs.lemmas.List.{get_or_read}
use Rattle.unit_propagation.specs.Activity.Heap.{rank_at, var_at, waiting_of}
use Rattle.unit_propagation.proofs.Activity.Places.{ranks_swapped, waits_less}
use Rattle.unit_propagation.proofs.Activity.Steps.{ranked_less, first_is, none_waits}
use Rattle.unit_propagation.proofs.activity_order.heap.VarHeap.take_first.Goals as goal

pub returns-then-self-eq0-clause-first : goal.returns-then-self-eq0-clause-first
returns-then-self-eq0-clause-first c = none_waits c.args.self.now c.if-self-eq0.true

pub sink-requires-clause-ranked : goal.sink-requires-clause-ranked
sink-requires-clause-ranked c =
    let ranks = ranks_swapped c.args.activities.now 0 (c.args.self.now.waiting - 1) c.args.self.now c.swap.new.self c.swap.ensures in
    ranked_less c.args.self.now.waiting (c.args.self.now.waiting - 1) (rank_at c.args.activities.now c.args.self.now) (rank_at c.args.activities.now c.swap.new.self) c.requires.ranked ranks (omega (arith, c.if-self-eq0.false))

pub returns-clause-first : goal.returns-clause-first
returns-clause-first c =
    let some : 0 < c.args.self.now.waiting = omega (arith, c.if-self-eq0.false) in
    let in' : 0 < length c.args.self.now.variables.items = omega (arith, some, c.requires.indexed.front) in
    first_is c.args.activities.now c.args.self.now c.index-var.result.now c.requires some (get_or_read _ _ _ in' c.index-var.ensures 0)

pub returns-clause-left : goal.returns-clause-left
returns-clause-left c =
    let some : 0 < c.args.self.now.waiting = omega (arith, c.if-self-eq0.false) in
    let in' : 0 < length c.args.self.now.variables.items = omega (arith, some, c.requires.indexed.front) in
    let is : c.index-var.result.now ≡ var_at c.args.self.now 0 = get_or_read _ _ _ in' c.index-var.ensures 0 in
    let count : c.args.self.now.waiting ≡ (c.args.self.now.waiting - 1) + 1 = omega (arith, some) in
    let less = waits_less (c.args.self.now.waiting - 1) c.args.self.now c.swap.new.self (record { variables = c.swap.new.self.variables; places = c.swap.new.self.places; waiting = c.args.self.now.waiting - 1 }) c.requires.indexed c.swap.ensures count refl refl in
    c.sink.ensures.same.same ∙ (less ∙ ap (λ (v : ℕ). set (waiting_of c.args.self.now) v false) (sym is))
