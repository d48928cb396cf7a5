use Rattle.std.proofs.Common.{◌+◌, ◌-◌, ◌∙◌, ap, sym, arith, List, sum_by}
use Rattle.tuple_core.specs.Operators.{JoinsTo}
use Rattle.tuple_core.specs.Gains.{SomeGives}
use Rattle.tuple_core.proofs.Congruence.{same_then}
use Rattle.bool_circuit.proofs.CallerLemmas.{Extends-trans}
use Rattle.bool_matrix.specs.declared.entry.Entry.{Entry}
use Rattle.bool_matrix.specs.Cells.{TrueJoin}
use Rattle.bool_matrix.specs.Terms.{joining}
use Rattle.bool_matrix.proofs.Loops.{matrix_more, matrix_all, matrix_same, matrix_made, entries_same, entry_of, joined_true, joined_there}
use Rattle.bool_matrix.proofs.Nodes.{joins_kept}
use Rattle.std.proofs.lemmas.List.Sums.{sum_by-take-le}
use Rattle.bool_matrix.proofs.Terms.{sum_step, joins-entries}
use Rattle.bool_matrix.proofs.matrix.Matrix.joined.Goals as goal

pub add_joins-requires-clause-room : goal.add_joins-requires-clause-room
add_joins-requires-clause-room c =
    let xs : List Entry = c.entries-left-items.result.now in
    let x = c.left-item.result in
    let cost : List Entry → Entry → _ = λ rs l. sum_by (λ r. joining l.tuple r.tuple) rs in
    let sum = sum_step (cost c.args.other.now.entries) xs c.loop-left.left-index x c.loop-left-test.true c.left-item.is in
    let all = joins-entries c.args.self.now c.args.other.now ∙ ap (sum_by (cost c.args.other.now.entries)) (sym c.entries-left-items.ensures.value) in
    let same = ap (λ rs. cost rs x) c.entries.ensures.value in
    omega (arith, c.loop-left.invariant.size, sum.1, all, same, c.requires.room)

pub loop-left-preserved : goal.loop-left-preserved
loop-left-preserved c =
    let old = c.args.circuit.now in
    let w = c.loop-left.circuit in
    let x = c.left-item.result in
    let xs : List Entry = c.entries-left-items.result.now in
    let cost : List Entry → Entry → _ = λ rs l. sum_by (λ r. joining l.tuple r.tuple) rs in
    let b = entry_of old c.args.self.now xs c.loop-left.left-index x c.entries-left-items.ensures.value c.requires.of c.loop-left-test.true c.left-item.is in
    let sum = sum_step (cost c.args.other.now.entries) xs c.loop-left.left-index x c.loop-left-test.true c.left-item.is in
    let same = ap (λ rs. cost rs x) c.entries.ensures.value in
    record {
      extends = Extends-trans old w c.add_joins.new.circuit c.loop-left.invariant.extends c.add_joins.ensures.extends;
      gains = matrix_more xs (λ inputs l t. SomeGives c.args.other.now.entries (TrueJoin old inputs l) t) (λ l t. SomeGives c.args.other.now.entries (λ r. JoinsTo l.tuple r.tuple) t) c.loop-left.left-index x old w c.add_joins.new.circuit c.new-out.result c.loop-left.out c.add_joins.new.self c.loop-left-test.true c.left-item.is c.loop-left.invariant.gains
          (matrix_same (λ s. same_then (entries_same (TrueJoin w s x) c.entries.ensures.value) (joins_kept old w c.loop-left.invariant.extends s x c.args.other.now b c.requires.of_other))
          (entries_same (λ r. JoinsTo x.tuple r.tuple) c.entries.ensures.value) c.in_ok-add_joins.ensures.gains);
      size = omega (arith, c.loop-left.invariant.size, c.in_ok-add_joins.ensures.size, sum.0, same);
    }

pub returns-clause-is : goal.returns-clause-is
returns-clause-is c =
    let old = c.args.circuit.now in
    let xs : List Entry = c.entries-left-items.result.now in
    matrix_made old c.loop-left.circuit c.new-out.result c.loop-left.out (c.args.self.now.arity + c.args.other.now.arity - 2) _ _ _ _ c.new-out.ensures.entries (let a = c.arity.ensures.value in let b = c.arity-2.ensures.value in let e = c.new-out.ensures.arity in omega arith)
    (matrix_all xs (λ inputs l t. SomeGives c.args.other.now.entries (TrueJoin old inputs l) t) (λ l t. SomeGives c.args.other.now.entries (λ r. JoinsTo l.tuple r.tuple) t) c.loop-left.left-index old c.loop-left.circuit c.new-out.result c.loop-left.out (omega arith) c.loop-left.invariant.gains)
    (λ s. joined_true old c.args.self.now c.args.other.now s xs c.entries-left-items.ensures.value)
    (joined_there c.args.self.now c.args.other.now xs c.entries-left-items.ensures.value)

pub returns-clause-size : goal.returns-clause-size
returns-clause-size c =
    let xs : List Entry = c.entries-left-items.result.now in
    let cost : Entry → _ = λ l. sum_by (λ r. joining l.tuple r.tuple) c.args.other.now.entries in
    let all = joins-entries c.args.self.now c.args.other.now ∙ ap (sum_by cost) (sym c.entries-left-items.ensures.value) in
    let part = sum_by-take-le cost xs c.loop-left.left-index in
    omega (arith, c.loop-left.invariant.size, all, part)
