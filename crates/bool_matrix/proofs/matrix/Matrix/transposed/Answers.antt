use Rattle.std.proofs.Common.{◌≡◌, ◌∙◌, sym, ap, refl, subst, IsTrue, List, length, inl, inr, arith}
use Rattle.tuple_core.specs.Gains.{Same}
use Rattle.tuple_core.proofs.Steps.{TurnsTo, turned_once, gains_more, gains_same}
use Rattle.bool_circuit.specs.Value.{value_at}
use Rattle.bool_matrix.specs.declared.entry.Entry.{Entry}
use Rattle.bool_matrix.specs.Entries.{IsAscending}
use Rattle.bool_matrix.specs.Cells.{ThereIn}
use Rattle.bool_matrix.proofs.Loops.{matrix_more, matrix_all, matrix_same, matrix_made, entry_of, entry_fits}
use Rattle.bool_matrix.proofs.TurnedPairs.{not_before, turned_from, turned_true, turned_there}
use Rattle.bool_matrix.proofs.matrix.Matrix.transposed.Goals as goal

pub put-requires-clause-arity : goal.put-requires-clause-arity
put-requires-clause-arity c =
    let x = c.entry-item.result in
    let two : length x.tuple ≡ 2 = entry_fits c.args.self.now c.entries-entry-items.result.now c.loop-entry.entry-index x c.entries-entry-items.ensures.value c.entries-entry-items.ensures.well c.loop-entry-test.true c.entry-item.is ∙ c.requires in
    (turned_once x.tuple c.transpose.result two c.transpose.ensures).2 ∙ sym (c.loop-entry.invariant.arity ∙ c.new-out.ensures.arity)

pub put-requires-clause-absent : goal.put-requires-clause-absent
put-requires-clause-absent c = λ g.
    let xs : List Entry = c.entries-entry-items.result.now in
    let x = c.entry-item.result in
    let q = c.transpose.result in
    let two : length x.tuple ≡ 2 = entry_fits c.args.self.now xs c.loop-entry.entry-index x c.entries-entry-items.ensures.value c.entries-entry-items.ensures.well c.loop-entry-test.true c.entry-item.is ∙ c.requires in
    let once = turned_once x.tuple q two c.transpose.ensures in
    elim ((c.loop-entry.invariant.there.tuples q).0 g) [
      | inl o ↦ (let l = o.1.1 in let e = ap (λ (es : List Entry). length es) c.new-out.ensures.entries in absurd (omega arith))
      | inr s ↦ not_before xs c.loop-entry.entry-index x (subst IsAscending (sym c.entries-entry-items.ensures.value) c.entries-entry-items.ensures.well.ascending) c.loop-entry-test.true c.entry-item.is s.0 s.1 (turned_from s.0.tuple x.tuple q s.2 (once.0 q refl))
    ]

pub loop-entry-preserved : goal.loop-entry-preserved
loop-entry-preserved c =
    let xs : List Entry = c.entries-entry-items.result.now in
    let x = c.entry-item.result in
    let q = c.transpose.result in
    let two : length x.tuple ≡ 2 = entry_fits c.args.self.now xs c.loop-entry.entry-index x c.entries-entry-items.ensures.value c.entries-entry-items.ensures.well c.loop-entry-test.true c.entry-item.is ∙ c.requires in
    let once = turned_once x.tuple q two c.transpose.ensures in
    let same : Same (λ t. t ≡ q) (TurnsTo x.tuple) = record { to = once.0; back = once.1 } in
    let puts = c.in_ok-put.ensures.gains in
    record {
      arity = puts.arity ∙ c.loop-entry.invariant.arity;
      there = gains_more xs c.loop-entry.entry-index x (λ e. TurnsTo e.tuple) (ThereIn c.new-out.result) (ThereIn c.loop-entry.out) (ThereIn c.put.new.self) c.loop-entry-test.true c.entry-item.is c.loop-entry.invariant.there
          (gains_same (ThereIn c.loop-entry.out) (ThereIn c.put.new.self) (λ t. t ≡ q) (TurnsTo x.tuple) same puts.there);
      gains = λ network of.
          let before = c.loop-entry.invariant.gains network of in
          let b = entry_of network c.args.self.now xs c.loop-entry.entry-index x c.entries-entry-items.ensures.value of c.loop-entry-test.true c.entry-item.is in
          matrix_more xs (λ inputs e t. TurnsTo e.tuple t × IsTrue (value_at network e.node inputs)) (λ e. TurnsTo e.tuple) c.loop-entry.entry-index x network network network c.new-out.result c.loop-entry.out c.put.new.self c.loop-entry-test.true c.entry-item.is before
          (matrix_same (λ s. record { to = λ t h. (same.to t h.0, h.1); back = λ t h. (same.back t h.0, h.1) }) same (puts.gains network before.of b));
    }

pub returns-clause-is : goal.returns-clause-is
returns-clause-is c = λ network of.
    let xs : List Entry = c.entries-entry-items.result.now in
    matrix_made network network c.new-out.result c.loop-entry.out 2 _ _ _ _ c.new-out.ensures.entries c.new-out.ensures.arity
    (matrix_all xs (λ inputs e t. TurnsTo e.tuple t × IsTrue (value_at network e.node inputs)) (λ e. TurnsTo e.tuple) c.loop-entry.entry-index network network c.new-out.result c.loop-entry.out (omega arith) (c.loop-entry.invariant.gains network of))
    (λ s. turned_true network c.args.self.now s xs c.entries-entry-items.ensures.value)
    (turned_there c.args.self.now xs c.entries-entry-items.ensures.value)
