use Rattle.std.proofs.Common.{length, ◌+◌, ◌≡◌, ◌++◌, ap, arith, List}
use Rattle.tuple_core.specs.Gains.{SomeGives}
use Rattle.tuple_core.proofs.Congruence.{same_then}
use Rattle.bool_circuit.proofs.CallerLemmas.{Extends-trans}
use Rattle.bool_matrix.specs.declared.entry.Entry.{Entry}
use Rattle.bool_matrix.specs.Cells.{TrueProduct}
use Rattle.bool_matrix.proofs.Loops.{matrix_more, matrix_all, matrix_same, matrix_made, entries_same, entry_of, multiplied_true, multiplied_there}
use Rattle.bool_matrix.proofs.Nodes.{products_kept}
use Rattle.bool_matrix.proofs.matrix.Matrix.multiplied.Goals as goal

pub loop-left-preserved : goal.loop-left-preserved
loop-left-preserved c =
    let old = c.args.circuit.now in
    let w = c.loop-left.circuit in
    let x = c.left-item.result in
    let xs : List Entry = c.entries-left-items.result.now in
    let b = entry_of old c.args.self.now xs c.loop-left.left-index x c.entries-left-items.ensures.value c.requires.of c.loop-left-test.true c.left-item.is in
    let same = ap (λ (rs : List Entry). length rs) c.entries.ensures.value in
    record {
      extends = Extends-trans old w c.add_products.new.circuit c.loop-left.invariant.extends c.add_products.ensures.extends;
      gains = matrix_more xs (λ inputs l t. SomeGives c.args.other.now.entries (TrueProduct old inputs l) t) (λ l t. SomeGives c.args.other.now.entries (λ r u. u ≡ l.tuple ++ r.tuple) t) c.loop-left.left-index x old w c.add_products.new.circuit c.new-out.result c.loop-left.out c.add_products.new.self c.loop-left-test.true c.left-item.is c.loop-left.invariant.gains
          (matrix_same (λ s. same_then (entries_same (TrueProduct w s x) c.entries.ensures.value) (products_kept old w c.loop-left.invariant.extends s x c.args.other.now b c.requires.of_other))
          (entries_same (λ r t. t ≡ x.tuple ++ r.tuple) c.entries.ensures.value) c.in_ok-add_products.ensures.gains);
      size = omega (arith, c.loop-left.invariant.size, c.in_ok-add_products.ensures.size, same);
    }

pub returns-clause-is : goal.returns-clause-is
returns-clause-is c =
    let old = c.args.circuit.now in
    let xs : List Entry = c.entries-left-items.result.now in
    matrix_made old c.loop-left.circuit c.new-out.result c.loop-left.out (c.args.self.now.arity + c.args.other.now.arity) _ _ _ _ c.new-out.ensures.entries (let a = c.arity.ensures.value in let b = c.arity-2.ensures.value in let e = c.new-out.ensures.arity in omega arith)
    (matrix_all xs (λ inputs l t. SomeGives c.args.other.now.entries (TrueProduct old inputs l) t) (λ l t. SomeGives c.args.other.now.entries (λ r u. u ≡ l.tuple ++ r.tuple) t) c.loop-left.left-index old c.loop-left.circuit c.new-out.result c.loop-left.out (omega arith) c.loop-left.invariant.gains)
    (λ s. multiplied_true old c.args.self.now c.args.other.now s xs c.entries-left-items.ensures.value)
    (multiplied_there c.args.self.now c.args.other.now xs c.entries-left-items.ensures.value)
