use Rattle.std.proofs.Common.{◌∙◌, arith, List}
use Rattle.tuple_core.proofs.Congruence.{same_itself}
use Rattle.bool_circuit.proofs.CallerLemmas.{Extends-trans}
use Rattle.bool_matrix.specs.declared.entry.Entry.{Entry}
use Rattle.bool_matrix.specs.Cells.{AtEntry, TrueAt, ThereIn, TrueIn}
use Rattle.bool_matrix.proofs.Loops.{matrix_more, matrix_all, matrix_same, matrix_made, entry_of, kept_true, kept_there, fits_tuple}
use Rattle.bool_matrix.proofs.Nodes.{true_if_kept}
use Rattle.bool_matrix.proofs.matrix.Matrix.met.Goals as goal

pub loop-entry-preserved : goal.loop-entry-preserved
loop-entry-preserved c =
    let old = c.args.circuit.now in
    let x = c.entry-item.result in
    let b = entry_of old c.args.self.now c.entries-entry-items.result.now c.loop-entry.entry-index x c.entries-entry-items.ensures.value c.requires.of c.loop-entry-test.true c.entry-item.is in
    record {
      extends = Extends-trans old c.loop-entry.circuit c.add_if.new.circuit c.loop-entry.invariant.extends c.add_if.ensures.extends;
      gains = matrix_more c.entries-entry-items.result.now (λ inputs e t. TrueAt old inputs e t × TrueIn old c.args.other.now inputs e.tuple) (λ e t. AtEntry e t × ThereIn c.args.other.now e.tuple) c.loop-entry.entry-index x old c.loop-entry.circuit c.add_if.new.circuit c.new-out.result c.loop-entry.out c.add_if.new.self c.loop-entry-test.true c.entry-item.is c.loop-entry.invariant.gains
          (matrix_same (λ inputs. true_if_kept old c.loop-entry.circuit c.loop-entry.invariant.extends inputs x c.args.other.now x.tuple b c.requires.of_other) (same_itself _) c.in_ok-add_if.ensures.gains);
      size = omega (arith, c.loop-entry.invariant.size, c.in_ok-add_if.ensures.size);
    }

pub returns-clause-is : goal.returns-clause-is
returns-clause-is c =
    let old = c.args.circuit.now in
    let xs : List Entry = c.entries-entry-items.result.now in
    matrix_made old c.loop-entry.circuit c.new-out.result c.loop-entry.out c.args.self.now.arity _ _ _ _ c.new-out.ensures.entries (c.new-out.ensures.arity ∙ c.arity.ensures.value)
    (matrix_all xs (λ inputs e t. TrueAt old inputs e t × TrueIn old c.args.other.now inputs e.tuple) (λ e t. AtEntry e t × ThereIn c.args.other.now e.tuple) c.loop-entry.entry-index old c.loop-entry.circuit c.new-out.result c.loop-entry.out (omega arith) c.loop-entry.invariant.gains)
    (λ s. kept_true old c.args.self.now s xs (λ e. TrueIn old c.args.other.now s e.tuple) (TrueIn old c.args.other.now s) c.entries-entry-items.ensures.value (λ e t h. fits_tuple (TrueIn old c.args.other.now s) e t h))
    (kept_there c.args.self.now xs (λ e. ThereIn c.args.other.now e.tuple) (ThereIn c.args.other.now) c.entries-entry-items.ensures.value (fits_tuple (ThereIn c.args.other.now)))
