use Rattle.std.proofs.Common.{◌≡◌, ◌∙◌, [], ◌∷◌, sym, ap, subst, List, length, refl, inl, inr, arith}
use Rattle.tuple_core.specs.Gains.{Same}
use Rattle.tuple_core.proofs.Steps.{gains_none, gains_more, gains_same}
use Rattle.bool_matrix.specs.declared.entry.Entry.{Entry}
use Rattle.bool_matrix.specs.Entries.{IsAscending}
use Rattle.bool_matrix.specs.Cells.{ThereIn}
use Rattle.bool_matrix.specs.Edits.{Puts}
use Rattle.bool_matrix.proofs.Loops.{matrix_none, matrix_more, matrix_all, matrix_same, matrix_made, of_empty, entry_of, entry_fits}
use Rattle.bool_matrix.proofs.TurnedPairs.{not_before}
use Rattle.rel_formula.proofs.Valued.{Doubles, one_atom, double_is}
use Rattle.rel_translate.proofs.Doubled.{DoubleAt, TrueDouble, doubled_there, doubled_true, double_once}
use Rattle.rel_translate.proofs.leaves.identity.Goals as goal

pub loop-entry-init : goal.loop-entry-init
loop-entry-init c = record {
  arity = refl;
  there = gains_none c.entries-entry-items.result.now DoubleAt (ThereIn c.new-out.result);
  gains = λ network of. matrix_none c.entries-entry-items.result.now (λ s. TrueDouble network s) DoubleAt network c.new-out.result (of_empty network c.new-out.result c.new-out.ensures.entries);
}

pub put-requires-clause-absent : goal.put-requires-clause-absent
put-requires-clause-absent c = λ g.
    let xs : List Entry = c.entries-entry-items.result.now in
    let i = c.loop-entry.entry-index in
    let x = c.entry-item.result in
    let q = c.of.result in
    let a = c.first-atom.result in
    let one : length x.tuple ≡ 1 = entry_fits c.args.atoms.now xs i x c.entries-entry-items.ensures.value c.entries-entry-items.ensures.well c.loop-entry-test.true c.entry-item.is ∙ c.requires in
    let row = one_atom a x.tuple one c.first-atom.ensures in
    elim ((c.loop-entry.invariant.there.tuples q).0 g) [
      | inl o ↦ absurd (let l = o.1.1 in let e = ap (λ (es : List Entry). length es) c.new-out.ensures.entries in omega arith)
      | inr s ↦ not_before xs i x (subst IsAscending (sym c.entries-entry-items.ensures.value) c.entries-entry-items.ensures.well.ascending) c.loop-entry-test.true c.entry-item.is s.0 s.1 (double_once s.0.tuple x.tuple q a row c.of.ensures s.2)
    ]

pub loop-entry-preserved : goal.loop-entry-preserved
loop-entry-preserved c =
    let xs : List Entry = c.entries-entry-items.result.now in
    let i = c.loop-entry.entry-index in
    let x = c.entry-item.result in
    let a = c.first-atom.result in
    let l = c.loop-entry-test.true in
    let is = c.entry-item.is in
    let inv = c.loop-entry.invariant in
    let one : length x.tuple ≡ 1 = entry_fits c.args.atoms.now xs i x c.entries-entry-items.ensures.value c.entries-entry-items.ensures.well l is ∙ c.requires in
    let same : Same (λ t. t ≡ a ∷ a ∷ []) (Doubles x.tuple) = double_is a x.tuple (one_atom a x.tuple one c.first-atom.ensures) in
    let puts = subst (λ t. Puts c.loop-entry.out c.put.new.self t x.node) c.of.ensures c.in_ok-put.ensures.gains in
    record {
      arity = puts.arity ∙ inv.arity;
      there = gains_more xs i x DoubleAt (ThereIn c.new-out.result) (ThereIn c.loop-entry.out) (ThereIn c.put.new.self) l is inv.there
          (gains_same (ThereIn c.loop-entry.out) (ThereIn c.put.new.self) (λ t. t ≡ a ∷ a ∷ []) (Doubles x.tuple) same puts.there);
      gains = λ network of.
          let before = inv.gains network of in
          let known = entry_of network c.args.atoms.now xs i x c.entries-entry-items.ensures.value of l is in
          matrix_more xs (λ s. TrueDouble network s) DoubleAt i x network network network c.new-out.result c.loop-entry.out c.put.new.self l is before
          (matrix_same (λ s. record { to = λ t h. (same.to t h.0, h.1); back = λ t h. (same.back t h.0, h.1) }) same (puts.gains network before.of known));
    }

pub returns : goal.returns
returns c = λ network of.
    let xs : List Entry = c.entries-entry-items.result.now in
    record {
      well = c.entries.ensures.well;
      is = matrix_made network network c.new-out.result c.loop-entry.out 2 _ _ _ _ c.new-out.ensures.entries c.new-out.ensures.arity
          (matrix_all xs (λ s. TrueDouble network s) DoubleAt c.loop-entry.entry-index network network c.new-out.result c.loop-entry.out c.loop-entry-test.false (c.loop-entry.invariant.gains network of))
          (λ s. doubled_true network s c.args.atoms.now xs c.entries-entry-items.ensures.value)
          (doubled_there c.args.atoms.now xs c.entries-entry-items.ensures.value);
    }
