use Rattle.std.proofs.Common.{◌<◌, ◌∙◌, sym, subst, length, refl, inl, inr}
use Rattle.tuple_core.proofs.Steps.{gains_none, gains_more, gains_all}
use Rattle.bool_matrix.specs.declared.entry.Entry.{Entry}
use Rattle.bool_matrix.specs.Cells.{AtEntry, TrueAt, ThereIn}
use Rattle.bool_matrix.specs.Edits.{Puts}
use Rattle.bool_matrix.proofs.Loops.{matrix_none, matrix_more, matrix_all}
use Rattle.bool_matrix.proofs.TurnedPairs.{not_before}
use Rattle.rel_translate.proofs.tables.put_all.Goals as goal

pub loop-entry-init : goal.loop-entry-init
loop-entry-init c = record {
  arity = refl;
  there = gains_none c.args.entries.now AtEntry (ThereIn c.args.out.now);
  gains = λ network of nodes. matrix_none c.args.entries.now (λ s. TrueAt network s) AtEntry network c.args.out.now of;
}

pub put-requires-clause-absent : goal.put-requires-clause-absent
put-requires-clause-absent c = λ g.
    let es = c.args.entries.now in
    let i = c.loop-entry.entry-index in
    let x = c.entry-item.result in
    let g' = subst (ThereIn c.loop-entry.out) c.copy.ensures g in
    elim ((c.loop-entry.invariant.there.tuples x.tuple).0 g') [
      | inl old ↦ subst (λ (y : Entry). ThereIn c.args.out.now y.tuple → ⊥) (sym c.entry-item.is) (c.requires.absent i x c.loop-entry-test.true) old
      | inr s ↦ not_before es i x c.requires.ascending c.loop-entry-test.true c.entry-item.is s.0 s.1 (sym s.2)
    ]

pub loop-entry-preserved : goal.loop-entry-preserved
loop-entry-preserved c =
    let es = c.args.entries.now in
    let i = c.loop-entry.entry-index in
    let x = c.entry-item.result in
    let l = c.loop-entry-test.true in
    let inv = c.loop-entry.invariant in
    let puts = subst (λ t. Puts c.loop-entry.out c.put.new.self t x.node) c.copy.ensures c.in_ok-put.ensures.gains in
    record {
      arity = puts.arity ∙ inv.arity;
      there = gains_more es i x AtEntry (ThereIn c.args.out.now) (ThereIn c.loop-entry.out) (ThereIn c.put.new.self) l c.entry-item.is inv.there puts.there;
      gains = λ network of nodes.
          let before = inv.gains network of nodes in
          let known : x.node < length network.shapes = subst (λ (y : Entry). y.node < length network.shapes) (sym c.entry-item.is) (nodes i x l) in
          matrix_more es (λ s. TrueAt network s) AtEntry i x network network network c.args.out.now c.loop-entry.out c.put.new.self l c.entry-item.is before (puts.gains network before.of known);
    }

pub returns-clause-there : goal.returns-clause-there
returns-clause-there c = gains_all c.args.entries.now c.loop-entry.entry-index AtEntry (ThereIn c.args.out.now) (ThereIn c.loop-entry.out) c.loop-entry-test.false c.loop-entry.invariant.there

pub returns-clause-gains : goal.returns-clause-gains
returns-clause-gains c = λ network of nodes. matrix_all c.args.entries.now (λ s. TrueAt network s) AtEntry c.loop-entry.entry-index network network c.args.out.now c.loop-entry.out c.loop-entry-test.false (c.loop-entry.invariant.gains network of nodes)
