use Rattle.std.proofs.Common.{◌≡◌, length, take, IsTrue, List, ap, sym, subst, arith}
use Rattle.std.proofs.lemmas.List.{take_all}
use Rattle.bool_circuit.specs.Value.{value_at}
use Rattle.bool_circuit.proofs.CallerLemmas.{Extends-trans}
use Rattle.bool_circuit.proofs.Values.{Extends-refl}
use Rattle.bool_matrix.specs.declared.entry.Entry.{Entry}
use Rattle.bool_matrix.specs.Cells.{TrueIn}
use Rattle.bool_matrix.proofs.Loops.{entry_of, of_kept}
use Rattle.bool_matrix.proofs.ComparedEntries.{Each, says_same, says_itself, says_both, each_none, each_more, test_kept, each_within}
use Rattle.bool_matrix.proofs.matrix.Matrix.all_within.Goals as goal

pub loop-entry-init : goal.loop-entry-init
loop-entry-init c = record {
  extends = Extends-refl c.args.circuit.now;
  says = says_same (λ s. (λ h. (h, each_none c.entries-entry-items.result.now _), λ p. p.0)) (says_itself c.args.circuit.now c.args.start c.requires.start);
  size = omega arith;
}

pub node_within-requires-clause-node : goal.node_within-requires-clause-node
node_within-requires-clause-node c =
    let b = entry_of c.args.circuit.now c.args.self.now c.entries-entry-items.result.now c.loop-entry.entry-index c.entry-item.result c.entries-entry-items.ensures.value c.requires.of c.loop-entry-test.true c.entry-item.is in
    omega (arith, c.loop-entry.invariant.extends.longer)

pub node_within-requires-clause-of : goal.node_within-requires-clause-of
node_within-requires-clause-of c = of_kept c.args.circuit.now c.loop-entry.circuit c.args.other.now c.loop-entry.invariant.extends c.requires.of_other

pub node_within-requires-clause-room : goal.node_within-requires-clause-room
node_within-requires-clause-room c =
    let same : length c.entries-entry-items.result.now ≡ length c.args.self.now.entries = ap (λ (xs : List Entry). length xs) c.entries-entry-items.ensures.value in
    omega (arith, c.loop-entry.invariant.size, c.requires.room, c.loop-entry-test.true)

pub loop-entry-preserved : goal.loop-entry-preserved
loop-entry-preserved c =
    let old = c.args.circuit.now in
    let w = c.loop-entry.circuit in
    let x = c.entry-item.result in
    let xs : List Entry = c.entries-entry-items.result.now in
    let b = entry_of old c.args.self.now xs c.loop-entry.entry-index x c.entries-entry-items.ensures.value c.requires.of c.loop-entry-test.true c.entry-item.is in
    record {
      extends = Extends-trans old w c.and.new.self c.loop-entry.invariant.extends (Extends-trans w c.node_within.new.circuit c.and.new.self c.node_within.ensures.extends c.and.ensures.extends);
      says = says_same (λ s.
          let t = test_kept old w c.loop-entry.invariant.extends x c.args.other.now b c.requires.of_other s in
          let m = each_more xs c.loop-entry.entry-index x (λ e. IsTrue (value_at old e.node s) → TrueIn old c.args.other.now s e.tuple) c.loop-entry-test.true c.entry-item.is in
          (λ p. (p.0.0, m.0 (p.0.1, t.0 p.1)), λ p. let q = m.1 p.1 in ((p.0, q.0), t.1 q.1)))
          (says_both w c.node_within.new.circuit c.and.new.self c.loop-entry.all c.in_ok-within.within c.in_ok-all.all _ _ c.node_within.ensures.extends c.loop-entry.invariant.says c.in_ok-within.ensures.says c.in_ok-all.ensures.value);
      size = omega (arith, c.loop-entry.invariant.size, c.node_within.ensures.size, c.and.ensures.size);
    }

pub returns-clause-says : goal.returns-clause-says
returns-clause-says c =
    let old = c.args.circuit.now in
    let xs : List Entry = c.entries-entry-items.result.now in
    says_same (λ s.
    let all : take c.loop-entry.entry-index xs ≡ xs = take_all c.loop-entry.entry-index xs (omega arith) in
    let e = each_within old c.args.self.now c.args.other.now s xs c.entries-entry-items.ensures.value in
    let P : Entry → Type 0 = λ e. IsTrue (value_at old e.node s) → TrueIn old c.args.other.now s e.tuple in
    (λ p. (p.0, e.0 (subst (λ zs. Each zs P) all p.1)), λ p. (p.0, subst (λ zs. Each zs P) (sym all) (e.1 p.1)))) c.loop-entry.invariant.says
