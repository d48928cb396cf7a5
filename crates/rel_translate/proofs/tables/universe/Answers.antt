use Rattle.std.proofs.Common.{◌≡◌, ◌<◌, ◌∙◌, All, AllPairs, length, get_or, sym, subst, arith}
use Rattle.std.proofs.lemmas.List.{get_or_default}
use Rattle.bool_circuit.specs.Network.{Network}
use Rattle.bool_matrix.specs.declared.entry.Entry.{Entry}
use Rattle.rel_translate.specs.Tables.{AreLeaves, IsRelationOf}
use Rattle.rel_translate.proofs.Tabled.{tops_none, tops_there_none, tops_there_more, tops_more, tops_absent, top_below, top_unary, universe_well}
use Rattle.rel_translate.proofs.tables.universe.Goals as goal

pub loop-top-init : goal.loop-top-init
loop-top-init c = record {
  arity = c.new-out.ensures.arity;
  there = tops_there_none c.args.problem.now c.new-out.result c.tops-top-items.result.now c.new-out.ensures.entries;
  value = λ network leaves. tops_none network c.args.problem.now c.new-out.result c.tops-top-items.result.now c.new-out.ensures.entries;
}

pub put_all-requires-clause-absent : goal.put_all-requires-clause-absent
put_all-requires-clause-absent c =
    let p = c.args.problem.now in
    let tops = c.tops-top-items.result.now in
    let i = c.loop-top.top-index in
    let x = get_or tops i 0 in
    let l = c.loop-top-test.true in
    let well = c.relations.ensures.well in
    let there = top_below p tops i well c.tops-top-items.ensures l in
    let top = get_or c.args.relations.now x c.index-relations-top.result in
    let of : IsRelationOf c.requires.leaves.0 p x top = c.requires.each c.requires.leaves.0 c.requires.leaves.1 x c.index-relations-top.result (let n = c.requires.count in omega arith) in
    let same : c.entries.result.now ≡ top.entries = (let v = c.entries.ensures.value in let w = c.index-relations-top.is in cc) in
    tops_absent p tops i x l (get_or_default tops i 0 x l) c.loop-top.out c.loop-top.out top c.entries.result.now same
    (subst (AllPairs (λ r s. r < s)) (sym c.tops-top-items.ensures) well.rising) c.requires.disjoint c.tops-top-items.ensures c.loop-top.invariant.there of.is.there

pub loop-top-preserved : goal.loop-top-preserved
loop-top-preserved c =
    let p = c.args.problem.now in
    let tops = c.tops-top-items.result.now in
    let i = c.loop-top.top-index in
    let x = get_or tops i 0 in
    let l = c.loop-top-test.true in
    let well = c.relations.ensures.well in
    let there = top_below p tops i well c.tops-top-items.ensures l in
    let top = get_or c.args.relations.now x c.index-relations-top.result in
    let inv = c.loop-top.invariant in
    let below : x < length c.args.relations.now = (let n = c.requires.count in omega arith) in
    let each : (network : Network) → AreLeaves network p c.args.always c.args.inputs.now → IsRelationOf network p x top = λ network leaves. c.requires.each network leaves x c.index-relations-top.result below in
    let same : c.entries.result.now ≡ top.entries = (let v = c.entries.ensures.value in let w = c.index-relations-top.is in cc) in
    let at = get_or_default tops i 0 x l in
    let es = c.entries.result.now in
    record {
      arity = c.in_ok-put_all.ensures.arity ∙ inv.arity;
      there = tops_there_more p tops i x l at c.loop-top.out c.put_all.new.out top es same c.in_ok-put_all.ensures.there inv.there (each c.requires.leaves.0 c.requires.leaves.1).is.there;
      value = λ network leaves. tops_more p tops i x l at c.loop-top.out c.put_all.new.out top es same network c.in_ok-put_all.ensures.gains (each network leaves) (inv.value network leaves);
    }

pub returns : goal.returns
returns c = λ network leaves.
    universe_well network c.args.problem.now c.loop-top.out c.tops-top-items.result.now c.loop-top.top-index c.tops-top-items.ensures c.loop-top-test.false c.loop-top.invariant.arity c.entries-2.ensures.well c.loop-top.invariant.there (c.loop-top.invariant.value network leaves)

pub put_all-requires-clause-arities : goal.put_all-requires-clause-arities
put_all-requires-clause-arities c =
    let p = c.args.problem.now in
    let tops = c.tops-top-items.result.now in
    let i = c.loop-top.top-index in
    let x = get_or tops i 0 in
    let l = c.loop-top-test.true in
    let well = c.relations.ensures.well in
    let there = top_below p tops i well c.tops-top-items.ensures l in
    let top = get_or c.args.relations.now x c.index-relations-top.result in
    let of : IsRelationOf c.requires.leaves.0 p x top = c.requires.each c.requires.leaves.0 c.requires.leaves.1 x c.index-relations-top.result (let n = c.requires.count in omega arith) in
    let same : c.entries.result.now ≡ top.entries = (let v = c.entries.ensures.value in let w = c.index-relations-top.is in cc) in
    let one : top.arity ≡ 1 = of.is.arity_is ∙ top_unary p tops i well c.tops-top-items.ensures l in
    subst (All (λ (e : Entry). length e.tuple ≡ c.loop-top.out.arity)) (sym same) (λ k d h. of.well.arities k d h ∙ one ∙ sym c.loop-top.invariant.arity)
