use Rattle.std.proofs.Common.{◌≡◌, inl, inr, ◌+◌, ◌*◌, ◌<◌, ◌≤◌, ◌∙◌, [], ◌∷◌, ◌++◌, ℕ, suc, List, length, take, get_or, subst, sym, ap, arith}
use Rattle.std.proofs.lemmas.List.{length-take-le}
use Rattle.rel_formula.specs.Bounds.{cells_of}
use Rattle.translation.proofs.SwapChains.Pairs.{few_times}
use Rattle.translation.proofs.Chains.{Made, made_none, made_next}
use Rattle.translation.proofs.swaps.clauses_of_pairs.Goals as goal

pub loop-pair-init : goal.loop-pair-init
loop-pair-init c = subst (Made c.args.problem.now c.args.last c.args.last []) (sym c.new-cnfs.ensures.items) (made_none c.args.problem.now c.args.last)

pub overflow_add-behind : goal.overflow_add-behind
overflow_add-behind c =
    let i = c.loop-pair.pair-index in
    let made = c.loop-pair.invariant in
    let e = c.cells.ensures.value in
    let k = c.cells.ensures.few in
    let l : i < length c.args.pairs.now = c.loop-pair-test.true in
    let long : length (take i c.args.pairs.now) ≡ i = length-take-le i c.args.pairs.now (omega arith) in
    let most = few_times (length (take i c.args.pairs.now)) (length (cells_of c.args.problem.now)) (let n = c.requires.pairs in omega arith) (omega arith) in
    let high = made.most in
    let r = c.requires.room in
    omega arith

pub loop-pair-preserved : goal.loop-pair-preserved
loop-pair-preserved c =
    let says = c.in_ok-cnf.ensures in
    made_next c.args.problem.now c.args.last c.loop-pair.behind c.vars-behind.result c.args.pairs.now c.loop-pair.pair-index _ c.loop-pair.cnfs.items c.push.new.self.items c.in_ok-cnf.cnf
    c.loop-pair-test.true c.loop-pair.invariant (record {
      says = says.says;
      variables = λ var has. elim (says.variables var has) [
        | inl cell ↦ inl cell
        | inr r ↦ inr (let l = r.0 in omega arith, r.1)
      ];
      some = (let l = says.few_variables.0 in omega arith);
      few_variables = (let l = says.few_variables.1 in omega arith);
      few_clauses = says.few_clauses;
    }) c.in_ok-push.ensures.items c.vars-behind.ensures.vars
