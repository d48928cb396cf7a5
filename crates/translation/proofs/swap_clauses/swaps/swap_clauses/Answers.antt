use Rattle.std.proofs.Common.{◌≡◌, ◌↔◌, ◌⊎◌, ◌+◌, ◌*◌, ◌<◌, ◌≤◌, ◌∙◌, [], ℕ, suc, List, length, take, get_or, Contains, subst, sym, ap, arith}
use Rattle.std.proofs.Math.Seq.{take-suc}
use Rattle.std.proofs.lemmas.List.{take_all, length-take-le}
use Rattle.cnf_core.specs.Formula.{Formula}
use Rattle.refutation_check.specs.SearchLog.{IsVarOf}
use Rattle.rel_formula.specs.Bounds.{cells_of}
use Rattle.swap_symmetry.specs.Swaps.{NoSwapIsEarlier}
use Rattle.translation_rules.specs.Translation.{IsCellVar, IsSatisfiableAt}
use Rattle.translation.proofs.SwapChains.Pairs.{SaysOf, no_pairs, one_pair_more, all_say, all_vars, all_within, all_fresh, few_times, few_clauses}
use Rattle.translation.proofs.swap_clauses.swaps.swap_clauses.Goals as goal

pub loop-pair-init : goal.loop-pair-init
loop-pair-init c = subst (SaysOf c.args.problem.now c.args.first_variable c.args.first_variable []) (sym c.new-clauses.ensures.items) (no_pairs c.args.problem.now c.args.first_variable)

pub add_swap-requires : goal.add_swap-requires
add_swap-requires c =
    let p = c.args.problem.now in
    let i = c.loop-pair.pair-index in
    let says = c.loop-pair.invariant in
    let e = c.cells.ensures.value in
    let k = c.cells.ensures.few in
    let l : i < length c.args.pairs.now = c.loop-pair-test.true in
    let long : length (take i c.args.pairs.now) ≡ i = length-take-le i c.args.pairs.now (omega arith) in
    let most = few_times (length (take i c.args.pairs.now)) (length (cells_of p)) (let n = c.requires.pairs in omega arith) (omega arith) in record {
      above = (let low = says.low in let a = c.requires.above in omega arith);
      room = (let high = says.high in let r = c.requires.room in omega arith);
      fresh = all_fresh p c.args.first_variable c.loop-pair.next (take i c.args.pairs.now) c.loop-pair.clauses.items c.requires.above says;
    }

pub loop-pair-preserved : goal.loop-pair-preserved
loop-pair-preserved c =
    let p = c.args.problem.now in
    let i = c.loop-pair.pair-index in
    let pairs = c.args.pairs.now in
    let next : suc i ≡ i + 1 = omega arith in
    subst (λ qs. SaysOf p c.args.first_variable (c.in_ok-next.field-0 + 1) qs c.add_swap.new.clauses.items) (sym (take-suc pairs i _ c.loop-pair-test.true) ∙ ap (λ n. take n pairs) next)
    (one_pair_more p c.args.first_variable c.loop-pair.next c.in_ok-next.field-0 (take i pairs) (get_or pairs i _) c.loop-pair.clauses.items c.add_swap.new.clauses.items c.requires.above c.loop-pair.invariant c.in_ok-next.ensures)

pub formula_of-requires : goal.formula_of-requires
formula_of-requires c =
    let p = c.args.problem.now in
    let pairs = c.args.pairs.now in
    let all : take c.loop-pair.pair-index pairs ≡ pairs = take_all c.loop-pair.pair-index pairs (let f = c.loop-pair-test.false in omega arith) in
    let says : SaysOf p c.args.first_variable c.loop-pair.next pairs c.loop-pair.clauses.items = subst (λ qs. SaysOf p c.args.first_variable c.loop-pair.next qs c.loop-pair.clauses.items) all c.loop-pair.invariant in
    let e = c.cells.ensures.value in
    let k = c.cells.ensures.few in record {
      vars = (let high = says.high in let r = c.requires.room in let most = few_times (length pairs) (length (cells_of p)) c.requires.pairs (omega arith) in omega arith);
      within = all_within p c.args.first_variable c.loop-pair.next pairs c.loop-pair.clauses.items c.requires.above says;
      few = (let f = says.few in let most = few_clauses (length pairs) (length (cells_of p)) c.requires.pairs (omega arith) in omega arith);
    }

pub returns-clause-says : goal.returns-clause-says
returns-clause-says c =
    let p = c.args.problem.now in
    let pairs = c.args.pairs.now in
    let all : take c.loop-pair.pair-index pairs ≡ pairs = take_all c.loop-pair.pair-index pairs (let f = c.loop-pair-test.false in omega arith) in
    let says : SaysOf p c.args.first_variable c.loop-pair.next pairs c.loop-pair.clauses.items = subst (λ qs. SaysOf p c.args.first_variable c.loop-pair.next qs c.loop-pair.clauses.items) all c.loop-pair.invariant in
    subst (λ (f : Formula). (s : List ℕ) → NoSwapIsEarlier p (λ a b. Contains pairs (a, b)) (Contains s) ↔ IsSatisfiableAt p s f.clauses) (sym c.in_ok-formula_of.ensures)
    (all_say p c.args.first_variable c.loop-pair.next pairs c.loop-pair.clauses.items c.requires.above says)

pub returns-clause-variables : goal.returns-clause-variables
returns-clause-variables c =
    let p = c.args.problem.now in
    let pairs = c.args.pairs.now in
    let all : take c.loop-pair.pair-index pairs ≡ pairs = take_all c.loop-pair.pair-index pairs (let f = c.loop-pair-test.false in omega arith) in
    let says : SaysOf p c.args.first_variable c.loop-pair.next pairs c.loop-pair.clauses.items = subst (λ qs. SaysOf p c.args.first_variable c.loop-pair.next qs c.loop-pair.clauses.items) all c.loop-pair.invariant in
    subst (λ (f : Formula). (var : ℕ) → IsVarOf f.clauses var → IsCellVar p var ⊎ ((c.args.first_variable ≤ var) × (var ≤ f.vars))) (sym c.in_ok-formula_of.ensures)
    (all_vars p c.args.first_variable c.loop-pair.next pairs c.loop-pair.clauses.items c.requires.above says)

pub returns-clause-few_variables : goal.returns-clause-few_variables
returns-clause-few_variables c =
    let p = c.args.problem.now in
    let pairs = c.args.pairs.now in
    let all : take c.loop-pair.pair-index pairs ≡ pairs = take_all c.loop-pair.pair-index pairs (let f = c.loop-pair-test.false in omega arith) in
    let says : SaysOf p c.args.first_variable c.loop-pair.next pairs c.loop-pair.clauses.items = subst (λ qs. SaysOf p c.args.first_variable c.loop-pair.next qs c.loop-pair.clauses.items) all c.loop-pair.invariant in
    subst (λ (f : Formula). (c.args.first_variable ≤ f.vars + 1) × (f.vars < c.args.first_variable + length pairs * (length (cells_of p) + 1))) (sym c.in_ok-formula_of.ensures)
    (let low = says.low in let high = says.high in let a = c.requires.above in (omega arith, omega arith))

pub returns-clause-few_clauses : goal.returns-clause-few_clauses
returns-clause-few_clauses c =
    let p = c.args.problem.now in
    let pairs = c.args.pairs.now in
    let all : take c.loop-pair.pair-index pairs ≡ pairs = take_all c.loop-pair.pair-index pairs (let f = c.loop-pair-test.false in omega arith) in
    let says : SaysOf p c.args.first_variable c.loop-pair.next pairs c.loop-pair.clauses.items = subst (λ qs. SaysOf p c.args.first_variable c.loop-pair.next qs c.loop-pair.clauses.items) all c.loop-pair.invariant in
    subst (λ (f : Formula). length f.clauses ≤ length pairs * (3 * length (cells_of p) + 1)) (sym c.in_ok-formula_of.ensures) says.few
