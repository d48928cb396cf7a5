use Rattle.std.proofs.Common.{◌↔◌, ◌⊎◌, ◌+◌, ◌*◌, ◌≤◌, [], ℕ, List, length, Contains, subst, sym, arith}
use Rattle.cnf_core.specs.Formula.{Formula}
use Rattle.refutation_check.specs.SearchLog.{IsVarOf}
use Rattle.rel_formula.specs.Bounds.{cells_of}
use Rattle.swap_symmetry.specs.Swaps.{SwapIsEarlier}
use Rattle.translation_rules.specs.Translation.{IsCellVar, IsSatisfiableAt}
use Rattle.translation.specs.SwapChains.Chain.{ForbidsSwap}
use Rattle.translation.proofs.SwapChains.Pairs.{no_clause, one_says, one_vars, one_within}
use Rattle.translation.proofs.swap_clauses.swaps.swap_clauses_of.Goals as goal

pub add_swap-requires : goal.add_swap-requires
add_swap-requires c = record {
  above = c.requires.above;
  room = (let e = c.cells.ensures.value in let k = c.cells.ensures.few in let r = c.requires.room in omega arith);
  fresh = λ var has. absurd (no_clause var (subst (λ clauses. IsVarOf clauses var) c.new-clauses.ensures.items has));
}

pub formula_of-requires : goal.formula_of-requires
formula_of-requires c =
    let p = c.args.problem.now in
    let new = c.add_swap.new.clauses.items in
    let last = c.in_ok-last.last in
    let swap : ForbidsSwap p c.args.first c.args.second c.args.first_variable last [] new = subst (λ old. ForbidsSwap p c.args.first c.args.second c.args.first_variable last old new) c.new-clauses.ensures.items c.in_ok-last.ensures in
    let e = c.cells.ensures.value in
    let k = c.cells.ensures.few in record {
      vars = (let h = swap.high in let r = c.requires.room in omega arith);
      within = one_within p c.args.first_variable last c.args.first c.args.second new c.requires.above swap;
      few = (let f = swap.few in omega arith);
    }

pub returns-clause-says : goal.returns-clause-says
returns-clause-says c =
    let p = c.args.problem.now in
    let new = c.add_swap.new.clauses.items in
    let last = c.in_ok-last.last in
    let swap : ForbidsSwap p c.args.first c.args.second c.args.first_variable last [] new = subst (λ old. ForbidsSwap p c.args.first c.args.second c.args.first_variable last old new) c.new-clauses.ensures.items c.in_ok-last.ensures in
    subst (λ (f : Formula). (s : List ℕ) → (¬ SwapIsEarlier p c.args.first c.args.second (Contains s)) ↔ IsSatisfiableAt p s f.clauses) (sym c.in_ok-formula_of.ensures)
    (one_says p c.args.first_variable last c.args.first c.args.second new c.requires.above swap)

pub returns-clause-variables : goal.returns-clause-variables
returns-clause-variables c =
    let p = c.args.problem.now in
    let new = c.add_swap.new.clauses.items in
    let last = c.in_ok-last.last in
    let swap : ForbidsSwap p c.args.first c.args.second c.args.first_variable last [] new = subst (λ old. ForbidsSwap p c.args.first c.args.second c.args.first_variable last old new) c.new-clauses.ensures.items c.in_ok-last.ensures in
    subst (λ (f : Formula). (var : ℕ) → IsVarOf f.clauses var → IsCellVar p var ⊎ ((c.args.first_variable ≤ var) × (var ≤ f.vars))) (sym c.in_ok-formula_of.ensures)
    (one_vars p c.args.first_variable last c.args.first c.args.second new c.requires.above swap)

pub returns-clause-few_variables : goal.returns-clause-few_variables
returns-clause-few_variables c =
    let p = c.args.problem.now in
    let swap = c.in_ok-last.ensures in
    subst (λ (f : Formula). (c.args.first_variable ≤ f.vars) × (f.vars ≤ c.args.first_variable + length (cells_of p))) (sym c.in_ok-formula_of.ensures) (swap.low, swap.high)

pub returns-clause-few_clauses : goal.returns-clause-few_clauses
returns-clause-few_clauses c =
    let p = c.args.problem.now in
    let new = c.add_swap.new.clauses.items in
    let last = c.in_ok-last.last in
    let swap : ForbidsSwap p c.args.first c.args.second c.args.first_variable last [] new = subst (λ old. ForbidsSwap p c.args.first c.args.second c.args.first_variable last old new) c.new-clauses.ensures.items c.in_ok-last.ensures in
    subst (λ (f : Formula). length f.clauses ≤ 3 * length (cells_of p) + 1) (sym c.in_ok-formula_of.ensures) (let f = swap.few in omega arith)
