use Rattle.std.proofs.Common.{◌≡◌, ◌↔◌, ◌<◌, ◌∙◌, ℕ, true, List, length, Contains, ap, subst, arith}
use Rattle.cnf_core.specs.Formula.{Formula, IsFormula}
use Rattle.rel_formula.specs.Bounds.{Bounded, cells_of}
use Rattle.rel_formula.specs.Instance.{IsScenario}
use Rattle.unit_propagation.specs.Assignments.Trail.{falses_of}
use Rattle.sat_trail.specs.Deciding.{HasAllValues}
use Rattle.translation_rules.proofs.Tests.{from_each}
use Rattle.minimiser.specs.Lowering.{HasValue, IsLowered}
use Rattle.minimiser.proofs.LoweredTrails.{in_start, is_minimal}
use Rattle.minimiser.proofs.lowering.lowest.Goals as goal

pub lowers-requires : goal.lowers-requires
lowers-requires c =
    let few = c.problem-problem.ensures.well.cells in
    let is : c.cells-cells.result ≡ length (cells_of c.args.translation.now.problem) = c.cells-cells.ensures.value ∙ ap (λ (p : Bounded). length (cells_of p)) c.problem-problem.ensures.value in
    let enough = c.requires.trail.enough in
    omega arith

pub present_in-requires : goal.present_in-requires
present_in-requires c =
    let few = c.problem-problem.ensures.well.cells in
    let is : c.cells-cells.result ≡ length (cells_of c.args.translation.now.problem) = c.cells-cells.ensures.value ∙ ap (λ (p : Bounded). length (cells_of p)) c.problem-problem.ensures.value in
    let enough = c.requires.trail.enough in
    let same = c.lowers.ensures.vars in
    omega arith

pub fills-filled-requires-clause-closed : goal.fills-filled-requires-clause-closed
fills-filled-requires-clause-closed c = (c.lowers.ensures.lowered c.if-not-lowers.false).leads.closed

pub returns-then-filled-clause-lowest : goal.returns-then-filled-clause-lowest
returns-then-filled-clause-lowest c =
    let t = c.args.translation.now in
    let floor = c.args.floor.now in
    let start = c.args.start.now in
    let low = c.lowers.new.trail in
    let full = c.fills-filled.new.trail in
    let s : List ℕ = c.in_ok-scenario.scenario in
    let is : c.cells-cells.result ≡ length (cells_of t.problem) = c.cells-cells.ensures.value ∙ ap (λ (p : Bounded). length (cells_of p)) c.problem-problem.ensures.value in
    let stands = c.problem-problem.ensures.well.stands in
    let lowered : IsLowered floor start (length (cells_of t.problem)) low = subst (λ (n : ℕ). IsLowered floor start n low) is (c.lowers.ensures.lowered c.if-not-lowers.false) in
    let below = subst (λ (n : ℕ). (cell : ℕ) → Contains s cell → cell < n) is c.in_ok-scenario.ensures.cells in
    let scenario : IsScenario t.problem s = record { cells = from_each (λ n. n < length (cells_of t.problem)) s below; rising = c.in_ok-scenario.ensures.rising } in
    let values = subst (λ (n : ℕ). (cell : ℕ) → cell < n → HasValue low cell true ↔ Contains s cell) is c.in_ok-scenario.ensures.values in
    let same : low.clauses ≡ t.cnf.clauses = c.lowers.ensures.clauses ∙ c.requires.trail.clauses_are in
    let same_full : full.clauses ≡ t.cnf.clauses = c.fills-filled.ensures.clauses ∙ same in
    let formula : IsFormula t.cnf = subst IsFormula c.cnf.ensures c.vars.ensures.formula in
    let vars : c.vars.result ≡ t.cnf.vars = c.vars.ensures.vars ∙ ap (λ (f : Formula). f.vars) c.cnf.ensures in
    let on = c.if-filled.true in (
      is_minimal t stands floor start s c.requires.floor c.requires.above low full same lowered scenario values t.cnf.vars same_full c.level.ensures.trail c.fills-filled.ensures.more (c.fills-filled.ensures.closed on)
          (subst (λ (n : ℕ). HasAllValues n (falses_of full.assigned)) vars (c.fills-filled.ensures.valued on)) formula.clauses formula.within,
      in_start t stands floor start s c.requires.floor c.requires.above low full same lowered scenario values,
    )
