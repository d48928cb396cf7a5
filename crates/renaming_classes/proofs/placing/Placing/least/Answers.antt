use Rattle.std.proofs.Common.{ℕ, List, sym, subst}
use Rattle.rel_formula.specs.Instance.{AreCells}
use Rattle.rel_formula.specs.Renaming.{IsRenamingOf}
use Rattle.renaming_classes.proofs.ClassLaws.{of_back, of_then}
use Rattle.renaming_classes.proofs.Searching.{least_found}
use Rattle.renaming_classes.proofs.placing.Placing.least.Goals as goal

pub settle-requires-clause-cells : goal.settle-requires-clause-cells
settle-requires-clause-cells c = subst (AreCells c.args.problem.now) (sym c.in_ok-best.ensures) c.requires.cells

pub visit-requires-clause-searched : goal.visit-requires-clause-searched
visit-requires-clause-searched c =
    let p = c.args.problem.now in
    let s : List ℕ = c.args.scenario.now in
    let settled : List ℕ = c.settle.new.scenario in
    let renaming : IsRenamingOf p s settled = subst (λ (x : List ℕ). IsRenamingOf p x settled) c.in_ok-best.ensures c.settle.ensures.renaming in
    record {
      symmetric = c.requires.symmetric;
      scenario = record { cells = c.requires.cells; rising = c.numbers.ensures.rising };
      of_best = c.settle.ensures.scenario;
      renaming = of_back p s settled renaming;
    }

pub returns : goal.returns
returns c =
    let p = c.args.problem.now in
    let s : List ℕ = c.args.scenario.now in
    let settled : List ℕ = c.settle.new.scenario in
    let new : List ℕ = c.visit.new.best in
    let renaming : IsRenamingOf p s settled = subst (λ (x : List ℕ). IsRenamingOf p x settled) c.in_ok-best.ensures c.settle.ensures.renaming in
    let found = c.in_ok-visit.ensures.no_later in
    least_found p s new c.args.self.now.atoms.items found.scenario (of_then p s settled new renaming found.renaming) c.in_ok-visit.ensures.least
