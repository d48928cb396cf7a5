use Rattle.std.proofs.Common.{◌≡◌, ◌↔◌, ℕ, List, Some, None, Option, slice_get, sym, ◌∙◌, ap, subst}
use Rattle.rel_formula.specs.declared.problem.Cell.{Cell}
use Rattle.rel_formula.specs.Bounds.{cells_of}
use Rattle.rel_formula.proofs.Cells.{cells_ascend, found_number, missing_number, Ascend}
use Rattle.rel_formula.proofs.problem.Problem.number_of.Goals as goal

pub returns-in-Ok : goal.returns-in-Ok
returns-in-Ok c =
    let same : c.deref.result.now ≡ cells_of c.args.self.now = c.deref.ensures.value ∙ c.self.invariant.cells_are ∙ ap cells_of c.self.view_is in
    let up : Ascend c.deref.result.now = subst Ascend (sym (c.deref.ensures.value ∙ c.self.invariant.cells_are)) (cells_ascend 0 c.self.inside.relations.items c.self.invariant.well.relations) in
    subst (λ (cells : List Cell). (n : ℕ) → (Some c.in-Ok.place ≡ Some n) ↔ (slice_get cells n ≡ Some c.args.cell.now)) same
    (found_number c.deref.result.now c.args.cell.now c.in-Ok.place up c.in-Ok.ensures.bound c.in-Ok.ensures.ok)

pub returns-in-Err : goal.returns-in-Err
returns-in-Err c =
    let same : c.deref.result.now ≡ cells_of c.args.self.now = c.deref.ensures.value ∙ c.self.invariant.cells_are ∙ ap cells_of c.self.view_is in
    let up : Ascend c.deref.result.now = subst Ascend (sym (c.deref.ensures.value ∙ c.self.invariant.cells_are)) (cells_ascend 0 c.self.inside.relations.items c.self.invariant.well.relations) in
    let none : Option ℕ = None in
    subst (λ (cells : List Cell). (n : ℕ) → (none ≡ Some n) ↔ (slice_get cells n ≡ Some c.args.cell.now)) same
    (missing_number c.deref.result.now c.args.cell.now c.in-Err.field-0 up c.in-Err.ensures.position)
