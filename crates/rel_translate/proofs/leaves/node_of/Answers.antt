use Rattle.std.proofs.Common.{◌≡◌, ◌↔◌, ℕ, List, sym, subst, arith, Some, Option, slice_get}
use Rattle.tuple_core.specs.declared.atom.Atom.{Atom}
use Rattle.rel_formula.specs.Bounds.{cell_of, cells_of}
use Rattle.rel_formula.proofs.Lists.{some_below}
use Rattle.rel_translate.proofs.Tabled.{cell_says, fixed_says}
use Rattle.rel_translate.proofs.leaves.node_of.Goals as goal

pub bounds-inputs-place : goal.bounds-inputs-place
bounds-inputs-place c =
    let e = (c.number_of.ensures c.in-Some.place).0 c.in-Some.is in
    let l = some_below (cells_of c.args.problem.now) c.in-Some.place _ e in
    let n = c.requires.count in
    omega arith

pub returns-in-Some : goal.returns-in-Some
returns-in-Some c = λ network leaves.
    let p = c.args.problem.now in
    let r = c.args.number in
    let place = c.in-Some.place in
    let cells = cells_of p in
    let is : (m : ℕ) → (Some place ≡ Some m) ↔ (slice_get cells m ≡ Some (cell_of r c.args.tuple.now)) = λ m.
    subst (λ (t : List Atom). (Some place ≡ Some m) ↔ (slice_get cells m ≡ Some (cell_of r t))) c.copy.ensures
    (subst (λ (o : Option ℕ). (o ≡ Some m) ↔ (slice_get cells m ≡ Some (cell_of r c.copy.result))) c.in-Some.is (c.number_of.ensures m)) in
    let e = (c.number_of.ensures place).0 c.in-Some.is in
    let l = some_below cells place _ e in
    cell_says p network c.args.always c.args.inputs.now r place c.args.tuple.now c.index-inputs-place.result c.index-inputs-place.result leaves is (let n = c.requires.count in omega arith) c.index-inputs-place.is

pub returns-in-None : goal.returns-in-None
returns-in-None c = λ network leaves.
    let p = c.args.problem.now in
    let r = c.args.number in
    fixed_says p network c.args.always c.args.inputs.now r c.args.tuple.now leaves c.requires.number c.requires.upper (λ n e.
    let h = (c.number_of.ensures n).1 (subst (λ (t : List Atom). slice_get (cells_of p) n ≡ Some (cell_of r t)) (sym c.copy.ensures) e) in
    let none = c.in-None.is in
    absurd (cc))
