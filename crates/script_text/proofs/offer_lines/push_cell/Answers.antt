use Rattle.std.proofs.Common.{◌≡◌, ◌<◌, ◌∙◌, ◌++◌, ℕ, List, [], length, get_or, slice_get, Some, codes, All, sym, ap, subst, append_assoc}
use Rattle.std.proofs.lemmas.List.{get_or_default}
use Rattle.std.proofs.lemmas.Option.{get_or_from_slice_get}
use Rattle.tuple_core.specs.declared.atom.Atom.{Atom}
use Rattle.rel_formula.specs.declared.problem.Relation.{Relation}
use Rattle.rel_formula.specs.declared.problem.Cell.{Cell}
use Rattle.rel_formula.specs.Bounds.{relation_at, cell_of, cells_of}
use Rattle.rel_formula.proofs.OpenCells.{cell_open}
use Rattle.rel_formula.proofs.Tabled.{no_relation}
use Rattle.script_text.specs.Lines.{tuple_text}
use Rattle.script_text.proofs.Tables.{cell_tops}
use Rattle.script_text.proofs.offer_lines.push_cell.Goals as goal

pub bounds-relations-cell : goal.bounds-relations-cell
bounds-relations-cell c =
    let p = c.args.problem.now in
    let cell : Cell = c.cell-cell.result in
    let stands = cell_open p c.args.number cell.relation cell.tuple c.cell-cell.ensures in
    subst (λ (rs : List Relation). cell.relation < length rs) (sym c.relations-relations.ensures.value) stands.0

pub push_member-requires : goal.push_member-requires
push_member-requires c =
    let p = c.args.problem.now in
    let cell : Cell = c.cell-cell.result in
    subst (All (λ (a : Atom). a.top < length p.tops)) (sym c.atoms.ensures.value) (cell_tops p c.args.number cell.relation cell.tuple c.relations-relations.ensures.well c.cell-cell.ensures)

pub returns : goal.returns
returns c =
    let p = c.args.problem.now in
    let n = c.args.number in
    let cell : Cell = c.cell-cell.result in
    let here : cell ≡ get_or (cells_of p) n (cell_of 0 []) = sym (get_or_from_slice_get (cells_of p) n cell (cell_of 0 []) c.cell-cell.ensures) in
    let stands = cell_open p n cell.relation cell.tuple c.cell-cell.ensures in
    let r : Relation = c.index-relations-cell.result in
    let in' : cell.relation < length p.relations = stands.0 in
    let there : r ≡ relation_at p.relations cell.relation =
    c.index-relations-cell.is ∙ ap (λ (rs : List Relation). get_or rs cell.relation r) c.relations-relations.ensures.value ∙ get_or_default p.relations cell.relation r no_relation in' in
    let line : Relation → List Atom → List ℕ = λ x t. x.name ++ codes " " ++ tuple_text p t ++ codes "\n" in
    c.in_ok-push_member.ensures
    ∙ ap (λ (x : Relation). c.args.out.now.items ++ line x c.atoms.result.now) there
    ∙ ap (λ (t : List Atom). c.args.out.now.items ++ line (relation_at p.relations cell.relation) t) c.atoms.ensures.value
    ∙ ap (λ (x : Cell). c.args.out.now.items ++ line (relation_at p.relations x.relation) x.tuple) here
