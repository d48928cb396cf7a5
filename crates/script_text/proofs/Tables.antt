-- Lines of tables, and the atoms in them.
use Rattle.std.proofs.Common.{◌≡◌, ℕ, zero, suc, ◌+◌, ◌<◌, inl, inr, List, [], ◌∷◌, ◌++◌, take, length, get_or, slice_get, Some, Contains, All, sym, ◌∙◌, ap, arith, add-one, append_assoc}
use Rattle.std.proofs.lemmas.List.{append-nil}
use Rattle.std.proofs.lemmas.List.Elements.{All-contains, Contains-get_or}
use Rattle.tuple_core.specs.declared.atom.Atom.{Atom}
use Rattle.tuple_core.specs.Rows.{Rows}
use Rattle.rel_formula.specs.declared.problem.Relation.{Relation}
use Rattle.rel_formula.specs.Bounds.{Bounded, IsProblem, relation_at, cell_of, cells_of}
use Rattle.rel_formula.specs.Tables.{AreTables}
use Rattle.rel_formula.proofs.OpenCells.{cell_open}
use Rattle.rel_formula.proofs.Tabled.{no_relation}
use Rattle.script_text.specs.Lines.{relation_line, relation_lines}

lines_suc : (p : Bounded) (relations : List Relation) (tables : List Rows) (i : ℕ) (d : Relation) (e : Rows) → i < length relations → i < length tables →
    relation_lines p (take (suc i) relations) (take (suc i) tables) ≡ relation_lines p (take i relations) (take i tables) ++ relation_line p (get_or relations i d).name (get_or tables i e).rows
lines_suc p [] tables i d e l m = absurd (omega arith)
lines_suc p (x ∷ xs) [] i d e l m = absurd (omega arith)
lines_suc p (x ∷ xs) (v ∷ vs) zero d e l m = append-nil (relation_line p x.name v.rows)
lines_suc p (x ∷ xs) (v ∷ vs) (suc i) d e l m =
    ap (λ ws. relation_line p x.name v.rows ++ ws) (lines_suc p xs vs i d e (omega arith) (omega arith))
    ∙ sym (append_assoc (relation_line p x.name v.rows) (relation_lines p (take i xs) (take i vs)) (relation_line p (get_or xs i d).name (get_or vs i e).rows))

pub lines_more : (p : Bounded) (relations : List Relation) (tables : List Rows) (i : ℕ) (d : Relation) (e : Rows) → i < length relations → i < length tables →
    relation_lines p (take (i + 1) relations) (take (i + 1) tables) ≡ relation_lines p (take i relations) (take i tables) ++ relation_line p (get_or relations i d).name (get_or tables i e).rows
lines_more p relations tables i d e l m = ap (λ k. relation_lines p (take k relations) (take k tables)) (add-one i) ∙ lines_suc p relations tables i d e l m

-- the atoms in the tables are the problem's
pub table_tops : (p : Bounded) (s : List ℕ) (vs : List Rows) → IsProblem p → AreTables p s vs → All (λ v. All (λ t. All (λ a. a.top < length p.tops) t) v.rows) vs
table_tops p s vs well are k d l i e m j f n =
    let v = get_or vs k d in
    let t = get_or v.rows i e in
    let a = get_or t j f in
    let in' : k < length p.relations = let c = are.count in omega arith in
    let there = ((are.each k d l).just t).0 (Contains-get_or v.rows i e m) in
    let up : Contains (relation_at p.relations k).upper.rows t = elim there [
      | inl low ↦ All-contains (Contains (relation_at p.relations k).upper.rows) (relation_at p.relations k).lower.rows t (well.relations k no_relation in').within low
      | inr cell ↦ (cell_open p cell.0 k t cell.2).1
    ] in
    well.atoms a (relation_at p.relations k, Contains-get_or p.relations k no_relation in', (t, up, Contains-get_or t j f n))

-- the atoms of a cell are the problem's
pub cell_tops : (p : Bounded) (n r : ℕ) (t : List Atom) → IsProblem p → slice_get (cells_of p) n ≡ Some (cell_of r t) → All (λ a. a.top < length p.tops) t
cell_tops p n r t well at j f l =
    let stands = cell_open p n r t at in
    well.atoms (get_or t j f) (relation_at p.relations r, Contains-get_or p.relations r no_relation stands.0, (t, stands.1, Contains-get_or t j f l))
