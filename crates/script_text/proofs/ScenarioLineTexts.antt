-- A scenario can be read off its lines.
use Rattle.std.proofs.Common.{◌≡◌, ◌↔◌, ◌⊎◌, inl, inr, ◌<◌, ◌≤◌, ◌^◌, ℕ, zero, suc, List, [], ◌∷◌, ◌++◌, map, length, All, Contains, Some, slice_get, slice_index_or, get_or, refl, sym, ap, subst, ◌∙◌, arith}
use Rattle.std.specs.List.{AllByRecursion, AllZip}
use Rattle.std.proofs.lemmas.List.{get_or-map}
use Rattle.std.proofs.lemmas.List.Elements.{recursion_from_All, All-contains, All-get_or, Contains-get_or}
use Rattle.tuple_core.specs.declared.atom.Atom.{Atom}
use Rattle.tuple_core.specs.Rows.{Rows, IsRows}
use Rattle.rel_formula.specs.declared.problem.Relation.{Relation}
use Rattle.rel_formula.specs.declared.problem.Cell.{Cell}
use Rattle.rel_formula.specs.Bounds.{Bounded, IsRelation, IsAtomOf, relation_at, cell_of, cells_of}
use Rattle.rel_formula.specs.Instance.{IsScenario, InRelation}
use Rattle.rel_formula.specs.Tables.{AreTables}
use Rattle.rel_formula.proofs.OpenCells.{cell_open, cell_once}
use Rattle.rel_formula.proofs.SameNumbers.{same_rising}
use Rattle.rel_formula.proofs.Tabled.{no_relation}
use Rattle.std.proofs.lemmas.Option.{slice_get-get_or}
use Rattle.script_text.specs.Lines.{relation_lines}
use Rattle.script_text.specs.Printable.{IsWritable}
use Rattle.script_text.specs.Replies.{IsScenarioText}
use Rattle.script_text.proofs.RelationLineTexts.{IsAtom, IsTuple, Fits, tuples_of, same_lines}

zip_from : {X Y : Type 0} (R : X → Y → Type 0) (xs : List X) (ys : List Y) (d : X) (e : Y) → length ys ≡ length xs → ((k : ℕ) → k < length ys → R (get_or xs k d) (get_or ys k e)) → AllZip R xs ys
zip_from R [] [] d e l h = tt
zip_from R [] (y ∷ ys) d e l h = absurd (omega arith)
zip_from R (x ∷ xs) [] d e l h = absurd (omega arith)
zip_from R (x ∷ xs) (y ∷ ys) d e l h = (h 0 (omega arith), zip_from R xs ys d e (omega arith) (λ k m. h (suc k) (omega arith)))

none : Rows
none = record { arity = 1; rows = [] }

module _ (p : Bounded) (writable : IsWritable p) where
  relation_well : (r : ℕ) → r < length p.relations → IsRelation (relation_at p.relations r)
  relation_well r l = All-get_or IsRelation p.relations r no_relation l writable.problem.relations

  atom_fits : (r : ℕ) (t : List Atom) (a : Atom) → r < length p.relations → Contains (relation_at p.relations r).upper.rows t → Contains t a → IsAtom p a
  atom_fits r t a l up c =
      let stands : IsAtomOf p a = (relation_at p.relations r, Contains-get_or p.relations r no_relation l, (t, up, c)) in
      let place = writable.places a stands in
      (writable.problem.atoms a stands, omega arith)

  pub tuple_fits : (r : ℕ) (t : List Atom) → r < length p.relations → Contains (relation_at p.relations r).upper.rows t → IsTuple p (relation_at p.relations r).lower.arity t
  tuple_fits r t l up =
      let w = relation_well r l in
      let long = All-contains (λ (u : List Atom). length u ≡ (relation_at p.relations r).upper.arity) (relation_at p.relations r).upper.rows t w.upper.arities up in
      let same = w.arity in
      let low = w.upper.low in
      (omega arith, omega arith, recursion_from_All (IsAtom p) t (λ k d m. atom_fits r t (get_or t k d) l up (Contains-get_or t k d m)))

  in_upper : (s : List ℕ) (r : ℕ) (t : List Atom) → r < length p.relations → InRelation p (Contains s) r t → Contains (relation_at p.relations r).upper.rows t
  in_upper s r t l (inl low) = All-contains (Contains (relation_at p.relations r).upper.rows) (relation_at p.relations r).lower.rows t (relation_well r l).within low
  in_upper s r t l (inr cell) = (cell_open p cell.0 r t cell.2).1

  tables_fit : (s : List ℕ) (vs : List Rows) → AreTables p s vs → AllZip (Fits p) p.relations vs
  tables_fit s vs are = zip_from (Fits p) p.relations vs no_relation none are.count (λ r l.
      let m : r < length p.relations = let c = are.count in omega arith in
      let v = get_or vs r none in
      recursion_from_All (IsTuple p (relation_at p.relations r).lower.arity) v.rows
      (λ k d n. tuple_fits r (get_or v.rows k d) m (in_upper s r (get_or v.rows k d) m (((are.each r none l).just (get_or v.rows k d)).0 (Contains-get_or v.rows k d n)))))

  module _ (s t : List ℕ) (vs ws : List Rows) (are : AreTables p s vs) (other : AreTables p t ws) (same : tuples_of vs ≡ tuples_of ws) where
    rows_are : (r : ℕ) → r < length vs → r < length ws → (get_or vs r none).rows ≡ (get_or ws r none).rows
    rows_are r l m =
        sym (get_or-map (λ (v : Rows). v.rows) vs r none [] l) ∙ ap (λ (xs : List (List (List Atom))). get_or xs r []) same ∙ get_or-map (λ (v : Rows). v.rows) ws r none [] m

    has_too : (n : ℕ) → n < length (cells_of p) → Contains s n → Contains t n
    has_too n l c =
        let cell : Cell = get_or (cells_of p) n (cell_of 0 []) in
        let at : slice_get (cells_of p) n ≡ Some (cell_of cell.relation cell.tuple) = slice_get-get_or (cells_of p) n (cell_of 0 []) l in
        let stands = cell_open p n cell.relation cell.tuple at in
        let k : cell.relation < length vs = let a = stands.0 in let b = are.count in omega arith in
        let m : cell.relation < length ws = let a = stands.0 in let b = other.count in omega arith in
        let there = ((are.each cell.relation none k).just cell.tuple).1 (inr (n, c, at)) in
        let too = ((other.each cell.relation none m).just cell.tuple).0 (subst (λ (xs : List (List Atom)). Contains xs cell.tuple) (rows_are cell.relation k m) there) in
        elim too [
          | inl low ↦ absurd (stands.2 low)
          | inr found ↦ subst (Contains t) (sym (cell_once p n found.0 cell.relation cell.tuple writable.problem at found.2)) found.1
        ]

  same_cells : (s t : List ℕ) (vs ws : List Rows) → IsScenario p s → IsScenario p t → AreTables p s vs → AreTables p t ws → tuples_of vs ≡ tuples_of ws → s ≡ t
  same_cells s t vs ws is_s is_t are other same =
      same_rising s t is_s.rising is_t.rising (λ n. (
        λ c. has_too s t vs ws are other same n (All-contains (λ (k : ℕ). k < length (cells_of p)) s n is_s.cells c) c,
        λ c. has_too t s ws vs other are (sym same) n (All-contains (λ (k : ℕ). k < length (cells_of p)) t n is_t.cells c) c,
      ))

  pub same_scenario : (s t lines others x y : List ℕ) → IsScenario p s → IsScenario p t → IsScenarioText p s lines → IsScenarioText p t others → lines ++ x ≡ others ++ y → (s ≡ t) × (x ≡ y)
  same_scenario s t lines others x y is_s is_t a b e =
      let cut = same_lines p writable p.relations a.0 b.0 x y (tables_fit s a.0 a.1) (tables_fit t b.0 b.1) (ap (λ (z : List ℕ). z ++ x) (sym a.3) ∙ e ∙ ap (λ (z : List ℕ). z ++ y) b.3) in
      (same_cells s t a.0 b.0 is_s is_t a.1 b.1 cut.0, cut.1)
