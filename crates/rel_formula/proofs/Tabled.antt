-- The relations' sets in a scenario.
use Rattle.std.proofs.Common.{◌≡◌, ◌≢◌, ℕ, ◌+◌, ◌<◌, inl, inr, List, [], ◌∷◌, ◌++◌, length, get_or, take, Some, slice_get, Contains, sym, ◌∙◌, ap, subst, arith}
use Rattle.std.proofs.lemmas.Bool.{cases_lt}
use Rattle.std.proofs.lemmas.List.{get_or_default, get_or_append_left, get_or_push, length_push, length-take-le, get_or-take}
use Rattle.std.proofs.lemmas.List.Elements.{All-contains}
use Rattle.tuple_core.specs.declared.atom.Atom.{Atom}
use Rattle.tuple_core.specs.Gains.{Same}
use Rattle.tuple_core.specs.Operators.{Pred, United}
use Rattle.tuple_core.specs.Rows.{Rows, IsSetOf}
use Rattle.rel_formula.specs.declared.problem.Cell.{Cell}
use Rattle.rel_formula.specs.declared.problem.Relation.{Relation}
use Rattle.rel_formula.specs.Bounds.{Bounded, IsProblem, relation_at, cell_of, cells_of}
use Rattle.rel_formula.specs.Instance.{InRelation, InSome}
use Rattle.rel_formula.proofs.Lists.{take_last}
use Rattle.rel_formula.proofs.OpenCells.{cell_open}
use Rattle.rel_formula.proofs.Images.{cell_parts}

abbrev pub no_rows : Rows
no_rows = record { arity = 1; rows = [] }

abbrev pub no_relation : Relation
no_relation = record { name = []; lower = no_rows; upper = no_rows }

-- a cell's tuple has its relation's arity
pub cell_arity : (p : Bounded) (n r : ℕ) (t : List Atom) → IsProblem p → slice_get (cells_of p) n ≡ Some (cell_of r t) → length t ≡ (relation_at p.relations r).lower.arity
cell_arity p n r t well e =
    let o = cell_open p n r t e in
    let is = well.relations r no_relation o.0 in
    All-contains (λ u. length u ≡ (relation_at p.relations r).upper.arity) (relation_at p.relations r).upper.rows t is.upper.arities o.1 ∙ is.arity

-- the tuple of a cell of relation r is the one that the cell gives it
pub cell_gives : (p : Bounded) (n r : ℕ) (c : Cell) → slice_get (cells_of p) n ≡ Some c → c.relation ≡ r → Same (λ t. t ≡ c.tuple) (λ t. slice_get (cells_of p) n ≡ Some (cell_of r t))
cell_gives p n r c e same = record {
  to = λ t h. e ∙ ap (λ q. Some (cell_of q c.tuple)) same ∙ ap (λ u. Some (cell_of r u)) (sym h);
  back = λ t h. (cell_parts n r c.relation t c.tuple (cells_of p) h e).1;
}

pub cell_gives_none : (p : Bounded) (n r : ℕ) (c : Cell) → slice_get (cells_of p) n ≡ Some c → c.relation ≢ r → (t : List Atom) → slice_get (cells_of p) n ≡ Some (cell_of r t) → ⊥
cell_gives_none p n r c e other t h = other (sym (cell_parts n r c.relation t c.tuple (cells_of p) h e).0)

module _ (p : Bounded) (chosen : List ℕ) where
  -- v is the value of relation r
  abbrev pub IsTable : ℕ → Rows → Type 0
  IsTable r v = IsSetOf v (relation_at p.relations r).lower.arity (InRelation p (Contains chosen) r)

  pub tables_push : (vs new : List Rows) (i : ℕ) (v : Rows) → length vs ≡ i → new ≡ vs ++ v ∷ [] →
      IsTable i v → ((r : ℕ) (d : Rows) → r < length vs → IsTable r (get_or vs r d)) →
      (r : ℕ) (d : Rows) → r < length new → IsTable r (get_or new r d)
  tables_push vs new i v count e here each r d l =
      let long : length new ≡ length vs + 1 = ap length e ∙ length_push vs v in
      subst (λ zs. IsTable r (get_or zs r d)) (sym e) (elim (cases_lt r (length vs)) [
        | inl before ↦ subst (IsTable r) (sym (get_or_append_left vs (v ∷ []) d r before)) (each r d before)
        | inr past ↦ let same : length vs ≡ r = omega arith in
            subst (IsTable r) (sym (get_or_push vs v d r same)) (subst (λ k. IsTable k v) (sym count ∙ same) here)
      ])

take_grows : (xs : List ℕ) (i y : ℕ) → i < length xs → Contains (take i xs) y → Contains (take (i + 1) xs) y
take_grows xs i y l c =
    let short = length-take-le i xs (omega arith) in
    let long = length-take-le (i + 1) xs (omega arith) in
    let h = c.1 in
    (c.0, omega arith, get_or-take (i + 1) xs c.0 y (omega arith) ∙ sym (get_or-take i xs c.0 y (omega arith)) ∙ c.2)

-- one top-level signature more
pub some_more : (tops : List ℕ) (i x : ℕ) (V : ℕ → Pred) → i < length tops → x ≡ get_or tops i x → Same (United (InSome (take i tops) V) (V x)) (InSome (take (i + 1) tops) V)
some_more tops i x V l e =
    let here : Contains (take (i + 1) tops) x = (i, (let h = length-take-le (i + 1) tops (omega arith) in omega arith), get_or-take (i + 1) tops i x (omega arith) ∙ sym e) in
    record {
      to = λ t h. elim h [
        | inl old ↦ (old.0, take_grows tops i old.0 l old.1, old.2)
        | inr new ↦ (x, here, new)
      ];
      back = λ t h. elim (take_last tops i h.0 l h.1) [
        | inl old ↦ inl (h.0, old, h.2)
        | inr same ↦ inr (subst (λ r. V r t) (sym (e ∙ get_or_default tops i x h.0 l ∙ same)) h.2)
      ];
    }
