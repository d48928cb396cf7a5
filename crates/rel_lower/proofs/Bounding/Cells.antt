-- The cells of relations that have their outlines, and more of them than there may be.
use Rattle.std.proofs.Common.{◌≡◌, ◌≢◌, ◌↔◌, ℕ, zero, suc, ◌+◌, ◌<◌, ◌≤◌, Bool, true, false, not, cond, List, [], ◌∷◌, ◌++◌, map, filter, length, take, get_or, slice_get, Some, Contains, All, AllPairs, IsTrue, refl, sym, ◌∙◌, ap, subst, arith, length-append}
use Rattle.std.specs.List.{AllZip, list_any}
use Rattle.std.specs.Ordering.{eq_by_cmp}
use Rattle.std.specs.declared.cmp.Ordering.TheVariants.{Less}
use Rattle.std.proofs.lemmas.Cmp.{tied_itself}
use Rattle.std.proofs.lemmas.List.{length-map, take_more}
use Rattle.std.proofs.lemmas.List.Elements.{All-append, All-head, All-tail, All-nil, All-cons, All-map, Contains-get_or}
use Rattle.std.proofs.lemmas.List.Filters.{length-filter_more}
use Rattle.std.proofs.lemmas.List.Sums.{length-filter, count_by-le-length}
use Rattle.std.proofs.lemmas.Slice.Zip.{AllZip-long}
use Rattle.tuple_core.specs.declared.atom.Atom.{Atom}
use Rattle.tuple_core.specs.Order.{tuple_cmp}
use Rattle.tuple_core.specs.Rows.{Rows, IsRows, IsSetOf}
use Rattle.rel_formula.specs.declared.problem.Relation.{Relation}
use Rattle.rel_formula.specs.declared.problem.Cell.{Cell}
use Rattle.rel_formula.specs.Kernel.{conjunction, no_formulas}
use Rattle.rel_formula.specs.Bounds.{Bounded, IsRelation, relation_at, open_tuples, cell_of, cells_from}
use Rattle.rel_formula.specs.Meaning.{HasAtLeast}
use Rattle.rel_formula.proofs.Lists.{pairs_append, pairs_map, Contains-some}
use Rattle.rel_formula.proofs.Cells.{Ascend, cell_cmp, cell_order, cells_ascend, any_row}
use Rattle.rel_formula.proofs.OpenCells.{cell_open}
use Rattle.model_sizes.specs.declared.size.Size.{Size}
use Rattle.lowering_rules.specs.Relations.{Outline, IsOutlined, MayHave, Has}
use Rattle.lowering_rules.specs.Problem.{IsCellOf, HasMoreCells}

-- ---- open tuples, counted

abbrev pub is_open : List (List Atom) → List Atom → Bool
is_open lower t = not (list_any (eq_by_cmp tuple_cmp t) lower)

test_is : (b c : Bool) (P : Type 0) → IsTrue b ↔ P → (c ≡ true) ↔ P → c ≡ b
test_is true true P h g = refl
test_is true false P h g = g.1 (h.0 refl)
test_is false true P h g = sym (h.1 (g.0 refl))
test_is false false P h g = refl

pub count_more : (lower rows : List (List Atom)) (i : ℕ) (x : List Atom) (b : Bool) (cells more : ℕ) → i < length rows → x ≡ get_or rows i x → IsTrue b ↔ Contains lower x
    → more ≡ cond (not b) 1 0 → cells ≡ length (filter (is_open lower) (take i rows)) → cells + more ≡ length (filter (is_open lower) (take (i + 1) rows))
count_more lower rows i x b cells more l e says now before =
    let same : list_any (eq_by_cmp tuple_cmp x) lower ≡ b = test_is b (list_any (eq_by_cmp tuple_cmp x) lower) (Contains lower x) says (any_row x lower) in
    let one : cond (is_open lower (get_or rows i x)) 1 0 ≡ more = ap (λ t. cond (is_open lower t) 1 0) (sym e) ∙ ap (λ c. cond (not c) 1 0) same ∙ sym now in
    let all = length-filter_more (is_open lower) rows i x l in
    omega (arith, one, all, before)

pub few_open : (r : Relation) → length (open_tuples r) ≤ length r.upper.rows
few_open r =
    let e = length-filter (is_open r.lower.rows) r.upper.rows in
    let l = count_by-le-length (is_open r.lower.rows) r.upper.rows in
    omega (arith, e, l)

-- one relation more
pub cells_pushed : (k : ℕ) (rs : List Relation) (r : Relation) → length (cells_from k (rs ++ r ∷ [])) ≡ length (cells_from k rs) + length (open_tuples r)
cells_pushed k [] r =
    let a = length-append (map (cell_of k) (open_tuples r)) [] in
    let b = length-map (open_tuples r) (cell_of k) in
    omega arith
cells_pushed k (x ∷ rs) r =
    let a = length-append (map (cell_of k) (open_tuples x)) (cells_from (k + 1) (rs ++ r ∷ [])) in
    let b = length-append (map (cell_of k) (open_tuples x)) (cells_from (k + 1) rs) in
    let c = cells_pushed (k + 1) rs r in
    omega (arith, a, b, c)

pub cells_counted : (rs : List Relation) (i : ℕ) (r : Relation) → i < length rs → r ≡ get_or rs i r → length (cells_from 0 (take (i + 1) rs)) ≡ length (cells_from 0 (take i rs)) + length (open_tuples r)
cells_counted rs i r l e =
    ap (λ ss. length (cells_from 0 ss)) (take_more rs i r l ∙ ap (λ y. take i rs ++ y ∷ []) (sym e)) ∙ cells_pushed 0 (take i rs) r

-- ---- the cells of relations that have their outlines

abbrev pub AreSets : Relation → Type 0
AreSets r = IsRows r.lower × IsRows r.upper

module _ (sizes : List Size) where
  relation_is : (o : Outline) (r : Relation) → AreSets r → IsOutlined sizes o r → IsRelation r
  relation_is o r s h = record {
    lower = s.0;
    upper = s.1;
    arity = h.upper.arity_is ∙ sym h.lower.arity_is;
    within = λ k d l. (h.upper.just (get_or r.lower.rows k d)).1 ((h.lower.just (get_or r.lower.rows k d)).0 (Contains-get_or r.lower.rows k d l)).1;
  }

  relations_are : (os : List Outline) (rs : List Relation) → All AreSets rs → AllZip (IsOutlined sizes) os rs → All IsRelation rs
  relations_are [] [] s h = All-nil IsRelation
  relations_are [] (r ∷ rs) s h = absurd h
  relations_are (o ∷ os) [] s h = absurd h
  relations_are (o ∷ os) (r ∷ rs) s h =
      All-cons IsRelation r rs (relation_is o r (All-head AreSets r rs s) h.0) (relations_are os rs (All-tail AreSets r rs s) h.1)

  outline_at : (os rest : List Outline) (rs : List Relation) → AllZip (IsOutlined sizes) os rs → (r : ℕ) → r < length rs →
      (o : Outline) × (slice_get (os ++ rest) r ≡ Some o) × IsOutlined sizes o (relation_at rs r)
  outline_at [] rest [] h r l = absurd (omega arith)
  outline_at [] rest (x ∷ rs) h r l = absurd h
  outline_at (o ∷ os) rest [] h r l = absurd h
  outline_at (o ∷ os) rest (x ∷ rs) h zero l = (o, refl, h.0)
  outline_at (o ∷ os) rest (x ∷ rs) h (suc r) l = outline_at os rest rs h.1 r (omega arith)

  next_outline : (os rest : List Outline) (o : Outline) → slice_get (os ++ o ∷ rest) (length os) ≡ Some o
  next_outline [] rest o = refl
  next_outline (x ∷ os) rest o = next_outline os rest o

-- a set without tuples, for an outline that has none always
pub no_lower : (sizes : List Size) (o : Outline) (v : Rows) → v.arity ≡ o.arity → v.rows ≡ [] → (IsTrue o.fixed → ⊥) → IsSetOf v o.arity (Has sizes o)
no_lower sizes o v e none free = record {
  arity_is = e;
  just = λ t. (λ c. absurd (let d = subst (λ rows. Contains rows t) none c in let l = d.1 in omega arith), λ h. absurd (free h.0));
}

apart : (cells : List Cell) → Ascend cells → AllPairs (λ a b. a ≢ b) cells
apart cells up i j d l h same =
    let less = up i j d l h in
    let tied = tied_itself cell_order (get_or cells j d) in
    let other = subst (λ c. cell_cmp c (get_or cells j d) ≡ Less) same less in
    absurd (cc)

module _ (sizes : List Size) (front rest : List Outline) (rs : List Relation) (zip : AllZip (IsOutlined sizes) front rs) (sets : All AreSets rs) where
  problem : Bounded
  problem = record { relations = rs; tops = []; formula = conjunction no_formulas }

  cell_is : (c : Cell) → Contains (cells_from 0 rs) c → IsCellOf sizes (front ++ rest) c × (c.relation < length rs)
  unfolding problem
  cell_is c h =
      let n = Contains-some (cells_from 0 rs) c h in
      let g = cell_open problem n.0 c.relation c.tuple n.1 in
      let o = outline_at sizes front rest rs zip c.relation g.0 in
      ((o.0, o.1, (o.2.upper.just c.tuple).0 g.1, λ has. g.2 ((o.2.lower.just c.tuple).1 has)), g.0)

  are_cells : All (IsCellOf sizes (front ++ rest)) (cells_from 0 rs)
  are_cells k d l = (cell_is (get_or (cells_from 0 rs) k d) (Contains-get_or (cells_from 0 rs) k d l)).0

  are_apart : AllPairs (λ (a b : Cell). a ≢ b) (cells_from 0 rs)
  are_apart = apart (cells_from 0 rs) (cells_ascend 0 rs (relations_are sizes front rs sets zip))

  pub enough : (n : ℕ) → n < length (cells_from 0 rs) → HasMoreCells sizes (front ++ rest) n
  enough n l = record { cells = cells_from 0 rs; differ = are_apart; each = are_cells; more = l }

module _ (sizes : List Size) (front rest : List Outline) (o : Outline) (rs : List Relation) (zip : AllZip (IsOutlined sizes) front rs) (sets : All AreSets rs) where
  more_cells : List (List Atom) → List Cell
  more_cells ts = cells_from 0 rs ++ map (cell_of (length rs)) ts

  -- and those of a further relation, which has no tuple always
  pub enough_more : o.fixed ≡ false → (room n : ℕ) → length (cells_from 0 rs) + room ≡ n → HasAtLeast (room + 1) (MayHave sizes o) → HasMoreCells sizes (front ++ o ∷ rest) n
  unfolding more_cells
  enough_more free room n e h = record {
    cells = more_cells h.0;
    differ = pairs_append (λ (a b : Cell). a ≢ b) (cells_from 0 rs) (map (cell_of (length rs)) h.0) (are_apart sizes front (o ∷ rest) rs zip sets)
        (pairs_map (λ (a b : Cell). a ≢ b) (cell_of (length rs)) h.0 (λ i j d l k same. h.2 i j d l k (ap (λ (c : Cell). c.tuple) same)))
        (λ k d l. All-map (λ c. get_or (cells_from 0 rs) k d ≢ c) (cell_of (length rs)) h.0 (λ j t m same.
        let low = (cell_is sizes front (o ∷ rest) rs zip sets (get_or (cells_from 0 rs) k d) (Contains-get_or (cells_from 0 rs) k d l)).1 in
        let at = ap (λ (c : Cell). c.relation) same in
        absurd (omega arith)));
    each = All-append (IsCellOf sizes (front ++ o ∷ rest)) (cells_from 0 rs) (map (cell_of (length rs)) h.0) (are_cells sizes front (o ∷ rest) rs zip sets)
        (All-map (IsCellOf sizes (front ++ o ∷ rest)) (cell_of (length rs)) h.0 (λ k d l. (o, at, h.3 k d l, λ has. not_free (o.fixed) has.0 free)));
    more = let a = length-append (cells_from 0 rs) (map (cell_of (length rs)) h.0) in let b = length-map h.0 (cell_of (length rs)) in let c = h.1 in omega (arith, a, b, c, e);
  }
    where
      at : slice_get (front ++ o ∷ rest) (length rs) ≡ Some o
      at = ap (slice_get (front ++ o ∷ rest)) (AllZip-long (IsOutlined sizes) front rs zip) ∙ next_outline sizes front rest o

      not_free : (b : Bool) → IsTrue b → b ≡ false → ⊥
      not_free true t e = absurd cc
      not_free false t e = absurd cc

pub sets_pushed : (rs ss : List Relation) (r : Relation) → ss ≡ rs ++ r ∷ [] → All AreSets rs → AreSets r → All AreSets ss
sets_pushed rs ss r e h s = subst (All AreSets) (sym e) (All-append AreSets rs (r ∷ []) h (All-cons AreSets r [] s (All-nil AreSets)))
