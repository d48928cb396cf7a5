-- The cells of a problem stand in order, each at one number.
use Rattle.std.proofs.Common.{◌≡◌, ℕ, zero, suc, ◌+◌, ◌<◌, ◌≤◌, ◌↔◌, inl, inr, List, [], ◌∷◌, ◌++◌, map, filter, not, length, get_or, Contains, All, AllPairs, true, false, Bool, cond, take, append_assoc, add-one, zero-add, add-zero, refl, sym, ◌∙◌, ap, subst, arith, Some, None, slice_get}
use Rattle.std.specs.declared.cmp.Ordering.{Ordering}
use Rattle.std.specs.declared.cmp.Ordering.TheVariants.{Less, Equal, Greater}
use Rattle.std.specs.Ordering.{nat_cmp, ordering_then, ordering_index, ordering_reverse, is_lt, eq_by_cmp}
use Rattle.std.specs.Cmp.{IsTotalOrder, eq_by_cmp_equiv}
use Rattle.std.specs.List.{list_any}
use Rattle.std.specs.List.Sorted.{IsNonDecreasingBy, IsPartitionPoint}
use Rattle.std.proofs.lemmas.Bool.{cases_lt}
use Rattle.std.proofs.lemmas.Bool.Decides.{nat_tests}
use Rattle.std.proofs.lemmas.Cmp.{nat_cmp_total, on_total, then_total, tied_itself}
use Rattle.std.proofs.lemmas.List.Elements.{All-append, All-head, All-tail, All-nil, All-map, All-weaker, filter_more}
use Rattle.std.proofs.lemmas.List.{append-nil, map-append}
use Rattle.std.proofs.lemmas.List.Kept.{AllPairs-filter}
use Rattle.std.proofs.lemmas.Map.Views.{Contains-from_any, list_any-from_Contains}
use Rattle.std.proofs.lemmas.List.Sorted.{searchable_from_sorted}
use Rattle.tuple_core.specs.declared.atom.Atom.{Atom}
use Rattle.tuple_core.specs.Order.{tuple_cmp, IsAscending}
use Rattle.tuple_core.proofs.Ascending.{tuple_order, tied}
use Rattle.rel_formula.specs.declared.problem.Relation.{Relation}
use Rattle.rel_formula.specs.declared.problem.Cell.{Cell}
use Rattle.rel_formula.specs.Bounds.{IsRelation, open_tuples, cell_of, cells_from}
use Rattle.rel_formula.proofs.Lists.{pairs_nil, pairs_append, pairs_map, get-Some, some_at, some_below}

abbrev pub cell_cmp : Cell → Cell → Ordering
cell_cmp c d = ordering_then (nat_cmp c.relation d.relation) (tuple_cmp c.tuple d.tuple)

abbrev pub Ascend : List Cell → Type 0
Ascend cells = AllPairs (λ c d. cell_cmp c d ≡ Less) cells

pub cell_order : IsTotalOrder cell_cmp
cell_order = then_total (on_total (λ (c : Cell). c.relation) nat_cmp_total) (on_total (λ (c : Cell). c.tuple) tuple_order)

then_equal : (o p : Ordering) → ordering_then o p ≡ Equal → (o ≡ Equal) × (p ≡ Equal)
then_equal Less p e = absurd (cc)
then_equal Equal p e = (refl, e)
then_equal Greater p e = absurd (cc)

nat_tie : (m n : ℕ) → nat_cmp m n ≡ Equal → m ≡ n
nat_tie m n e = grind (arith, nat_tests)

nat_less : (m n : ℕ) → m < n → nat_cmp m n ≡ Less
nat_less m n l = grind (arith, nat_tests)

nat_same : (m : ℕ) → nat_cmp m m ≡ Equal
nat_same m = grind (arith, nat_tests)

-- cells that compare equal are one
pub one_cell : (c d : Cell) → cell_cmp c d ≡ Equal → c ≡ d
one_cell c d e =
    let both = then_equal (nat_cmp c.relation d.relation) (tuple_cmp c.tuple d.tuple) e in
    ap (λ r. cell_of r c.tuple) (nat_tie c.relation d.relation both.0) ∙ ap (λ t. cell_of d.relation t) (tied c.tuple d.tuple both.1)

lower_first : (c d : Cell) → c.relation < d.relation → cell_cmp c d ≡ Less
lower_first c d l = ap (λ o. ordering_then o (tuple_cmp c.tuple d.tuple)) (nat_less c.relation d.relation l)

one_relation : (r : ℕ) (s t : List Atom) → tuple_cmp s t ≡ Less → cell_cmp (cell_of r s) (cell_of r t) ≡ Less
one_relation r s t l = ap (λ o. ordering_then o (tuple_cmp s t)) (nat_same r) ∙ l

pub open_ascend : (relation : Relation) → IsRelation relation → IsAscending (open_tuples relation)
open_ascend relation is = AllPairs-filter (λ s t. tuple_cmp s t ≡ Less) (λ t. not (list_any (eq_by_cmp tuple_cmp t) relation.lower.rows)) relation.upper.rows is.upper.ascending

-- the cells of relations that are numbered from r on have such numbers
pub numbered : (r : ℕ) (relations : List Relation) → All (λ c. r ≤ c.relation) (cells_from r relations)
numbered r [] = All-nil (λ c. r ≤ c.relation)
numbered r (relation ∷ rest) =
    All-append (λ c. r ≤ c.relation) (map (cell_of r) (open_tuples relation)) (cells_from (r + 1) rest)
    (All-map (λ c. r ≤ c.relation) (cell_of r) (open_tuples relation) (λ k d l. omega arith))
    (All-weaker (λ c. r + 1 ≤ c.relation) (λ c. r ≤ c.relation) (λ c h. omega arith) (cells_from (r + 1) rest) (numbered (r + 1) rest))

pub cells_ascend : (r : ℕ) (relations : List Relation) → All IsRelation relations → Ascend (cells_from r relations)
cells_ascend r [] all = pairs_nil (λ c d. cell_cmp c d ≡ Less)
cells_ascend r (relation ∷ rest) all =
    let L : Cell → Cell → Type 0 = λ c d. cell_cmp c d ≡ Less in
    pairs_append L (map (cell_of r) (open_tuples relation)) (cells_from (r + 1) rest)
    (pairs_map L (cell_of r) (open_tuples relation) (λ i j d l h. one_relation r (get_or (open_tuples relation) i d) (get_or (open_tuples relation) j d) (open_ascend relation (All-head IsRelation relation rest all) i j d l h)))
    (cells_ascend (r + 1) rest (All-tail IsRelation relation rest all))
    (All-map (λ c. All (L c) (cells_from (r + 1) rest)) (cell_of r) (open_tuples relation)
    (λ k d l. All-weaker (λ c. r + 1 ≤ c.relation) (L (cell_of r (get_or (open_tuples relation) k d)))
    (λ c h. lower_first (cell_of r (get_or (open_tuples relation) k d)) c (omega arith)) (cells_from (r + 1) rest) (numbered (r + 1) rest)))

flip : (c d : Cell) (o : Ordering) → cell_cmp c d ≡ o → cell_cmp d c ≡ ordering_reverse o
flip c d o e = cell_order.antisymm d c ∙ ap ordering_reverse e

pub cells_searchable : (cells : List Cell) (x : Cell) → Ascend cells → IsNonDecreasingBy (λ y. ordering_index (cell_cmp y x)) cells
cells_searchable cells x up = searchable_from_sorted cell_order (λ c. c) cells x (λ k d low high. ap is_lt (flip (get_or cells k d) (get_or cells (k + 1) d) Less (up k (k + 1) d (omega arith) high)))

pub cell_absent : (cells : List Cell) (x : Cell) (i : ℕ) → IsPartitionPoint (λ y. cell_cmp y x ≡ Less) (λ y. cell_cmp y x ≡ Greater) cells i → (n : ℕ) → slice_get cells n ≡ Some x → ⊥
cell_absent cells x i at n e =
    let itself : cell_cmp (get_or cells n x) x ≡ Equal = subst (λ y. cell_cmp y x ≡ Equal) (sym (some_at cells n x x e)) (tied_itself cell_order x) in
    elim (cases_lt n i) [
      | inl before ↦ let f = at.0 n x (omega arith) before in absurd (cc)
      | inr past ↦ let f = at.1 n x past (some_below cells n x e) in absurd (cc)
    ]

-- each cell stands at one number
pub cells_once : (cells : List Cell) (n m : ℕ) (c : Cell) → Ascend cells → slice_get cells n ≡ Some c → slice_get cells m ≡ Some c → n ≡ m
cells_once cells n m c up e f =
    let itself = tied_itself cell_order c in
    elim (cases_lt n m) [
      | inl less ↦ let h = subst (λ x. cell_cmp x (get_or cells m c) ≡ Less) (some_at cells n c c e) (up n m c less (some_below cells m c f)) in
          let g = subst (λ y. cell_cmp c y ≡ Less) (some_at cells m c c f) h in absurd (cc)
      | inr past ↦ elim (cases_lt m n) [
        | inl less ↦ let h = subst (λ x. cell_cmp x (get_or cells n c) ≡ Less) (some_at cells m c c f) (up m n c less (some_below cells n c e)) in
            let g = subst (λ y. cell_cmp c y ≡ Less) (some_at cells n c c e) h in absurd (cc)
        | inr back ↦ omega arith
      ]
    ]

is_equal : (o : Ordering) → eq_by_cmp (λ (x y : Ordering). x) o o ≡ true → o ≡ Equal
is_equal Less e = absurd (cc)
is_equal Equal e = refl
is_equal Greater e = absurd (cc)

-- the test whether a tuple is in a set
pub any_row : (t : List Atom) (rows : List (List Atom)) → (list_any (eq_by_cmp tuple_cmp t) rows ≡ true) ↔ Contains rows t
any_row t rows = (
  λ e. Contains-from_any (λ x y e. tied x y (is_equal (tuple_cmp x y) e)) t rows e,
  λ c. list_any-from_Contains (eq_by_cmp_equiv tuple_order) t rows c,
)

-- a cell's number, as a binary search finds it
pub found_number : (cells : List Cell) (x : Cell) (i : ℕ) → Ascend cells → i < length cells → ((d : Cell) → cell_cmp (get_or cells i d) x ≡ Equal) → (n : ℕ) → (Some i ≡ Some n) ↔ (slice_get cells n ≡ Some x)
found_number cells x i up l at n =
    let here : slice_get cells i ≡ Some x = get-Some cells i x l ∙ ap (λ y. Some y) (one_cell (get_or cells i x) x (at x)) in (
      λ e. let same : i ≡ n = cc in subst (λ k. slice_get cells k ≡ Some x) same here,
      λ e. ap (λ k. Some k) (cells_once cells i n x up here e),
    )

pub missing_number : (cells : List Cell) (x : Cell) (i : ℕ) → Ascend cells → (IsNonDecreasingBy (λ y. ordering_index (cell_cmp y x)) cells → IsPartitionPoint (λ y. cell_cmp y x ≡ Less) (λ y. cell_cmp y x ≡ Greater) cells i) → (n : ℕ) → (None ≡ Some n) ↔ (slice_get cells n ≡ Some x)
missing_number cells x i up at n =
    (λ e. absurd (cc), λ e. absurd (cell_absent cells x i (at (cells_searchable cells x up)) n e))

cells_suc : (r : ℕ) (relations : List Relation) (i : ℕ) (d : Relation) → i < length relations → cells_from r (take (suc i) relations) ≡ cells_from r (take i relations) ++ map (cell_of (r + i)) (open_tuples (get_or relations i d))
cells_suc r [] i d l = absurd (omega arith)
cells_suc r (x ∷ rest) zero d l = rw (append-nil, add-zero) refl
cells_suc r (x ∷ rest) (suc i) d l =
    let later = cells_suc (r + 1) rest i d (omega arith) in
    let at : r + 1 + i ≡ r + suc i = omega arith in
    let front = map (cell_of r) (open_tuples x) in
    ap (λ cells. front ++ cells) later ∙ sym (append_assoc front (cells_from (r + 1) (take i rest)) (map (cell_of (r + 1 + i)) (open_tuples (get_or rest i d))))
    ∙ ap (λ n. (front ++ cells_from (r + 1) (take i rest)) ++ map (cell_of n) (open_tuples (get_or rest i d))) at

-- one relation more
pub cells_more : (relations : List Relation) (i : ℕ) (d : Relation) → i < length relations → cells_from 0 (take (i + 1) relations) ≡ cells_from 0 (take i relations) ++ map (cell_of i) (open_tuples (get_or relations i d))
cells_more relations i d l =
    ap (λ n. cells_from 0 (take n relations)) (add-one i) ∙ cells_suc 0 relations i d l ∙ ap (λ n. cells_from 0 (take i relations) ++ map (cell_of n) (open_tuples (get_or relations i d))) (zero-add i)

not_true : (b : Bool) → (b ≡ true → ⊥) → b ≡ false
not_true true h = absurd (h refl)
not_true false h = refl

-- one tuple more
module _ (r : ℕ) (lower rows : List (List Atom)) where
  pub open_more : (i : ℕ) (d : List Atom) → i < length rows → (Contains lower (get_or rows i d) → ⊥) →
      map (cell_of r) (filter (λ t. not (list_any (eq_by_cmp tuple_cmp t) lower)) (take (i + 1) rows)) ≡ map (cell_of r) (filter (λ t. not (list_any (eq_by_cmp tuple_cmp t) lower)) (take i rows)) ++ cell_of r (get_or rows i d) ∷ []
  open_more i d l none =
      let test : List Atom → Bool = λ t. not (list_any (eq_by_cmp tuple_cmp t) lower) in
      let x = get_or rows i d in
      let is : list_any (eq_by_cmp tuple_cmp x) lower ≡ false = not_true (list_any (eq_by_cmp tuple_cmp x) lower) (λ e. none ((any_row x lower).0 e)) in
      ap (map (cell_of r)) (filter_more test rows i d l ∙ ap (λ b. filter test (take i rows) ++ cond (not b) (x ∷ []) []) is) ∙ map-append (cell_of r) (filter test (take i rows)) (x ∷ [])

  pub open_same : (i : ℕ) (d : List Atom) → i < length rows → Contains lower (get_or rows i d) →
      map (cell_of r) (filter (λ t. not (list_any (eq_by_cmp tuple_cmp t) lower)) (take (i + 1) rows)) ≡ map (cell_of r) (filter (λ t. not (list_any (eq_by_cmp tuple_cmp t) lower)) (take i rows))
  open_same i d l has =
      let test : List Atom → Bool = λ t. not (list_any (eq_by_cmp tuple_cmp t) lower) in
      let x = get_or rows i d in
      let is : list_any (eq_by_cmp tuple_cmp x) lower ≡ true = (any_row x lower).1 has in
      ap (map (cell_of r)) (filter_more test rows i d l ∙ ap (λ b. filter test (take i rows) ++ cond (not b) (x ∷ []) []) is ∙ append-nil (filter test (take i rows)))
