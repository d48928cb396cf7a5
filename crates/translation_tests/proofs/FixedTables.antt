-- Problems of such relations.
use Rattle.std.proofs.Common.{◌≡◌, ◌≢◌, ℕ, ◌+◌, ◌*◌, ◌<◌, ◌≤◌, List, [], ◌∷◌, map, length, get_or, not, Contains, All, AllPairs, refl, sym, ◌∙◌, ap, subst, arith}
use Rattle.std.specs.List.{list_any}
use Rattle.std.specs.Ordering.{eq_by_cmp}
use Rattle.std.proofs.lemmas.List.{length-map, length-append}
use Rattle.std.proofs.lemmas.List.Elements.{All-contains, All-nil, All-cons, All-head, All-tail, Contains-get_or}
use Rattle.std.proofs.lemmas.List.Kept.{AllPairs-cons}
use Rattle.tuple_core.specs.declared.atom.Atom.{Atom}
use Rattle.tuple_core.specs.Order.{tuple_cmp}
use Rattle.tuple_core.specs.Rows.{Rows, IsRows}
use Rattle.rel_formula.specs.declared.problem.Relation.{Relation}
use Rattle.rel_formula.specs.Kernel.{FormulaTree}
use Rattle.rel_formula.specs.Bounds.{IsRelation, IsProblem, relation_at, open_tuples, cell_of, cells_from}
use Rattle.rel_formula.specs.Shape.{IsProper}
use Rattle.rel_formula.proofs.Lists.{pairs_nil}
use Rattle.rel_formula.proofs.OneSetOfAtoms.{filter_shorter, one_pair}
use Rattle.translation_tests.specs.Tables.{IsFixed, IsTable, AreTables}

abbrev first_letter : Relation → ℕ
first_letter r = get_or r.name 0 0

-- the names begin with rising letters, all above n
abbrev AreRising : ℕ → List Relation → Type 0
AreRising n [] = Unit {0}
AreRising n (r ∷ rs) = (n < first_letter r) × AreRising (first_letter r) rs

later : (m n : ℕ) (rs : List Relation) → m ≤ n → AreRising n rs → All (λ (r : Relation). m < first_letter r) rs
later m n [] l h = All-nil (λ (r : Relation). m < first_letter r)
later m n (r ∷ rs) l h =
    let here : n < first_letter r = h.0 in
    All-cons (λ (s : Relation). m < first_letter s) r rs (omega arith) (later m (first_letter r) rs (omega arith) h.1)

differ : (n : ℕ) (rs : List Relation) → AreRising n rs → AllPairs (λ (r s : Relation). r.name ≢ s.name) rs
differ n [] h = pairs_nil (λ (r s : Relation). r.name ≢ s.name)
differ n (r ∷ rs) h =
    AllPairs-cons (λ (r s : Relation). r.name ≢ s.name) r rs
    (λ k d l e.
    let more : first_letter r < first_letter (get_or rs k d) = later (first_letter r) (first_letter r) rs (omega arith) h.1 k d l in
    let same : first_letter r ≡ first_letter (get_or rs k d) = ap (λ (xs : List ℕ). get_or xs 0 0) e in
    omega arith)
    (differ (first_letter r) rs h.1)

-- five tables, which are called A, B, R, S and X
pub five_tables : (n : ℕ) (a b r s x : Relation) → IsTable (65 ∷ []) 1 a → IsTable (66 ∷ []) 1 b → IsTable (82 ∷ []) 2 r → IsTable (83 ∷ []) 2 s → IsTable (88 ∷ []) n x →
    AreTables n (a ∷ b ∷ r ∷ s ∷ x ∷ [])
five_tables n a b r s x ia ib ir is ix =
    let la : first_letter a ≡ 65 = ap (λ (xs : List ℕ). get_or xs 0 0) ia.named in
    let lb : first_letter b ≡ 66 = ap (λ (xs : List ℕ). get_or xs 0 0) ib.named in
    let lr : first_letter r ≡ 82 = ap (λ (xs : List ℕ). get_or xs 0 0) ir.named in
    let ls : first_letter s ≡ 83 = ap (λ (xs : List ℕ). get_or xs 0 0) is.named in
    let lx : first_letter x ≡ 88 = ap (λ (xs : List ℕ). get_or xs 0 0) ix.named in
    let ea : a.lower.arity ≡ 1 = ia.wide in
    let eb : b.lower.arity ≡ 1 = ib.wide in
    let er : r.lower.arity ≡ 2 = ir.wide in
    let es : s.lower.arity ≡ 2 = is.wide in
    let ex : x.lower.arity ≡ n = ix.wide in
    record {
      fixed = All-cons IsFixed a (b ∷ r ∷ s ∷ x ∷ []) ia.fixed (All-cons IsFixed b (r ∷ s ∷ x ∷ []) ib.fixed
          (All-cons IsFixed r (s ∷ x ∷ []) ir.fixed (All-cons IsFixed s (x ∷ []) is.fixed (All-cons IsFixed x [] ix.fixed (All-nil IsFixed)))));
      count = refl;
      names = differ 0 (a ∷ b ∷ r ∷ s ∷ x ∷ []) (omega arith, (omega arith, (omega arith, (omega arith, (omega arith, tt)))));
      wide = cc;
      first = sym (ap (λ (v : Rows). v.arity) ia.fixed.same) ∙ ia.wide;
      second = sym (ap (λ (v : Rows). v.arity) ib.fixed.same) ∙ ib.wide;
    }

is_relation : (r : Relation) → IsFixed r → IsRelation r
is_relation r is = record {
  lower = subst IsRows (sym is.same) is.rows;
  upper = is.rows;
  arity = sym (ap (λ (v : Rows). v.arity) is.same);
  within =
      let In : List Atom → Type 0 = Contains r.upper.rows in
      subst (All In) (sym (ap (λ (v : Rows). v.rows) is.same)) (λ k d l. Contains-get_or r.upper.rows k d l);
}

few_cells : (rs : List Relation) (r : ℕ) → All IsFixed rs → length (cells_from r rs) ≤ 16 * length rs
few_cells [] r all = omega arith
few_cells (x ∷ rs) r all =
    let is : IsFixed x = All-head IsFixed x rs all in
    let few : length x.upper.rows ≤ 16 = is.few in
    let here = filter_shorter (λ t. not (list_any (eq_by_cmp tuple_cmp t) x.lower.rows)) x.upper.rows in
    let rest = few_cells rs (r + 1) (All-tail IsFixed x rs all) in
    let long = length-append (map (cell_of r) (open_tuples x)) (cells_from (r + 1) rs) in
    let same = length-map (open_tuples x) (cell_of r) in
    omega arith

pub tables_problem : (rs : List Relation) (n : ℕ) (f : FormulaTree) → AreTables n rs → IsProper (1 ∷ 1 ∷ 2 ∷ 2 ∷ n ∷ []) 0 f →
    IsProblem (record { relations = rs; tops = 0 ∷ 1 ∷ []; formula = f })
tables_problem rs n f is proper =
    let count : length rs ≡ 5 = is.count in
    let cells : length (cells_from 0 rs) ≤ 16 * length rs = few_cells rs 0 is.fixed in
    let There : ℕ → Type 0 = λ r. r < length rs in
    let IsUnary : ℕ → Type 0 = λ r. (relation_at rs r).upper.arity ≡ 1 in
    record {
      few = omega arith;
      few_cells = omega arith;
      relations = λ k d l. is_relation (get_or rs k d) (is.fixed k d l);
      names = is.names;
      tops = All-cons There 0 (1 ∷ []) (omega arith) (All-cons There 1 [] (omega arith) (All-nil There));
      unary = All-cons IsUnary 0 (1 ∷ []) is.first (All-cons IsUnary 1 [] is.second (All-nil IsUnary));
      rising = AllPairs-cons (λ (r s : ℕ). r < s) 0 (1 ∷ []) (All-cons (λ (s : ℕ). 0 < s) 1 [] (omega arith) (All-nil (λ (s : ℕ). 0 < s))) (one_pair (λ (r s : ℕ). r < s) 1);
      atoms = λ a at.
          let Z : Atom → Type 0 = λ b. b.top ≡ 0 in
          let here : IsFixed at.0 = All-contains IsFixed rs at.0 is.fixed at.1 in
          let row : All Z at.2.0 = All-contains (All Z) at.0.upper.rows at.2.0 here.tops at.2.1 in
          let zero_top : a.top ≡ 0 = All-contains Z at.2.0 a row at.2.2 in
          omega arith;
      proper = subst (λ ns. IsProper ns 0 f) (sym is.wide) proper;
    }
