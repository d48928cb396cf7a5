-- Problems of one set of atoms.
use Rattle.std.proofs.Common.{◌≡◌, ◌≢◌, ℕ, ◌<◌, ◌≤◌, inl, inr, Bool, true, false, cond, List, [], ◌∷◌, map, filter, not, length, Contains, All, AllPairs, sym, ◌∙◌, ap, subst, arith}
use Rattle.std.specs.List.{list_any}
use Rattle.std.specs.Ordering.{eq_by_cmp}
use Rattle.std.proofs.lemmas.List.{length-map, append-nil}
use Rattle.std.proofs.lemmas.List.Elements.{All-contains, All-nil, All-cons}
use Rattle.tuple_core.specs.declared.atom.Atom.{Atom}
use Rattle.tuple_core.specs.Order.{tuple_cmp}
use Rattle.tuple_core.specs.Rows.{IsRows}
use Rattle.rel_formula.specs.declared.problem.Relation.{Relation}
use Rattle.rel_formula.specs.Kernel.{FormulaTree}
use Rattle.rel_formula.specs.Bounds.{Bounded, IsRelation, IsProblem, relation_at, open_tuples, cell_of, cells_of}
use Rattle.rel_formula.specs.Shape.{IsProper}
use Rattle.rel_formula.proofs.OpenCells.{cons_cases}

pub filter_shorter : {X : Type 0} (p : X → Bool) (xs : List X) → length (filter p xs) ≤ length xs
filter_shorter p [] = omega arith
filter_shorter p (x ∷ xs) =
    let rest = filter_shorter p xs in
    let go : (b : Bool) → length (cond b (x ∷ filter p xs) (filter p xs)) ≤ length (x ∷ xs) =
    λ b. elim b as (λ b. length (cond b (x ∷ filter p xs) (filter p xs)) ≤ length (x ∷ xs)) [ true ↦ omega arith | false ↦ omega arith ] in
    go (p x)

pub one_pair : {X : Type 0} (R : X → X → Type 0) (x : X) → AllPairs R (x ∷ [])
one_pair R x i j d l h = absurd (omega arith)

pub only_one : {X : Type 0} (x y : X) → Contains (x ∷ []) y → x ≡ y
only_one x y c = elim (cons_cases x [] y c) [ inl e ↦ e | inr d ↦ absurd (let l = d.1 in omega arith) ]

pub single_problem : (relation : Relation) (f : FormulaTree) → IsRows relation.lower → IsRows relation.upper → relation.lower.arity ≡ 1 → relation.upper.arity ≡ 1 →
    All (Contains relation.upper.rows) relation.lower.rows → length relation.upper.rows ≤ 4096 → All (All (λ (a : Atom). a.top ≡ 0)) relation.upper.rows →
    IsProper (1 ∷ []) 0 f → IsProblem (record { relations = relation ∷ []; tops = 0 ∷ []; formula = f })
single_problem relation f low high one_low one_high within few tops proper =
    let p : Bounded = record { relations = relation ∷ []; tops = 0 ∷ []; formula = f } in
    let open' = open_tuples relation in
    let count : length (cells_of p) ≡ length open' = ap length (append-nil (map (cell_of 0) open')) ∙ length-map open' (cell_of 0) in
    let short : length open' ≤ length relation.upper.rows = filter_shorter (λ t. not (list_any (eq_by_cmp tuple_cmp t) relation.lower.rows)) relation.upper.rows in
    record {
      few = omega arith;
      few_cells = omega arith;
      relations = All-cons IsRelation relation [] (record { lower = low; upper = high; arity = one_high ∙ sym one_low; within = within }) (All-nil IsRelation);
      names = one_pair (λ (r s : Relation). r.name ≢ s.name) relation;
      tops = All-cons (λ (r : ℕ). r < 1) 0 [] (omega arith) (All-nil (λ (r : ℕ). r < 1));
      unary = All-cons (λ (r : ℕ). (relation_at (relation ∷ []) r).upper.arity ≡ 1) 0 [] one_high (All-nil (λ (r : ℕ). (relation_at (relation ∷ []) r).upper.arity ≡ 1));
      rising = one_pair (λ (r s : ℕ). r < s) 0;
      atoms = λ a is.
          let same : relation ≡ is.0 = only_one relation is.0 is.1 in
          let row : Contains relation.upper.rows is.2.0 = subst (λ (r : Relation). Contains r.upper.rows is.2.0) (sym same) is.2.1 in
          let zero_top : a.top ≡ 0 = All-contains (λ (a : Atom). a.top ≡ 0) is.2.0 a (All-contains (All (λ (a : Atom). a.top ≡ 0)) relation.upper.rows is.2.0 tops row) is.2.2 in
          omega arith;
      proper = subst (λ n. IsProper (n ∷ []) 0 f) (sym one_low) proper;
    }
