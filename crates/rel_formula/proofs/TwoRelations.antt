-- Problems of two relations.
use Rattle.std.proofs.Common.{◌≡◌, ◌≢◌, ℕ, ◌+◌, ◌<◌, ◌≤◌, inl, inr, Bool, List, [], ◌∷◌, ◌++◌, map, not, length, Contains, All, AllPairs, refl, sym, ◌∙◌, ap, subst, arith}
use Rattle.std.specs.List.{list_any}
use Rattle.std.specs.Ordering.{eq_by_cmp}
use Rattle.std.proofs.lemmas.List.{length-map, length-append, append-nil}
use Rattle.std.proofs.lemmas.List.Filters.{length-filter_both}
use Rattle.std.proofs.lemmas.List.Elements.{All-contains, All-nil, All-cons}
use Rattle.std.proofs.lemmas.List.Kept.{AllPairs-cons}
use Rattle.tuple_core.specs.declared.atom.Atom.{Atom}
use Rattle.tuple_core.specs.Order.{tuple_cmp}
use Rattle.rel_formula.specs.declared.problem.Relation.{Relation}
use Rattle.rel_formula.specs.Kernel.{FormulaTree}
use Rattle.rel_formula.specs.Bounds.{Bounded, IsRelation, IsProblem, relation_at, open_tuples, cell_of, cells_of}
use Rattle.rel_formula.specs.Shape.{IsProper}
use Rattle.rel_formula.proofs.Lists.{pairs_nil}
use Rattle.rel_formula.proofs.OpenCells.{cons_cases}

-- there are no more open tuples than upper ones
few_open : (relation : Relation) → length (open_tuples relation) ≤ length relation.upper.rows
few_open relation =
    let lower : List Atom → Bool = λ t. not (list_any (eq_by_cmp tuple_cmp t) relation.lower.rows) in
    let both = length-filter_both lower (λ t. not (lower t)) (λ t. refl) relation.upper.rows in
    omega arith

-- each atom is of one of so many signatures
abbrev pub AreOf : ℕ → Relation → Type 0
AreOf count relation = All (All (λ (a : Atom). a.top < count)) relation.upper.rows

module _ (a b : Relation) (tops : List ℕ) (f : FormulaTree) where
  abbrev p : Bounded
  p = record { relations = a ∷ b ∷ []; tops = tops; formula = f }

  count : length (cells_of p) ≤ length a.upper.rows + length b.upper.rows
  count =
      let first = map (cell_of 0) (open_tuples a) in
      let second = map (cell_of 1) (open_tuples b) in
      let all : length (cells_of p) ≡ length first + length second = length-append first (second ++ []) ∙ ap (λ cs. length first + length cs) (append-nil second) in
      let one = length-map (open_tuples a) (cell_of 0) in
      let two = length-map (open_tuples b) (cell_of 1) in
      let low = few_open a in
      let high = few_open b in
      omega arith

  pub two_problem : IsRelation a → IsRelation b → a.name ≢ b.name → length a.upper.rows + length b.upper.rows ≤ 4096 →
      All (λ r. r < 2) tops → All (λ r. (relation_at (a ∷ b ∷ []) r).upper.arity ≡ 1) tops → AllPairs (λ r s. r < s) tops →
      AreOf (length tops) a → AreOf (length tops) b → IsProper (a.lower.arity ∷ b.lower.arity ∷ []) 0 f → IsProblem p
  two_problem first second names few there unary rising low high proper = record {
    few = omega arith;
    few_cells = let h = count in omega arith;
    relations = All-cons IsRelation a (b ∷ []) first (All-cons IsRelation b [] second (All-nil IsRelation));
    names = AllPairs-cons (λ (r s : Relation). r.name ≢ s.name) a (b ∷ []) (All-cons (λ (s : Relation). a.name ≢ s.name) b [] names (All-nil (λ (s : Relation). a.name ≢ s.name)))
        (AllPairs-cons (λ (r s : Relation). r.name ≢ s.name) b [] (All-nil (λ (s : Relation). b.name ≢ s.name)) (pairs_nil (λ (r s : Relation). r.name ≢ s.name)));
    tops = there;
    unary = unary;
    rising = rising;
    atoms = λ x is.
        let In : Relation → Type 0 = λ relation. (t : List Atom) × Contains relation.upper.rows t × Contains t x in
        let one : (relation : Relation) → AreOf (length tops) relation → In relation → x.top < length tops =
        λ relation all h. All-contains (λ (y : Atom). y.top < length tops) h.0 x (All-contains (All (λ (y : Atom). y.top < length tops)) relation.upper.rows h.0 all h.1) h.2 in
        elim (cons_cases a (b ∷ []) is.0 is.1) [
          | inl same ↦ one a low (subst In (sym same) is.2)
          | inr later ↦ elim (cons_cases b [] is.0 later) [
            | inl same ↦ one b high (subst In (sym same) is.2)
            | inr none ↦ absurd (let l = none.1 in omega arith)
          ]
        ];
    proper = proper;
  }
