-- Problems of sets between bounds, the upper one of each being the same set of atoms, and the lower one that or none.
use Rattle.std.proofs.Common.{◌≡◌, ◌≢◌, ℕ, ◌+◌, ◌*◌, ◌<◌, ◌≤◌, ◌↔◌, ◌⊎◌, inl, inr, List, [], ◌∷◌, map, length, get_or, Contains, All, AllPairs, refl, sym, ◌∙◌, ap, subst, arith}
use Rattle.std.proofs.lemmas.Bool.{cases_lt}
use Rattle.std.proofs.lemmas.List.{length-map, length-append, get_or_past}
use Rattle.std.proofs.lemmas.List.Elements.{All-contains, All-nil, All-cons, All-head, All-tail, Contains-get_or}
use Rattle.tuple_core.specs.declared.atom.Atom.{Atom}
use Rattle.tuple_core.specs.Rows.{Rows, IsRows, SetGains}
use Rattle.tuple_core.specs.Swap.{swap_atoms}
use Rattle.rel_formula.specs.declared.problem.Relation.{Relation}
use Rattle.rel_formula.specs.Kernel.{FormulaTree}
use Rattle.rel_formula.specs.Bounds.{Bounded, IsRelation, IsProblem, IsAtomOf, relation_at, open_tuples, cell_of, cells_from}
use Rattle.rel_formula.specs.Shape.{IsProper}
use Rattle.rel_formula.specs.Renaming.{IsRenaming, KeepsBounds, IsSymmetric}
use Rattle.rel_formula.proofs.OpenCells.{cons_first}
use Rattle.rel_formula.proofs.Images.{map_undone}
use Rattle.rel_formula.proofs.SwapLaws.{laws_of, renames}
use Rattle.rel_formula.proofs.OneSetOfAtoms.{filter_shorter, only_one, one_pair}
use Rattle.std.specs.List.{list_any}
use Rattle.std.specs.Ordering.{eq_by_cmp}
use Rattle.tuple_core.specs.Order.{tuple_cmp, IsAscending}
use Rattle.std.specs.Prelude.{not}

-- the relation is a set of these atoms, which has none of them for sure, or all
pub record IsSetOver (atoms : Rows) (relation : Relation) : Type 0 where
  pub lower : IsRows relation.lower
  pub arity : relation.lower.arity ≡ 1
  pub upper : relation.upper ≡ atoms
  pub between : (relation.lower.rows ≡ []) ⊎ (relation.lower.rows ≡ atoms.rows)

-- any set of the atoms
pub any_set : (atoms : Rows) (relation : Relation) → relation.lower.arity ≡ 1 → relation.lower.rows ≡ [] → relation.upper ≡ atoms → IsSetOver atoms relation
any_set atoms relation one none all = record {
  lower = record {
    low = omega arith;
    high = omega arith;
    arities = subst (All (λ (t : List Atom). length t ≡ relation.lower.arity)) (sym none) (All-nil (λ (t : List Atom). length t ≡ relation.lower.arity));
    ascending = subst IsAscending (sym none) (λ i j d l h. absurd (omega arith));
  };
  arity = one;
  upper = all;
  between = inl none;
}

-- all of them
pub whole_set : (atoms : Rows) (relation : Relation) → IsRows atoms → atoms.arity ≡ 1 → relation.lower ≡ atoms → relation.upper ≡ atoms → IsSetOver atoms relation
whole_set atoms relation rows one low all = record {
  lower = subst IsRows (sym low) rows;
  arity = ap (λ (v : Rows). v.arity) low ∙ one;
  upper = all;
  between = inr (ap (λ (v : Rows). v.rows) low);
}

nothing_in : {X : Type 0} (x : X) (xs : List X) → xs ≡ [] → Contains xs x → ⊥
nothing_in x xs e c = let h = subst (λ ys. Contains ys x) e c in let l = h.1 in omega arith

abbrev no_relation : Relation
no_relation = record { name = []; lower = record { arity = 1; rows = [] }; upper = record { arity = 1; rows = [] } }

module _ (atoms : Rows) (rows : IsRows atoms) (one : atoms.arity ≡ 1) where
  -- each tuple is one atom
  one_atom : (t : List Atom) → Contains atoms.rows t → (a : Atom) × (t ≡ a ∷ [])
  one_atom [] c = absurd (let e = All-contains (λ (u : List Atom). length u ≡ atoms.arity) atoms.rows [] rows.arities c in omega arith)
  one_atom (a ∷ []) c = (a, refl)
  one_atom (a ∷ b ∷ t) c = absurd (let e = All-contains (λ (u : List Atom). length u ≡ atoms.arity) atoms.rows (a ∷ b ∷ t) rows.arities c in omega arith)

  is_relation : (relation : Relation) → IsSetOver atoms relation → IsRelation relation
  is_relation relation is = record {
    lower = is.lower;
    upper = subst IsRows (sym is.upper) rows;
    arity = ap (λ (v : Rows). v.arity) is.upper ∙ one ∙ sym is.arity;
    within =
        let In : List Atom → Type 0 = Contains relation.upper.rows in
        let same : relation.upper.rows ≡ atoms.rows = ap (λ (v : Rows). v.rows) is.upper in
        elim is.between [
          | inl none ↦ subst (All In) (sym none) (All-nil In)
          | inr all ↦ subst (All In) (sym (all ∙ sym same)) (λ k d l. Contains-get_or relation.upper.rows k d l)
        ];
  }

  few_open : (relation : Relation) → IsSetOver atoms relation → length (open_tuples relation) ≤ length atoms.rows
  few_open relation is =
      let l = filter_shorter (λ t. not (list_any (eq_by_cmp tuple_cmp t) relation.lower.rows)) relation.upper.rows in
      let e = ap (λ (v : Rows). length v.rows) is.upper in
      omega arith

  few_cells : (rs : List Relation) (r : ℕ) → All (IsSetOver atoms) rs → length (cells_from r rs) ≤ length rs * length atoms.rows
  few_cells [] r sets = omega arith
  few_cells (x ∷ rs) r sets =
      let here = few_open x (All-head (IsSetOver atoms) x rs sets) in
      let rest = few_cells rs (r + 1) (All-tail (IsSetOver atoms) x rs sets) in
      let long = length-append (map (cell_of r) (open_tuples x)) (cells_from (r + 1) rs) in
      let same = length-map (open_tuples x) (cell_of r) in
      omega arith

  module _ (rs : List Relation) (sets : All (IsSetOver atoms) rs) (formula : FormulaTree) where
    abbrev p : Bounded
    p = record { relations = rs; tops = 0 ∷ []; formula = formula }

    is_set : (relation : Relation) → Contains rs relation → IsSetOver atoms relation
    is_set relation c = All-contains (IsSetOver atoms) rs relation sets c

    -- an atom of the problem is one of the set
    atom_in : (a : Atom) → IsAtomOf p a → Contains atoms.rows (a ∷ [])
    atom_in a (relation, c, (t, d, e)) =
        let there : Contains atoms.rows t = subst (λ (v : Rows). Contains v.rows t) (is_set relation c).upper d in
        let x = one_atom t there in
        let same : x.0 ≡ a = only_one x.0 a (subst (λ u. Contains u a) x.1 e) in
        subst (Contains atoms.rows) (x.1 ∙ ap (λ (y : Atom). y ∷ []) same) there

    pub sets_problem : 0 < length rs → length rs ≤ 128 → length rs * length atoms.rows ≤ 4096 → AllPairs (λ (r s : Relation). r.name ≢ s.name) rs →
        All (All (λ (a : Atom). a.top < 1)) atoms.rows → IsProper (map (λ (r : Relation). r.lower.arity) rs) 0 formula → IsProblem p
    sets_problem some few cells names tops proper =
        let first : Contains rs (relation_at rs 0) = Contains-get_or rs 0 no_relation some in
        record {
          few = few;
          few_cells = let h = few_cells rs 0 sets in omega arith;
          relations = λ k d l. is_relation (get_or rs k d) (sets k d l);
          names = names;
          tops = All-cons (λ (r : ℕ). r < length rs) 0 [] some (All-nil (λ (r : ℕ). r < length rs));
          unary = All-cons (λ (r : ℕ). (relation_at rs r).upper.arity ≡ 1) 0 []
              (ap (λ (v : Rows). v.arity) (is_set (relation_at rs 0) first).upper ∙ one) (All-nil (λ (r : ℕ). (relation_at rs r).upper.arity ≡ 1));
          rising = one_pair (λ (r s : ℕ). r < s) 0;
          atoms = λ a is.
              All-contains (λ (b : Atom). b.top < 1) (a ∷ []) a (All-contains (All (λ (b : Atom). b.top < 1)) atoms.rows (a ∷ []) tops (atom_in a is)) (cons_first a []);
          proper = proper;
        }

    module _ (some : 0 < length rs) where
      -- and each of the set is one of the problem
      in_atom : (a : Atom) → Contains atoms.rows (a ∷ []) → IsAtomOf p a
      in_atom a c =
          let first : Contains rs (relation_at rs 0) = Contains-get_or rs 0 no_relation some in
          (relation_at rs 0, first, (a ∷ [], subst (λ (v : Rows). Contains v.rows (a ∷ [])) (sym (is_set (relation_at rs 0) first).upper) c, cons_first a []))

      moves : (f : Atom → Atom) → ((a : Atom) → IsAtomOf p a → IsAtomOf p (f a)) → (t : List Atom) → Contains atoms.rows t → Contains atoms.rows (map f t)
      moves f keeps t c =
          let x = one_atom t c in
          let there = atom_in (f x.0) (keeps x.0 (in_atom x.0 (subst (Contains atoms.rows) x.1 c))) in
          subst (λ u. Contains atoms.rows (map f u)) (sym x.1) there

      module _ (f g : Atom → Atom) (renaming : IsRenaming p f g) where
        both : (t : List Atom) → Contains atoms.rows t ↔ Contains atoms.rows (map f t)
        both t = (
          moves f renaming.atoms t,
          λ c. subst (Contains atoms.rows) (map_undone g f renaming.back t) (moves g renaming.atoms_back (map f t) c),
        )

        in_both : (xs : List (List Atom)) (t : List Atom) → (xs ≡ []) ⊎ (xs ≡ atoms.rows) → Contains xs t ↔ Contains xs (map f t)
        in_both xs t (inl none) = (λ c. absurd (nothing_in t xs none c), λ c. absurd (nothing_in (map f t) xs none c))
        in_both xs t (inr all) = subst (λ ys. Contains ys t ↔ Contains ys (map f t)) (sym all) (both t)

        kept : KeepsBounds p f
        kept = record {
          lower = λ r t. in_both (relation_at rs r).lower.rows t (elim (cases_lt r (length rs)) [
            | inl l ↦ (sets r no_relation l).between
            | inr past ↦ inl (ap (λ (x : Relation). x.lower.rows) (get_or_past rs r no_relation past))
          ]);
          upper = λ r t. in_both (relation_at rs r).upper.rows t (elim (cases_lt r (length rs)) [
            | inl l ↦ inr (ap (λ (v : Rows). v.rows) (sets r no_relation l).upper)
            | inr past ↦ inl (ap (λ (x : Relation). x.upper.rows) (get_or_past rs r no_relation past))
          ]);
        }

      pub sets_symmetric : IsSymmetric p
      sets_symmetric f g renaming = kept f g renaming

-- the swap of two atoms of one set
pub two_kept : (atoms : Rows) (rows : IsRows atoms) (one : atoms.arity ≡ 1) (relation : Relation) (formula : FormulaTree) (a b : Atom) → IsSetOver atoms relation →
    Contains atoms.rows (a ∷ []) → Contains atoms.rows (b ∷ []) → a.top ≡ b.top → KeepsBounds (record { relations = relation ∷ []; tops = 0 ∷ []; formula = formula }) (swap_atoms a b)
two_kept atoms rows one relation formula a b is first second tops =
    let rs : List Relation = relation ∷ [] in
    let sets : All (IsSetOver atoms) rs = All-cons (IsSetOver atoms) relation [] is (All-nil (IsSetOver atoms)) in
    let some : 0 < length rs = omega arith in
    sets_symmetric atoms rows one rs sets formula some (swap_atoms a b) (swap_atoms a b)
    (renames (record { relations = rs; tops = 0 ∷ []; formula = formula }) a b (laws_of a b tops) (in_atom atoms rows one rs sets formula some a first) (in_atom atoms rows one rs sets formula some b second))

-- a set into which two tuples were put, one after the other
module _ (none one two : Rows) (s t : List Atom) (empty : none.rows ≡ []) (first : SetGains none one (λ u. u ≡ s)) (second : SetGains one two (λ u. u ≡ t)) where
  pub has_first : Contains two.rows s
  has_first = (second.rows.tuples s).1 (inl ((first.rows.tuples s).1 (inr refl)))

  pub has_second : Contains two.rows t
  has_second = (second.rows.tuples t).1 (inr refl)

  pub all_of_two : (P : List Atom → Type 0) → P s → P t → All P two.rows
  all_of_two P p q k d l =
      let u = get_or two.rows k d in
      elim ((second.rows.tuples u).0 (Contains-get_or two.rows k d l)) [
        | inr e ↦ subst P (sym e) q
        | inl before ↦ elim ((first.rows.tuples u).0 before) [ inr e ↦ subst P (sym e) p | inl old ↦ absurd (nothing_in u none.rows empty old) ]
      ]

  pub arity_of_two : two.arity ≡ none.arity
  arity_of_two = second.arity ∙ first.arity
