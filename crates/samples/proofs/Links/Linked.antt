-- All tuples over a set of atoms, and problems of such a set and of a relation that may have any of these tuples.
use Rattle.std.proofs.Common.{◌≡◌, ◌≢◌, ℕ, zero, suc, ◌+◌, ◌<◌, ◌≤◌, ◌↔◌, ◌⊎◌, inl, inr, List, [], ◌∷◌, ◌++◌, map, length, take, drop, get_or, Contains, All, refl, sym, ◌∙◌, ap, subst, arith, length-append, length-drop}
use Rattle.std.proofs.lemmas.List.{length-map, length-take-le, take-append-drop}
use Rattle.std.proofs.lemmas.List.Elements.{All-contains, All-append, All-take, All-drop, All-map, All-cons, All-nil, All-head, Contains-get_or}
use Rattle.tuple_core.specs.declared.atom.Atom.{Atom}
use Rattle.tuple_core.specs.Operators.{Multiplied}
use Rattle.tuple_core.specs.Rows.{Rows, IsRows, IsSetOf}
use Rattle.rel_formula.specs.declared.problem.Relation.{Relation}
use Rattle.rel_formula.specs.Kernel.{FormulaTree}
use Rattle.rel_formula.specs.Bounds.{Bounded, IsRelation, IsProblem, IsAtomOf, relation_at}
use Rattle.rel_formula.specs.Renaming.{IsRenaming, IsSymmetric}
use Rattle.rel_formula.specs.Shape.{IsProper}
use Rattle.rel_formula.proofs.Images.{map_undone}
use Rattle.rel_formula.proofs.OpenCells.{cons_cases, cons_first}
use Rattle.rel_formula.proofs.OneSetOfAtoms.{only_one}
use Rattle.rel_formula.proofs.TwoRelations.{two_problem}

single : (t : List Atom) → length t ≡ 1 → (a : Atom) × (t ≡ a ∷ [])
single [] e = absurd (omega arith)
single (a ∷ []) e = (a, refl)
single (a ∷ b ∷ t) e = absurd (omega arith)

none_there : {X : Type 0} (x : X) (xs : List X) → xs ≡ [] → Contains xs x → ⊥
none_there x xs e c = let h = subst (λ ys. Contains ys x) e c in let l = h.1 in omega arith

module _ (atoms : Rows) where
  abbrev In : Atom → Type 0
  In a = Contains atoms.rows (a ∷ [])

  -- the tuples are all those of its arity over the atoms
  pub record HasAllOver (v : Rows) : Type 0 where
    pub tuples : (t : List Atom) → Contains v.rows t ↔ (All In t × (length t ≡ v.arity))

  -- the atoms themselves
  pub atoms_over : IsRows atoms → atoms.arity ≡ 1 → HasAllOver atoms
  atoms_over rows one = record {
    tuples = λ t. (
      λ c.
          let long : length t ≡ atoms.arity = All-contains (λ (u : List Atom). length u ≡ atoms.arity) atoms.rows t rows.arities c in
          let x = single t (long ∙ one) in
          (subst (All In) (sym x.1) (All-cons In x.0 [] (subst (Contains atoms.rows) x.1 c) (All-nil In)), long),
      λ h.
          let x = single t (h.1 ∙ one) in
          subst (Contains atoms.rows) (sym x.1) (All-head In x.0 [] (subst (All In) x.1 h.0)),
    );
  }

  -- each tuple of the one followed by each of the other
  pub product_over : (left right both : Rows) → HasAllOver left → HasAllOver right →
      IsSetOf both (left.arity + right.arity) (Multiplied (Contains left.rows) (Contains right.rows)) → HasAllOver both
  product_over left right both first second set = record {
    tuples = λ t. (
      λ c.
          let m = (set.just t).0 c in
          let l = (first.tuples m.0).0 m.2 in
          let r = (second.tuples m.1).0 m.3 in
          let long : length t ≡ both.arity =
          (let e = ap (λ (u : List Atom). length u) m.4 in let n = length-append m.0 m.1 in let a = l.1 in let b = r.1 in let s = set.arity_is in omega arith) in
          (subst (All In) (sym m.4) (All-append In m.0 m.1 l.0 r.0), long),
      λ h.
          let n = left.arity in
          let long = h.1 in
          let s = set.arity_is in
          let few : n ≤ length t = omega arith in
          let rest : length (drop n t) ≡ right.arity = (let d = length-drop n t in omega arith) in
          (set.just t).1 (
            take n t,
            drop n t,
            (first.tuples (take n t)).1 (All-take In n t h.0, length-take-le n t few),
            (second.tuples (drop n t)).1 (All-drop In n t h.0, rest),
            sym (take-append-drop n t),
          ),
    );
  }

module _ (atoms : Rows) (set relation : Relation) (formula : FormulaTree) (rows : IsRows atoms) (one : atoms.arity ≡ 1)
    (low : (set.lower ≡ atoms) ⊎ ((set.lower.arity ≡ 1) × (set.lower.rows ≡ []))) (high : set.upper ≡ atoms) (none : relation.lower.rows ≡ []) (over : HasAllOver atoms relation.upper) where
  abbrev p : Bounded
  p = record { relations = set ∷ relation ∷ []; tops = 0 ∷ []; formula = formula }

  whole : HasAllOver atoms atoms
  whole = atoms_over atoms rows one

  of_row : (v : Rows) → HasAllOver atoms v → (t : List Atom) (a : Atom) → Contains v.rows t → Contains t a → Contains atoms.rows (a ∷ [])
  of_row v is t a c there = All-contains (In atoms) t a ((is.tuples t).0 c).0 there

  atom_in : (a : Atom) → IsAtomOf p a → Contains atoms.rows (a ∷ [])
  atom_in a (r, c, (t, d, e)) = elim (cons_cases set (relation ∷ []) r c) [
    | inl same ↦ of_row atoms whole t a (subst (λ (v : Rows). Contains v.rows t) high (subst (λ (x : Relation). Contains x.upper.rows t) (sym same) d)) e
    | inr later ↦ of_row relation.upper over t a (subst (λ (x : Relation). Contains x.upper.rows t) (sym (only_one relation r later)) d) e
  ]

  in_atom : (a : Atom) → Contains atoms.rows (a ∷ []) → IsAtomOf p a
  in_atom a c = (set, cons_first set (relation ∷ []), (a ∷ [], subst (λ (v : Rows). Contains v.rows (a ∷ [])) (sym high) c, cons_first a []))

  moves : (v : Rows) → HasAllOver atoms v → (f : Atom → Atom) → ((a : Atom) → IsAtomOf p a → IsAtomOf p (f a)) → (t : List Atom) → Contains v.rows t → Contains v.rows (map f t)
  moves v is f keeps t c =
      let h = (is.tuples t).0 c in
      let moved : All (λ a. In atoms (f a)) t = λ k d l. atom_in (f (get_or t k d)) (keeps (get_or t k d) (in_atom (get_or t k d) (h.0 k d l))) in
      (is.tuples (map f t)).1 (All-map (In atoms) f t moved, length-map t f ∙ h.1)

  module _ (f g : Atom → Atom) (renaming : IsRenaming p f g) where
    both : (v : Rows) → HasAllOver atoms v → (t : List Atom) → Contains v.rows t ↔ Contains v.rows (map f t)
    both v is t = (
      moves v is f renaming.atoms t,
      λ c. subst (Contains v.rows) (map_undone g f renaming.back t) (moves v is g renaming.atoms_back (map f t) c),
    )

    empty : (xs : List (List Atom)) (t : List Atom) → xs ≡ [] → Contains xs t ↔ Contains xs (map f t)
    empty xs t e = (λ c. absurd (none_there t xs e c), λ c. absurd (none_there (map f t) xs e c))

    lower_kept : (r : ℕ) (t : List Atom) → Contains (relation_at p.relations r).lower.rows t ↔ Contains (relation_at p.relations r).lower.rows (map f t)
    lower_kept zero t = elim low [
      | inl all ↦ subst (λ (v : Rows). Contains v.rows t ↔ Contains v.rows (map f t)) (sym all) (both atoms whole t)
      | inr bare ↦ empty set.lower.rows t bare.1
    ]
    lower_kept (suc zero) t = empty relation.lower.rows t none
    lower_kept (suc (suc r)) t = empty [] t refl

    upper_kept : (r : ℕ) (t : List Atom) → Contains (relation_at p.relations r).upper.rows t ↔ Contains (relation_at p.relations r).upper.rows (map f t)
    upper_kept zero t = subst (λ (v : Rows). Contains v.rows t ↔ Contains v.rows (map f t)) (sym high) (both atoms whole t)
    upper_kept (suc zero) t = both relation.upper over t
    upper_kept (suc (suc r)) t = empty [] t refl

  -- every renaming keeps the bounds
  pub links_symmetric : IsSymmetric p
  links_symmetric f g renaming = record { lower = lower_kept f g renaming; upper = upper_kept f g renaming }

  -- it is a problem
  pub links_problem : All (All (λ (a : Atom). a.top < 1)) atoms.rows → IsRows set.lower → IsRows relation.lower → IsRows relation.upper → relation.lower.arity ≡ relation.upper.arity →
      set.name ≢ relation.name → length atoms.rows + length relation.upper.rows ≤ 4096 → IsProper (1 ∷ relation.upper.arity ∷ []) 0 formula → IsProblem p
  links_problem top fixed lower upper same names few proper =
      let Z : Atom → Type 0 = λ a. a.top < 1 in
      let above : set.upper.arity ≡ 1 = ap (λ (v : Rows). v.arity) high ∙ one in
      let below : set.lower.arity ≡ 1 = elim low [ inl all ↦ ap (λ (v : Rows). v.arity) all ∙ one | inr bare ↦ bare.0 ] in
      let first : IsRelation set = record {
        lower = fixed;
        upper = subst IsRows (sym high) rows;
        arity = above ∙ sym below;
        within =
            let There : List Atom → Type 0 = Contains set.upper.rows in
            elim low [
              | inl all ↦ subst (λ (v : Rows). All There v.rows) (sym all) (subst (λ (v : Rows). All (Contains v.rows) atoms.rows) (sym high) (λ k d l. Contains-get_or atoms.rows k d l))
              | inr bare ↦ subst (All There) (sym bare.1) (All-nil There)
            ];
      } in
      let second : IsRelation relation = record {
        lower = lower;
        upper = upper;
        arity = sym same;
        within = let There : List Atom → Type 0 = Contains relation.upper.rows in subst (All There) (sym none) (All-nil There);
      } in
      let cells : length set.upper.rows + length relation.upper.rows ≤ 4096 = (let e = ap (λ (v : Rows). length v.rows) high in omega arith) in
      let tops : All (All Z) set.upper.rows = subst (λ (v : Rows). All (All Z) v.rows) (sym high) top in
      let of_first : (a : Atom) → Contains atoms.rows (a ∷ []) → a.top < 1 = λ a c. All-head Z a [] (All-contains (All Z) atoms.rows (a ∷ []) top c) in
      let more : All (All Z) relation.upper.rows = λ k d l. λ i b m.
      of_first (get_or (get_or relation.upper.rows k d) i b) (((over.tuples (get_or relation.upper.rows k d)).0 (Contains-get_or relation.upper.rows k d l)).0 i b m) in
      two_problem set relation (0 ∷ []) formula first second names cells
      (All-cons (λ (r : ℕ). r < 2) 0 [] (omega arith) (All-nil (λ (r : ℕ). r < 2)))
      (All-cons (λ (r : ℕ). (relation_at (set ∷ relation ∷ []) r).upper.arity ≡ 1) 0 [] above (All-nil (λ (r : ℕ). (relation_at (set ∷ relation ∷ []) r).upper.arity ≡ 1)))
      (λ i j d l h. absurd (omega arith)) tops more
      (subst (λ (n : ℕ). IsProper (n ∷ relation.lower.arity ∷ []) 0 formula) (sym below) (subst (λ (n : ℕ). IsProper (1 ∷ n ∷ []) 0 formula) (sym same) proper))
