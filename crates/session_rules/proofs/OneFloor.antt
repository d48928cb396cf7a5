-- A step asks for one floor at most.
use Rattle.std.proofs.Common.{◌≡◌, inl, inr, ◌<◌, ℕ, suc, List, [], ◌∷◌, ◌++◌, map, length, get_or, Some, All, Contains, refl, sym, ◌∙◌, ap, arith}
use Rattle.std.specs.Prelude.{slice_index}
use Rattle.std.proofs.lemmas.Bool.{cases_order}
use Rattle.std.proofs.lemmas.List.{get_or_default}
use Rattle.tuple_core.specs.declared.atom.Atom.{Atom}
use Rattle.rel_formula.specs.Bounds.{Bounded, IsProblem, relation_at, signature_name, cell_of, cells_of}
use Rattle.rel_formula.specs.Instance.{with_cell}
use Rattle.rel_formula.proofs.Cells.{cells_ascend, cells_once}
use Rattle.session_words.specs.declared.atom_names.AtomName.{AtomName}
use Rattle.session_rules.specs.Naming.{name_of_atom, NamesTuple, NamesCell}
use Rattle.session_rules.specs.States.{State}
use Rattle.session_rules.specs.Steps.{AsksFor}

last_same : {X : Type 0} (xs ys : List X) (x y : X) → xs ++ x ∷ [] ≡ ys ++ y ∷ [] → x ≡ y
last_same [] [] x y e = cc
last_same [] (b ∷ []) x y e = absurd cc
last_same [] (b ∷ c ∷ bs) x y e = absurd cc
last_same (a ∷ []) [] x y e = absurd cc
last_same (a ∷ c ∷ as') [] x y e = absurd cc
last_same (a ∷ as') (b ∷ bs) x y e = last_same as' bs x y cc

module _ (p : Bounded) (well : IsProblem p) where
  -- a relation is known by its name
  one_relation : (r s : ℕ) → r < length p.relations → s < length p.relations → (relation_at p.relations r).name ≡ (relation_at p.relations s).name → r ≡ s
  one_relation r s r_in s_in same = elim (cases_order r s) [
    | inl e ↦ e
    | inr order ↦ elim order [
      | inl less ↦ absurd (well.names r s (relation_at [] 0) less s_in same)
      | inr more ↦ absurd (well.names s r (relation_at [] 0) more r_in (sym same))
    ]
  ]

  -- and a signature by its place
  one_top : (i j : ℕ) → i < length p.tops → j < length p.tops → slice_index p.tops i ≡ slice_index p.tops j → i ≡ j
  one_top i j i_in j_in same = elim (cases_order i j) [
    | inl e ↦ e
    | inr order ↦ elim order [
      | inl less ↦ absurd (let h = well.rising i j 0 less j_in in omega arith)
      | inr more ↦ absurd (let h = well.rising j i 0 more i_in in omega arith)
    ]
  ]

  -- an atom is known by its name
  one_atom : (a b : Atom) → a.top < length p.tops → b.top < length p.tops → name_of_atom p a ≡ name_of_atom p b → a ≡ b
  one_atom a b a_in b_in same =
      let names : signature_name p a ≡ signature_name p b = ap (λ (x : AtomName). x.top) same in
      let tops : a.top ≡ b.top = one_top a.top b.top a_in b_in (one_relation (slice_index p.tops a.top) (slice_index p.tops b.top) (well.tops a.top 0 a_in) (well.tops b.top 0 b_in) names) in
      let places : a.place ≡ b.place = ap (λ (x : AtomName). x.place) same in
      λ i. record { top = tops i; place = places i }

  one_row : (ts us : List Atom) → All (λ a. a.top < length p.tops) ts → All (λ a. a.top < length p.tops) us → map (name_of_atom p) ts ≡ map (name_of_atom p) us → ts ≡ us
  one_row [] [] ts_in us_in e = refl
  one_row [] (b ∷ us) ts_in us_in e = absurd cc
  one_row (a ∷ ts) [] ts_in us_in e = absurd cc
  one_row (a ∷ ts) (b ∷ us) ts_in us_in e =
      let first : a ≡ b = one_atom a b (ts_in 0 a (omega arith)) (us_in 0 b (omega arith)) cc in
      let others : ts ≡ us = one_row ts us (λ k d l. ts_in (suc k) d (omega arith)) (λ k d l. us_in (suc k) d (omega arith)) cc in
      cc

  -- the atoms of a tuple that a relation may have are the problem's
  known : (r : ℕ) (t : List Atom) → r < length p.relations → Contains (relation_at p.relations r).upper.rows t → All (λ a. a.top < length p.tops) t
  known r t r_in upper k d k_in =
      well.atoms (get_or t k d)
      (relation_at p.relations r, (r, r_in, get_or_default p.relations r (relation_at p.relations r) (relation_at [] 0) r_in), (t, upper, (k, k_in, get_or_default t k (get_or t k d) d k_in)))

  one_named : (name : List ℕ) (names : List AtomName) (r s : ℕ) (t u : List Atom) → NamesTuple p name names r t → NamesTuple p name names s u → cell_of r t ≡ cell_of s u
  one_named name names r s t u h k =
      let relations : r ≡ s = one_relation r s h.in_range k.in_range (h.relation ∙ sym k.relation) in
      let rows : t ≡ u = one_row t u (known r t h.in_range h.upper) (known s u k.in_range k.upper) (h.atoms ∙ sym k.atoms) in
      λ i. cell_of (relations i) (rows i)

  one_cell : (name : List ℕ) (names : List AtomName) (n m : ℕ) → NamesCell p name names n → NamesCell p name names m → n ≡ m
  one_cell name names n m (r, t, h, e) (s, u, k, f) =
      cells_once (cells_of p) n m (cell_of s u) (cells_ascend 0 p.relations well.relations) (e ∙ ap Some (one_named name names r s t u h k)) f

  pub one_floor : (s : State) (name : List ℕ) (names : List AtomName) (floor other : List ℕ) → AsksFor p s name names floor → AsksFor p s name names other → floor ≡ other
  one_floor s name names floor other h k =
      let current : h.current ≡ k.current = last_same h.is_current.0 k.is_current.0 h.current k.current (sym h.is_current.1 ∙ k.is_current.1) in
      let cell : h.cell ≡ k.cell = one_cell name names h.cell k.cell h.named k.named in
      h.floor_is ∙ ap (λ n. with_cell n h.current) cell ∙ ap (with_cell k.cell) current ∙ sym k.floor_is
