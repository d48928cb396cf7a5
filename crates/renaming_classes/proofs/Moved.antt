-- Renamings that keep some atoms, and those that put one more atom in its place.
use Rattle.std.proofs.Common.{◌≡◌, ℕ, ◌+◌, ◌<◌, ◌≤◌, ◌⊎◌, inl, inr, true, ◌↔◌, List, [], ◌∷◌, ◌++◌, map, length, get_or, take, slice_get, Some, Contains, refl, sym, ◌∙◌, ap, subst, arith}
use Rattle.std.proofs.lemmas.Bool.{cases_lt, cases_Bool}
use Rattle.std.proofs.lemmas.List.{get_or_default, get_or-take, length-take-le, take_more}
use Rattle.std.proofs.lemmas.List.Elements.{All-contains, Contains-get_or, Contains-push, Contains-push_cases, Contains-append_left}
use Rattle.tuple_core.specs.declared.atom.Atom.{Atom}
use Rattle.tuple_core.specs.Swap.{swap_atoms, atom_eq}
use Rattle.tuple_core.proofs.Atoms.{atom_eq-decides}
use Rattle.rel_formula.specs.Bounds.{Bounded, IsProblem, IsAtomOf, InAtoms, relation_at, cell_of, cells_of}
use Rattle.rel_formula.specs.Instance.{IsScenario, HasCell}
use Rattle.rel_formula.specs.Renaming.{IsImage}
use Rattle.rel_formula.proofs.Images.{map_undone}
use Rattle.rel_formula.proofs.Lists.{get-Some, take_last}
use Rattle.rel_formula.proofs.OpenCells.{cell_open, cell_once, cons_first, cons_later}
use Rattle.rel_formula.proofs.SameNumbers.{same_rising}
use Rattle.rel_formula.proofs.SwapLaws.{laws_of, renames}
use Rattle.swap_symmetry.specs.Order.{IsEarlier}
use Rattle.renaming_classes.specs.Keeping.{AreMovable, IsRenamingKeeping, IsRenamingPutting, NoneKeeping, NonePutting}

-- two atoms are one or not
one_or_not : (a b : Atom) → (a ≡ b) ⊎ (a ≡ b → ⊥)
one_or_not a b = elim (cases_Bool (atom_eq a b)) [
  | inl t ↦ inl ((atom_eq-decides a b).0 t)
  | inr f ↦ inr (λ e. let t : atom_eq a b ≡ true = (atom_eq-decides a b).1 e in cc)
]

-- a row renamed twice
map_twice : (h f : Atom → Atom) (row : List Atom) → map h (map f row) ≡ map (λ a. h (f a)) row
map_twice h f [] = refl
map_twice h f (a ∷ row) = ap (λ r. h (f a) ∷ r) (map_twice h f row)

-- the image of a scenario as one of the scenario in which two atoms are swapped
image_over : (p : Bounded) (f h : Atom → Atom) → ((a : Atom) → h (h a) ≡ a) → (s t u : List ℕ) → IsImage p h s t → IsImage p f s u → IsImage p (λ a. f (h a)) t u
image_over p f h back s t u one two r row =
    let undone = map_undone h h back row in
    let twice = map_twice f h row in (
      λ c. subst (HasCell p (Contains u) r) twice ((two r (map h row)).0 ((one r (map h row)).1 (subst (HasCell p (Contains t) r) (sym undone) c))),
      λ c. subst (HasCell p (Contains t) r) undone ((one r (map h row)).0 ((two r (map h row)).1 (subst (HasCell p (Contains u) r) (sym twice) c))),
    )

-- what stands among the first ones stands in the list, or among more of them
pub in_take : (atoms : List Atom) (m : ℕ) (x : Atom) → m ≤ length atoms → Contains (take m atoms) x → Contains atoms x
in_take atoms m x l c =
    let long = length-take-le m atoms l in
    let below = c.1 in
    (c.0, omega arith, sym (get_or-take m atoms c.0 x (omega arith)) ∙ c.2)

pub into_take : (atoms : List Atom) (m j : ℕ) (x : Atom) → j < m → m ≤ length atoms → get_or atoms j x ≡ x → Contains (take m atoms) x
into_take atoms m j x less l e =
    let long = length-take-le m atoms l in
    (j, omega arith, get_or-take m atoms j x less ∙ e)

module _ (p : Bounded) (atoms : List Atom) (m : ℕ) (l : m < length atoms) (a : Atom) (at : get_or atoms m a ≡ a) where
  -- one kept atom more is this one
  next_kept : (x : Atom) → Contains (take (m + 1) atoms) x → Contains (take m atoms) x ⊎ (x ≡ a)
  next_kept x c = elim (take_last atoms m x l c) [
    | inl before ↦ inl before
    | inr here ↦ inr (sym here ∙ get_or_default atoms m x a l ∙ at)
  ]

  -- a renaming that puts b in the place of a keeps a too, once the two are swapped
  pub after_swap : (b : Atom) → a.top ≡ b.top → IsAtomOf p a → IsAtomOf p b → (s t u : List ℕ) → IsImage p (swap_atoms a b) s t → IsRenamingPutting p (take m atoms) b a s u → IsRenamingKeeping p (take (m + 1) atoms) t u
  after_swap b tops first second s t u swapped is =
      let laws = laws_of a b tops in
      let sw = renames p a b laws first second in
      let f = is.there in
      let g = is.back in
      let h = swap_atoms a b in
      let here : f (h a) ≡ a = ap f laws.first ∙ is.puts in
      record {
        there = λ x. f (h x);
        back = λ x. h (g x);
        renaming = record {
          there = λ x. ap f (laws.back (g x)) ∙ is.renaming.there x;
          back = λ x. ap h (is.renaming.back (h x)) ∙ laws.back x;
          tops = λ x. is.renaming.tops (h x) ∙ laws.tops x;
          atoms = λ x i. is.renaming.atoms (h x) (sw.atoms x i);
          atoms_back = λ x i. sw.atoms_back (g x) (is.renaming.atoms_back x i);
        };
        image = image_over p f h laws.back s t u swapped is.image;
        keeps = λ x c. elim (one_or_not x a) [
          | inl same ↦ subst (λ y. f (h y) ≡ y) (sym same) here
          | inr other ↦ elim (next_kept x c) [
            | inr same ↦ absurd (other same)
            | inl before ↦ elim (one_or_not x b) [
              | inl same ↦
                  let stays : f x ≡ x = is.keeps x before in
                  let one : a ≡ x = sym is.puts ∙ ap f (sym same) ∙ stays in
                  absurd (other (sym one))
              | inr apart ↦ ap f (laws.others x other apart) ∙ is.keeps x before
            ]
          ]
        ];
      }

  module _ (movable : AreMovable p atoms) (s best : List ℕ)
      (same : NoneKeeping p (take (m + 1) atoms) s best)
      (each : (j : ℕ) (b : Atom) → m < j → j < length atoms → get_or atoms j b ≡ b → NonePutting p (take m atoms) b a s best) where
    -- some atom is put in the place of a, and it stands from there on
    from_there_on : (u : List ℕ) → IsScenario p u → (is : IsRenamingKeeping p (take m atoms) s u) → Contains atoms (is.back a) → IsEarlier u best → ⊥
    from_there_on u scenario is (j, below, here) earlier =
        let b = is.back a in
        let puts : is.there b ≡ a = is.renaming.there a in
        let kept : b ≡ a → ⊥ = λ e.
        let stays : is.there a ≡ a = subst (λ y. is.there y ≡ a) e puts in
        same u scenario (record {
          there = is.there;
          back = is.back;
          renaming = is.renaming;
          image = is.image;
          keeps = λ x c. elim (next_kept x c) [
            | inl before ↦ is.keeps x before
            | inr one ↦ subst (λ y. is.there y ≡ y) (sym one) stays
          ];
        }) earlier in
        elim (cases_lt j m) [
          | inl less ↦ kept (sym (is.keeps b (into_take atoms m j b less (omega arith) here)) ∙ puts)
          | inr past ↦ elim (cases_lt m j) [
            | inl more ↦ each j b more below here u scenario (record { there = is.there; back = is.back; renaming = is.renaming; image = is.image; keeps = is.keeps; puts = puts }) earlier
            | inr back ↦
                let one : m ≡ j = omega arith in
                kept (sym here ∙ ap (λ k. get_or atoms k b) (sym one) ∙ get_or_default atoms m b a l ∙ at)
          ]
        ]

    -- no renaming that keeps the atoms before a is earlier, where none is that puts an atom from there on in its place
    pub all_tried : NoneKeeping p (take m atoms) s best
    all_tried u scenario is earlier =
        let listed : Contains atoms a = (m, l, at) in
        let atom = movable.members a listed in
        let b = is.back a in
        let other = is.renaming.atoms_back a atom in
        let tops : a.top ≡ b.top = sym (ap (λ (x : Atom). x.top) (is.renaming.there a)) ∙ is.renaming.tops b in
        elim (movable.others b other) [
          | inl c ↦ from_there_on u scenario is c earlier
          | inr only ↦ from_there_on u scenario is (subst (Contains atoms) (only a atom tops) listed) earlier
        ]

module _ (p : Bounded) (well : IsProblem p) where
  -- an atom in a cell is one of the problem
  in_cell : (n r : ℕ) (row : List Atom) → slice_get (cells_of p) n ≡ Some (cell_of r row) → (a : Atom) → Contains row a → IsAtomOf p a
  in_cell n r row e a c =
      let o = cell_open p n r row e in
      (relation_at p.relations r, Contains-get_or p.relations r (record { name = []; lower = record { arity = 1; rows = [] }; upper = record { arity = 1; rows = [] } }) o.0, (row, o.1, c))

  row_stays : (f : Atom → Atom) (row : List Atom) → ((a : Atom) → Contains row a → f a ≡ a) → map f row ≡ row
  row_stays f [] stays = refl
  row_stays f (a ∷ row) stays =
      let first : f a ≡ a = stays a (cons_first a row) in
      let others : map f row ≡ row = row_stays f row (λ b c. stays b (cons_later a row b c)) in
      cc

  -- a renaming that keeps all atoms that can be moved gives the scenario itself
  pub all_kept : (atoms : List Atom) → AreMovable p atoms → (s u : List ℕ) → IsScenario p s → IsScenario p u → IsRenamingKeeping p atoms s u → s ≡ u
  all_kept atoms movable s u first second is =
      let f = is.there in
      let stays : (a : Atom) → IsAtomOf p a → f a ≡ a = λ a i. elim (movable.others a i) [
        | inl c ↦ is.keeps a c
        | inr only ↦ only (f a) (is.renaming.atoms a i) (is.renaming.tops a)
      ] in
      let cells = cells_of p in
      let default = cell_of 0 [] in
      same_rising s u first.rising second.rising (λ n. (
        λ c.
            let l = All-contains (λ k. k < length cells) s n first.cells c in
            let cell = get_or cells n default in
            let here : slice_get cells n ≡ Some (cell_of cell.relation cell.tuple) = get-Some cells n default l in
            let same = row_stays f cell.tuple (λ a d. stays a (in_cell n cell.relation cell.tuple here a d)) in
            let there = subst (HasCell p (Contains u) cell.relation) same ((is.image cell.relation cell.tuple).0 (n, c, here)) in
            subst (Contains u) (cell_once p there.0 n cell.relation cell.tuple well there.2 here) there.1,
        λ c.
            let l = All-contains (λ k. k < length cells) u n second.cells c in
            let cell = get_or cells n default in
            let here : slice_get cells n ≡ Some (cell_of cell.relation cell.tuple) = get-Some cells n default l in
            let same = row_stays f cell.tuple (λ a d. stays a (in_cell n cell.relation cell.tuple here a d)) in
            let there = (is.image cell.relation cell.tuple).1 (subst (HasCell p (Contains u) cell.relation) (sym same) (n, c, here)) in
            subst (Contains s) (cell_once p there.0 n cell.relation cell.tuple well there.2 here) there.1,
      ))

first_is : (x y : Atom) → x ∷ [] ≡ y ∷ [] → x ≡ y
first_is x y e = cc

-- the atoms of the first rows, and one more
pub rows_more : (rows : List (List Atom)) (i : ℕ) (x : Atom) (atoms : List Atom) → i < length rows → get_or rows i (x ∷ []) ≡ x ∷ [] →
    ((a : Atom) → Contains atoms a ↔ Contains (take i rows) (a ∷ [])) → (a : Atom) → Contains (atoms ++ x ∷ []) a ↔ Contains (take (i + 1) rows) (a ∷ [])
rows_more rows i x atoms l at h a =
    let row : List Atom = x ∷ [] in
    let more : take (i + 1) rows ≡ take i rows ++ row ∷ [] = take_more rows i row l ∙ ap (λ (r : List Atom). take i rows ++ r ∷ []) at in (
      λ c. subst (λ (rs : List (List Atom)). Contains rs (a ∷ [])) (sym more) (elim (Contains-push_cases atoms x a c) [
        | inl old ↦ Contains-append_left (take i rows) (row ∷ []) (a ∷ []) ((h a).0 old)
        | inr same ↦ subst (λ (b : Atom). Contains (take i rows ++ row ∷ []) (b ∷ [])) same (Contains-push (take i rows) row)
      ]),
      λ c. elim (Contains-push_cases (take i rows) row (a ∷ []) (subst (λ (rs : List (List Atom)). Contains rs (a ∷ [])) more c)) [
        | inl old ↦ Contains-append_left atoms (x ∷ []) a ((h a).1 old)
        | inr same ↦ subst (Contains (atoms ++ x ∷ [])) (first_is x a same) (Contains-push atoms x)
      ],
    )

-- all atoms of a problem can be listed as movable ones
pub all_movable : (p : Bounded) (rows : List (List Atom)) (atoms : List Atom) → ((t : List Atom) → Contains rows t ↔ InAtoms p t) → ((a : Atom) → Contains atoms a ↔ Contains rows (a ∷ [])) → AreMovable p atoms
all_movable p rows atoms just same = record {
  members = λ a c. let h = (just (a ∷ [])).0 ((same a).0 c) in subst (IsAtomOf p) (first_is h.0 a (sym h.2)) h.1;
  others = λ a is. inl ((same a).1 ((just (a ∷ [])).1 (a, is, refl)));
}
