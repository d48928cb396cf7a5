-- Cells that are there in each renaming of a scenario that keeps some atoms, or in none.
use Rattle.std.proofs.Common.{◌≡◌, ℕ, ◌+◌, ◌<◌, ◌≤◌, ◌↔◌, inl, inr, Bool, true, false, if◌then◌else◌, List, [], ◌∷◌, ◌++◌, map, drop, length, length-append, get_or, slice_get, Option, Some, None, IsTrue, Contains, refl, sym, ◌∙◌, ap, subst, arith}
use Rattle.std.specs.List.{list_any}
use Rattle.std.proofs.lemmas.Bool.{cases_Bool, cases_lt, eq-eqb, ne_eqb}
use Rattle.std.proofs.lemmas.List.{at_drop_more, at_drop_all, get_or_default, get_or_append_left, get_or_push}
use Rattle.std.proofs.lemmas.List.Elements.{All-contains}
use Rattle.std.proofs.lemmas.List.Folds.{Any-from_list_any, list_any-from_Any}
use Rattle.tuple_core.specs.declared.atom.Atom.{Atom}
use Rattle.tuple_core.specs.Swap.{atom_eq}
use Rattle.tuple_core.proofs.Atoms.{atom_eq-decides}
use Rattle.rel_formula.specs.declared.problem.Cell.{Cell}
use Rattle.rel_formula.specs.Bounds.{Bounded, IsProblem, cell_of, cells_of}
use Rattle.rel_formula.specs.Instance.{IsScenario, HasCell}
use Rattle.rel_formula.specs.Renaming.{IsRenaming, IsSymmetric}
use Rattle.rel_formula.proofs.Images.{map_undone, image_cell}
use Rattle.rel_formula.proofs.Lists.{get-Some, some_at, some_below}
use Rattle.rel_formula.proofs.OpenCells.{cell_once}
use Rattle.swap_symmetry.proofs.FirstDifferences.{here_or_not, one_more, nowhere}
use Rattle.renaming_classes.specs.Keeping.{Keeps, IsRenamingKeeping, NoneKeeping}
use Rattle.renaming_classes.specs.Orbits.{first_of, stand_in, AreOrbits}
use Rattle.renaming_classes.proofs.ClassLaws.{inverse}
use mathlib.Core.Bool.{not, beq}

-- the test whether an atom is kept
any_atom : (a : Atom) (xs : List Atom) → (list_any (λ x. atom_eq x a) xs ≡ true) ↔ Contains xs a
any_atom a xs = (
  λ e. let f = Any-from_list_any (λ x. atom_eq x a) xs e in subst (Contains xs) ((atom_eq-decides f.1 a).0 f.4) (f.0, f.2, f.3),
  λ c. list_any-from_Any (λ x. atom_eq x a) xs (c.0, a, c.1, c.2, (atom_eq-decides a a).1 refl),
)

-- the first atom of a signature, from one atom on
module _ (atoms : List Atom) (i top : ℕ) (d : Atom) where
  pub first_here : i < length atoms → (get_or atoms i d).top ≡ top → first_of (drop i atoms) top ≡ get_or atoms i d
  first_here l e =
      at_drop_more (λ xs. first_of xs top) atoms i d l
      ∙ ap (λ v. if v then get_or atoms i d else first_of (drop (i + 1) atoms) top) (eq-eqb (get_or atoms i d).top top e)

  pub first_later : i < length atoms → ((get_or atoms i d).top ≡ top → ⊥) → first_of (drop i atoms) top ≡ first_of (drop (i + 1) atoms) top
  first_later l n =
      at_drop_more (λ xs. first_of xs top) atoms i d l
      ∙ ap (λ v. if v then get_or atoms i d else first_of (drop (i + 1) atoms) top) (ne_eqb (get_or atoms i d).top top n)

  pub first_nowhere : length atoms ≤ i → first_of (drop i atoms) top ≡ record { top = top; place = 0 }
  first_nowhere l = at_drop_all (λ xs. first_of xs top) atoms i l

module _ (kept others : List Atom) where
  pub kept_stands : (a : Atom) → list_any (λ b. atom_eq b a) kept ≡ true → stand_in kept others a ≡ a
  kept_stands a e = ap (λ v. if v then a else first_of others a.top) e

  pub other_stands : (a : Atom) → list_any (λ b. atom_eq b a) kept ≡ false → stand_in kept others a ≡ first_of others a.top
  other_stands a e = ap (λ v. if v then a else first_of others a.top) e

  module _ (p : Bounded) (f g : Atom → Atom) (is : IsRenaming p f g) (keeps : Keeps kept f) where
    -- one atom stands for an atom and for what a renaming makes of it
    same_stand_in : (a : Atom) → stand_in kept others (f a) ≡ stand_in kept others a
    same_stand_in a = elim (cases_Bool (list_any (λ b. atom_eq b a) kept)) [
      | inl yes' ↦ ap (stand_in kept others) (keeps a ((any_atom a kept).0 yes'))
      | inr no' ↦ elim (cases_Bool (list_any (λ b. atom_eq b (f a)) kept)) [
        | inl yes' ↦
            let stays : f (f a) ≡ f a = keeps (f a) ((any_atom (f a) kept).0 yes') in
            let one : f a ≡ a = sym (is.back (f a)) ∙ ap g stays ∙ is.back a in
            ap (stand_in kept others) one
        | inr none ↦ other_stands (f a) none ∙ ap (first_of others) (is.tops a) ∙ sym (other_stands a no')
      ]
    ]

    same_stand_ins : (row : List Atom) → map (stand_in kept others) (map f row) ≡ map (stand_in kept others) row
    same_stand_ins [] = refl
    same_stand_ins (a ∷ row) =
        let first : stand_in kept others (f a) ≡ stand_in kept others a = same_stand_in a in
        ap (λ b. b ∷ map (stand_in kept others) (map f row)) first ∙ ap (λ r. stand_in kept others a ∷ r) (same_stand_ins row)

-- the number is that of the cell that stands for this one
abbrev pub IsLeaderOf : Bounded → List Atom → List Atom → Cell → Option ℕ → Type 0
IsLeaderOf p kept others cell leader = (c : ℕ) → (leader ≡ Some c) ↔ (slice_get (cells_of p) c ≡ Some (cell_of cell.relation (map (stand_in kept others) cell.tuple)))

-- and so for the first cells
pub record Leads (p : Bounded) (kept others : List Atom) (leaders : List (Option ℕ)) (i : ℕ) : Type 0 where
  pub long : length leaders ≡ i
  pub leads : (k : ℕ) (d : Cell) → k < i → IsLeaderOf p kept others (get_or (cells_of p) k d) (get_or leaders k None)

pub none_lead : (p : Bounded) (kept others : List Atom) → Leads p kept others [] 0
none_lead p kept others = record { long = refl; leads = λ k d l. absurd (omega arith) }

-- one cell more
pub leads_more : (p : Bounded) (kept others : List Atom) (leaders : List (Option ℕ)) (i : ℕ) (cell : Cell) (leader : Option ℕ) → i < length (cells_of p) → cell ≡ get_or (cells_of p) i cell →
    IsLeaderOf p kept others cell leader → Leads p kept others leaders i → Leads p kept others (leaders ++ leader ∷ []) (i + 1)
leads_more p kept others leaders i cell leader l at is h =
    let long = h.long in
    record {
      long = length-append leaders (leader ∷ []) ∙ (let e : length leaders + 1 ≡ i + 1 = omega arith in e);
      leads = λ k d m. elim (cases_lt k i) [
        | inl less ↦ subst (IsLeaderOf p kept others (get_or (cells_of p) k d)) (sym (get_or_append_left leaders (leader ∷ []) None k (omega arith))) (h.leads k d less)
        | inr past ↦
            let same : i ≡ k = omega arith in
            let here : cell ≡ get_or (cells_of p) k d = at ∙ ap (λ n. get_or (cells_of p) n cell) same ∙ get_or_default (cells_of p) k cell d (omega arith) in
            subst (λ (x : Cell). IsLeaderOf p kept others x (get_or (leaders ++ leader ∷ []) k None)) here
            (subst (IsLeaderOf p kept others cell) (sym (get_or_push leaders leader None k (long ∙ same))) is)
      ];
    }

module _ (p : Bounded) (kept others : List Atom) (leaders : List (Option ℕ)) where
  pub all_lead : (i : ℕ) → length (cells_of p) ≤ i → Leads p kept others leaders i → AreOrbits p kept leaders
  all_lead i enough h f g is keeps n m c (r, row, at_n, at_m) lead =
      let cells = cells_of p in
      let d = cell_of 0 [] in
      let n_in = some_below cells n (cell_of r row) at_n in
      let m_in = some_below cells m (cell_of r (map f row)) at_m in
      let long = h.long in
      let cell_n : get_or cells n d ≡ cell_of r row = some_at cells n (cell_of r row) d at_n in
      let cell_m : get_or cells m d ≡ cell_of r (map f row) = some_at cells m (cell_of r (map f row)) d at_m in
      let here = (h.leads n d (omega arith) c).0 (some_at leaders n (Some c) None lead) in
      let at_c : slice_get cells c ≡ Some (cell_of r (map (stand_in kept others) row)) = here ∙ ap (λ (x : Cell). Some (cell_of x.relation (map (stand_in kept others) x.tuple))) cell_n in
      let there : slice_get cells c ≡ Some (cell_of (get_or cells m d).relation (map (stand_in kept others) (get_or cells m d).tuple)) =
      at_c ∙ ap (λ t. Some (cell_of r t)) (sym (same_stand_ins kept others p f g is keeps row)) ∙ ap (λ (x : Cell). Some (cell_of x.relation (map (stand_in kept others) x.tuple))) (sym cell_m) in
      let leader_m = (h.leads m d (omega arith) c).1 there in
      get-Some leaders m None (omega arith) ∙ ap (λ o. Some o) leader_m

-- of the cells that c stands for the scenario has all or none
abbrev pub IsEven : Bounded → List (Option ℕ) → List ℕ → ℕ → Type 0
IsEven p leaders s c = (n : ℕ) → n < length (cells_of p) → slice_get leaders n ≡ Some (Some c) → Contains s n ↔ Contains s c

module _ (p : Bounded) (well : IsProblem p) (symmetric : IsSymmetric p) (leaders : List (Option ℕ)) (s : List ℕ) where
  module _ (kept : List Atom) (orbits : AreOrbits p kept leaders) (u : List ℕ) (is : IsRenamingKeeping p kept s u) where
    -- what such a cell is in the scenario it is in its renamings
    pub decided : (n c : ℕ) → n < length (cells_of p) → slice_get leaders n ≡ Some (Some c) → IsEven p leaders s c → Contains s n ↔ Contains u n
    decided n c l lead even =
        let f = is.there in
        let g = is.back in
        let back = inverse p f g is.renaming in
        let cells = cells_of p in
        let cell = get_or cells n (cell_of 0 []) in
        let r = cell.relation in
        let row = cell.tuple in
        let here : slice_get cells n ≡ Some (cell_of r row) = get-Some cells n (cell_of 0 []) l in
        let k = image_cell p g f is.renaming.there (symmetric g f back) n r row here in
        let lead_k = orbits g f back (λ a c. ap g (sym (is.keeps a c)) ∙ is.renaming.back a) n k.0 c (r, row, here, k.1) lead in
        let even_n = even n l lead in
        let even_k = even k.0 (some_below cells k.0 (cell_of r (map g row)) k.1) lead_k in
        let same : map f (map g row) ≡ row = map_undone f g is.renaming.there row in
        let image = is.image r (map g row) in
        let to : Contains s k.0 → Contains u n = λ d.
        let h = subst (HasCell p (Contains u) r) same (image.0 (k.0, d, k.1)) in
        subst (Contains u) (cell_once p h.0 n r row well h.2 here) h.1 in
        let from : Contains u n → Contains s k.0 = λ d.
        let h = image.1 (subst (HasCell p (Contains u) r) (sym same) (n, d, here)) in
        subst (Contains s) (cell_once p h.0 k.0 r (map g row) well h.2 k.1) h.1 in
        (λ d. to (even_k.1 (even_n.0 d)), λ d. even_n.1 (even_k.0 (from d)))

-- below a number all renamings of the scenario that keep these atoms have what the best one has
abbrev pub AgreeBelow : Bounded → List (Option ℕ) → List ℕ → List ℕ → ℕ → Type 0
AgreeBelow p leaders s best number = (kept : List Atom) → AreOrbits p kept leaders → (u : List ℕ) → IsScenario p u → IsRenamingKeeping p kept s u
    → (m : ℕ) → m < number → Contains u m ↔ Contains best m

-- two tests that agree
pub same_test : (p q : Bool) (P Q : Type 0) → IsTrue p ↔ P → IsTrue q ↔ Q → not (beq p q) ≡ false → P ↔ Q
same_test true true P Q f g e = (λ h. g.0 refl, λ h. f.0 refl)
same_test true false P Q f g e = absurd (cc)
same_test false true P Q f g e = absurd (cc)
same_test false false P Q f g e = (λ h. absurd (let k : false ≡ true = f.1 h in cc), λ h. absurd (let k : false ≡ true = g.1 h in cc))

pub none_below : (p : Bounded) (leaders : List (Option ℕ)) (s best : List ℕ) → AgreeBelow p leaders s best 0
none_below p leaders s best kept orbits u scenario is m l = absurd (omega arith)

module _ (p : Bounded) (well : IsProblem p) (symmetric : IsSymmetric p) (leaders : List (Option ℕ)) (s best : List ℕ) (number c : ℕ) (l : number < length (cells_of p))
    (lead : slice_get leaders number ≡ Some (Some c)) (even : IsEven p leaders s c) (here there : Bool) (f : IsTrue here ↔ Contains s number) (g : IsTrue there ↔ Contains best number)
    (below : AgreeBelow p leaders s best number) where
  module _ (kept : List Atom) (orbits : AreOrbits p kept leaders) (u : List ℕ) (scenario : IsScenario p u) (is : IsRenamingKeeping p kept s u) where
    in_renaming : IsTrue here ↔ Contains u number
    in_renaming =
        let d = decided p well symmetric leaders s kept orbits u is number c l lead even in
        (λ t. d.0 (f.0 t), λ h. f.1 (d.1 h))

  -- the best one has the cell where the scenario has it
  pub agree_more : not (beq here there) ≡ false → AgreeBelow p leaders s best (number + 1)
  agree_more alike kept orbits u scenario is =
      one_more (Contains u) (Contains best) number here there (in_renaming kept orbits u scenario is) g alike (below kept orbits u scenario is)

  -- only the best one has it
  pub only_best : not (beq here there) ≡ true → IsTrue (not here) → (kept : List Atom) → AreOrbits p kept leaders → NoneKeeping p kept s best
  only_best differ none kept orbits u scenario is earlier =
      let t : here ≡ true = (here_or_not (Contains u) (Contains best) number here there (in_renaming kept orbits u scenario is) g differ (below kept orbits u scenario is)).1 earlier in
      let n : not here ≡ true = none in
      let m : not true ≡ true = subst (λ b. not b ≡ true) t n in
      cc

-- the best one has what all these renamings have
pub best_in_all : (p : Bounded) (leaders : List (Option ℕ)) (s best : List ℕ) (number : ℕ) → length (cells_of p) ≤ number → AgreeBelow p leaders s best number → (kept : List Atom) → AreOrbits p kept leaders → NoneKeeping p kept s best
best_in_all p leaders s best number past below kept orbits u scenario is earlier =
    nowhere (Contains u) (Contains best) number (below kept orbits u scenario is) (λ m c. let h = All-contains (λ k. k < length (cells_of p)) u m scenario.cells c in omega arith) earlier
