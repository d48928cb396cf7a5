-- What a swap of two atoms is: it undoes itself, and renames a problem's atoms.
use Rattle.std.proofs.Common.{◌≡◌, refl, sym, ◌∙◌, ap, subst, true, false, Bool, if◌then◌else◌}
use Rattle.tuple_core.specs.declared.atom.Atom.{Atom}
use Rattle.tuple_core.specs.Swap.{swap_atoms, atom_eq}
use Rattle.tuple_core.proofs.Atoms.{atom_eq-decides}
use Rattle.rel_formula.specs.Bounds.{Bounded, IsAtomOf}
use Rattle.rel_formula.specs.Renaming.{IsRenaming}

-- what is known of a swap of two atoms
pub record Laws (a b : Atom) : Type 0 where
  pub first : swap_atoms a b a ≡ b
  pub second : swap_atoms a b b ≡ a
  pub others : (x : Atom) → (x ≡ a → ⊥) → (x ≡ b → ⊥) → swap_atoms a b x ≡ x
  pub back : (x : Atom) → swap_atoms a b (swap_atoms a b x) ≡ x
  pub tops : (x : Atom) → (swap_atoms a b x).top ≡ x.top

same_atom : (a b : Atom) → atom_eq a b ≡ true → a ≡ b
same_atom a b e = (atom_eq-decides a b).0 e

own_atom : (a : Atom) → atom_eq a a ≡ true
own_atom a = (atom_eq-decides a a).1 refl

other_atom : (a b : Atom) → (a ≡ b → ⊥) → atom_eq a b ≡ false
other_atom a b h =
    let go : (v : Bool) → atom_eq a b ≡ v → v ≡ false = λ v. elim v as (λ v. atom_eq a b ≡ v → v ≡ false) [ true ↦ λ e. absurd (h (same_atom a b e)) | false ↦ λ e. refl ] in
    go (atom_eq a b) refl

swap_first : (a b : Atom) → swap_atoms a b a ≡ b
swap_first a b = ap (λ v. if v then b else (if atom_eq a b then a else a)) (own_atom a)

swap_second : (a b : Atom) → swap_atoms a b b ≡ a
swap_second a b =
    let go : (v : Bool) → atom_eq b a ≡ v → (if v then b else (if atom_eq b b then a else b)) ≡ a =
    λ v. elim v as (λ v. atom_eq b a ≡ v → (if v then b else (if atom_eq b b then a else b)) ≡ a) [
      | true ↦ λ e. same_atom b a e
      | false ↦ λ e. ap (λ w. if w then a else b) (own_atom b)
    ] in
    go (atom_eq b a) refl

swap_other : (a b x : Atom) → (x ≡ a → ⊥) → (x ≡ b → ⊥) → swap_atoms a b x ≡ x
swap_other a b x h k = ap (λ v. if v then b else (if atom_eq x b then a else x)) (other_atom x a h) ∙ ap (λ v. if v then a else x) (other_atom x b k)

by_atom : (a x : Atom) (P : Type 0) → (x ≡ a → P) → ((x ≡ a → ⊥) → P) → P
by_atom a x P yes' no' =
    let go : (v : Bool) → atom_eq x a ≡ v → P = λ v. elim v as (λ v. atom_eq x a ≡ v → P) [
      | true ↦ λ e. yes' (same_atom x a e)
      | false ↦ λ e. no' (λ same. absurd (let f : atom_eq x a ≡ true = (atom_eq-decides x a).1 same in cc))
    ] in
    go (atom_eq x a) refl

pub swap_back : (a b x : Atom) → swap_atoms a b (swap_atoms a b x) ≡ x
swap_back a b x = by_atom a x (swap_atoms a b (swap_atoms a b x) ≡ x)
    (λ e. subst (λ y. swap_atoms a b (swap_atoms a b y) ≡ y) (sym e) (ap (swap_atoms a b) (swap_first a b) ∙ swap_second a b))
    (λ n. by_atom b x (swap_atoms a b (swap_atoms a b x) ≡ x)
    (λ e. subst (λ y. swap_atoms a b (swap_atoms a b y) ≡ y) (sym e) (ap (swap_atoms a b) (swap_second a b) ∙ swap_first a b))
    (λ m. ap (swap_atoms a b) (swap_other a b x n m) ∙ swap_other a b x n m))

swap_tops : (a b x : Atom) → a.top ≡ b.top → (swap_atoms a b x).top ≡ x.top
swap_tops a b x e = by_atom a x ((swap_atoms a b x).top ≡ x.top)
    (λ s. subst (λ (y : Atom). (swap_atoms a b y).top ≡ y.top) (sym s) (ap (λ (y : Atom). y.top) (swap_first a b) ∙ sym e))
    (λ n. by_atom b x ((swap_atoms a b x).top ≡ x.top)
    (λ s. subst (λ (y : Atom). (swap_atoms a b y).top ≡ y.top) (sym s) (ap (λ (y : Atom). y.top) (swap_second a b) ∙ e))
    (λ m. ap (λ (y : Atom). y.top) (swap_other a b x n m)))

pub laws_of : (a b : Atom) → a.top ≡ b.top → Laws a b
laws_of a b e = record {
  first = swap_first a b;
  second = swap_second a b;
  others = swap_other a b;
  back = swap_back a b;
  tops = λ x. swap_tops a b x e;
}

module _ (p : Bounded) (a b : Atom) (laws : Laws a b) where
  stays : IsAtomOf p a → IsAtomOf p b → (x : Atom) → IsAtomOf p x → IsAtomOf p (swap_atoms a b x)
  stays first second x is = elim (atom_eq x a) as (λ v. IsAtomOf p (if v then b else (if atom_eq x b then a else x))) [
    | true ↦ second
    | false ↦ elim (atom_eq x b) as (λ v. IsAtomOf p (if v then a else x)) [ true ↦ first | false ↦ is ]
  ]

  -- a swap of two atoms of one signature is a renaming
  pub renames : IsAtomOf p a → IsAtomOf p b → IsRenaming p (swap_atoms a b) (swap_atoms a b)
  renames first second = record {
    there = laws.back;
    back = laws.back;
    tops = laws.tops;
    atoms = stays first second;
    atoms_back = stays first second;
  }
