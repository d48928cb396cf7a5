-- Renamings of each other are a class, and a class has one least member.
use Rattle.std.proofs.Common.{◌≡◌, ℕ, List, [], map, Contains, inl, inr, sym, ◌∙◌, ap, subst, arith}
use Rattle.tuple_core.specs.declared.atom.Atom.{Atom}
use Rattle.rel_formula.specs.Bounds.{Bounded}
use Rattle.rel_formula.specs.Instance.{HasCell, StandsIn}
use Rattle.rel_formula.specs.Renaming.{IsRenaming, IsImage, IsRenamingOf, IsRenamingBeside}
use Rattle.rel_formula.proofs.Images.{map_undone}
use Rattle.rel_formula.proofs.RisingNumbers.{Rises}
use Rattle.swap_symmetry.specs.Order.{IsEarlier}
use Rattle.swap_symmetry.proofs.ScenarioOrders.{compared, only_one, goes_on}
use Rattle.swap_symmetry.proofs.FloorRenamings.{beside_itself, beside_then}
use Rattle.renaming_classes.specs.Least.{IsLeast}

-- the permutation back is a renaming too
pub inverse : (p : Bounded) (f g : Atom → Atom) → IsRenaming p f g → IsRenaming p g f
inverse p f g is = record {
  there = is.back;
  back = is.there;
  tops = λ a. sym (is.tops (g a)) ∙ ap (λ (x : Atom). x.top) (is.there a);
  atoms = is.atoms_back;
  atoms_back = is.atoms;
}

pub image_inverse : (p : Bounded) (f g : Atom → Atom) → IsRenaming p f g → (s t : List ℕ) → IsImage p f s t → IsImage p g t s
image_inverse p f g is s t image r row =
    let same = map_undone f g is.there row in (
      λ c. (image r (map g row)).1 (subst (HasCell p (Contains t) r) (sym same) c),
      λ c. subst (HasCell p (Contains t) r) same ((image r (map g row)).0 c),
    )

module _ (p : Bounded) where
  -- no atom stands in the empty floor
  nowhere : (a : Atom) → StandsIn p [] a → ⊥
  nowhere a h = let l = h.2.1.1 in omega arith

  beside : (s t : List ℕ) → IsRenamingOf p s t → IsRenamingBeside p [] s t
  beside s t is = record { there = is.there; back = is.back; renaming = is.renaming; image = is.image; keeps = λ a h. absurd (nowhere a h) }

  plain : (s t : List ℕ) → IsRenamingBeside p [] s t → IsRenamingOf p s t
  plain s t is = record { there = is.there; back = is.back; renaming = is.renaming; image = is.image }

  -- a scenario is a renaming of itself
  pub of_itself : (s : List ℕ) → IsRenamingOf p s s
  of_itself s = plain s s (beside_itself p [] s)

  -- and of what it is renamed to
  pub of_back : (s t : List ℕ) → IsRenamingOf p s t → IsRenamingOf p t s
  of_back s t is = record {
    there = is.back;
    back = is.there;
    renaming = inverse p is.there is.back is.renaming;
    image = image_inverse p is.there is.back is.renaming s t is.image;
  }

  pub of_then : (s t u : List ℕ) → IsRenamingOf p s t → IsRenamingOf p t u → IsRenamingOf p s u
  of_then s t u one two = plain s u (beside_then p [] s t u (beside s t one) (beside t u two))

  -- least members of one class are one
  pub one_least : (t u : List ℕ) → IsLeast p t → IsLeast p u → IsRenamingOf p t u → t ≡ u
  one_least t u one two is = elim (compared t u one.scenario.rising two.scenario.rising) [
    | inl same ↦ same
    | inr other ↦ elim other [
      | inl earlier ↦ absurd (two.none_earlier t one.scenario (of_back t u is) earlier)
      | inr earlier ↦ absurd (one.none_earlier u two.scenario is earlier)
    ]
  ]

-- what is no earlier than what is no earlier
pub not_earlier_on : (u b c : List ℕ) → Rises b → Rises c → (IsEarlier u b → ⊥) → (IsEarlier b c → ⊥) → IsEarlier u c → ⊥
not_earlier_on u b c up vp first second earlier = elim (compared b c up vp) [
  | inl same ↦ first (subst (IsEarlier u) (sym same) earlier)
  | inr other ↦ elim other [ inl e ↦ second e | inr e ↦ first (goes_on u c b earlier e) ]
]

pub not_itself : (s : List ℕ) → IsEarlier s s → ⊥
not_itself s e = only_one s s e e
