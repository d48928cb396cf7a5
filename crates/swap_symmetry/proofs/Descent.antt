-- From a minimal scenario above a floor, by swaps that are free of the floor, down to one that is settled beside it.
use Rattle.std.proofs.Common.{◌≡◌, ℕ, ◌<◌, ◌⊎◌, inl, inr, List, [], length, Contains, subst, arith}
use Rattle.std.proofs.lemmas.List.Elements.{All-nil}
use Rattle.tuple_core.specs.declared.atom.Atom.{Atom}
use Rattle.tuple_core.specs.Swap.{swap_atoms}
use Rattle.rel_formula.specs.Bounds.{Bounded, IsProblem, IsAtomOf, cells_of}
use Rattle.rel_formula.specs.Instance.{IsScenario, IsMinimalAbove}
use Rattle.rel_formula.specs.Renaming.{IsRenamingBeside, IsSymmetric}
use Rattle.rel_formula.proofs.Lists.{pairs_nil}
use Rattle.rel_formula.proofs.Images.{has_image}
use Rattle.rel_formula.proofs.SwapLaws.{laws_of, renames}
use Rattle.swap_symmetry.specs.Order.{IsEarlier}
use Rattle.swap_symmetry.specs.Swaps.{SwapIsEarlier, IsFreeOf, IsSettledBeside}
use Rattle.swap_symmetry.specs.Due.{IsDue, HasDueRenaming, HasDueRenamingBeside}
use Rattle.swap_symmetry.proofs.ScenarioOrders.{compared, only_one}
use Rattle.swap_symmetry.proofs.SwapLemmas.{earlier_from}
use Rattle.swap_symmetry.proofs.FloorRenamings.{beside_itself, beside_then, beside_swap, minimal_beside}
use Rattle.swap_symmetry.proofs.FloorAtoms.{free_or_not}
use Rattle.swap_symmetry.proofs.ListSearches.{same_or_not, tried_atoms}
use Rattle.swap_symmetry.proofs.Weights.{descend}

-- some renaming that keeps the floor's atoms gives an earlier scenario
record Improves (p : Bounded) (floor s : List ℕ) : Type 0 where
  pub next : List ℕ
  pub scenario : IsScenario p next
  pub beside : IsRenamingBeside p floor s next
  pub earlier : IsEarlier next s

module _ (p : Bounded) (well : IsProblem p) (symmetric : IsSymmetric p) (floor : List ℕ) where
  module _ (s : List ℕ) (scenario : IsScenario p s) where
    -- a free swap of two atoms makes the scenario earlier, or it is not one of atoms of one signature that does
    free_tried : (a b : Atom) → IsAtomOf p a → IsAtomOf p b → a.top ≡ b.top → IsFreeOf p floor a b → Improves p floor s ⊎ (SwapIsEarlier p a b (Contains s) → ⊥)
    free_tried a b first second one free =
        let laws = laws_of a b one in
        let renaming = renames p a b laws first second in
        let image = has_image p (swap_atoms a b) (swap_atoms a b) laws.back (symmetric (swap_atoms a b) (swap_atoms a b) renaming) s scenario.cells in
        let from : SwapIsEarlier p a b (Contains s) → IsEarlier image.0 s = (earlier_from p well a b laws s image.0 image.1 image.2).1 in
        elim (compared image.0 s image.1.rising scenario.rising) [
          | inl same ↦ inr (λ earlier. let h = from earlier in h.2 (subst (λ z. Contains z h.0) same h.1))
          | inr order ↦ elim order [
            | inl earlier ↦ inl (record { next = image.0; scenario = image.1; beside = beside_swap p floor a b first second one free s image.0 image.2; earlier = earlier })
            | inr later ↦ inr (λ earlier. only_one image.0 s (from earlier) later)
          ]
        ]

    swap_tried : (a b : Atom) → IsAtomOf p a → IsAtomOf p b → Improves p floor s ⊎ (a.top ≡ b.top → IsFreeOf p floor a b → SwapIsEarlier p a b (Contains s) → ⊥)
    swap_tried a b first second = elim (same_or_not a.top b.top) [
      | inr other ↦ inr (λ e free earlier. other e)
      | inl one ↦ elim (free_or_not p floor a b) [
        | inr bound ↦ inr (λ e free earlier. bound free)
        | inl free ↦ elim (free_tried a b first second one free) [ inl found ↦ inl found | inr none ↦ inr (λ e f earlier. none earlier) ]
      ]
    ]

    -- some free swap makes the scenario earlier, or none of this atom with one of its signature does
    atom_tried : (a : Atom) → IsAtomOf p a → Improves p floor s ⊎ ((b : Atom) → IsAtomOf p b → a.top ≡ b.top → IsFreeOf p floor a b → SwapIsEarlier p a b (Contains s) → ⊥)
    atom_tried a first = elim (tried_atoms p (λ b. Improves p floor s) (λ b. a.top ≡ b.top → IsFreeOf p floor a b → SwapIsEarlier p a b (Contains s) → ⊥) (λ b second. swap_tried a b first second)) [
      | inl found ↦ inl found.2
      | inr none ↦ inr none
    ]

    -- a scenario is settled beside the floor, or a renaming that keeps its atoms makes it earlier
    settled_or_not : IsSettledBeside p floor s ⊎ Improves p floor s
    settled_or_not = elim (tried_atoms p (λ a. Improves p floor s) (λ a. (b : Atom) → IsAtomOf p b → a.top ≡ b.top → IsFreeOf p floor a b → SwapIsEarlier p a b (Contains s) → ⊥) atom_tried) [
      | inl found ↦ inr found.2
      | inr none ↦ inl (λ a b w earlier. none a w.0.first b w.0.second w.0.one_top (w.1.0, w.1.1) earlier)
    ]

  -- a renaming to what is due, after one to the earlier scenario
  renamed_on : (s : List ℕ) (i : Improves p floor s) → HasDueRenamingBeside p floor i.next → HasDueRenamingBeside p floor s
  renamed_on s i (t, on, due) = (t, beside_then p floor s i.next t i.beside on, due)

  -- each scenario that is minimal above the floor has a renaming that is due there
  pub due_beside : IsScenario p floor → (s : List ℕ) → IsMinimalAbove p floor s → HasDueRenamingBeside p floor s
  due_beside floor_in s minimal =
      descend (length (cells_of p)) (λ t. IsMinimalAbove p floor t → HasDueRenamingBeside p floor t)
      (λ t up all earlier is. elim (settled_or_not t is.instance_of.scenario) [
        | inl settled ↦ (t, beside_itself p floor t, record { minimal = is; settled = settled })
        | inr i ↦ renamed_on t i (earlier i.next i.scenario.rising i.scenario.cells i.earlier (minimal_beside p floor t i.next i.beside well symmetric floor_in i.scenario is))
      ])
      s minimal.instance_of.scenario.rising minimal.instance_of.scenario.cells minimal

-- no cells are a scenario
pub empty_scenario : (p : Bounded) → IsScenario p []
empty_scenario p = record { cells = All-nil (λ n. n < length (cells_of p)); rising = pairs_nil (λ m n. m < n) }

-- each minimal scenario of a symmetric problem has a renaming that is due at the empty floor
pub due_renaming : (p : Bounded) → IsProblem p → IsSymmetric p → (s : List ℕ) → IsMinimalAbove p [] s → HasDueRenaming p s
due_renaming p well symmetric s minimal =
    let (t, beside, due) = due_beside p well symmetric [] (empty_scenario p) s minimal in
    (t, record { there = beside.there; back = beside.back; renaming = beside.renaming; image = beside.image }, due)
