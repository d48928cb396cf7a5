-- The best renaming so far, from one step of a search to the next.
use Rattle.std.proofs.Common.{◌≡◌, ℕ, ◌+◌, ◌<◌, ◌≤◌, ◌⊎◌, inl, inr, List, Option, [], ◌∷◌, ◌++◌, length, get_or, take, sym, ◌∙◌, ap, subst, arith}
use Rattle.std.proofs.lemmas.Bool.{cases_lt}
use Rattle.std.proofs.lemmas.List.{get_or_default, get_or_append_left, get_or_push, take_all}
use Rattle.tuple_core.specs.declared.atom.Atom.{Atom}
use Rattle.tuple_core.specs.Swap.{swap_atoms}
use Rattle.rel_formula.specs.Bounds.{Bounded, IsProblem, IsAtomOf}
use Rattle.rel_formula.specs.Instance.{IsScenario}
use Rattle.rel_formula.specs.Renaming.{KeepsBounds, IsImage, IsRenamingOf, IsSymmetric}
use Rattle.rel_formula.proofs.SwapLaws.{laws_of, renames}
use Rattle.swap_symmetry.specs.Order.{IsEarlier}
use Rattle.swap_symmetry.proofs.ScenarioOrders.{only_one}
use Rattle.renaming_classes.specs.Least.{IsLeastRenamingOf}
use Rattle.renaming_classes.specs.Keeping.{AreMovable, NoneKeeping, NonePutting}
use Rattle.renaming_classes.specs.Orbits.{AreOrbits}
use Rattle.renaming_classes.specs.Placing.{IsSearched, IsNoLater}
use Rattle.renaming_classes.proofs.ClassLaws.{of_itself, of_back, of_then, not_earlier_on, not_itself}
use Rattle.renaming_classes.proofs.Moved.{after_swap, all_tried, all_kept}

module _ (p : Bounded) where
  -- nothing is done
  pub no_later_itself : (b : List ℕ) → IsScenario p b → IsNoLater p b b
  no_later_itself b scenario = record { scenario = scenario; renaming = of_itself p b; no_later = not_itself b }

  module _ (b c : List ℕ) (scenario : IsScenario p b) (next : IsNoLater p b c) where
    pub no_later_then : (a : List ℕ) → IsNoLater p a b → IsNoLater p a c
    no_later_then a first = record {
      scenario = next.scenario;
      renaming = of_then p a b c first.renaming next.renaming;
      no_later = not_earlier_on a b c scenario.rising next.scenario.rising first.no_later next.no_later;
    }

    pub none_keeping_on : (kept : List Atom) (s : List ℕ) → NoneKeeping p kept s b → NoneKeeping p kept s c
    none_keeping_on kept s none u is keeping = not_earlier_on u b c scenario.rising next.scenario.rising (none u is keeping) next.no_later

    pub none_putting_on : (kept : List Atom) (x a : Atom) (s : List ℕ) → NonePutting p kept x a s b → NonePutting p kept x a s c
    none_putting_on kept x a s none u is putting = not_earlier_on u b c scenario.rising next.scenario.rising (none u is putting) next.no_later

    pub searched_on : (s : List ℕ) → IsSearched p s b → IsSearched p s c
    searched_on s is = record {
      symmetric = is.symmetric;
      scenario = is.scenario;
      of_best = next.scenario;
      renaming = of_then p c b s (of_back p b c next.renaming) is.renaming;
    }

-- all atoms are placed
pub all_placed : (p : Bounded) (atoms : List Atom) (s old new : List ℕ) → IsProblem p → AreMovable p atoms → IsSearched p s old →
    ((new ≡ s) × IsEarlier s old) ⊎ ((new ≡ old) × (IsEarlier s old → ⊥)) → IsNoLater p old new × NoneKeeping p atoms s new
all_placed p atoms s old new well movable is (inl (same, earlier)) = (
  subst (IsNoLater p old) (sym same) (record { scenario = is.scenario; renaming = is.renaming; no_later = λ e. only_one s old earlier e }),
  λ u scenario keeping e. not_itself s (subst (λ x. IsEarlier x s) (sym (all_kept p well atoms movable s u is.scenario scenario keeping)) (subst (IsEarlier u) same e)),
)
all_placed p atoms s old new well movable is (inr (same, none)) = (
  subst (IsNoLater p old) (sym same) (no_later_itself p old is.of_best),
  λ u scenario keeping e. none (subst (λ x. IsEarlier x old) (sym (all_kept p well atoms movable s u is.scenario scenario keeping)) (subst (IsEarlier u) same e)),
)

-- atoms at places from one on have been put in the place of the first one that isn't placed
pub record Tried (p : Bounded) (atoms : List Atom) (m : ℕ) (a : Atom) (s old best : List ℕ) (other : ℕ) : Type 0 where
  pub no_later : IsNoLater p old best
  pub same : NoneKeeping p (take (m + 1) atoms) s best
  pub each : (j : ℕ) (b : Atom) → m < j → j < other → get_or atoms j b ≡ b → NonePutting p (take m atoms) b a s best

-- the atom at a place, and any one past the end
abbrev pub at_or_any : List Atom → ℕ → Atom
at_or_any atoms m = get_or atoms m (record { top = 0; place = 0 })

-- the renamings that put b in the place of a, seen after the swap of the two, or where the swap makes no difference
module _ (p : Bounded) (atoms : List Atom) (m : ℕ) (l : m < length atoms) (a b : Atom) (at : get_or atoms m a ≡ a) (first : IsAtomOf p a) (second : IsAtomOf p b) (s best : List ℕ) where
  pub put_swapped : (t : List ℕ) → a.top ≡ b.top → IsImage p (swap_atoms a b) s t → NoneKeeping p (take (m + 1) atoms) t best → NonePutting p (take m atoms) b a s best
  put_swapped t tops image none u scenario is = none u scenario (after_swap p atoms m l a at b tops first second s t u image is)

  pub put_same : (a.top ≡ b.top → IsImage p (swap_atoms a b) s s) → NoneKeeping p (take (m + 1) atoms) s best → NonePutting p (take m atoms) b a s best
  put_same image none u scenario is =
      let tops : a.top ≡ b.top = sym (ap (λ (x : Atom). x.top) is.puts) ∙ is.renaming.tops b in
      put_swapped s tops (image tops) none u scenario is

-- the second scenario is the first one with these atoms of one signature swapped
abbrev pub IsSwapped : Bounded → Atom → Atom → List ℕ → List ℕ → Type 0
IsSwapped p a b s t = (a.top ≡ b.top) × IsScenario p t × IsImage p (swap_atoms a b) s t

-- what goes together once no atom is placed, once one is, and so on, and at last once all are
pub orbits_all : (p : Bounded) (atoms : List Atom) (i : ℕ) (old : List (List (Option ℕ))) (last : List (Option ℕ)) → length old ≡ i → i ≡ length atoms →
    ((m : ℕ) → m < i → AreOrbits p (take m atoms) (get_or old m [])) → AreOrbits p atoms last → (m : ℕ) → m ≤ length atoms → AreOrbits p (take m atoms) (get_or (old ++ last ∷ []) m [])
orbits_all p atoms i old last long all each is m l = elim (cases_lt m i) [
  | inl less ↦ subst (AreOrbits p (take m atoms)) (sym (get_or_append_left old (last ∷ []) [] m (omega arith))) (each m less)
  | inr past ↦
      let whole : take m atoms ≡ atoms = take_all m atoms (omega arith) in
      let here : get_or (old ++ last ∷ []) m [] ≡ last = get_or_push old last [] m (omega arith) in
      subst (λ (xs : List Atom). AreOrbits p xs (get_or (old ++ last ∷ []) m [])) (sym whole) (subst (AreOrbits p atoms) (sym here) is)
]

-- a search goes on from the swapped scenario
pub searched_swapped : (p : Bounded) (a b : Atom) (s t best : List ℕ) → a.top ≡ b.top → IsAtomOf p a → IsAtomOf p b → IsScenario p t → IsImage p (swap_atoms a b) s t → IsSearched p s best → IsSearched p t best
searched_swapped p a b s t best tops first second scenario image is = record {
  symmetric = is.symmetric;
  scenario = scenario;
  of_best = is.of_best;
  renaming = of_then p best s t is.renaming (record { there = swap_atoms a b; back = swap_atoms a b; renaming = renames p a b (laws_of a b tops) first second; image = image });
}

-- the swap of two atoms of one signature keeps the bounds
pub swap_kept : (p : Bounded) (a b : Atom) → IsSymmetric p → IsAtomOf p a → IsAtomOf p b → a.top ≡ b.top → KeepsBounds p (swap_atoms a b)
swap_kept p a b symmetric first second tops = symmetric (swap_atoms a b) (swap_atoms a b) (renames p a b (laws_of a b tops) first second)

-- the least renaming, where no renaming that keeps nothing is earlier
pub least_found : (p : Bounded) (s best : List ℕ) (atoms : List Atom) → IsScenario p best → IsRenamingOf p s best → NoneKeeping p (take 0 atoms) s best → IsLeastRenamingOf p s best
least_found p s best atoms scenario renaming none = record {
  renaming = renaming;
  least = record {
    scenario = scenario;
    none_earlier = λ u at of.
        let all = of_then p s best u renaming of in
        none u at (record { there = all.there; back = all.back; renaming = all.renaming; image = all.image; keeps = λ a c. absurd (let l = c.1 in omega arith) });
  };
}

module _ (p : Bounded) (atoms : List Atom) (m : ℕ) (a : Atom) (s old : List ℕ) where
  -- the first atom that isn't placed stays
  pub tried_none : (best : List ℕ) → IsNoLater p old best → NoneKeeping p (take (m + 1) atoms) s best → Tried p atoms m a s old best (m + 1)
  tried_none best next none = record { no_later = next; same = none; each = λ j b more less e. absurd (omega arith) }

  -- one atom more is put in its place
  pub tried_more : (best new : List ℕ) (other : ℕ) (b : Atom) → other < length atoms → get_or atoms other b ≡ b → IsNoLater p best new → NonePutting p (take m atoms) b a s new →
      Tried p atoms m a s old best other → Tried p atoms m a s old new (other + 1)
  tried_more best new other b l at next none h =
      let before = h.no_later.scenario in
      record {
        no_later = no_later_then p best new before next old h.no_later;
        same = none_keeping_on p best new before next (take (m + 1) atoms) s h.same;
        each = λ j x more less e. elim (cases_lt j other) [
          | inl low ↦ none_putting_on p best new before next (take m atoms) x a s (h.each j x more low e)
          | inr past ↦
              let here : other ≡ j = omega arith in
              let one : b ≡ x = sym at ∙ get_or_default atoms other b x l ∙ ap (λ k. get_or atoms k x) here ∙ e in
              subst (λ (y : Atom). NonePutting p (take m atoms) y a s new) one none
        ];
      }

  -- all atoms have been put there
  pub tried_all : (best : List ℕ) (other : ℕ) → m < length atoms → get_or atoms m a ≡ a → AreMovable p atoms → length atoms ≤ other → Tried p atoms m a s old best other → NoneKeeping p (take m atoms) s best
  tried_all best other l at movable past h = all_tried p atoms m l a at movable s best h.same (λ j b more less e. h.each j b more (omega arith) e)
