-- A scenario that is being settled, from one swap to the next.
use Rattle.std.proofs.Common.{◌≡◌, ◌<◌, ℕ, List, length, All, AllPairs, Contains, subst}
use Rattle.std.proofs.lemmas.List.Elements.{All-contains, Contains-get_or}
use Rattle.tuple_core.specs.declared.atom.Atom.{Atom}
use Rattle.tuple_core.specs.Swap.{swap_atoms}
use Rattle.rel_formula.specs.Bounds.{Bounded, IsProblem, cells_of}
use Rattle.rel_formula.specs.Instance.{AreCells, IsScenario, Includes, IsMinimalAbove}
use Rattle.rel_formula.specs.Renaming.{KeepsBounds, IsImage, IsRenamingBeside, IsSymmetric}
use Rattle.rel_formula.proofs.SwapLaws.{laws_of, renames}
use Rattle.swap_symmetry.specs.Order.{IsEarlier}
use Rattle.swap_symmetry.specs.Swaps.{AreNeighbours, SwapIsEarlier}
use Rattle.swap_symmetry.proofs.SwapLemmas.{earlier_from}
use Rattle.swap_symmetry.proofs.FloorRenamings.{beside_itself, beside_then}
use Rattle.swap_symmetry.proofs.Weights.{lacks, lacks_less}

-- the second scenario is what the first has become
pub record SoFar (p : Bounded) (floor s t : List ℕ) : Type 0 where
  pub scenario : IsScenario p t
  pub renaming : IsRenamingBeside p floor s t

pub nothing_done : (p : Bounded) (floor s : List ℕ) → IsScenario p s → SoFar p floor s s
nothing_done p floor s scenario = record { scenario = scenario; renaming = beside_itself p floor s }

module _ (p : Bounded) (floor s t u : List ℕ) (so_far : SoFar p floor s t) (next : IsScenario p u) where
  pub one_more : IsRenamingBeside p floor t u → SoFar p floor s u
  one_more beside = record { scenario = next; renaming = beside_then p floor s t u so_far.renaming beside }

  -- what gets earlier lacks less
  pub less_left : IsEarlier u t → lacks (length (cells_of p)) u < lacks (length (cells_of p)) t
  less_left earlier = lacks_less (length (cells_of p)) u t next.rising so_far.scenario.rising next.cells so_far.scenario.cells earlier

-- a swap of neighbours keeps the bounds
pub swap_kept : (p : Bounded) (a b : Atom) → IsSymmetric p → AreNeighbours p a b → KeepsBounds p (swap_atoms a b)
swap_kept p a b symmetric next = symmetric (swap_atoms a b) (swap_atoms a b) (renames p a b (laws_of a b next.one_top) next.first next.second)

-- the image is earlier where the swap is
pub image_earlier : (p : Bounded) (a b : Atom) (s t : List ℕ) → IsProblem p → AreNeighbours p a b → IsScenario p t → IsImage p (swap_atoms a b) s t → SwapIsEarlier p a b (Contains s) → IsEarlier t s
image_earlier p a b s t well next scenario image earlier = (earlier_from p well a b (laws_of a b next.one_top) s t scenario image).1 earlier

-- what a scenario includes are cells
included : (count : ℕ) (s floor : List ℕ) → All (λ n. n < count) s → Includes s floor → All (λ n. n < count) floor
included count s floor cells above k d l = All-contains (λ n. n < count) s _ cells (above _ (Contains-get_or floor k d l))

-- what stays minimal above the numbers of a floor stays minimal above it
pub minimal_for : (p : Bounded) (numbers floor s t : List ℕ) → numbers ≡ floor → AllPairs (λ m n. m < n) floor → AreCells p s → (IsScenario p numbers → IsMinimalAbove p numbers s → IsMinimalAbove p numbers t) →
    IsMinimalAbove p floor s → IsMinimalAbove p floor t
minimal_for p numbers floor s t same rising cells stays minimal =
    let floor_in : IsScenario p floor = record { cells = included (length (cells_of p)) s floor cells minimal.above; rising = rising } in
    subst (λ (f : List ℕ). IsScenario p f → IsMinimalAbove p f s → IsMinimalAbove p f t) same stays floor_in minimal
