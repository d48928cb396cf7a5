-- What a swap does to chosen cells depends on the problem's cells alone.
use Rattle.std.proofs.Common.{◌≡◌, ◌↔◌, ◌<◌, ◌≤◌, ℕ, Bool, map, length, IsTrue, sym, subst, arith}
use Rattle.tuple_core.specs.declared.atom.Atom.{Atom}
use Rattle.tuple_core.specs.Swap.{swap_atoms}
use Rattle.rel_formula.specs.Bounds.{Bounded, cell_of, cells_of}
use Rattle.rel_formula.proofs.Lists.{some_below}
use Rattle.swap_symmetry.specs.Swaps.{IsTakenInto, SwapIsEarlier}
use Rattle.translation_rules.specs.Translation.{var_of}
use Rattle.translation.specs.SwapChains.Chain.{chosen_by, AreAlikeBelow}

-- the same cells are chosen
abbrev pub AreSame : Bounded → (ℕ → Type 0) → (ℕ → Type 0) → Type 0
AreSame p C D = (n : ℕ) → n < length (cells_of p) → C n ↔ D n

pub same_back : (p : Bounded) (C D : ℕ → Type 0) → AreSame p C D → AreSame p D C
same_back p C D same n l = ((same n l).1, (same n l).0)

-- a cell that is taken anywhere is one
pub taken_below : (p : Bounded) (a b : Atom) (C : ℕ → Type 0) (m : ℕ) → IsTakenInto p a b C m → m < length (cells_of p)
taken_below p a b C m t = some_below (cells_of p) m (cell_of t.0 t.1) t.2

module _ (p : Bounded) (a b : Atom) (C D : ℕ → Type 0) (same : AreSame p C D) where
  pub taken_to : (m : ℕ) → IsTakenInto p a b C m → IsTakenInto p a b D m
  taken_to m (r, row, at, (k, c, e)) = (r, row, at, (k, (same k (some_below (cells_of p) k (cell_of r (map (swap_atoms a b) row)) e)).0 c, e))

module _ (p : Bounded) (a b : Atom) (C D : ℕ → Type 0) (same : AreSame p C D) where
  pub taken_same : (m : ℕ) → IsTakenInto p a b C m ↔ IsTakenInto p a b D m
  taken_same m = (taken_to p a b C D same m, taken_to p a b D C (same_back p C D same) m)

  pub alike_to : (count : ℕ) → count ≤ length (cells_of p) → AreAlikeBelow p a b C count → AreAlikeBelow p a b D count
  alike_to count few alike m l =
      let here = same m (omega arith) in
      let there = taken_same m in (
        λ t. here.0 ((alike m l).0 (there.1 t)),
        λ d. there.0 ((alike m l).1 (here.1 d)),
      )

  pub earlier_to : SwapIsEarlier p a b C → SwapIsEarlier p a b D
  earlier_to (n, t, not, below) =
      let l = taken_below p a b C n t in
      (n, (taken_same n).0 t, λ d. not ((same n l).1 d), alike_to n (omega arith) below)

-- valuations that agree on the cells' variables choose the same
pub chosen_same : (p : Bounded) (first : ℕ) (v w : ℕ → Bool) → length (cells_of p) < first → ((var : ℕ) → var < first → w var ≡ v var) → AreSame p (chosen_by w) (chosen_by v)
chosen_same p first v w above same n l =
    let e : w (var_of n) ≡ v (var_of n) = same (var_of n) (omega arith) in
    (λ c. subst (λ b. IsTrue b) e c, λ c. subst (λ b. IsTrue b) (sym e) c)
