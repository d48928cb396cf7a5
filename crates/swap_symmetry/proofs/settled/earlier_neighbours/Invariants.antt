use Rattle.std.proofs.Common.{ℕ, ◌<◌, ◌≡◌, ◌+◌, get_or, ◌∷◌, [], Contains}
use Rattle.tuple_core.specs.declared.atom.Atom.{Atom}
use Rattle.swap_symmetry.specs.Swaps.{SwapIsEarlier, IsFreeOf}
use Rattle.swap_symmetry.proofs.settled.earlier_neighbours.Given as goal

abbrev pub invariant-loop-place : goal.invariant-loop-place
invariant-loop-place l = (k : ℕ) (a b : Atom) → k + 1 < l.place → get_or l.atoms k (a ∷ []) ≡ a ∷ [] → get_or l.atoms (k + 1) (b ∷ []) ≡ b ∷ [] → a.top ≡ b.top → IsFreeOf l.problem l.floor a b × SwapIsEarlier l.problem a b (Contains l.scenario) → ⊥
