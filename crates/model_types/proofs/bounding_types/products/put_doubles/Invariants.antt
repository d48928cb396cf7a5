use Rattle.std.proofs.Common.{ℕ, [], ◌∷◌, ◌++◌, flat_map, take}
use Rattle.model_types.specs.Bounds.Same.{AreSame}
use Rattle.model_types.proofs.bounding_types.products.put_doubles.Given as goal

abbrev pub invariant-loop-top : goal.invariant-loop-top
invariant-loop-top l = AreSame l.all (l.fn.all ++ flat_map (λ (k : ℕ). (k ∷ k ∷ []) ∷ []) (take l.top-index l.tops))
