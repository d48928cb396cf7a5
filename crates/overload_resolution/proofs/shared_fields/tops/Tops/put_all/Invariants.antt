use Rattle.std.proofs.Common.{ℕ, ◌++◌, [], ◌∷◌, flat_map, take}
use Rattle.overload_resolution.specs.Fields.Alike.{AreAlike}
use Rattle.overload_resolution.proofs.shared_fields.tops.Tops.put_all.Given as goal

abbrev pub invariant-loop-number : goal.invariant-loop-number
invariant-loop-number l = AreAlike l.self (l.fn.self ++ flat_map (λ (n : ℕ). n ∷ []) (take l.number-index l.numbers))
