-- Descents from an instance to smaller ones.
use Rattle.std.specs.Prelude.{◌≡◌, ℕ, List, [], ◌∷◌, ◌++◌, map, filter, not, nat_eq, length, All, AllPairs}
use Rattle.std.specs.List.{list_any, range_with_len}
use Rattle.cnf_core.specs.declared.literal.Lit.{Lit}
use Rattle.cnf_core.specs.Literal.{negation_of}
use Rattle.refutation_check.specs.Part.{Parted}
use Rattle.rel_formula.specs.Bounds.{Bounded, cells_of}
use Rattle.rel_formula.specs.Instance.{IsInstance, Includes}
use Rattle.translation_rules.specs.Locals.{literal_of, units_of, absence_in}

-- the second scenario lies in the first, and is not all of it
abbrev pub IsProperPart : List ℕ → List ℕ → Type 0
IsProperPart s part = Includes s part × (¬ Includes part s)

-- the numbers of the second list that the first has not
abbrev pub outside : List ℕ → List ℕ → List ℕ
outside scenario cells = filter (λ cell. not (list_any (nat_eq cell) scenario)) cells

-- each cell outside the scenario is absent, each cell of the floor is there, and some other cell of the scenario is absent
abbrev pub descent_locals : Bounded → List ℕ → List ℕ → List (List Lit)
descent_locals p floor scenario =
    map (λ cell. negation_of (literal_of cell) ∷ []) (outside scenario (range_with_len 0 (length (cells_of p)))) ++ units_of floor ++ absence_in (outside floor scenario) ∷ []

-- an instance that contains the floor and is a proper part of the scenario
pub record IsSmaller (p : Bounded) (floor scenario s : List ℕ) : Type 0 where
  pub instance_of : IsInstance p s
  pub above : Includes s floor
  pub proper : IsProperPart scenario s

-- a search for a smaller instance, and the one that it sets out from
pub record Lowering : Type 0 where
  pub from : List ℕ
  pub part : Parted

-- the search sets out from an instance that contains the floor, for one that is a proper part of it
pub record IsLowering (p : Bounded) (floor : List ℕ) (x : Lowering) : Type 0 where
  pub instance_of : IsInstance p x.from
  pub above : Includes x.from floor
  pub local : x.part.local ≡ descent_locals p floor x.from

-- the searches go down from one instance to the next, each a proper part of those before
pub record GoesDown (p : Bounded) (floor : List ℕ) (xs : List Lowering) : Type 0 where
  pub lowerings : All (IsLowering p floor) xs
  pub shrinking : AllPairs (λ x y. IsProperPart x.from y.from) xs
