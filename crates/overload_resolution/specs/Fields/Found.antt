-- What is found among some fields.
use Rattle.std.specs.Prelude.{ℕ, ◌+◌, ◌==◌, List, [], ◌∷◌, Bool, if◌then◌else◌, Result, Ok, Err}
use Rattle.alloy_lex.specs.declared.token.Place.{Place}
use Rattle.model_types.specs.declared.fault.TypeFault.{TypeFault}
use Rattle.model_types.specs.declared.fault.TypeFault.TheVariants as fault
use Rattle.overload_resolution.specs.declared.shared_fields.found.Found.{Found}
use Rattle.overload_resolution.specs.declared.shared_fields.found.Found.TheVariants.{Nothing, One, Several}

-- what is found among these and among those
abbrev pub both : Found → Found → Found
both Nothing b = b
both (One m) Nothing = One m
both (One m) (One n) = if m == n then One m else Several
both (One m) Several = Several
both Several b = Several

-- the one, where it is one
abbrev pub the_found : Place → Found → Result ℕ TypeFault
the_found p Nothing = Err (fault.Ambiguous p)
the_found p (One n) = Ok n
the_found p Several = Err (fault.Ambiguous p)

-- what of these passes a test, where the first has the number n
abbrev pub found_by : {X : Type 0} → (X → Bool) → ℕ → List X → Found
found_by test n [] = Nothing
found_by test n (x ∷ xs) = if test x then both (One n) (found_by test (n + 1) xs) else found_by test (n + 1) xs
