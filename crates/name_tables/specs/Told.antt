-- What is told of the names of a part.
use Rattle.std.specs.Prelude.{◌≡◌, ◌⊎◌, List, [], Some, Result, MatchResult}
use Rattle.named_model.specs.Answers.{first_in}
use Rattle.named_model.specs.declared.fault.NameFault.{NameFault}
use Rattle.named_model.specs.declared.fault.NameFault.TheVariants.{Memory}

-- want of memory, or the first of these faults
abbrev pub IsTold : NameFault → List NameFault → Type 0
IsTold e fs = (e ≡ Memory) ⊎ (first_in fs ≡ Some e)

-- a value for which this holds, where there is no fault; else the first one
abbrev pub Answers : {X : Type 0} → Result X NameFault → List NameFault → (X → Type 0) → Type 0
Answers result fs P = MatchResult result (λ x. (fs ≡ []) × P x) (λ e. IsTold e fs)
