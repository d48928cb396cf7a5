-- What a function returned is what the definition gives, unless memory ran out.
use Rattle.std.specs.Prelude.{◌≡◌, ◌⊎◌, Result, Ok, Err, MatchResult}
use Rattle.model_types.specs.declared.fault.TypeFault.{TypeFault}
use Rattle.model_types.specs.declared.fault.TypeFault.TheVariants.{Memory}

-- want of memory, or the fault that is told
abbrev pub IsTold : {Y : Type 0} → TypeFault → Result Y TypeFault → Type 0
IsTold e read = (e ≡ Memory) ⊎ (read ≡ Err e)

-- what was returned, seen by `see`, is the definition's answer
abbrev pub Gives : {X Y : Type 0} → (X → Y) → Result X TypeFault → Result Y TypeFault → Type 0
Gives see result read = MatchResult result (λ x. read ≡ Ok (see x)) (λ e. IsTold e read)
