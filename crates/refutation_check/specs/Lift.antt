-- What a log is whose hints make room for other members.
use Rattle.std.specs.Prelude.{◌+◌, ◌<◌, ◌^◌, ℕ, List, All, map, nat_lt, if◌then◌else◌}
use Rattle.refutation_check.specs.declared.log.Step.{Step}

-- a hint above the base is raised
abbrev pub lifted_hint : ℕ → ℕ → ℕ → ℕ
lifted_hint base added hint = if nat_lt base hint then hint + added else hint

-- the same clauses, with the hints above the base raised
abbrev pub lifted : ℕ → ℕ → List Step → List Step
lifted base added steps = map (λ s. record { clause = s.clause; hints = map (lifted_hint base added) s.hints }) steps

-- no raised hint goes above 4,294,967,295
abbrev pub HasRoomToLift : ℕ → ℕ → List Step → Type 0
HasRoomToLift base added steps = All (λ s. All (λ hint. base < hint → hint + added < 2 ^ 32) s.hints) steps
