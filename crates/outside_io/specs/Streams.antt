-- What contracts see of a source over the library's reader and of a sink over its writer.
use Rattle.std.specs.Prelude.{ℕ, List, [], refl}
use Rattle.std.specs.Coded.{Coded, code_by, coded×, coded_ℕ}

-- a reader or a writer, and how many faults it had
pub record Counted (X : Type 0) : Type 0 where
  pub stream : X
  pub faults : ℕ

-- it is stored as the pair of its fields
abbrev pub counted_code : {X : Type 0} → Coded X → Coded (Counted X)
counted_code {X} code =
    code_by (X × ℕ) (coded× code coded_ℕ) (λ c. (c.stream, c.faults)) (λ p. record { stream = p.0; faults = p.1 }) (λ _. refl)

-- in place of the bytes that aren't told: no bytes, of which nothing is said
abbrev pub untold : List ℕ
untold = []
