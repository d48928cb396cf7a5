-- Some of the facts of a model, by their numbers.
use Rattle.std.specs.Prelude.{◌≡◌, ◌==◌, ◌||◌, ℕ, nat_lt, Bool, not, List, filter}

-- those that some test keeps, in their order
abbrev pub AreSomeOf : List ℕ → List ℕ → Type 0
AreSomeOf facts some = (keep : ℕ → Bool) × (some ≡ filter keep facts)

-- all but that of this number
abbrev pub without : ℕ → List ℕ → List ℕ
without fact facts = filter (λ other. not (other == fact)) facts

-- all but those from the first number to the last
abbrev pub outside : ℕ → ℕ → List ℕ → List ℕ
outside first last facts = filter (λ fact. nat_lt fact first || nat_lt last fact) facts
