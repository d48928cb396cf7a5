-- Numbers that are said by a fact: sums and products of such.
use Rattle.std.specs.Prelude.{◌≡◌, ◌+◌, ◌*◌, ℕ}

-- a number, as the fact of being it
abbrev pub Number : Type 1
Number = ℕ → Type 0

-- the number m
abbrev pub Is : ℕ → Number
Is m n = n ≡ m

infixl 50 ◌⊕◌
infixl 60 ◌⊗◌
-- the sum of two numbers
abbrev pub ◌⊕◌ : Number → Number → Number
◌⊕◌ C D n = (k l : ℕ) × C k × D l × (n ≡ k + l)

-- their product
abbrev pub ◌⊗◌ : Number → Number → Number
◌⊗◌ C D n = (k l : ℕ) × C k × D l × (n ≡ k * l)

-- k has the fact, and no other number
pub record Only (C : Number) (k : ℕ) : Type 0 where
  pub has : C k
  pub no_other : (n : ℕ) → C n → n ≡ k
