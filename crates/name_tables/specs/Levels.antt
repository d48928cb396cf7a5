-- Local names by their numbers, the innermost first, and the level of each, where the outermost has the level 0.
use Rattle.std.specs.Prelude.{◌≡◌, ◌<◌, ◌==◌, ℕ, List, [], ◌∷◌, length, map, take, reverse, position, slice_index_or, Option, Some, None, if◌then◌else◌, All}
use Rattle.name_tables.specs.declared.locals.Level.{Level}

-- how far out the innermost one of this number is
abbrev pub place_of : ℕ → List ℕ → Option ℕ
place_of number locals = position (λ x. x == number) locals

abbrev pub level_of : ℕ → List ℕ → Option ℕ
level_of number [] = None
level_of number (x ∷ outer) = if x == number then Some (length outer) else level_of number outer

abbrev pub numbers_of : List Level → List ℕ
numbers_of levels = map (λ (l : Level). l.number) (reverse levels)

-- the table has the level of the innermost one of each number below its length, and each level that of the one it hides
pub record AreLevels (levels : List Level) (innermost : List (Option ℕ)) : Type 0 where
  pub within : All (λ (l : Level). l.number < length innermost) levels
  pub hides : (i : ℕ) (d : Level) → i < length levels → (slice_index_or levels i d).hidden ≡ level_of (slice_index_or levels i d).number (numbers_of (take i levels))
  pub right : (number : ℕ) (d : Option ℕ) → number < length innermost → slice_index_or innermost number d ≡ level_of number (numbers_of levels)
