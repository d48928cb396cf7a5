-- Where a number stands in a list of numbers.
use Rattle.std.specs.Prelude.{◌≡◌, ◌<◌, ◌+◌, ◌==◌, ℕ, List, [], ◌∷◌, length, slice_index_or, Bool, if◌then◌else◌, All}
use Rattle.std.specs.List.{list_any}
use Rattle.name_tables.specs.declared.firsts.Occurrence.{Occurrence}
use Rattle.name_tables.specs.declared.firsts.Occurrence.TheVariants.{Never, Once, Again}

abbrev pub is_among : List ℕ → ℕ → Bool
is_among numbers number = list_any (λ x. x == number) numbers

-- in a list whose first place is this one
abbrev pub occurrence_from : ℕ → ℕ → List ℕ → Occurrence
occurrence_from number place [] = Never
occurrence_from number place (x ∷ xs) =
    if x == number then (if is_among xs number then Again place else Once place) else occurrence_from number (place + 1) xs

abbrev pub occurrence : ℕ → List ℕ → Occurrence
occurrence number = occurrence_from number 0

-- where the number stands that is put at this place too
abbrev pub once_more : ℕ → Occurrence → Occurrence
once_more place Never = Once place
once_more place (Once first) = Again first
once_more place (Again first) = Again first

-- the table has the occurrence of each number below its length, and the list no other number
pub record AreFirsts (numbers : List ℕ) (occurrences : List Occurrence) : Type 0 where
  pub within : All (λ x. x < length occurrences) numbers
  pub right : (number : ℕ) (d : Occurrence) → number < length occurrences → slice_index_or occurrences number d ≡ occurrence number numbers
