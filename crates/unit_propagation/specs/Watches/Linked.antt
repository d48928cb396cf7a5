-- Lists of slots that are linked through the slots themselves: a link is a slot's number and 1, and 0 is the end.
use Rattle.std.specs.Prelude.{◌≡◌, ◌+◌, ◌<◌, ℕ, zero, suc, List, [], ◌∷◌, length, map, slice_index_or}
use Rattle.unit_propagation.specs.declared.watch_lists.lists.Slot.{Slot}

-- the link that follows a slot
abbrev pub next_of : List Slot → ℕ → ℕ
next_of slots x = (slice_index_or slots x (record { code = 0; next = 0 })).next

-- the code that a slot watches
abbrev pub code_at : List Slot → ℕ → ℕ
code_at slots x = (slice_index_or slots x (record { code = 0; next = 0 })).code

-- the slots from a link on, at most so many
abbrev pub list_from : List Slot → ℕ → ℕ → List ℕ
list_from slots zero link = []
list_from slots (suc fuel) zero = []
list_from slots (suc fuel) (suc x) = x ∷ list_from slots fuel (next_of slots x)

-- the list of each code: no list has more slots than there are
abbrev pub lists_of : List Slot → List ℕ → List (List ℕ)
lists_of slots first = map (λ link. list_from slots (length slots) link) first

-- from this link on, the slots are these, and then comes the end
abbrev pub IsLinked : List Slot → ℕ → List ℕ → Type 0
IsLinked slots link [] = link ≡ 0
IsLinked slots link (x ∷ xs) = (link ≡ x + 1) × (x < length slots) × IsLinked slots (next_of slots x) xs
