-- The words of a line, names and numbers.
use Rattle.std.specs.Prelude.{ℕ, ◌+◌, ◌-◌, ◌*◌, ◌==◌, List, [], ◌∷◌, length, filter, Bool, false, ◌&&◌, ◌||◌, not, nat_le, nat_lt, if◌then◌else◌, Option, Some, None, slice_index}
use Rattle.std.specs.List.{slice_split, list_all}

-- the words of a line stand between its spaces
abbrev pub words_in : List ℕ → List (List ℕ)
words_in line = filter (λ word. not (length word == 0)) (slice_split (λ b. b == 32) line)

-- a directive begins with `==`
abbrev pub is_directive : List ℕ → Bool
is_directive line = slice_index line 0 == 61 && slice_index line 1 == 61

-- outside models a line without words and one that begins with `#` have no effect
abbrev pub is_idle : List ℕ → Bool
is_idle line = length (words_in line) == 0 || slice_index line 0 == 35

abbrev pub is_letter : ℕ → Bool
is_letter b = (nat_le 65 b && nat_le b 90) || (nat_le 97 b && nat_le b 122)

abbrev pub is_digit : ℕ → Bool
is_digit b = nat_le 48 b && nat_le b 57

abbrev pub is_name_byte : ℕ → Bool
is_name_byte b = is_letter b || is_digit b || b == 95

-- the name of a model or a session: 1 to 32 letters, digits and `_`, beginning with a letter
abbrev pub is_name : List ℕ → Bool
is_name [] = false
is_name (first ∷ others) = is_letter first && list_all is_name_byte others && nat_lt (length others) 32

-- the number whose digits these are, after those of n
unfoldable pub number_from : ℕ → List ℕ → ℕ
number_from n [] = n
number_from n (digit ∷ digits) = number_from (n * 10 + (digit - 48)) digits

-- a number is one to six digits
abbrev pub number_in : List ℕ → Option ℕ
number_in word = if nat_lt 0 (length word) && nat_le (length word) 6 && list_all is_digit word then Some (number_from 0 word) else None

abbrev pub if_within : ℕ → ℕ → Option ℕ → Option ℕ
if_within least most None = None
if_within least most (Some n) = if nat_le least n && nat_le n most then Some n else None

-- a number in a range
abbrev pub number_within : ℕ → ℕ → List ℕ → Option ℕ
number_within least most word = if_within least most (number_in word)
