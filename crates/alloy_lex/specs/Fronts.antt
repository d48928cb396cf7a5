-- What stands at the front of a text: a blank, a token, or a fault.
use Rattle.std.specs.Prelude.{ℕ, ◌+◌, ◌*◌, ◌-◌, ◌==◌, List, [], ◌∷◌, take, drop, Bool, ◌&&◌, ◌||◌, not, nat_le, if◌then◌else◌, Option, Some, None, option_map, slice_index}
use Rattle.std.specs.List.{prefix_len}
use Rattle.alloy_lex.specs.declared.token.TokenKind.TheVariants as kind
use Rattle.alloy_lex.specs.declared.front.Front.{Front}
use Rattle.alloy_lex.specs.declared.front.Front.TheVariants as front
use Rattle.alloy_lex.specs.Words.{is_word, symbol_len}

-- ---- bytes

abbrev pub line_feed : ℕ
line_feed = 10

abbrev pub star : ℕ
star = 42

abbrev pub dash : ℕ
dash = 45

abbrev pub slash : ℕ
slash = 47

-- a space, a tab, a carriage return or a line feed
abbrev pub is_space : ℕ → Bool
is_space b = b == 32 || b == 9 || b == 13 || b == line_feed

abbrev pub is_letter : ℕ → Bool
is_letter b = (nat_le 65 b && nat_le b 90) || (nat_le 97 b && nat_le b 122)

abbrev pub is_digit : ℕ → Bool
is_digit b = nat_le 48 b && nat_le b 57

-- a letter, a digit, an underscore or a prime
abbrev pub is_name_byte : ℕ → Bool
is_name_byte b = is_letter b || is_digit b || b == 95 || b == 39

-- no line feed
abbrev pub is_in_line : ℕ → Bool
is_in_line b = not (b == line_feed)

-- ---- how far it goes from here

-- past the next `*/`, where there is one
unfoldable pub comment_len : List ℕ → Option ℕ
comment_len [] = None
comment_len (b ∷ bs) = if b == star && slice_index bs 0 == slash then Some 2 else option_map (λ n. n + 1) (comment_len bs)

-- the number whose digits these are, after those of n
unfoldable pub number_from : ℕ → List ℕ → ℕ
number_from n [] = n
number_from n (d ∷ ds) = number_from (n * 10 + (d - 48)) ds

-- ---- fronts

abbrev pub comment_front : Option ℕ → Front
comment_front None = front.OpenComment
comment_front (Some n) = front.Blank (n + 2)

-- how many bytes a slash and a name take that stand there; 0 where they don't
unfoldable pub second_len : List ℕ → ℕ
second_len bs =
    let n = prefix_len is_name_byte (drop 1 bs) in
    if slice_index bs 0 == slash && (is_letter (slice_index bs 1) && not (is_word (take n (drop 1 bs)))) then n + 1 else 0

-- a name of so many bytes, and behind it a slash and a name of so many, or 0
abbrev pub path_front : ℕ → ℕ → Front
path_front n more = if more == 0 then front.Token kind.Name n else front.Token kind.Path (n + more)

-- a word, a name or a path that begins with a run of so many bytes
abbrev pub name_front : List ℕ → ℕ → Front
name_front bs n = if is_word (take n bs) then front.Token kind.Word n else path_front n (second_len (drop n bs))

-- a number of so many digits, which is at most a thousand
abbrev pub number_front : List ℕ → ℕ → Front
number_front bs n = if nat_le (number_from 0 (take n bs)) 1000 then front.Token kind.Number n else front.NumberTooLarge

abbrev pub symbol_front : ℕ → Front
symbol_front n = if n == 0 then front.BadCharacter else front.Token kind.Symbol n

-- what stands at the front of a text that has a byte
unfoldable pub front_of : List ℕ → Front
front_of bs =
    let a = slice_index bs 0 in
    let b = slice_index bs 1 in
    if is_space a then front.Blank 1
    else (if (a == slash && b == slash) || (a == dash && b == dash) then front.Blank (prefix_len is_in_line (drop 2 bs) + 2)
    else (if a == slash && b == star then comment_front (comment_len (drop 2 bs))
    else (if is_letter a then name_front bs (prefix_len is_name_byte bs)
    else (if is_digit a then number_front bs (prefix_len is_digit bs)
    else symbol_front (symbol_len bs)))))
