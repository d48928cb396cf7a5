-- The tokens of a text, from left to right, or its first fault.
use Rattle.std.specs.Prelude.{◌≡◌, ℕ, zero, suc, ◌+◌, ◌==◌, List, [], ◌∷◌, ◌++◌, length, take, drop, Bool, nat_le, nat_lt, ◌&&◌, if◌then◌else◌, Option, Some, None, option_to_list, Result, Ok, Err}
use Rattle.alloy_lex.specs.declared.token.Place.{Place}
use Rattle.alloy_lex.specs.declared.token.Token.{Token}
use Rattle.alloy_lex.specs.declared.token.TokenKind.{TokenKind}
use Rattle.alloy_lex.specs.declared.token.LexFault.{LexFault}
use Rattle.alloy_lex.specs.declared.token.LexFault.TheVariants as fault
use Rattle.alloy_lex.specs.declared.front.Front.{Front}
use Rattle.alloy_lex.specs.declared.front.Front.TheVariants as front
use Rattle.alloy_lex.specs.declared.lexing.Spot.{Spot}
use Rattle.alloy_lex.specs.Fronts.{line_feed, front_of}

-- ---- places

-- a byte of a character other than its first
abbrev pub is_continuation : ℕ → Bool
is_continuation b = nat_le 128 b && nat_lt b 192

abbrev pub next_line : Place → Place
next_line p = record { line = p.line + 1; column = 1 }

abbrev pub next_column : Place → Place
next_column p = record { line = p.line; column = p.column + 1 }

-- where the text goes on after one byte more
abbrev pub after_byte : Place → ℕ → Place
after_byte p b = if b == line_feed then next_line p else (if is_continuation b then p else next_column p)

-- where the text goes on after these bytes
unfoldable pub after_bytes : Place → List ℕ → Place
after_bytes p [] = p
after_bytes p (b ∷ bs) = after_bytes (after_byte p b) bs

-- ---- tokens

-- what stands here of the text, and where the text goes on: a token or none, the spot behind it, and the bytes from there
abbrev pub Step : Type 0
Step = Option Token × Spot × List ℕ

abbrev pub passed : Spot → List ℕ → Spot
passed at text = record { start = at.start + length text; place = after_bytes at.place text }

-- the bytes of the source before what follows a token
abbrev pub token_end : Token → ℕ
token_end t = t.start + length t.text

abbrev pub token_at : TokenKind → Spot → List ℕ → Token
token_at k at text = record { kind = k; start = at.start; place = at.place; text = text }

abbrev pub step_at : Front → Spot → List ℕ → Result Step LexFault
step_at (front.Blank n) at bs = Ok (None, passed at (take n bs), drop n bs)
step_at (front.Token k n) at bs = Ok (Some (token_at k at (take n bs)), passed at (take n bs), drop n bs)
step_at front.BadCharacter at bs = Err (fault.BadCharacter at.place)
step_at front.OpenComment at bs = Err (fault.OpenComment at.place)
step_at front.NumberTooLarge at bs = Err (fault.NumberTooLarge at.place)

unfoldable pub step_of : Spot → List ℕ → Result Step LexFault
step_of at bs = step_at (front_of bs) at bs

infixl 10 ◌>>=◌
abbrev pub ◌>>=◌ : {A B : Type 0} → Result A LexFault → (A → Result B LexFault) → Result B LexFault
(Ok x) >>= f = f x
(Err e) >>= f = Err e

-- the tokens from a spot on, in at most so many steps
unfoldable pub tokens_from : ℕ → Spot → List ℕ → Result (List Token) LexFault
tokens_from zero at bs = Ok []
tokens_from (suc n) at [] = Ok []
tokens_from (suc n) at (b ∷ bs) = step_of at (b ∷ bs) >>= λ s. tokens_from n s.1 s.2 >>= λ ts. Ok (option_to_list s.0 ++ ts)

abbrev pub origin : Spot
origin = record { start = 0; place = record { line = 1; column = 1 } }

-- the tokens of a text: each step takes a byte, so there are steps enough
abbrev pub tokens_of : List ℕ → Result (List Token) LexFault
tokens_of text = tokens_from (suc (length text)) origin text

-- the fault that was answered is the one that was read; no memory is no fault of the text
abbrev pub IsFaultOf : {A : Type 0} → LexFault → Result A LexFault → Type 0
IsFaultOf (fault.BadCharacter p) read = read ≡ Err (fault.BadCharacter p)
IsFaultOf (fault.OpenComment p) read = read ≡ Err (fault.OpenComment p)
IsFaultOf (fault.NumberTooLarge p) read = read ≡ Err (fault.NumberTooLarge p)
IsFaultOf fault.Memory read = Unit {0}

-- what was answered is what was read, as `see` shows it, or its fault
abbrev pub Gives : {A B : Type 0} → (A → B) → Result A LexFault → Result B LexFault → Type 0
Gives see (Ok x) read = read ≡ Ok (see x)
Gives see (Err e) read = IsFaultOf e read
