-- What it is to read at the front of a list of tokens: what is read, and the tokens behind it; or where reading stops.
use Rattle.std.specs.Prelude.{ℕ, zero, suc, ◌+◌, ◌-◌, ◌*◌, min, List, [], ◌∷◌, ◌++◌, length, Bool, false, ◌&&◌, ◌||◌, if◌then◌else◌, Option, Some, None, Result, Ok, Err}
use Rattle.alloy_lex.specs.declared.token.Place.{Place}
use Rattle.alloy_syntax.specs.declared.class.Class.{Class}
use Rattle.alloy_syntax.specs.declared.class.Class.TheVariants as class
use Rattle.alloy_syntax.specs.Class.{is_class}
use Rattle.alloy_syntax.specs.declared.parser_token.ParserToken.{ParserToken}
use Rattle.alloy_syntax.specs.declared.reading.Form.{Form}
use Rattle.alloy_syntax.specs.declared.tree.Name.{Name}
use Rattle.alloy_syntax.specs.declared.tree.Number.{Number}
use Rattle.alloy_syntax.specs.declared.tree.MultiplicityWord.{MultiplicityWord}
use Rattle.alloy_syntax.specs.declared.tree.Multiplicity.{Multiplicity}
use Rattle.alloy_syntax.specs.declared.tree.Multiplicity.TheVariants as multiplicity

-- why reading stops: the tokens from one that can't stand there, from one that lies too deep, or from the one that a refused form is named by
pub data ParseStopView : Type 0 where
  refused : List ParserToken → ParseStopView
  too_deep : List ParserToken → ParseStopView
  unsupported : Form → List ParserToken → ParseStopView

abbrev pub Parser : Type 0 → Type 0
Parser A = List ParserToken → Result (A × List ParserToken) ParseStopView

infixl 10 ◌>>=◌
abbrev pub ◌>>=◌ : {A B : Type 0} → Result A ParseStopView → (A → Result B ParseStopView) → Result B ParseStopView
(Ok x) >>= f = f x
(Err e) >>= f = Err e

-- ---- one token

unfoldable pub next_is : Class → List ParserToken → Bool
next_is c [] = false
next_is c (t ∷ ts) = is_class t.class c

abbrev pub after : List ParserToken → List ParserToken
after [] = []
after (t ∷ ts) = ts

-- where the next token stands
abbrev pub place_at : List ParserToken → Place
place_at [] = record { line = 1; column = 1 }
place_at (t ∷ ts) = t.place

abbrev pub one : {A : Type 0} → Class → (ParserToken → A) → Parser A
one c f [] = Err (refused [])
one c f (t ∷ ts) = if is_class t.class c then Ok (f t, ts) else Err (refused (t ∷ ts))

-- a token of that class, by its place
unfoldable pub expect : Class → Parser Place
expect c = one c (λ t. t.place)

-- what is spelled by a token of that class, as a name
unfoldable pub spelled_at : Class → Parser Name
spelled_at c = one c (λ t. record { text = t.text; place = t.place })

abbrev pub name_at : Parser Name
name_at = spelled_at class.Name

abbrev pub path_at : Parser Name
path_at = spelled_at class.Path

-- a digit more, and never beyond 1,001
abbrev pub with_digit : ℕ → ℕ → ℕ
with_digit value digit = min (10 * value + (digit - 48)) 1001

abbrev pub value_from : ℕ → List ℕ → ℕ
value_from value [] = value
value_from value (digit ∷ digits) = value_from (with_digit value digit) digits

unfoldable pub number_at : Parser Number
number_at = one class.Number (λ t. record { value = value_from 0 t.text; place = t.place })

-- a multiplicity word, if the next token is one
unfoldable pub is_mark : List ParserToken → Bool
is_mark ts = next_is class.Set ts || next_is class.One ts || next_is class.Lone ts || next_is class.Some ts

abbrev pub multiplicity_of : List ParserToken → Multiplicity
multiplicity_of ts =
    if next_is class.Set ts then multiplicity.Set
    else (if next_is class.One ts then multiplicity.One
    else (if next_is class.Lone ts then multiplicity.Lone
    else multiplicity.Some))

unfoldable pub mark_at : List ParserToken → Option MultiplicityWord
mark_at ts = if is_mark ts then Some (record { multiplicity = multiplicity_of ts; place = place_at ts }) else None

unfoldable pub after_mark : List ParserToken → List ParserToken
after_mark ts = if is_mark ts then after ts else ts

-- ---- repetitions, which take as much as they can

-- as long as the test holds, at most so often
unfoldable pub repeated : {A : Type 0} → (List ParserToken → Bool) → Parser A → ℕ → Parser (List A)
repeated test item zero ts = Ok ([], ts)
repeated test item (suc n) ts =
    if test ts then item ts >>= (λ x. repeated test item n x.1 >>= λ xs. Ok (x.0 ∷ xs.0, xs.1)) else Ok ([], ts)

-- the count of the tokens, and one more, is always enough
abbrev pub many : {A : Type 0} → (List ParserToken → Bool) → Parser A → Parser (List A)
many test item ts = repeated test item (suc (length ts)) ts

abbrev pub behind : {A : Type 0} → Parser A → Parser A
behind item ts = item (after ts)

abbrev pub with_front : {A : Type 0} → List A → Result (List A × List ParserToken) ParseStopView → Result (List A × List ParserToken) ParseStopView
with_front front read = read >>= λ xs. Ok (front ++ xs.0, xs.1)

-- the first of several and one more behind each comma, where the first has been read
unfoldable pub others : {A : Type 0} → Parser A → A → Parser (List A)
others item first ts = with_front (first ∷ []) (many (next_is class.Comma) (behind item) ts)

-- one, and one more behind each comma
unfoldable pub listed : {A : Type 0} → Parser A → Parser (List A)
listed item ts = item ts >>= λ x. others item x.0 x.1

unfoldable pub names_at : Parser (List Name)
names_at = listed name_at

-- names with commas and then a colon
unfoldable pub colon_after_names : List ParserToken → Bool
colon_after_names [] = false
colon_after_names (name ∷ []) = false
colon_after_names (name ∷ mark ∷ ts) = is_class name.class class.Name && (is_class mark.class class.Colon || (is_class mark.class class.Comma && colon_after_names ts))
