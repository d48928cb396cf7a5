-- What it is that a text reads as tokens: said of the text and the tokens, and not of how they are found.
use Rattle.std.specs.Prelude.{◌≡◌, ◌≤◌, ◌<◌, ℕ, ◌+◌, List, [], ◌∷◌, ◌++◌, length, codes, Bool, true, false, IsTrue, nat_eq, slice_index, take, fold, encode_utf8_all, ◌==◌, if◌then◌else◌}
use Rattle.std.specs.List.{list_all, list_any, starts_with, slice_range}
use Rattle.std.specs.Str.{bytes_eq}
use Rattle.alloy_lex.specs.declared.token.Place.{Place}
use Rattle.alloy_lex.specs.declared.token.Token.{Token}
use Rattle.alloy_lex.specs.declared.token.TokenKind.{TokenKind}
use Rattle.alloy_lex.specs.declared.token.TokenKind.TheVariants as kind
use Rattle.alloy_lex.specs.declared.token.LexFault.{LexFault}
use Rattle.alloy_lex.specs.declared.token.LexFault.TheVariants as fault
use Rattle.alloy_lex.specs.declared.lexing.Spot.{Spot}
use Rattle.alloy_lex.specs.Words.{is_word, symbols}
use Rattle.alloy_lex.specs.Fronts.{is_space, is_letter, is_digit, is_name_byte, is_in_line, line_feed, slash, number_from}
use Rattle.alloy_lex.specs.Tokens.{next_line, next_column, after_bytes, passed, token_end, origin}

-- ---- what separates tokens

-- a text that ends here, or goes on with a byte that does not pass
abbrev pub Ends : (ℕ → Bool) → List ℕ → Type 0
Ends p [] = Unit {0}
Ends p (b ∷ bs) = p b ≡ false

-- each byte passes, and what follows does not go on
abbrev pub IsRun : (ℕ → Bool) → List ℕ → List ℕ → Type 0
IsRun p text rest = IsTrue (list_all p text) × Ends p rest

-- `*/` stands at the end, and nowhere before
pub record IsClosed (body : List ℕ) : Type 0 where
  pub inner : List ℕ
  pub closed : body ≡ inner ++ codes "*/"
  pub first : (before after : List ℕ) → body ≡ before ++ (codes "*/" ++ after) → after ≡ []

-- white space and comments, before what follows: a comment to the end of its line, or one that is closed
pub data Separates : List ℕ → List ℕ → Type 0 where
  nothing : {rest : List ℕ} → Separates [] rest
  space : {b : ℕ} {gap rest : List ℕ} → IsTrue (is_space b) → Separates gap rest → Separates (b ∷ gap) rest
  slashes : (body gap : List ℕ) {rest : List ℕ} → IsRun is_in_line body (gap ++ rest) → Separates gap rest → Separates (codes "//" ++ (body ++ gap)) rest
  dashes : (body gap : List ℕ) {rest : List ℕ} → IsRun is_in_line body (gap ++ rest) → Separates gap rest → Separates (codes "--" ++ (body ++ gap)) rest
  block : (body gap : List ℕ) {rest : List ℕ} → IsClosed body → Separates gap rest → Separates (codes "/*" ++ (body ++ gap)) rest

-- ---- what a token is

abbrev pub IsSymbol : List ℕ → Type 0
IsSymbol text = IsTrue (list_any (bytes_eq text) symbols)

-- no symbol that begins there is longer
abbrev pub IsLongest : List ℕ → List ℕ → Type 0
IsLongest text rest = (s : List ℕ) → IsSymbol s → IsTrue (starts_with nat_eq (text ++ rest) s) → length s ≤ length text

-- a letter and what may follow it in names, as long as it goes, which is no word
abbrev pub IsName : List ℕ → List ℕ → Type 0
IsName text rest = IsTrue (is_letter (slice_index text 0)) × IsRun is_name_byte text rest × (is_word text ≡ false)

-- no slash and name stand there
abbrev pub NoSecond : List ℕ → Type 0
NoSecond text = (name rest : List ℕ) → text ≡ slash ∷ (name ++ rest) → IsName name rest → ⊥

-- two names with a slash between
pub record IsPath (text rest : List ℕ) : Type 0 where
  pub first : List ℕ
  pub second : List ℕ
  pub parts : text ≡ first ++ (slash ∷ second)
  pub first_is : IsName first (slash ∷ (second ++ rest))
  pub second_is : IsName second rest

-- a text is a token of this kind, before what follows: the longest there, and no comment begins there
abbrev pub IsToken : TokenKind → List ℕ → List ℕ → Type 0
IsToken kind.Name text rest = IsName text rest × NoSecond rest
IsToken kind.Path text rest = IsPath text rest
IsToken kind.Word text rest = IsTrue (is_letter (slice_index text 0)) × IsRun is_name_byte text rest × (is_word text ≡ true)
IsToken kind.Number text rest = IsTrue (is_digit (slice_index text 0)) × IsRun is_digit text rest × (number_from 0 text ≤ 1000)
IsToken kind.Symbol text rest = IsSymbol text × IsLongest text rest × (starts_with nat_eq (text ++ rest) (codes "--") ≡ false)

-- ---- readings

-- a token is the next of a text, which goes on with the rest: it stands behind a gap, at the spot and the place there
pub record IsNext (at : Spot) (text gap rest : List ℕ) (t : Token) : Type 0 where
  pub whole : text ≡ gap ++ (t.text ++ rest)
  pub separated : Separates gap (t.text ++ rest)
  pub longest : IsToken t.kind t.text rest
  pub start : t.start ≡ at.start + length gap
  pub place : t.place ≡ after_bytes at.place gap

-- a text, from a spot on, reads as these tokens
abbrev pub Reads : Spot → List ℕ → List Token → Type 0
Reads at text [] = Separates text []
Reads at text (t ∷ ts) = (gap : List ℕ) × (rest : List ℕ) × IsNext at text gap rest t × Reads (passed (passed at gap) t.text) rest ts

-- ---- places

-- where a text goes on after one character more
abbrev pub after_character : Place → ℕ → Place
after_character p c = if c == line_feed then next_line p else next_column p

-- the place after these characters of a text
abbrev pub place_after : List ℕ → Place
place_after cs = fold after_character origin.place cs

-- ---- where a text has no more tokens

-- a text, from a spot on, reads as these tokens and a gap, before what follows
abbrev pub ReadsBefore : Spot → List ℕ → List Token → List ℕ → Type 0
ReadsBefore at text [] rest = (gap : List ℕ) × (text ≡ gap ++ rest) × Separates gap rest
ReadsBefore at text (t ∷ ts) rest = (gap : List ℕ) × (after : List ℕ) × IsNext at text gap after t × ReadsBefore (passed (passed at gap) t.text) after ts rest

-- a comment begins that nothing closes
pub record IsOpen (text : List ℕ) : Type 0 where
  pub body : List ℕ
  pub opened : text ≡ codes "/*" ++ body
  pub never_closed : (before after : List ℕ) → body ≡ before ++ (codes "*/" ++ after) → ⊥

-- a number begins that is above a thousand
pub record IsTooLarge (text : List ℕ) : Type 0 where
  pub digits : List ℕ
  pub rest : List ℕ
  pub parts : text ≡ digits ++ rest
  pub first : IsTrue (is_digit (slice_index digits 0))
  pub run : IsRun is_digit digits rest
  pub large : 1000 < number_from 0 digits

-- a character stands there, and no white space, comment, number or other token begins with it
pub record IsBad (text : List ℕ) : Type 0 where
  pub some : 0 < length text
  pub no_gap : (gap rest : List ℕ) → text ≡ gap ++ rest → Separates gap rest → gap ≡ []
  pub no_token : (k : TokenKind) (token rest : List ℕ) → text ≡ token ++ rest → IsToken k token rest → ⊥
  pub no_comment : (body : List ℕ) → text ≡ codes "/*" ++ body → ⊥
  pub no_digit : is_digit (slice_index text 0) ≡ false

-- a fault of that kind and at that place, where the rest of a text begins
abbrev pub IsFaultAt : LexFault → Place → List ℕ → Type 0
IsFaultAt (fault.BadCharacter p) place rest = (p ≡ place) × IsBad rest
IsFaultAt (fault.OpenComment p) place rest = (p ≡ place) × IsOpen rest
IsFaultAt (fault.NumberTooLarge p) place rest = (p ≡ place) × IsTooLarge rest
IsFaultAt fault.Memory place rest = ⊥

-- a text reads up to a place as tokens and what separates them, and there is that fault; the place counts the lines and the characters before it
pub record IsRefused (text : List ℕ) (e : LexFault) : Type 0 where
  pub before : List ℕ
  pub rest : List ℕ
  pub parts : text ≡ before ++ rest
  pub tokens : List Token
  pub reads : ReadsBefore origin text tokens rest
  pub place : Place
  pub counts : (cs : List ℕ) → encode_utf8_all cs ≡ before → place ≡ place_after cs
  pub fault : IsFaultAt e place rest

-- ---- what follows from a reading

-- each token is the slice of the text from its start to its end, which has a byte, and they stand in order
abbrev pub AreSlices : List ℕ → ℕ → List Token → Type 0
AreSlices text from [] = Unit {0}
AreSlices text from (t ∷ ts) = (from ≤ t.start) × (0 < length t.text) × (token_end t ≤ length text) × (t.text ≡ slice_range text t.start (token_end t)) × AreSlices text (token_end t) ts

-- the place of each token counts the lines and the characters before it
abbrev pub ArePlaced : List ℕ → List Token → Type 0
ArePlaced text [] = Unit {0}
ArePlaced text (t ∷ ts) = ((cs : List ℕ) → encode_utf8_all cs ≡ take t.start text → t.place ≡ place_after cs) × ArePlaced text ts

-- a token lies within a text of the greatest length, and so does its place
pub record IsSized (t : Token) : Type 0 where
  pub end : token_end t ≤ 1048576
  pub line : t.place.line ≤ 1048577
  pub column : t.place.column ≤ 1048577

abbrev pub AreSized : List Token → Type 0
AreSized [] = Unit {0}
AreSized (t ∷ ts) = IsSized t × AreSized ts
