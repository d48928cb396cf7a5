-- Which terminal of the grammar a token is.
use Rattle.std.specs.Prelude.{ℕ, List, [], ◌∷◌, Bool, ◌==◌, bytes_eq, map, if◌then◌else◌}
use Rattle.alloy_lex.specs.declared.token.Token.{Token}
use Rattle.alloy_lex.specs.declared.token.TokenKind.{TokenKind}
use Rattle.alloy_lex.specs.declared.token.TokenKind.TheVariants as kinds
use Rattle.alloy_syntax.specs.declared.class.Class.{Class}
use Rattle.alloy_syntax.specs.declared.class.TheConstants.{WORDS, SYMBOLS}
use Rattle.alloy_syntax.specs.declared.class.Class.TheVariants.{Name, Path, Number, LeftBrace, RightBrace, LeftBracket, RightBracket, LeftParen, RightParen, Comma, Colon, Bar, Dot, Plus, Minus, Ampersand, Arrow, Tilde, Caret, Star, PlusPlus, DomainArrow, RangeArrow, Hash, Equal, NotEqual, Less, Greater, AtMost, AtLeast, Not, And}
use Rattle.alloy_syntax.specs.declared.class.Class.TheVariants.{Or, Iff, Implies, Abstract, All, As, Assert, But, Check, Disj, Else, Exactly, Expect, Extends, Fact, For, Fun, Iden, In, Let, Lone, Module, No, None, One, Open, Pred, Run, Set, Sig, Some, Univ, Refused}

-- the terminal that the table has for a text; what it doesn't have is refused
unfoldable pub class_in : List (List ℕ × Class) → List ℕ → Class
class_in [] text = Refused
class_in (entry ∷ entries) text = if bytes_eq entry.0 text then entry.1 else class_in entries text

-- the tables of the words and of the symbols
abbrev pub words : List (List ℕ × Class)
words = map (λ entry. (entry.0.now, entry.1)) WORDS

abbrev pub symbols : List (List ℕ × Class)
symbols = map (λ entry. (entry.0.now, entry.1)) SYMBOLS

abbrev pub class_at : TokenKind → List ℕ → Class
class_at kinds.Name text = Name
class_at kinds.Path text = Path
class_at kinds.Number text = Number
class_at kinds.Word text = class_in words text
class_at kinds.Symbol text = class_in symbols text

-- a name, a path and a number are terminals whatever they spell; a word and a symbol are by what they spell
unfoldable pub class_of : Token → Class
class_of t = class_at t.kind t.text

-- a number for each terminal, for tests
abbrev pub code_of : Class → ℕ
code_of Name = 0
code_of Path = 1
code_of Number = 2
code_of LeftBrace = 3
code_of RightBrace = 4
code_of LeftBracket = 5
code_of RightBracket = 6
code_of LeftParen = 7
code_of RightParen = 8
code_of Comma = 9
code_of Colon = 10
code_of Bar = 11
code_of Dot = 12
code_of Plus = 13
code_of Minus = 14
code_of Ampersand = 15
code_of Arrow = 16
code_of Tilde = 17
code_of Caret = 18
code_of Star = 19
code_of PlusPlus = 20
code_of DomainArrow = 21
code_of RangeArrow = 22
code_of Hash = 23
code_of Equal = 24
code_of NotEqual = 25
code_of Less = 26
code_of Greater = 27
code_of AtMost = 28
code_of AtLeast = 29
code_of Not = 30
code_of And = 31
code_of Or = 32
code_of Iff = 33
code_of Implies = 34
code_of Abstract = 35
code_of All = 36
code_of As = 37
code_of Assert = 38
code_of But = 39
code_of Check = 40
code_of Disj = 41
code_of Else = 42
code_of Exactly = 43
code_of Expect = 44
code_of Extends = 45
code_of Fact = 46
code_of For = 47
code_of Fun = 48
code_of Iden = 49
code_of In = 50
code_of Let = 51
code_of Lone = 52
code_of Module = 53
code_of No = 54
code_of None = 55
code_of One = 56
code_of Open = 57
code_of Pred = 58
code_of Run = 59
code_of Set = 60
code_of Sig = 61
code_of Some = 62
code_of Univ = 63
code_of Refused = 64

-- two terminals are one
unfoldable pub is_class : Class → Class → Bool
is_class c d = code_of c == code_of d
