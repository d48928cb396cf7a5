-- Where reading stops, as the fault that is answered.
use Rattle.std.specs.Prelude.{ℕ, ◌≡◌, ◌+◌, ◌-◌, List, [], ◌∷◌, length, codes, slice_get, if◌then◌else◌, Option, Some, None, Result, Err}
use Rattle.alloy_lex.specs.declared.token.Place.{Place}
use Rattle.alloy_lex.specs.declared.token.Token.{Token}
use Rattle.alloy_syntax.specs.declared.class.Class.TheVariants as class
use Rattle.alloy_syntax.specs.Class.{is_class}
use Rattle.alloy_syntax.specs.declared.parser_token.ParserToken.{ParserToken}
use Rattle.alloy_syntax.specs.declared.reading.Form.{Form}
use Rattle.alloy_syntax.specs.declared.reading.Form.TheVariants as form
use Rattle.alloy_syntax.specs.Tree.{ModelTree}
use Rattle.alloy_syntax.specs.Readers.{ParseStopView, refused, too_deep, unsupported}
use Rattle.alloy_parse.specs.declared.fault.ParseFault.{ParseFault}
use Rattle.alloy_parse.specs.declared.fault.ParseFault.TheVariants as fault

-- just behind a token; the first place of a text, where there is none
abbrev pub place_behind : Option Token → Place
place_behind None = record { line = 1; column = 1 }
place_behind (Some t) = record { line = t.place.line; column = t.place.column + length t.text }

-- just behind the last token
abbrev pub end_of : List Token → Place
end_of ts = place_behind (slice_get ts (length ts - 1))

-- the word of a refused form
abbrev pub word_of : Form → List ℕ
word_of form.Comprehension = codes "comprehension"
word_of form.Appended = codes "appended"
word_of form.ArrowMultiplicity = codes "arrow_multiplicity"
word_of form.Several = codes "several"
word_of form.Open = codes "open"

-- a token that can't stand there: a word that the language refuses, or another
abbrev pub refusal_of : ParserToken → ParseFault
refusal_of t = if is_class t.class class.Refused then fault.Unsupported t.place t.text else fault.Unexpected t.place

-- the place of the next token, or just behind the last
abbrev pub place_of : List Token → List ParserToken → Place
place_of all [] = end_of all
place_of all (t ∷ ts) = t.place

-- the fault where reading stops, of all the tokens
abbrev pub fault_of : List Token → ParseStopView → ParseFault
fault_of all (refused []) = fault.EndOfText (end_of all)
fault_of all (refused (t ∷ ts)) = refusal_of t
fault_of all (too_deep ts) = fault.TooDeep (place_of all ts)
fault_of all (unsupported form ts) = fault.Unsupported (place_of all ts) (word_of form)

-- the fault where that reading stops
pub record IsFaultOf (all : List Token) (f : ParseFault) (read : Result ModelTree ParseStopView) : Type 0 where
  pub stop : ParseStopView
  pub stops : read ≡ Err stop
  pub shown : f ≡ fault_of all stop

-- no memory, or the fault where that reading stops
abbrev pub Refuses : List Token → ParseFault → Result ModelTree ParseStopView → Type 0
Refuses all fault.Memory read = Unit {0}
Refuses all (fault.Unexpected place) read = IsFaultOf all (fault.Unexpected place) read
Refuses all (fault.EndOfText place) read = IsFaultOf all (fault.EndOfText place) read
Refuses all (fault.Unsupported place word) read = IsFaultOf all (fault.Unsupported place word) read
Refuses all (fault.TooDeep place) read = IsFaultOf all (fault.TooDeep place) read
