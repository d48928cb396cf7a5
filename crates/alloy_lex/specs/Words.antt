-- The words and the symbols of the language.
use Rattle.std.specs.Prelude.{ℕ, List, [], ◌∷◌, ◌++◌, length, filter, ◌==◌, max, codes, Bool, nat_eq, if◌then◌else◌}
use Rattle.std.specs.List.{list_any, starts_with}
use Rattle.std.specs.Str.{bytes_eq}

-- the words that the grammar has
abbrev pub language_words : List (List ℕ)
language_words =
    codes "abstract" ∷ codes "all" ∷ codes "and" ∷ codes "as" ∷ codes "assert" ∷ codes "but" ∷ codes "check" ∷ codes "disj" ∷ codes "else" ∷ codes "exactly" ∷ codes "expect"
    ∷ codes "extends" ∷ codes "fact" ∷ codes "for" ∷ codes "fun" ∷ codes "iden" ∷ codes "iff" ∷ codes "implies" ∷ codes "in" ∷ codes "let" ∷ codes "lone" ∷ codes "module"
    ∷ codes "no" ∷ codes "none" ∷ codes "not" ∷ codes "one" ∷ codes "open" ∷ codes "or" ∷ codes "pred" ∷ codes "run" ∷ codes "set" ∷ codes "sig" ∷ codes "some" ∷ codes "univ" ∷ []

-- the words that are kept for what the language refuses
abbrev pub refused_words : List (List ℕ)
refused_words =
    codes "enum" ∷ codes "seq" ∷ codes "sum" ∷ codes "this" ∷ codes "Int" ∷ codes "String" ∷ codes "int" ∷ codes "private"
    ∷ codes "var" ∷ codes "always" ∷ codes "eventually" ∷ codes "after" ∷ codes "before" ∷ codes "historically" ∷ codes "once" ∷ codes "since" ∷ codes "until"
    ∷ codes "releases" ∷ codes "triggered" ∷ codes "steps" ∷ []

abbrev pub words : List (List ℕ)
words = language_words ++ refused_words

-- whether one of the words is spelled so
unfoldable pub is_word : List ℕ → Bool
is_word text = list_any (bytes_eq text) words

-- the words of so many letters
unfoldable pub words_of : ℕ → List (List ℕ)
words_of n = filter (λ w. length w == n) words

abbrev pub symbols : List (List ℕ)
symbols =
    codes "{" ∷ codes "}" ∷ codes "[" ∷ codes "]" ∷ codes "(" ∷ codes ")" ∷ codes "," ∷ codes ":" ∷ codes "|" ∷ codes "." ∷ codes "+" ∷ codes "-" ∷ codes "&"
    ∷ codes "->" ∷ codes "~" ∷ codes "^" ∷ codes "*" ∷ codes "++" ∷ codes "<:" ∷ codes ":>" ∷ codes "#" ∷ codes "=" ∷ codes "!=" ∷ codes "<" ∷ codes ">"
    ∷ codes "=<" ∷ codes "<=" ∷ codes ">=" ∷ codes "!" ∷ codes "&&" ∷ codes "||" ∷ codes "<=>" ∷ codes "=>" ∷ []

-- the length of the longest of these texts that stand at the front of a text, or 0 where none does
abbrev pub longest_front : List (List ℕ) → List ℕ → ℕ
longest_front [] text = 0
longest_front (s ∷ ss) text = if starts_with nat_eq text s then max (length s) (longest_front ss text) else longest_front ss text

-- how many bytes the symbol at the front takes, by longest match; 0 where no symbol begins
unfoldable pub symbol_len : List ℕ → ℕ
symbol_len text = longest_front symbols text
