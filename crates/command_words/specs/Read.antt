-- The words as bytes.
use Rattle.std.specs.Prelude.{ℕ, Bool, List, codes, map, string_bytes}
use Rattle.std.specs.List.{list_any}
use Rattle.std.specs.Str.{bytes_eq}
use Rattle.std.specs.declared.string.String.{String}

-- the bytes of each word
abbrev pub texts : {Z : Type 0} → List (String Z) → List (List ℕ)
texts words = map string_bytes words

-- a word is `--`
abbrev pub has_escape : {Z : Type 0} → List (String Z) → Bool
has_escape words = list_any (λ word. bytes_eq (string_bytes word) (codes "--")) words
