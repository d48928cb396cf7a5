-- The names in force at a place of a model.
use Rattle.std.specs.Prelude.{◌≡◌, ◌<◌, ◌+◌, ◌++◌, ℕ, List, [], ◌∷◌, length, map, drop, slice_index_or, if◌then◌else◌, All, AllPairs}
use Rattle.named_model.specs.Names as names
use Rattle.named_model.specs.declared.standing.Standing.{Standing}
use Rattle.named_model.specs.declared.standing.Standing.TheVariants as standing
use Rattle.name_tables.specs.Occurrence.{is_among}
use Rattle.name_tables.specs.Levels.{place_of}
use Rattle.name_tables.specs.declared.names.Entry.{Entry}

pub record InForce : Type 0 where
  pub globals : names.Globals
  pub locals : List (List ℕ)

-- the word of a number
abbrev pub word_at : List (List ℕ) → ℕ → List ℕ
word_at words number = slice_index_or words number []

-- the words where this one is met, which is put behind them if it is none of them
abbrev pub with_word : List (List ℕ) → List ℕ → List (List ℕ)
with_word words text = if names.is_among words text then words else words ++ text ∷ []

abbrev pub header_of : List (List ℕ) → Entry → names.Header
header_of words e = record { name = word_at words e.word; is_function = e.is_function; parameters = e.parameters }

-- the lists of names whose words have these numbers
abbrev pub in_force : List (List ℕ) → List ℕ → List ℕ → List Entry → List ℕ → List ℕ → InForce
in_force words signatures fields entries assertions locals = record {
  globals = record {
    signatures = map (word_at words) signatures;
    fields = map (word_at words) fields;
    callees = map (header_of words) entries;
    assertions = map (word_at words) assertions;
  };
  locals = map (word_at words) locals;
}

-- each of these is the number of a word
abbrev pub AreWords : List (List ℕ) → List ℕ → Type 0
AreWords words = All (λ x. x < length words)

pub record AreTables (words : List (List ℕ)) (signatures fields callees : List ℕ) (entries : List Entry) (assertions locals : List ℕ) : Type 0 where
  pub once : AllPairs (λ a b. a ≡ b → ⊥) words
  pub signatures_are : AreWords words signatures
  pub fields_are : AreWords words fields
  pub callees_are : AreWords words callees
  pub entries_are : map (λ (e : Entry). e.word) entries ≡ callees
  pub assertions_are : AreWords words assertions
  pub locals_are : AreWords words locals

-- what the name of the word of a number stands for, where the lists have the numbers of words
abbrev pub standing_of_word : List ℕ → List ℕ → List ℕ → List ℕ → ℕ → Standing
standing_of_word locals signatures fields callees word =
    names.or_else (place_of word locals) standing.Local
    (names.or_else (place_of word signatures) standing.Signature
    (names.or_else (place_of word fields) (λ n. if is_among (drop (n + 1) fields) word then standing.Shared n else standing.Field n)
    (names.or_else (place_of word callees) standing.Callee standing.Nothing)))

-- ---- one name more

abbrev pub with_signature : InForce → List ℕ → InForce
with_signature n text = record { globals = record { signatures = n.globals.signatures ++ text ∷ []; fields = n.globals.fields; callees = n.globals.callees; assertions = n.globals.assertions }; locals = n.locals }

abbrev pub with_field : InForce → List ℕ → InForce
with_field n text = record { globals = record { signatures = n.globals.signatures; fields = n.globals.fields ++ text ∷ []; callees = n.globals.callees; assertions = n.globals.assertions }; locals = n.locals }

abbrev pub with_callee : InForce → names.Header → InForce
with_callee n header = record { globals = record { signatures = n.globals.signatures; fields = n.globals.fields; callees = n.globals.callees ++ header ∷ []; assertions = n.globals.assertions }; locals = n.locals }

abbrev pub with_assertion : InForce → List ℕ → InForce
with_assertion n text = record { globals = record { signatures = n.globals.signatures; fields = n.globals.fields; callees = n.globals.callees; assertions = n.globals.assertions ++ text ∷ [] }; locals = n.locals }

abbrev pub with_locals : InForce → List (List ℕ) → InForce
with_locals n locals = record { globals = n.globals; locals = locals }
