-- The types of calls by bodies, and the types that tables stand for.
use Rattle.std.specs.Prelude.{◌≡◌, ℕ, zero, suc, nat_le, List, [], ◌∷◌, map, reverse, slice_index_or, if◌then◌else◌, Option, Some, None, option_map}
use Rattle.named_model.specs.declared.named.Signature.{Signature}
use Rattle.named_model.specs.declared.phrase.Phrase.{Phrase}
use Rattle.named_model.specs.Phrase.{PhraseTree}
use Rattle.named_model.specs.Signatures.{tops, top_of}
use Rattle.named_model.specs.View.{phrase_view}
use Rattle.model_types.specs.Bounding.{Lists, Types, type_of}
use Rattle.model_types.specs.Parts.Tables.{entry}
use Rattle.model_types.specs.Bounds.Same.{AreSame}
use Rattle.overload_resolution.specs.declared.expression_types.known.Known.{Known}
use Rattle.overload_resolution.specs.declared.expression_types.known.KeptType.{KeptType}

-- lists of types, each the same as the other list's
abbrev pub AreEachSame : List Lists → List Lists → Type 0
AreEachSame [] [] = Unit {0}
AreEachSame (a ∷ xs) (b ∷ ys) = AreSame a b × AreEachSame xs ys
AreEachSame xs ys = ⊥

-- the type of a call of a function with that body, if it has one: the body's with the arguments in place of the parameters
abbrev pub called_type : Types → Option PhraseTree → List Lists → Lists
called_type t None arguments = []
called_type t (Some body) arguments = type_of t (reverse arguments) body

-- the type of a call, where the predicates and functions have these bodies, and only calls that are nested so many deep have
-- any type
abbrev pub calls_within : List Signature → List Lists → List (Option PhraseTree) → ℕ → ℕ → List Lists → Lists
calls_within signatures fields bodies zero n arguments = []
calls_within signatures fields bodies (suc k) n arguments =
    called_type (record { signatures = signatures; fields = fields; calls = calls_within signatures fields bodies k }) (slice_index_or bodies n None) arguments

abbrev pub types_within : List Signature → List Lists → List (Option PhraseTree) → ℕ → Types
types_within signatures fields bodies k = record { signatures = signatures; fields = fields; calls = calls_within signatures fields bodies k }

abbrev pub bodies_view : List (Option Phrase) → List (Option PhraseTree)
bodies_view = map (option_map phrase_view)

-- the type that is kept of a call without arguments, where so many calls are nested
abbrev pub kept_with : Option KeptType → ℕ → Option Lists
kept_with None calls = None
kept_with (Some v) calls = if nat_le v.calls calls then Some v.lists else None

abbrev pub kept_at : List (Option KeptType) → ℕ → ℕ → Option Lists
kept_at kept n calls = kept_with (slice_index_or kept n None) calls

-- what is kept of calls without arguments are their types
abbrev pub AreCallTypes : List Signature → List Lists → List (Option PhraseTree) → List (Option KeptType) → Type 0
AreCallTypes signatures fields bodies kept = (n k : ℕ) (a : Lists) → kept_at kept n k ≡ Some a → AreSame a (calls_within signatures fields bodies k n [])

-- the tables are those of these types, where calls are nested so many deep: each of the types is the same as the table's
pub record StandFor (known : Known) (calls : ℕ) (t : Types) : Type 0 where
  pub at_the_top : known.tops.items ≡ tops t.signatures
  pub over : (s : ℕ) → entry known.over.items s ≡ top_of t.signatures s
  pub fields : (f : ℕ) → AreSame (slice_index_or known.fields.items f []) (slice_index_or t.fields f [])
  pub of_calls : (n : ℕ) (arguments : List Lists) → AreSame (calls_within t.signatures t.fields (bodies_view known.bodies.items) calls n arguments) (t.calls n arguments)
  pub kept : AreCallTypes t.signatures t.fields (bodies_view known.bodies.items) known.kept.items
