-- What is known of predicates and functions, as far as they are done.
use Rattle.std.specs.Prelude.{◌≡◌, ℕ, List, [], length, Bool, true, false, Option, Some, None, slice_get, slice_index_or}
use Rattle.named_model.specs.Phrase.{PhraseTree}
use Rattle.named_model.specs.Model.{CalleeTree, NamedTree}
use Rattle.model_types.specs.Typing as typing
use Rattle.model_types.specs.Typing.{type_in}
use Rattle.model_types.specs.Bounds.Same.{AreSame}
use Rattle.model_types.specs.Models.{header_of, declared_in}
use Rattle.model_types.specs.Parts.Kinds.{kind_view}
use Rattle.overload_resolution.specs.declared.expression_types.known.KeptType.{KeptType}
use Rattle.overload_resolution.specs.declared.shared_names.headers.Header.{Header}
use Rattle.alloy_types.specs.Headers.Bodies.{bodies_of}

-- a header with these parameters, and of this kind
abbrev pub IsHeader : Option Header → typing.Header → Type 0
IsHeader None h = ⊥
IsHeader (Some g) h = (g.parameters.items ≡ h.parameters) × (kind_view g.kind ≡ h.kind)

-- what is kept of a call of a function with this body, where so many calls may be nested
abbrev pub IsKept : typing.Declared → ℕ → Option PhraseTree → KeptType → Type 0
IsKept d calls None k = ⊥
IsKept d calls (Some x) k = (k.calls ≡ calls) × AreSame k.lists (type_in d [] x)

-- what is done has its header and its body, and nothing else has a body
pub record AreKnown (m : NamedTree) (done : ℕ → Bool) (headers : List Header) (bodies : List (Option PhraseTree)) : Type 0 where
  pub headers_long : length headers ≡ length m.callees
  pub bodies_long : length bodies ≡ length m.callees
  pub each_header : (n : ℕ) (c : CalleeTree) → slice_get m.callees n ≡ Some c → done n ≡ true → IsHeader (slice_get headers n) (header_of (declared_in m) c)
  pub each_body : (n : ℕ) → done n ≡ true → slice_index_or bodies n None ≡ slice_index_or (bodies_of m) n None
  pub unknown : (n : ℕ) → done n ≡ false → slice_index_or bodies n None ≡ None
