-- What shared names ask for is the same.
use Rattle.std.specs.Prelude.{◌≡◌, ℕ, List, [], Bool, true, slice_index_or}
use Rattle.named_model.specs.Signatures.{tops, top_of}
use Rattle.model_types.specs.Bounding.{Lists, Types}
use Rattle.model_types.specs.Bounds.Same.{AreSame}
use Rattle.overload_resolution.specs.Fields.Alike.{AreAlike}
use Rattle.overload_resolution.specs.Expressions.Types.{AreEachSame}

-- types of the same names
pub record AreSameTypes (t u : Types) : Type 0 where
  pub at_the_top : tops t.signatures ≡ tops u.signatures
  pub over : (s : ℕ) → top_of t.signatures s ≡ top_of u.signatures s
  pub fields : (f : ℕ) → AreSame (slice_index_or t.fields f []) (slice_index_or u.fields f [])
  pub calls : (n : ℕ) (xs ys : List Lists) → AreEachSame xs ys → AreSame (t.calls n xs) (u.calls n ys)

-- the same signatures, where they are asked for
abbrev pub AreSameTops : Bool → List ℕ → List ℕ → Type 0
AreSameTops asked a b = asked ≡ true → AreAlike a b

-- a test whose truth asks
abbrev pub Asks : Bool → Bool → Type 0
Asks test asked = test ≡ true → asked ≡ true
