-- Declarations that say the same, in whatever order their types have the lists.
use Rattle.std.specs.Prelude.{◌≡◌, ℕ, List, [], ◌∷◌, Option, Some, None}
use Rattle.model_types.specs.Bounding.{Lists}
use Rattle.model_types.specs.Typing.{Local, Field, Header, Declared}
use Rattle.model_types.specs.Bounds.Same.{AreSame}
use Rattle.overload_resolution.specs.Expressions.Types.{AreEachSame}

pub record IsSameField (a b : Field) : Type 0 where
  pub names : a.name ≡ b.name
  pub tops : a.top ≡ b.top
  pub arities : a.arity ≡ b.arity
  pub types : AreSame a.type b.type

abbrev pub AreSameFields : List Field → List Field → Type 0
AreSameFields [] [] = Unit {0}
AreSameFields (a ∷ xs) (b ∷ ys) = IsSameField a b × AreSameFields xs ys
AreSameFields xs ys = ⊥

pub record IsSameLocal (a b : Local) : Type 0 where
  pub arities : a.arity ≡ b.arity
  pub types : AreSame a.type b.type

abbrev pub AreSameLocals : List Local → List Local → Type 0
AreSameLocals [] [] = Unit {0}
AreSameLocals (a ∷ xs) (b ∷ ys) = IsSameLocal a b × AreSameLocals xs ys
AreSameLocals xs ys = ⊥

pub record IsSameHeader (h k : Header) : Type 0 where
  pub parameters : h.parameters ≡ k.parameters
  pub kinds : h.kind ≡ k.kind
  pub types : (xs ys : List Lists) → AreEachSame xs ys → AreSame (h.type xs) (k.type ys)

abbrev pub AreSameHeaders : Option Header → Option Header → Type 0
AreSameHeaders None None = Unit {0}
AreSameHeaders (Some h) (Some k) = IsSameHeader h k
AreSameHeaders h k = ⊥

pub record AreSameDeclared (d e : Declared) : Type 0 where
  pub signatures : d.signatures ≡ e.signatures
  pub fields : AreSameFields d.fields e.fields
  pub callees : (n : ℕ) → AreSameHeaders (d.callee n) (e.callee n)
