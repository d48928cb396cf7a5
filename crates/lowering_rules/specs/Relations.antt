-- The relations of a problem: one for each signature and then one for each field, in order of declaration; how each is called,
-- and which tuples it has at least and at most.
use Rattle.std.specs.Prelude.{◌≡◌, ◌<◌, ◌+◌, ◌==◌, nat_lt, ℕ, List, [], ◌∷◌, ◌++◌, map, filter, length, slice_get, Bool, false, ◌&&◌, if◌then◌else◌, Some, is_none, IsTrue, Contains, bytes_eq, codes}
use Rattle.std.specs.List.{AllZip, list_any, range_with_len}
use Rattle.tuple_core.specs.declared.atom.Atom.{Atom}
use Rattle.tuple_core.specs.Operators.{Pred}
use Rattle.tuple_core.specs.Rows.{IsSetOf}
use Rattle.rel_formula.specs.declared.problem.Relation.{Relation}
use Rattle.named_model.specs.Model.{FieldTree, NamedTree}
use Rattle.named_model.specs.Signatures.{signature_at, top_of}
use Rattle.model_sizes.specs.declared.size.Size.{Size}
use Rattle.model_types.specs.Bounding.{Lists}
use Rattle.model_types.specs.Models.{bound_arity, field_declared}

-- ---- places

-- the atom is a place of this top-level signature: an atom names its signature by the place among the sizes
pub record IsPlaceOf (sizes : List Size) (signature : ℕ) (a : Atom) : Type 0 where
  pub size : Size
  pub sized : slice_get sizes a.top ≡ Some size
  pub of : size.signature ≡ signature
  pub below : a.place < size.places

-- the product of the places of each signature of the list
abbrev pub InProduct : List Size → List ℕ → Pred
InProduct sizes tops t = AllZip (IsPlaceOf sizes) tops t

-- the union of such products
abbrev pub InProducts : List Size → Lists → Pred
InProducts sizes lists t = (tops : List ℕ) × Contains lists tops × InProduct sizes tops t

-- ---- what is said of a relation

-- its name, its arity, the lists of top-level signatures that its tuples may have, and whether it has all these tuples
pub record Outline : Type 0 where
  pub name : List ℕ
  pub arity : ℕ
  pub type : Lists
  pub fixed : Bool

-- the tuples that it may have, and those that it has in each scenario
abbrev pub MayHave : List Size → Outline → Pred
MayHave sizes o = InProducts sizes o.type

abbrev pub Has : List Size → Outline → Pred
Has sizes o t = IsTrue o.fixed × MayHave sizes o t

-- whether each place of the signature is an atom of it
abbrev pub is_exact : List Size → ℕ → Bool
is_exact sizes s = list_any (λ (z : Size). (z.signature == s) && z.exact) sizes

-- a signature may have all places of its top-level signature; it has them where it is that one, and exact
abbrev pub signature_outline : NamedTree → List Size → ℕ → Outline
signature_outline m sizes s = record {
  name = (signature_at m.signatures s).name;
  arity = 1;
  type = (top_of m.signatures s ∷ []) ∷ [];
  fixed = is_none (signature_at m.signatures s).parent && is_exact sizes s;
}

-- a name that several fields have stands behind that of the signature
abbrev pub is_shared : List FieldTree → List ℕ → Bool
is_shared fields name = nat_lt 1 (length (filter (λ (f : FieldTree). bytes_eq f.name name) fields))

abbrev pub field_name : NamedTree → FieldTree → List ℕ
field_name m f = if is_shared m.fields f.name then (signature_at m.signatures f.owner).name ++ codes "." ++ f.name else f.name

-- a field may have what its bounding type allows
abbrev pub field_outline : NamedTree → FieldTree → Outline
field_outline m f = record {
  name = field_name m f;
  arity = bound_arity f.bound + 1;
  type = (field_declared m f).type;
  fixed = false;
}

abbrev pub outlines : NamedTree → List Size → List Outline
outlines m sizes = map (signature_outline m sizes) (range_with_len 0 (length m.signatures)) ++ map (field_outline m) m.fields

-- the relation is called so, and its bounds are just these tuples
pub record IsOutlined (sizes : List Size) (o : Outline) (r : Relation) : Type 0 where
  pub name : r.name ≡ o.name
  pub lower : IsSetOf r.lower o.arity (Has sizes o)
  pub upper : IsSetOf r.upper o.arity (MayHave sizes o)
