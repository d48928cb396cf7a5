-- The fields that tables have are those that bounds declare.
use Rattle.std.proofs.Common.{◌≡◌, List, [], ◌∷◌, ◌++◌, map, length, refl, sym, subst, arith}
use Rattle.named_model.specs.Model.{FieldTree, NamedTree}
use Rattle.model_types.specs.Bounding.{Lists}
use Rattle.model_types.specs.Typing.{Field}
use Rattle.model_types.specs.Models.{signatures_alone, field_declared}
use Rattle.overload_resolution.specs.Fields.Entries.{Entry}
use Rattle.overload_resolution.specs.Expressions.Types.{AreEachSame}
use Rattle.alloy_types.specs.Declarations.Same.{AreSameFields}
use Rattle.overload_resolution.specs.Scopes.Declaring.{fields_by}
use Rattle.alloy_types.specs.Calls.Fields.{field_type, field_entry}

module _ (m : NamedTree) where
  by_bounds : (fs : List FieldTree) (ts : List Lists) → AreEachSame ts (map (field_type (signatures_alone m)) fs) → AreSameFields (fields_by (map (field_entry (signatures_alone m)) fs) ts) (map (field_declared m) fs)
  by_bounds [] ts h = tt
  by_bounds (f ∷ fs) [] h = absurd h
  by_bounds (f ∷ fs) (t ∷ ts) h = (record { names = refl; tops = refl; arities = refl; types = h.0 }, by_bounds fs ts h.1)

  pub fields_same : (fs : List FieldTree) (es : List Entry) (ts : List Lists) → es ≡ map (field_entry (signatures_alone m)) fs → AreEachSame ts (map (field_type (signatures_alone m)) fs) → AreSameFields (fields_by es ts) (map (field_declared m) fs)
  fields_same fs es ts e h = subst (λ (xs : List Entry). AreSameFields (fields_by xs ts) (map (field_declared m) fs)) (sym e) (by_bounds fs ts h)

  pub types_same : (fs : List FieldTree) (ts : List Lists) → AreEachSame ts (map (field_type (signatures_alone m)) fs) → AreEachSame ts (map (λ (f : Field). f.type) (map (field_declared m) fs))
  types_same [] [] h = tt
  types_same [] (t ∷ ts) h = absurd h
  types_same (f ∷ fs) [] h = absurd h
  types_same (f ∷ fs) (t ∷ ts) h = (h.0, types_same fs ts h.1)

pub each_length : (xs ys : List Lists) → AreEachSame xs ys → length xs ≡ length ys
each_length [] [] h = refl
each_length [] (y ∷ ys) h = absurd h
each_length (x ∷ xs) [] h = absurd h
each_length (x ∷ xs) (y ∷ ys) h = omega (arith, each_length xs ys h.1)

-- one more
pub each_more : (xs ys : List Lists) (x y : Lists) → AreEachSame xs ys → AreEachSame (x ∷ []) (y ∷ []) → AreEachSame (xs ++ x ∷ []) (ys ++ y ∷ [])
each_more [] [] x y h e = e
each_more [] (z ∷ ys) x y h e = absurd h
each_more (z ∷ xs) [] x y h e = absurd h
each_more (w ∷ xs) (z ∷ ys) x y h e = (h.0, each_more xs ys x y h.1 e)
