-- Tables of a model, as far as its predicates and functions are done.
use Rattle.std.specs.Prelude.{◌≡◌, ℕ, map, length, slice_index_or, Bool, false, None}
use Rattle.named_model.specs.Model.{NamedTree}
use Rattle.model_types.specs.Models.{signatures_alone}
use Rattle.overload_resolution.specs.Expressions.Types.{AreEachSame, bodies_view}
use Rattle.overload_resolution.specs.declared.typed_scopes.setting.Setting.{Setting}
use Rattle.overload_resolution.specs.Scopes.Declaring.{AreTables}
use Rattle.alloy_types.specs.Calls.Fields.{field_type, field_entry}
use Rattle.alloy_types.specs.Calls.Known.{AreKnown}

-- the signatures and the fields of the model
pub record HasFields (m : NamedTree) (s : Setting) : Type 0 where
  pub tables : AreTables s
  pub signatures : s.signatures.now ≡ m.signatures
  pub fields : s.fields ≡ map (field_entry (signatures_alone m)) m.fields
  pub types : AreEachSame s.types.fields.items (map (field_type (signatures_alone m)) m.fields)

-- the second has the signatures and the fields of the first, and calls as deep
pub record AreKept (old new : Setting) : Type 0 where
  pub signatures : new.signatures.now ≡ old.signatures.now
  pub fields : new.fields ≡ old.fields
  pub tops : new.types.tops.items ≡ old.types.tops.items
  pub over : new.types.over.items ≡ old.types.over.items
  pub types : new.types.fields.items ≡ old.types.fields.items
  pub calls : new.calls ≡ old.calls

-- and what is known of its predicates and functions; only of what is done a type is kept
pub record IsReady (m : NamedTree) (done : ℕ → Bool) (s : Setting) : Type 0 where
  pub fields : HasFields m s
  pub calls : s.calls ≡ length m.callees
  pub known : AreKnown m done s.headers.items (bodies_view s.types.bodies.items)
  pub as_many : length s.types.kept.items ≡ length m.callees
  pub unkept : (n : ℕ) → done n ≡ false → slice_index_or s.types.kept.items n None ≡ None
