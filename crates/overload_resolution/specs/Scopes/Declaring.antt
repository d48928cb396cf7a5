-- What tables say is declared.
use Rattle.std.specs.Prelude.{◌≡◌, ◌≤◌, ℕ, List, [], ◌∷◌, length, slice_get, None, option_map}
use Rattle.named_model.specs.declared.named.Signature.{Signature}
use Rattle.named_model.specs.Signatures.{tops, top_of}
use Rattle.model_types.specs.Bounding.{Lists, Types}
use Rattle.model_types.specs.Typing.{Field, Declared}
use Rattle.model_types.specs.Parts.Tables.{entry}
use Rattle.overload_resolution.specs.Fields.Entries.{Entry}
use Rattle.overload_resolution.specs.Names.Headers.{with_type}
use Rattle.overload_resolution.specs.Expressions.Types.{types_within, bodies_view, AreCallTypes}
use Rattle.overload_resolution.specs.declared.typed_scopes.setting.Setting.{Setting}

abbrev pub field_by : Entry → Lists → Field
field_by e t = record { name = e.name; top = e.top; arity = e.arity; type = t }

-- each field with its type
abbrev pub fields_by : List Entry → List Lists → List Field
fields_by [] ts = []
fields_by (e ∷ es) [] = field_by e [] ∷ fields_by es []
fields_by (e ∷ es) (t ∷ ts) = field_by e t ∷ fields_by es ts

-- what types rest on
abbrev pub types_by : Setting → Types
types_by s = types_within s.signatures.now s.types.fields.items (bodies_view s.types.bodies.items) s.calls

-- what is declared
abbrev pub declared_by : Setting → Declared
declared_by s = record {
  signatures = s.signatures.now;
  fields = fields_by s.fields s.types.fields.items;
  callee = λ n. option_map (with_type ((types_by s).calls n)) (slice_get s.headers.items n);
}

-- signatures, and nothing else
abbrev pub alone : List Signature → Declared
alone signatures = record { signatures = signatures; fields = []; callee = λ n. None }

-- the tables are those of the signatures; each field has a type, what has a body has a header, and what is kept of calls are
-- their types
pub record AreTables (s : Setting) : Type 0 where
  pub at_the_top : s.types.tops.items ≡ tops s.signatures.now
  pub over : (n : ℕ) → entry s.types.over.items n ≡ top_of s.signatures.now n
  pub fields : length s.types.fields.items ≡ length s.fields
  pub callees : length s.types.bodies.items ≤ length s.headers.items
  pub kept : AreCallTypes s.signatures.now s.types.fields.items (bodies_view s.types.bodies.items) s.types.kept.items
