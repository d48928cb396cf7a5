-- The fields that bounds declare.
use Rattle.std.specs.Prelude.{◌+◌, [], ◌∷◌}
use Rattle.named_model.specs.Model.{FieldTree}
use Rattle.named_model.specs.Signatures.{top_of}
use Rattle.model_types.specs.Bounding.{Lists, products}
use Rattle.model_types.specs.Typing.{Declared, type_in}
use Rattle.model_types.specs.Models.{bound_arity}
use Rattle.overload_resolution.specs.Fields.Entries.{Entry}

abbrev pub field_type : Declared → FieldTree → Lists
field_type d f = products ((top_of d.signatures f.owner ∷ []) ∷ []) (type_in d [] f.bound)

abbrev pub field_entry : Declared → FieldTree → Entry
field_entry d f = record { name = f.name; top = top_of d.signatures f.owner; arity = bound_arity f.bound + 1 }
