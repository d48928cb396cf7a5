-- What contracts see of a part that was settled.
use Rattle.std.specs.Prelude.{ℕ, Option, Some, None, Result, Ok, Err}
use Rattle.alloy_lex.specs.declared.token.Place.{Place}
use Rattle.named_model.specs.declared.phrase.Phrase.{Phrase}
use Rattle.named_model.specs.declared.phrase.Referent.TheVariants as referent
use Rattle.named_model.specs.Phrase.{refers}
use Rattle.named_model.specs.View.{phrase_view}
use Rattle.model_types.specs.declared.fault.TypeFault.{TypeFault}
use Rattle.model_types.specs.declared.fault.TypeFault.TheVariants as fault
use Rattle.model_types.specs.Sorts.{relation}
use Rattle.model_types.specs.Typing.{Settled}
use Rattle.model_types.specs.declared.part_sorts.kinds.Kind.{Kind}
use Rattle.model_types.specs.Parts.Kinds.{kind_view}

-- a tree, and what the part is
abbrev pub settled_view : Phrase × Kind → Settled
settled_view r = record { tree = phrase_view r.0; kind = kind_view r.1 }

-- what the field of a number is, by its arity if it has one
abbrev pub field_with : Place → ℕ → Option ℕ → Result Settled TypeFault
field_with p n None = Err (fault.Sort p)
field_with p n (Some m) = Ok (record { tree = refers p (referent.Field n); kind = relation m })
