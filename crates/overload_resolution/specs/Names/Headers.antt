-- Headers, and what arguments owe to them.
use Rattle.std.specs.Prelude.{ℕ, List, Option, Some, None, Err}
use Rattle.alloy_lex.specs.declared.token.Place.{Place}
use Rattle.model_types.specs.declared.fault.TypeFault.TheVariants as fault
use Rattle.model_types.specs.Bounding.{Lists}
use Rattle.model_types.specs.Sorts.{Checked, unless}
use Rattle.model_types.specs.Typing as typing
use Rattle.model_types.specs.Typing.{fits}
use Rattle.model_types.specs.Parts.Kinds.{kind_view}
use Rattle.overload_resolution.specs.declared.shared_names.headers.Header.{Header}

-- a header where calls have this type
abbrev pub with_type : (List Lists → Lists) → Header → typing.Header
with_type type h = record { parameters = h.parameters.items; kind = kind_view h.kind; type = type }

-- an argument and its parameter, if there is one
abbrev pub argument_fits : Place → Option (Option ℕ) → ℕ × Place → Checked
argument_fits p None n = Err (fault.Sort p)
argument_fits p (Some m) n = unless (fits m n.0) (fault.Arity n.1)
