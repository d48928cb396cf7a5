-- What one link and one step make of a type.
use Rattle.std.specs.Prelude.{List}
use Rattle.named_model.specs.Phrase.{LinkTree, StepTree, joined, in_brackets, phrases_of}
use Rattle.model_types.specs.Bounding.{Lists, Types, type_of, types_of, operator_type, joins, brackets_type}

abbrev pub link_type : Types → List Lists → Lists → LinkTree → Lists
link_type t locals a l = operator_type l.operator a (type_of t locals l.operand)

abbrev pub step_type : Types → List Lists → Lists → StepTree → Lists
step_type t locals a (joined p x) = joins a (type_of t locals x)
step_type t locals a (in_brackets p xs) = brackets_type a (types_of t locals (phrases_of xs))
