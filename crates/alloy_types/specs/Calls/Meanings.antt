-- What is known of what a predicate or a function stands for.
use Rattle.std.specs.Prelude.{ℕ, List, [], Bool, false, ◌||◌, Option, Some, None}
use Rattle.named_model.specs.Phrase.{PhraseTree}
use Rattle.named_model.specs.Model.{MeaningTree, formulas, value}
use Rattle.model_types.specs.Sorts.{Kind, relation, formula}
use Rattle.model_types.specs.Typing.{Declared, Local, settled}
use Rattle.model_types.specs.Models.{kind_known}
use Rattle.overload_resolution.specs.Names.Shared.{shared_in}

-- whether a name of several fields stands in a range or a body
abbrev pub shared_in_meaning : MeaningTree → Bool
shared_in_meaning (formulas xs) = false
shared_in_meaning (value range body) = shared_in range || shared_in body

-- what a call is
abbrev pub kind_in : Declared → List Local → MeaningTree → Kind
kind_in d locals (formulas xs) = formula
kind_in d locals (value range body) = kind_known (settled d locals [] range)

-- the same, by the range, where it is a relation without a fault
abbrev pub kind_with : Option (PhraseTree × ℕ) → Kind
kind_with None = relation 1
kind_with (Some r) = relation r.1
