-- The bodies of functions, in which no name is shared.
use Rattle.std.specs.Prelude.{◌≡◌, ℕ, ◌<◌, List, [], map, reverse, length, slice_get, Option, Some, None, Result, Ok, Err}
use Rattle.named_model.specs.Phrase.{PhraseTree}
use Rattle.named_model.specs.Model.{MeaningTree, formulas, value, CalleeTree, NamedTree}
use Rattle.model_types.specs.declared.fault.TypeFault.{TypeFault}
use Rattle.model_types.specs.Typing.{Local, Declared, Settled, settled}
use Rattle.model_types.specs.Models.{or_unknown, domains_known, parameters_known, declared_in}

abbrev pub tree_of : Result Settled TypeFault → Option PhraseTree
tree_of (Ok y) = Some y.tree
tree_of (Err e) = None

-- the local names in a body
abbrev pub locals_of : Declared → CalleeTree → List Local
locals_of d c = reverse (map or_unknown (parameters_known (domains_known d [] c.parameters)))

-- a predicate has none, and a function none with a fault in it
abbrev pub body_in : Declared → List Local → MeaningTree → Option PhraseTree
body_in d locals (formulas xs) = None
body_in d locals (value range body) = tree_of (settled d locals [] body)

abbrev pub body_of : Declared → CalleeTree → Option PhraseTree
body_of d c = body_in d (locals_of d c) c.meaning

abbrev pub bodies_of : NamedTree → List (Option PhraseTree)
bodies_of m = map (body_of (declared_in m)) m.callees

-- so that no call is nested deeper than there are predicates and functions
abbrev pub AreLow : NamedTree → (ℕ → ℕ) → Type 0
AreLow m rank = (n : ℕ) (c : CalleeTree) → slice_get m.callees n ≡ Some c → rank n < length m.callees
