-- What a text with orderings is short for: the same text, with each ordered signature exact in every command, and what each
-- ordering declares behind all paragraphs. Or the first fault of an ordering.
use Rattle.std.specs.Prelude.{ℕ, ◌+◌, ◌*◌, nat_lt, List, [], ◌∷◌, ◌++◌, map, flat_map, Bool, Option, Some, None, Result, Ok, Err}
use Rattle.alloy_syntax.specs.declared.tree.Open.{Open}
use Rattle.alloy_syntax.specs.Tree.{ModelTree, ParagraphTree, signatures, fact, predicate, function, assertion, command}
use Rattle.order_lib.specs.declared.fault.OrderFault.{OrderFault}
use Rattle.order_lib.specs.Library.{paragraphs_of}
use Rattle.order_lib.specs.Scopes.{ordered_in, with_exact}
use Rattle.order_lib.specs.Faults.{first_fault}

abbrev pub paragraphs_with : List Open → List ParagraphTree → List ParagraphTree
paragraphs_with opens ps = map (with_exact (ordered_in opens)) ps ++ flat_map paragraphs_of opens

abbrev pub with_orderings : ModelTree → ModelTree
with_orderings m = record { heading = m.heading; opens = []; paragraphs = paragraphs_with m.opens m.paragraphs }

abbrev pub unless : Option OrderFault → ModelTree → Result ModelTree OrderFault
unless None m = Ok m
unless (Some f) m = Err f

-- without an ordering a text is as it is
abbrev pub expanded : ModelTree → Result ModelTree OrderFault
expanded m = elim m.opens [ [] ↦ Ok m | first ∷ others ↦ unless (first_fault m.paragraphs m.opens) (with_orderings m) ]

-- ---- how many commands there are

abbrev pub command_count : ParagraphTree → ℕ
command_count (command kind place target scope expected) = 1
command_count (signatures is_abstract mark names parent fields) = 0
command_count (fact name block) = 0
command_count (predicate name parameters block) = 0
command_count (function name parameters mark range body) = 0
command_count (assertion name block) = 0

abbrev pub commands_in : List ParagraphTree → ℕ
commands_in [] = 0
commands_in (p ∷ ps) = command_count p + commands_in ps

-- more than 1,048,576 orderings times commands
abbrev pub are_too_many : ℕ → ℕ → Bool
are_too_many opens commands = nat_lt 1048576 (opens * commands)
