-- Where the type of what stands before asks which field a name is.
use Rattle.std.specs.Prelude.{Bool, false, ◌||◌}
use Rattle.alloy_syntax.specs.declared.tree.Operator.{Operator}
use Rattle.alloy_syntax.specs.declared.tree.Operator.TheVariants as operator
use Rattle.named_model.specs.Phrase.{PhraseTree, LinkTrees, no_links, more_links, StepTrees, no_steps, join_first, brackets_first, LinkTree, StepTree, joined, in_brackets}
use Rattle.model_types.specs.Typing.{is_shared}

abbrev pub asks_behind : Operator → PhraseTree → Bool
asks_behind operator.Domain x = is_shared x
asks_behind other x = false

abbrev pub asks_in_links : LinkTrees → Bool
asks_in_links no_links = false
asks_in_links (more_links o p x ls) = asks_behind o x || asks_in_links ls

abbrev pub asks_in_steps : StepTrees → Bool
asks_in_steps no_steps = false
asks_in_steps (join_first p x steps) = is_shared x || asks_in_steps steps
asks_in_steps (brackets_first p xs steps) = asks_in_steps steps

abbrev pub link_asks : LinkTree → Bool
link_asks l = asks_behind l.operator l.operand

abbrev pub step_asks : StepTree → Bool
step_asks (joined p x) = is_shared x
step_asks (in_brackets p xs) = false
