-- Arrows of a link and a step by themselves.
use Rattle.std.specs.Prelude.{Bool, ◌||◌}
use Rattle.alloy_syntax.specs.Tree.{LinkTree, StepTree, joined, in_brackets, trees_of}
use Rattle.named_model.specs.Faults.{is_product, has_arrow, some_has_arrow}

abbrev pub has_link_arrow : LinkTree → Bool
has_link_arrow l = is_product l.operator || has_arrow l.operand

abbrev pub has_step_arrow : StepTree → Bool
has_step_arrow (joined p t) = has_arrow t
has_step_arrow (in_brackets p ts) = some_has_arrow (trees_of ts)
