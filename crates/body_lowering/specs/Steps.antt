-- What a step of a path makes of the part before it.
use Rattle.std.specs.Prelude.{ℕ, List}
use Rattle.named_model.specs.Phrase.{StepTree, joined, in_brackets, phrases_of}
use Rattle.lowering_rules.specs.Parts.{Lowered, relation, expression_in, join_lowered, brackets_lowered}
use Rattle.lowering_rules.specs.Binders.{Local}
use Rattle.lowering_rules.specs.Lowering.{Base, lowered, expressions_lowered}

abbrev pub step_lowered : Base → List Local → ℕ → Lowered → StepTree → Lowered
step_lowered base locals d x (joined p y) = join_lowered x (lowered base locals d y)
step_lowered base locals d x (in_brackets p ys) = relation (brackets_lowered (expression_in x) (expressions_lowered base locals d (phrases_of ys)))
