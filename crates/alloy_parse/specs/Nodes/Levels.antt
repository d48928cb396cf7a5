-- The levels of operators, from `||` down to `<:` and `:>`.
use Rattle.std.specs.Prelude.{ℕ}
use Rattle.alloy_syntax.specs.declared.reading.Around.{Around}
use Rattle.alloy_syntax.specs.declared.reading.Level.{Level}
use Rattle.alloy_syntax.specs.declared.reading.Level.TheVariants as level
use Rattle.alloy_syntax.specs.Tree.{Tree}
use Rattle.alloy_syntax.specs.Readers.{Parser}
use Rattle.alloy_syntax.specs.Nodes.{Reader, iff_over, implication_over, negation_over, size_over, meet_over, arrows_over, path_over}

-- what stands between the operators of a level
abbrev pub operand_over : Level → Reader → Around → Parser Tree
operand_over level.Or i a = iff_over i a
operand_over level.Iff i a = implication_over i a
operand_over level.And i a = negation_over i a
operand_over level.Sum i a = size_over i a
operand_over level.Override i a = meet_over i a
operand_over level.Meet i a = arrows_over i a
operand_over level.Restrict i a = path_over i a

-- how many levels bind more tightly
abbrev pub levels_below : Level → ℕ
levels_below level.Or = 6
levels_below level.Iff = 5
levels_below level.And = 4
levels_below level.Sum = 3
levels_below level.Override = 2
levels_below level.Meet = 1
levels_below level.Restrict = 0
