-- The levels of precedence, one for each rule of the grammar, the loosest first.
use Rattle.std.specs.Prelude.{ℕ}
use Rattle.alloy_syntax.specs.declared.tree.Prefix.{Prefix}
use Rattle.alloy_syntax.specs.declared.tree.Prefix.TheVariants as prefix
use Rattle.alloy_syntax.specs.declared.tree.Operator.{Operator}
use Rattle.alloy_syntax.specs.declared.tree.Operator.TheVariants as operator
use Rattle.alloy_syntax.specs.Tree.{Tree, named, numbered, constant, bracketed, block, prefixed, chain, path, compared, implies, implies_else, quantified, bound_by_let, Links, no_links, more_links}

abbrev pub or_level : ℕ
or_level = 0

abbrev pub iff_level : ℕ
iff_level = 1

abbrev pub implication_level : ℕ
implication_level = 2

abbrev pub and_level : ℕ
and_level = 3

abbrev pub negation_level : ℕ
negation_level = 4

abbrev pub comparison_level : ℕ
comparison_level = 5

abbrev pub counted_level : ℕ
counted_level = 6

abbrev pub sum_level : ℕ
sum_level = 7

abbrev pub size_level : ℕ
size_level = 8

abbrev pub override_level : ℕ
override_level = 9

abbrev pub meet_level : ℕ
meet_level = 10

abbrev pub product_level : ℕ
product_level = 11

abbrev pub restrict_level : ℕ
restrict_level = 12

abbrev pub path_level : ℕ
path_level = 13

abbrev pub tight_level : ℕ
tight_level = 14

abbrev pub primary_level : ℕ
primary_level = 15

-- the level of a chain with that operator; its operands are of the next level
abbrev pub level_of_operator : Operator → ℕ
level_of_operator operator.Or = or_level
level_of_operator operator.Iff = iff_level
level_of_operator operator.And = and_level
level_of_operator operator.Union = sum_level
level_of_operator operator.Minus = sum_level
level_of_operator operator.Override = override_level
level_of_operator operator.Meet = meet_level
level_of_operator operator.Product = product_level
level_of_operator operator.Domain = restrict_level
level_of_operator operator.Range = restrict_level

abbrev pub level_of_prefix : Prefix → ℕ
level_of_prefix prefix.Not = negation_level
level_of_prefix prefix.No = counted_level
level_of_prefix prefix.Some = counted_level
level_of_prefix prefix.Lone = counted_level
level_of_prefix prefix.One = counted_level
level_of_prefix prefix.Size = size_level
level_of_prefix prefix.Transpose = tight_level
level_of_prefix prefix.Closure = tight_level
level_of_prefix prefix.ReflexiveClosure = tight_level

-- the level of what stands behind a prefix
abbrev pub level_behind : Prefix → ℕ
level_behind prefix.Not = negation_level
level_behind prefix.No = sum_level
level_behind prefix.Some = sum_level
level_behind prefix.Lone = sum_level
level_behind prefix.One = sum_level
level_behind prefix.Size = size_level
level_behind prefix.Transpose = tight_level
level_behind prefix.Closure = tight_level
level_behind prefix.ReflexiveClosure = tight_level

-- the level of a chain's operators, all of which have the one of the first
abbrev pub level_of_links : Links → ℕ
level_of_links no_links = or_level
level_of_links (more_links o p x ls) = level_of_operator o

abbrev pub level_of : Tree → ℕ
level_of (named n) = primary_level
level_of (numbered n) = primary_level
level_of (constant c p) = primary_level
level_of (bracketed p x) = primary_level
level_of (block p xs) = primary_level
level_of (prefixed f p x) = level_of_prefix f
level_of (chain x ls) = level_of_links ls
level_of (path x ss) = path_level
level_of (compared x c y) = comparison_level
level_of (implies x p y) = implication_level
level_of (implies_else x p y z) = implication_level
level_of (quantified q p ds x) = negation_level
level_of (bound_by_let p bs x) = negation_level
