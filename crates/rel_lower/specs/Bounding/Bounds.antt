-- The bounding types of bounds, and when a field has too many tuples, or a model too many relations or cells.
use Rattle.std.specs.Prelude.{◌<◌, ◌≤◌, ◌+◌, ℕ, List, [], length, None, All}
use Rattle.std.specs.List.{AllZip}
use Rattle.tuple_core.specs.Operators.{Pred}
use Rattle.tuple_core.specs.Rows.{IsRows}
use Rattle.rel_formula.specs.declared.problem.Relation.{Relation}
use Rattle.rel_formula.specs.Bounds.{cells_from, most_cells}
use Rattle.rel_formula.specs.Meaning.{HasAtLeast}
use Rattle.named_model.specs.declared.named.Signature.{Signature}
use Rattle.named_model.specs.Phrase.{PhraseTree, LinkTrees}
use Rattle.named_model.specs.Model.{NamedTree}
use Rattle.model_sizes.specs.declared.size.Size.{Size}
use Rattle.model_types.specs.Bounding.{Lists, type_of, links_type}
use Rattle.model_types.specs.Typing.{Declared, types_in}
use Rattle.lowering_rules.specs.declared.fault.LowerFault.{LowerFault}
use Rattle.lowering_rules.specs.declared.fault.LowerFault.TheVariants as fault
use Rattle.lowering_rules.specs.Relations.{outlines, IsOutlined}
use Rattle.lowering_rules.specs.Problem.{HasMoreCells}

-- these signatures and nothing else
abbrev pub alone : List Signature → Declared
alone xs = record { signatures = xs; fields = []; callee = λ n. None }

-- the lists of top-level signatures that the tuples of a bound may have
abbrev pub bound_type : List Signature → PhraseTree → Lists
bound_type xs x = type_of (types_in (alone xs)) [] x

-- and those of a chain that begins with these
abbrev pub links_type_in : List Signature → Lists → LinkTrees → Lists
links_type_in xs a ls = links_type (types_in (alone xs)) [] a ls

-- there are more tuples than there is room for; want of memory may come at any time
abbrev pub IsTooLarge : ℕ → Pred → LowerFault → Type 0
IsTooLarge room P fault.TooManyCells = HasAtLeast (room + 1) P
IsTooLarge room P fault.Memory = Unit {0}
IsTooLarge room P other = ⊥

-- the relations have the outlines of a model, and they and their cells are as few as those of a problem
pub record AreRelations (m : NamedTree) (sizes : List Size) (rs : List Relation) : Type 0 where
  pub outlined : AllZip (IsOutlined sizes) (outlines m sizes) rs
  pub sets : All (λ (r : Relation). IsRows r.lower × IsRows r.upper) rs
  pub few : length rs ≤ 128
  pub few_cells : length (cells_from 0 rs) ≤ most_cells

-- there are too many relations, or else too many cells
abbrev pub IsTooMany : NamedTree → List Size → LowerFault → Type 0
IsTooMany m sizes fault.TooManyRelations = 128 < length (outlines m sizes)
IsTooMany m sizes fault.TooManyCells = (length (outlines m sizes) ≤ 128) × HasMoreCells sizes (outlines m sizes) most_cells
IsTooMany m sizes fault.Memory = Unit {0}
IsTooMany m sizes other = ⊥
