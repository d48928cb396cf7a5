-- What a part is, and what each operator wants of its operands.
use Rattle.std.specs.Prelude.{ℕ, ◌+◌, ◌-◌, ◌==◌, nat_le, List, [], ◌∷◌, Bool, true, false, if◌then◌else◌, Result, Ok, Err}
use Rattle.alloy_lex.specs.declared.token.Place.{Place}
use Rattle.alloy_syntax.specs.declared.tree.Constant.{Constant}
use Rattle.alloy_syntax.specs.declared.tree.Constant.TheVariants as constants
use Rattle.alloy_syntax.specs.declared.tree.Prefix.{Prefix}
use Rattle.alloy_syntax.specs.declared.tree.Prefix.TheVariants as prefixes
use Rattle.alloy_syntax.specs.declared.tree.Operator.{Operator}
use Rattle.alloy_syntax.specs.declared.tree.Operator.TheVariants as operator
use Rattle.alloy_syntax.specs.declared.tree.Comparison.{Comparison}
use Rattle.alloy_syntax.specs.declared.tree.Comparison.TheVariants as comparison
use Rattle.named_model.specs.Phrase.{PhraseTree, refers, called, numbered, constant, bracketed, block, prefixed, chain, path, compared, implies, implies_else, quantified, bound_by_let}
use Rattle.named_model.specs.Answers.{◌>>=◌}
use Rattle.model_types.specs.declared.fault.TypeFault.{TypeFault}
use Rattle.model_types.specs.declared.fault.TypeFault.TheVariants as fault

-- a relation of some arity, a formula, a number, or the size of a relation
pub data Kind : Type 0 where
  relation : ℕ → Kind
  formula : Kind
  number : Kind
  size : Kind

-- done, or the fault that is told
abbrev pub Checked : Type 0
Checked = Result (Unit {0}) TypeFault

abbrev pub unless : Bool → TypeFault → Checked
unless test f = if test then Ok tt else Err f

-- the first token of a part
abbrev pub first_place : PhraseTree → Place
first_place (refers p r) = p
first_place (called p n xs) = p
first_place (numbered n) = n.place
first_place (constant c p) = p
first_place (bracketed p x) = p
first_place (block p xs) = p
first_place (prefixed f p x) = p
first_place (chain x ls) = first_place x
first_place (path x steps) = first_place x
first_place (compared a c b) = first_place a
first_place (implies a p b) = first_place a
first_place (implies_else a p b c) = first_place a
first_place (quantified q p ds x) = p
first_place (bound_by_let p xs x) = p

-- ---- sorts: the part that begins at the place has to be of one

abbrev pub as_relation : Place → Kind → Result ℕ TypeFault
as_relation p (relation n) = Ok n
as_relation p other = Err (fault.Sort p)

abbrev pub as_formula : Place → Kind → Checked
as_formula p formula = Ok tt
as_formula p other = Err (fault.Sort p)

abbrev pub as_number : Place → Kind → Checked
as_number p number = Ok tt
as_number p other = Err (fault.Sort p)

-- ---- arities

abbrev pub constant_arity : Constant → ℕ
constant_arity constants.None = 1
constant_arity constants.Univ = 1
constant_arity constants.Iden = 2

-- of a join at the place
abbrev pub joined_arity : Place → ℕ → ℕ → Result ℕ TypeFault
joined_arity p m n = do
  some ← unless (nat_le 3 (m + n)) (fault.Arity p)
  few ← unless (nat_le (m + n) 5) (fault.ArityTooLarge p)
  Ok (m + n - 2)

abbrev pub same_arity : Place → ℕ → ℕ → Result ℕ TypeFault
same_arity p m n = unless (m == n) (fault.Arity p) >>= λ same. Ok m

abbrev pub binary_arity : Place → ℕ → Result ℕ TypeFault
binary_arity p n = unless (n == 2) (fault.NotBinary p) >>= λ two. Ok 2

-- of an operator at the place, between relations whose first tokens are at `left` and `right`
abbrev pub operator_arity : Operator → Place → Place → Place → ℕ → ℕ → Result ℕ TypeFault
operator_arity operator.Union p left right m n = same_arity p m n
operator_arity operator.Minus p left right m n = same_arity p m n
operator_arity operator.Meet p left right m n = same_arity p m n
operator_arity operator.Product p left right m n = unless (nat_le (m + n) 3) (fault.ArityTooLarge p) >>= λ few. Ok (m + n)
operator_arity operator.Override p left right m n = binary_arity p m >>= λ two. binary_arity p n
operator_arity operator.Domain p left right m n = unless (m == 1) (fault.NotUnary left) >>= λ one. Ok n
operator_arity operator.Range p left right m n = unless (n == 1) (fault.NotUnary right) >>= λ one. Ok m
operator_arity connective p left right m n = Err (fault.Sort left)

-- joins at the place with relations of these arities, the first one innermost
abbrev pub brackets_arity : Place → ℕ → List ℕ → Result ℕ TypeFault
brackets_arity p m [] = Ok m
brackets_arity p m (n ∷ ns) = joined_arity p n m >>= λ r. brackets_arity p r ns

-- `&&`, `||` and `<=>`, between formulas
abbrev pub is_connective : Operator → Bool
is_connective operator.Or = true
is_connective operator.And = true
is_connective operator.Iff = true
is_connective other = false

-- what a prefix at the place makes of its operand, whose first token is at `inner`
abbrev pub prefix_kind : Prefix → Place → Place → Kind → Result Kind TypeFault
prefix_kind prefixes.Not p inner k = as_formula inner k >>= λ is. Ok formula
prefix_kind prefixes.Size p inner k = as_relation inner k >>= λ n. Ok size
prefix_kind prefixes.Transpose p inner k = as_relation inner k >>= λ n. binary_arity p n >>= λ two. Ok (relation two)
prefix_kind prefixes.Closure p inner k = as_relation inner k >>= λ n. binary_arity p n >>= λ two. Ok (relation two)
prefix_kind prefixes.ReflexiveClosure p inner k = as_relation inner k >>= λ n. binary_arity p n >>= λ two. Ok (relation two)
prefix_kind counting p inner k = as_relation inner k >>= λ n. Ok formula

-- ---- comparisons: of relations, and of a size with a number

abbrev pub compares_relations : Comparison → Bool
compares_relations comparison.In = true
compares_relations comparison.Equal = true
compares_relations other = false

abbrev pub compares_sizes : Comparison → Bool
compares_sizes comparison.In = false
compares_sizes other = true

-- the left side, whose first token is at the place, can be compared so
abbrev pub may_stand_left : Comparison → Place → Kind → Checked
may_stand_left c p (relation n) = unless (compares_relations c) (fault.Sort p)
may_stand_left c p size = unless (compares_sizes c) (fault.Sort p)
may_stand_left c p other = Err (fault.Sort p)

-- the right side of a comparison at `p`, whose first token is at `right`, fits the left one
abbrev pub fits_left : Place → Place → Kind → Kind → Checked
fits_left p right (relation m) k = as_relation right k >>= λ n. same_arity p m n >>= λ same. Ok tt
fits_left p right other k = as_number right k
