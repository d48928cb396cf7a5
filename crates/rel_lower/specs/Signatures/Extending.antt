-- What extends a signature, one signature after the other.
use Rattle.std.specs.Prelude.{ℕ, List, [], ◌∷◌, Bool, if◌then◌else◌, Option, Some, None}
use Rattle.named_model.specs.declared.named.Listing.{Listing}
use Rattle.rel_formula.specs.Kernel.{ExpressionTree, rel, union, meet, FormulaTree}
use Rattle.lowering_rules.specs.Parts.{no_of, exactly, at_most}
use Rattle.lowering_rules.specs.Formula.{union_from}

-- two signatures have no atom in common
abbrev pub apart : ℕ → ℕ → FormulaTree
apart s q = no_of (meet (rel q) (rel s))

-- one signature more
abbrev pub united : Option ExpressionTree → ℕ → ExpressionTree
united None q = rel q
united (Some e) q = union e (rel q)

-- the union of some signatures, if there are any
abbrev pub union_of : List ℕ → Option ExpressionTree
union_of [] = None
union_of (s ∷ ss) = Some (union_from (rel s) ss)

-- what a listed size says of an expression
abbrev pub size_says : Bool → ℕ → ExpressionTree → FormulaTree
size_says is_exact n e = if is_exact then exactly n e else at_most n e

-- the size that a listing gives
abbrev pub size_in : Listing → Bool × ℕ
size_in l = (l.exactly, l.number.value)
