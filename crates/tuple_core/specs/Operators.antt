-- What the relational operators do, said of sets of tuples as facts of a tuple.
use Rattle.std.specs.Prelude.{◌≡◌, ◌≤◌, ◌+◌, ◌-◌, ℕ, List, [], ◌∷◌, ◌++◌, ◌⊎◌, map}
use Rattle.tuple_core.specs.declared.atom.Atom.{Atom}
use Rattle.tuple_core.specs.declared.operator.Operator.{Operator}
use Rattle.tuple_core.specs.declared.operator.Operator.TheVariants as operator
use Rattle.tuple_core.specs.declared.operator.UnaryOperator.{UnaryOperator}
use Rattle.tuple_core.specs.declared.operator.UnaryOperator.TheVariants as unary_operator
use Rattle.tuple_core.specs.Swap.{swap_atoms}

-- a set of tuples, as the fact of belonging to it
abbrev pub Pred : Type 1
Pred = List Atom → Type 0

-- the tuples of either set
abbrev pub United : Pred → Pred → Pred
United P Q t = P t ⊎ Q t

-- the tuples of P that Q has not
abbrev pub Without : Pred → Pred → Pred
Without P Q t = P t × (Q t → ⊥)

-- the tuples of both sets
abbrev pub Met : Pred → Pred → Pred
Met P Q t = P t × Q t

-- t is l without its last atom and then r without its first, where these two atoms are equal
abbrev pub JoinsTo : List Atom → List Atom → List Atom → Type 0
JoinsTo l r t = (x : List Atom) × (m : Atom) × (y : List Atom) × (l ≡ x ++ m ∷ []) × (r ≡ m ∷ y) × (t ≡ x ++ y)

-- what the tuples of P join to with those of Q
abbrev pub Joined : Pred → Pred → Pred
Joined P Q t = (l : List Atom) × (r : List Atom) × P l × Q r × JoinsTo l r t

-- each tuple of P followed by each of Q
abbrev pub Multiplied : Pred → Pred → Pred
Multiplied P Q t = (l : List Atom) × (r : List Atom) × P l × Q r × (t ≡ l ++ r)

-- the pairs of P turned round
abbrev pub Transposed : Pred → Pred
Transposed P t = (x : Atom) × (y : Atom) × P (x ∷ y ∷ []) × (t ≡ y ∷ x ∷ [])

-- from x through these atoms to y by pairs of P
abbrev pub Walk : Pred → Atom → List Atom → Atom → Type 0
Walk P x [] y = P (x ∷ y ∷ [])
Walk P x (m ∷ ms) y = P (x ∷ m ∷ []) × Walk P m ms y

-- the pairs with a walk of one or more pairs of P from the first atom to the second
abbrev pub Closed : Pred → Pred
Closed P t = (x : Atom) × (ms : List Atom) × (y : Atom) × (t ≡ x ∷ y ∷ []) × Walk P x ms y

-- x is the first atom of t
abbrev pub BeginsWith : Atom → List Atom → Type 0
BeginsWith x t = (rest : List Atom) × (t ≡ x ∷ rest)

-- x is the last atom of t
abbrev pub EndsWith : Atom → List Atom → Type 0
EndsWith x t = (before : List Atom) × (t ≡ before ++ x ∷ [])

-- some tuple of P begins with x
abbrev pub IsFirstIn : Pred → Atom → Type 0
IsFirstIn P x = (t : List Atom) × P t × BeginsWith x t

-- all of Q, and the tuples of P whose first atom is first in no tuple of Q
abbrev pub Overridden : Pred → Pred → Pred
Overridden P Q t = Q t ⊎ (P t × ((x : Atom) → BeginsWith x t → IsFirstIn Q x → ⊥))

-- the tuples of P whose first atom is in the unary set S
abbrev pub DomainIn : Pred → Pred → Pred
DomainIn S P t = P t × ((x : Atom) × BeginsWith x t × S (x ∷ []))

-- the tuples of P whose last atom is in the unary set S
abbrev pub RangeIn : Pred → Pred → Pred
RangeIn P S t = P t × ((x : Atom) × EndsWith x t × S (x ∷ []))

-- the images of the tuples of P under a map of the atoms
abbrev pub Moved : (Atom → Atom) → Pred → Pred
Moved f P t = (u : List Atom) × P u × (t ≡ map f u)

-- the tuples of P with a and b exchanged
abbrev pub Swapped : Atom → Atom → Pred → Pred
Swapped a b P = Moved (swap_atoms a b) P

-- what an operator makes of two sets
abbrev pub combined : Operator → Pred → Pred → Pred
combined operator.Union P Q = United P Q
combined operator.Minus P Q = Without P Q
combined operator.Meet P Q = Met P Q
combined operator.Product P Q = Multiplied P Q
combined operator.Join P Q = Joined P Q
combined operator.Override P Q = Overridden P Q
combined operator.Dom P Q = DomainIn P Q
combined operator.Ran P Q = RangeIn P Q

-- what it may make of them, where they may have these tuples: `minus` and `override` take nothing away
abbrev pub may_combine : Operator → Pred → Pred → Pred
may_combine operator.Union P Q = United P Q
may_combine operator.Minus P Q = P
may_combine operator.Meet P Q = Met P Q
may_combine operator.Product P Q = Multiplied P Q
may_combine operator.Join P Q = Joined P Q
may_combine operator.Override P Q = United P Q
may_combine operator.Dom P Q = DomainIn P Q
may_combine operator.Ran P Q = RangeIn P Q

-- what an operator makes of a set of pairs
abbrev pub turned : UnaryOperator → Pred → Pred
turned unary_operator.Transpose P = Transposed P
turned unary_operator.Closure P = Closed P

-- the arity of what an operator makes of two sets, from theirs
abbrev pub arity_with : Operator → ℕ → ℕ → ℕ
arity_with operator.Union n m = n
arity_with operator.Minus n m = n
arity_with operator.Meet n m = n
arity_with operator.Product n m = n + m
arity_with operator.Join n m = n + m - 2
arity_with operator.Override n m = 2
arity_with operator.Dom n m = m
arity_with operator.Ran n m = n

-- sets of these arities are operands of the operator
abbrev pub Fit : Operator → ℕ → ℕ → Type 0
Fit operator.Union n m = n ≡ m
Fit operator.Minus n m = n ≡ m
Fit operator.Meet n m = n ≡ m
Fit operator.Product n m = n + m ≤ 3
Fit operator.Join n m = (3 ≤ n + m) × (n + m ≤ 5)
Fit operator.Override n m = (n ≡ 2) × (m ≡ 2)
Fit operator.Dom n m = n ≡ 1
Fit operator.Ran n m = m ≡ 1
