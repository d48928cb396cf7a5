-- What an ordering declares: a signature of one atom with the fields `First` and `Next`, a fact that makes an order of them,
-- six functions and four predicates. Each of these names has the ordering's name and a slash before it; the ordered signature,
-- the variable of a quantifier and the parameters have none. All this stands at the place of the ordering's name.
use Rattle.std.specs.Prelude.{ℕ, List, [], ◌∷◌, ◌++◌, Bool, false, Option, Some, None, codes}
use Rattle.alloy_lex.specs.declared.token.Place.{Place}
use Rattle.alloy_syntax.specs.declared.tree.Name.{Name}
use Rattle.alloy_syntax.specs.declared.tree.MultiplicityWord.{MultiplicityWord}
use Rattle.alloy_syntax.specs.declared.tree.Multiplicity.{Multiplicity}
use Rattle.alloy_syntax.specs.declared.tree.Multiplicity.TheVariants as multiplicity
use Rattle.alloy_syntax.specs.declared.tree.Quantifier.TheVariants as quantifier
use Rattle.alloy_syntax.specs.declared.tree.Prefix.{Prefix}
use Rattle.alloy_syntax.specs.declared.tree.Prefix.TheVariants as prefix
use Rattle.alloy_syntax.specs.declared.tree.Operator.{Operator}
use Rattle.alloy_syntax.specs.declared.tree.Operator.TheVariants as operator
use Rattle.alloy_syntax.specs.declared.tree.Comparison.{Comparison}
use Rattle.alloy_syntax.specs.declared.tree.Comparison.TheVariants as comparison
use Rattle.alloy_syntax.specs.declared.tree.Open.{Open}
use Rattle.alloy_syntax.specs.Tree.{Tree, named, prefixed, chain, path, compared, quantified, links_of, steps_of, joined, in_brackets, declarations_of, DeclarationTree, BoundTree, bound_named, bound_arrows, arrows_of, FieldTree, BlockTree, ParagraphTree, signatures, fact, predicate, function}

-- ---- names

abbrev pub plain : Open → List ℕ → Name
plain o text = record { text = text; place = o.alias.place }

-- a name that the ordering declares
abbrev pub own : Open → List ℕ → Name
own o word = plain o (o.alias.text ++ codes "/" ++ word)

abbrev pub ordered : Open → Name
ordered o = plain o o.signature.text

-- ---- expressions and formulas

abbrev pub variable : Open → List ℕ → Tree
variable o text = named (plain o text)

abbrev pub join : Open → Tree → Tree → Tree
join o left right = path left (steps_of (joined o.alias.place right ∷ []))

abbrev pub in_front : Open → Prefix → Tree → Tree
in_front o f operand = prefixed f o.alias.place operand

abbrev pub between : Open → Tree → Operator → Tree → Tree
between o left f right = chain left (links_of (record { operator = f; place = o.alias.place; operand = right } ∷ []))

abbrev pub compare : Open → Tree → Comparison → Tree → Tree
compare o left c right = compared left (record { comparison = c; negated = false; place = o.alias.place }) right

abbrev pub call : Open → List ℕ → List Tree → Tree
call o word arguments = path (named (own o word)) (steps_of (in_brackets o.alias.place arguments ∷ []))

-- the ordered signature
abbrev pub all_atoms : Open → Tree
all_atoms o = named (ordered o)

-- a field of the ordering's signature, behind this signature
abbrev pub own_field : Open → List ℕ → Tree
own_field o field = join o (named (own o (codes "Ord"))) (named (own o field))

-- Ord.First
abbrev pub first_atom : Open → Tree
first_atom o = own_field o (codes "First")

-- Ord.Next
abbrev pub neighbours : Open → Tree
neighbours o = own_field o (codes "Next")

-- ~(Ord.Next)
abbrev pub reversed : Open → Tree
reversed o = in_front o prefix.Transpose (neighbours o)

abbrev pub declared : Open → List Name → DeclarationTree
declared o names = record { disjoint = false; names = names; mark = None; domain = all_atoms o }

-- ---- the signature: one sig Ord { First: lone S, Next: S -> S }

abbrev pub word_at : Open → Multiplicity → Option MultiplicityWord
word_at o m = Some (record { multiplicity = m; place = o.alias.place })

abbrev pub first_field : Open → FieldTree
first_field o = record { names = own o (codes "First") ∷ []; mark = word_at o multiplicity.Lone; bound = bound_named (ordered o) }

abbrev pub pairs_bound : Open → BoundTree
pairs_bound o = bound_arrows (bound_named (ordered o)) (arrows_of (record { left = None; place = o.alias.place; right = None; side = bound_named (ordered o) } ∷ []))

abbrev pub next_field : Open → FieldTree
next_field o = record { names = own o (codes "Next") ∷ []; mark = None; bound = pairs_bound o }

abbrev pub the_signature : Open → ParagraphTree
the_signature o = signatures false (word_at o multiplicity.One) (own o (codes "Ord") ∷ []) None (first_field o ∷ next_field o ∷ [])

-- ---- the fact

abbrev pub for_all : Open → Tree → Tree
for_all o body = quantified quantifier.All o.alias.place (declarations_of (declared o (plain o (codes "x") ∷ []) ∷ [])) body

-- no Ord.Next.(Ord.First)
abbrev pub first_has_none_before : Open → Tree
first_has_none_before o = in_front o prefix.No (join o (neighbours o) (first_atom o))

-- all x: S | lone x.(Ord.Next)
abbrev pub lone_behind : Open → Tree
lone_behind o = for_all o (in_front o prefix.Lone (join o (variable o (codes "x")) (neighbours o)))

-- all x: S | lone (Ord.Next).x
abbrev pub lone_before : Open → Tree
lone_before o = for_all o (in_front o prefix.Lone (join o (neighbours o) (variable o (codes "x"))))

-- (Ord.First).*(Ord.Next)
abbrev pub from_first : Open → Tree
from_first o = join o (first_atom o) (in_front o prefix.ReflexiveClosure (neighbours o))

-- S in (Ord.First).*(Ord.Next)
abbrev pub all_from_first : Open → Tree
all_from_first o = compare o (all_atoms o) comparison.In (from_first o)

abbrev pub order_formulas : Open → List Tree
order_formulas o = first_has_none_before o ∷ lone_behind o ∷ lone_before o ∷ all_from_first o ∷ []

abbrev pub block_of : Open → List Tree → BlockTree
block_of o formulas = record { place = o.alias.place; formulas = formulas }

abbrev pub the_fact : Open → ParagraphTree
the_fact o = fact None (block_of o (order_formulas o))

-- ---- the functions

-- a function with a set for its range
abbrev pub set_of : Open → List ℕ → List DeclarationTree → Tree → ParagraphTree
set_of o word parameters body = function (own o word) parameters None (all_atoms o) body

-- S -> S
abbrev pub all_pairs : Open → Tree
all_pairs o = between o (all_atoms o) operator.Product (all_atoms o)

-- a function with pairs for its range
abbrev pub pairs_of : Open → List ℕ → Tree → ParagraphTree
pairs_of o word body = function (own o word) [] None (all_pairs o) body

-- fun first: S { Ord.First }
abbrev pub first : Open → ParagraphTree
first o = set_of o (codes "first") [] (first_atom o)

-- fun next: S -> S { Ord.Next }
abbrev pub next : Open → ParagraphTree
next o = pairs_of o (codes "next") (neighbours o)

-- fun prev: S -> S { ~(Ord.Next) }
abbrev pub prev : Open → ParagraphTree
prev o = pairs_of o (codes "prev") (reversed o)

-- (Ord.Next).S
abbrev pub followed : Open → Tree
followed o = join o (neighbours o) (all_atoms o)

-- fun last: S { S - (Ord.Next).S }
abbrev pub last : Open → ParagraphTree
last o = set_of o (codes "last") [] (between o (all_atoms o) operator.Minus (followed o))

-- the parameter e: S
abbrev pub one_atom : Open → List DeclarationTree
one_atom o = declared o (plain o (codes "e") ∷ []) ∷ []

-- e.^f
abbrev pub reached : Open → Tree → Tree
reached o f = join o (variable o (codes "e")) (in_front o prefix.Closure f)

-- fun nexts [e: S]: S { e.^(Ord.Next) }
abbrev pub nexts : Open → ParagraphTree
nexts o = set_of o (codes "nexts") (one_atom o) (reached o (neighbours o))

-- fun prevs [e: S]: S { e.^(~(Ord.Next)) }
abbrev pub prevs : Open → ParagraphTree
prevs o = set_of o (codes "prevs") (one_atom o) (reached o (reversed o))

abbrev pub values : Open → List ParagraphTree
values o = first o ∷ next o ∷ prev o ∷ last o ∷ []

abbrev pub reaches : Open → List ParagraphTree
reaches o = nexts o ∷ prevs o ∷ []

abbrev pub functions : Open → List ParagraphTree
functions o = values o ++ reaches o

-- ---- the predicates

-- the parameters a, b: S
abbrev pub two_atoms : Open → List DeclarationTree
two_atoms o = declared o (plain o (codes "a") ∷ plain o (codes "b") ∷ []) ∷ []

abbrev pub predicate_of : Open → List ℕ → Tree → ParagraphTree
predicate_of o word body = predicate (own o word) (two_atoms o) (block_of o (body ∷ []))

-- a in f[b]
abbrev pub is_in : Open → List ℕ → Tree
is_in o f = compare o (variable o (codes "a")) comparison.In (call o f (variable o (codes "b") ∷ []))

-- a = b
abbrev pub are_equal : Open → Tree
are_equal o = compare o (variable o (codes "a")) comparison.Equal (variable o (codes "b"))

-- a = b or p[a, b]
abbrev pub or_equal : Open → List ℕ → Tree
or_equal o p = between o (are_equal o) operator.Or (call o p (variable o (codes "a") ∷ variable o (codes "b") ∷ []))

-- pred lt [a, b: S] { a in prevs[b] }
abbrev pub lt : Open → ParagraphTree
lt o = predicate_of o (codes "lt") (is_in o (codes "prevs"))

-- pred gt [a, b: S] { a in nexts[b] }
abbrev pub gt : Open → ParagraphTree
gt o = predicate_of o (codes "gt") (is_in o (codes "nexts"))

-- pred lte [a, b: S] { a = b or lt[a, b] }
abbrev pub lte : Open → ParagraphTree
lte o = predicate_of o (codes "lte") (or_equal o (codes "lt"))

-- pred gte [a, b: S] { a = b or gt[a, b] }
abbrev pub gte : Open → ParagraphTree
gte o = predicate_of o (codes "gte") (or_equal o (codes "gt"))

abbrev pub predicates : Open → List ParagraphTree
predicates o = lt o ∷ gt o ∷ lte o ∷ gte o ∷ []

-- ---- all that an ordering declares

abbrev pub paragraphs_of : Open → List ParagraphTree
paragraphs_of o = (the_signature o ∷ the_fact o ∷ []) ++ functions o ++ predicates o
