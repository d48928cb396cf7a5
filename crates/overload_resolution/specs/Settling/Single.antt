-- One operand, one step, one argument and one domain by itself.
use Rattle.std.specs.Prelude.{ℕ, ◌==◌, List, [], ◌∷◌, map, Bool, true, if◌then◌else◌, Option, Some, None, Result, Ok}
use Rattle.alloy_lex.specs.declared.token.Place.{Place}
use Rattle.named_model.specs.Phrase.{PhraseTree, PhraseTrees, no_phrases, more_phrases, phrases_of, LinkTree, LinkTrees, more_links, StepTree, joined, in_brackets, StepTrees, no_steps, join_first, brackets_first}
use Rattle.named_model.specs.Answers.{◌>>=◌}
use Rattle.model_types.specs.declared.fault.TypeFault.{TypeFault}
use Rattle.model_types.specs.declared.fault.TypeFault.TheVariants as fault
use Rattle.model_types.specs.Bounding.{Lists, types_of, joins, brackets_type, operator_type}
use Rattle.model_types.specs.Sorts.{Kind, relation, formula, unless, first_place, as_relation, as_formula, is_connective, operator_arity, joined_arity, brackets_arity}
use Rattle.model_types.specs.Typing.{Declared, Local, Settled, Arguments, settled, arguments_settled, links_settled, steps_settled, formula_from, tops_behind, ends_of, types_in, type_in, local_types, is_shared}

-- ---- operands of a chain

abbrev pub link_first : LinkTree → LinkTrees → LinkTrees
link_first l ls = more_links l.operator l.place l.operand ls

-- an operator with the operand behind it, and what the chain so far is
pub record Linked : Type 0 where
  pub link : LinkTree
  pub kind : Kind

abbrev pub connected : Declared → List Local → Place → Kind → LinkTree → Result Linked TypeFault
connected d locals left k l = do
  is ← as_formula left k
  y ← formula_from l.operand (settled d locals [] l.operand)
  Ok (record { link = record { operator = l.operator; place = l.place; operand = y }; kind = formula })

abbrev pub combined : Declared → List Local → Place → Kind → Lists → LinkTree → Result Linked TypeFault
combined d locals left k a l = do
  m ← as_relation left k
  y ← settled d locals (tops_behind l.operator a) l.operand
  n ← as_relation (first_place l.operand) y.kind
  r ← operator_arity l.operator l.place left (first_place l.operand) m n
  Ok (record { link = record { operator = l.operator; place = l.place; operand = y.tree }; kind = relation r })

abbrev pub link_settled : Declared → List Local → Place → Kind → Lists → LinkTree → Result Linked TypeFault
link_settled d locals left k a l = if is_connective l.operator then connected d locals left k l else combined d locals left k a l

-- ---- steps

-- a step before others, and what the path so far is
pub record Stepped : Type 0 where
  pub before : StepTrees → StepTrees
  pub kind : Kind

abbrev pub join_settled : Declared → List Local → Place → Kind → Lists → Place → PhraseTree → Result Settled TypeFault
join_settled d locals left k a p x = do
  m ← as_relation left k
  y ← settled d locals (ends_of a) x
  n ← as_relation (first_place x) y.kind
  r ← joined_arity p m n
  Ok (record { tree = y.tree; kind = relation r })

abbrev pub brackets_settled : Declared → List Local → Place → Kind → Place → PhraseTrees → Result (PhraseTrees × Kind) TypeFault
brackets_settled d locals left k p xs = do
  m ← as_relation left k
  ys ← arguments_settled d locals xs
  r ← brackets_arity p m (map (λ n. n.0) ys.arities)
  Ok (ys.trees, relation r)

abbrev pub step_settled : Declared → List Local → Place → Kind → Lists → StepTree → Result Stepped TypeFault
step_settled d locals left k a (joined p x) = join_settled d locals left k a p x >>= λ y. Ok (record { before = join_first p y.tree; kind = y.kind })
step_settled d locals left k a (in_brackets p xs) = brackets_settled d locals left k p (phrases_of xs) >>= λ ys. Ok (record { before = brackets_first p ys.0; kind = ys.1 })

-- the type behind the first of these steps
abbrev pub type_behind : Declared → List Local → Lists → StepTrees → Lists
type_behind d locals a no_steps = a
type_behind d locals a (join_first p x steps) = joins a (type_in d locals x)
type_behind d locals a (brackets_first p xs steps) = brackets_type a (types_of (types_in d) (local_types locals) xs)

-- ---- relations

-- a part that has to be a relation, with its arity
abbrev pub relation_settled : Declared → List Local → PhraseTree → Result (PhraseTree × ℕ) TypeFault
relation_settled d locals x = settled d locals [] x >>= λ y. as_relation (first_place x) y.kind >>= λ n. Ok (y.tree, n)

abbrev pub domain_settled : Bool → Declared → List Local → PhraseTree → Result (PhraseTree × ℕ) TypeFault
domain_settled single d locals x = do
  y ← relation_settled d locals x
  one ← unless (if single then y.1 == 1 else true) (fault.NotUnary (first_place x))
  Ok y

-- ---- the head of a path

-- the first argument in brackets that come first, where the head asks for it
abbrev pub argument_first : Declared → List Local → PhraseTrees → Result (Option Settled) TypeFault
argument_first d locals no_phrases = Ok None
argument_first d locals (more_phrases x xs) = settled d locals [] x >>= λ y. Ok (Some y)

abbrev pub argument_before : Declared → List Local → StepTrees → Result (Option Settled) TypeFault
argument_before d locals no_steps = Ok None
argument_before d locals (join_first p x steps) = Ok None
argument_before d locals (brackets_first p xs steps) = argument_first d locals xs

abbrev pub argument_asked : Declared → List Local → PhraseTree → StepTrees → Result (Option Settled) TypeFault
argument_asked d locals x steps = if is_shared x then argument_before d locals steps else Ok None

-- the signatures with which its type ends
abbrev pub tops_of : Declared → List Local → Option Settled → List ℕ
tops_of d locals None = []
tops_of d locals (Some y) = ends_of (type_in d locals y.tree)

-- ---- what stands behind one of them

abbrev pub links_after : Declared → List Local → Place → Lists → LinkTrees → Linked → Result (LinkTrees × Kind) TypeFault
links_after d locals left a rest r = links_settled d locals left r.kind (operator_type r.link.operator a (type_in d locals r.link.operand)) rest >>= λ zs. Ok (link_first r.link zs.0, zs.1)

abbrev pub steps_after : Declared → List Local → Place → Lists → StepTrees → Stepped → Result (StepTrees × Kind) TypeFault
steps_after d locals left a rest r = steps_settled d locals left r.kind (type_behind d locals a (r.before no_steps)) rest >>= λ zs. Ok (r.before zs.0, zs.1)

-- an argument before others
abbrev pub with_argument : PhraseTree × ℕ → Place → Arguments → Arguments
with_argument r p ys = record { trees = more_phrases r.0 ys.trees; arities = (r.1, p) ∷ ys.arities }

-- the local name of a part
abbrev pub entered : Declared → List Local → PhraseTree × ℕ → Local
entered d locals r = record { arity = r.1; type = type_in d locals r.0 }
