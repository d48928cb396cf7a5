-- The sorts and arities of the parts of a body, and which field a shared name is: the tree in which no name is shared, or the
-- fault that is told. Operands are checked from left to right, and then what stands between or before them.
use Rattle.std.specs.Prelude.{ℕ, ◌+◌, ◌==◌, nat_lt, List, [], ◌∷◌, ◌++◌, map, length, replicate, filter, flat_map, slice_get, Bool, true, false, if◌then◌else◌, Option, Some, None, Result, Ok, Err, bytes_eq}
use Rattle.std.specs.List.{list_any}
use Rattle.alloy_lex.specs.declared.token.Place.{Place}
use Rattle.alloy_syntax.specs.declared.tree.Operator.{Operator}
use Rattle.alloy_syntax.specs.declared.tree.Operator.TheVariants as operator
use Rattle.named_model.specs.declared.named.Signature.{Signature}
use Rattle.named_model.specs.declared.phrase.Referent.{Referent}
use Rattle.named_model.specs.declared.phrase.Referent.TheVariants as referent
use Rattle.named_model.specs.Phrase.{PhraseTree, refers, called, numbered, constant, bracketed, block, prefixed, chain, path, compared, implies, implies_else, quantified, bound_by_let, PhraseTrees, no_phrases, more_phrases, LinkTrees, no_links, more_links, StepTrees, no_steps, join_first, brackets_first, DomainTrees, no_domains, more_domains}
use Rattle.named_model.specs.Answers.{◌>>=◌}
use Rattle.model_types.specs.declared.fault.TypeFault.{TypeFault}
use Rattle.model_types.specs.declared.fault.TypeFault.TheVariants as fault
use Rattle.model_types.specs.Bounding.{Lists, Types, type_of, types_of, end_of, joins, brackets_type, operator_type}
use Rattle.model_types.specs.Sorts.{Kind, relation, formula, number, Checked, unless, first_place, as_relation, as_formula, constant_arity, joined_arity, operator_arity, brackets_arity, is_connective, prefix_kind, may_stand_left, fits_left}

-- ---- what names stand for

-- a variable, a parameter, or a name of a `let`
pub record Local : Type 0 where
  pub arity : ℕ
  pub type : Lists

-- a field, with the top-level signature that it belongs to
pub record Field : Type 0 where
  pub name : List ℕ
  pub top : ℕ
  pub arity : ℕ
  pub type : Lists

-- a predicate or function: the arities of its parameters, as far as their domains have any; what a call is; and the type of
-- a call by those of the arguments
pub record Header : Type 0 where
  pub parameters : List (Option ℕ)
  pub kind : Kind
  pub type : List Lists → Lists

pub record Declared : Type 0 where
  pub signatures : List Signature
  pub fields : List Field
  pub callee : ℕ → Option Header

abbrev pub call_type : Option Header → List Lists → Lists
call_type None arguments = []
call_type (Some h) arguments = h.type arguments

-- what bounding types rest on
abbrev pub types_in : Declared → Types
types_in d = record { signatures = d.signatures; fields = map (λ (f : Field). f.type) d.fields; calls = λ n. call_type (d.callee n) }

abbrev pub local_types : List Local → List Lists
local_types = map (λ (l : Local). l.type)

-- the bounding type of a part
abbrev pub type_in : Declared → List Local → PhraseTree → Lists
type_in d locals x = type_of (types_in d) (local_types locals) x

-- ---- shared names

-- the signatures with which the lists end
abbrev pub ends_of : Lists → List ℕ
ends_of = flat_map end_of

-- the signatures that stand alone
abbrev pub alone_in : Lists → List ℕ
alone_in a = flat_map (λ l. l) (filter (λ l. length l == 1) a)

-- the numbers of the fields with this name that belong to one of these signatures, where the first field has the number n
abbrev pub fitting : List ℕ → List ℕ → ℕ → List Field → List ℕ
fitting tops name n [] = []
fitting tops name n (f ∷ fs) =
    if bytes_eq f.name name then (if list_any (λ t. t == f.top) tops then n ∷ fitting tops name (n + 1) fs else fitting tops name (n + 1) fs)
    else fitting tops name (n + 1) fs

abbrev pub field_name : Option Field → List ℕ
field_name None = []
field_name (Some f) = f.name

-- the one field of the name that fits
abbrev pub the_one : Place → List ℕ → Result ℕ TypeFault
the_one p (f ∷ []) = Ok f
the_one p other = Err (fault.Ambiguous p)

abbrev pub chosen : Declared → List ℕ → Place → ℕ → Result ℕ TypeFault
chosen d tops p f = the_one p (fitting tops (field_name (slice_get d.fields f)) 0 d.fields)

-- a name of several fields, in brackets or not
abbrev pub is_shared : PhraseTree → Bool
is_shared (refers p (referent.Shared f)) = true
is_shared (bracketed p x) = is_shared x
is_shared other = false

-- the signatures to which a shared name belongs that stands behind an operator: behind `<:` those in the type of its left side
abbrev pub tops_behind : Operator → Lists → List ℕ
tops_behind operator.Domain a = alone_in a
tops_behind other a = []

-- ---- parts

-- a part whose shared names are settled, and what it is
pub record Settled : Type 0 where
  pub tree : PhraseTree
  pub kind : Kind

abbrev pub is_field : Declared → Place → ℕ → Result Settled TypeFault
is_field d p f = elim (slice_get d.fields f) [
  | None ↦ Err (fault.Sort p)
  | Some field ↦ Ok (record { tree = refers p (referent.Field f); kind = relation field.arity })
]

-- what the numbers of a model without faults stand for is always there
abbrev pub referent_settled : Declared → List Local → List ℕ → Place → Referent → Result Settled TypeFault
referent_settled d locals tops p (referent.Signature s) =
    unless (nat_lt s (length d.signatures)) (fault.Sort p) >>= λ there. Ok (record { tree = refers p (referent.Signature s); kind = relation 1 })
referent_settled d locals tops p (referent.Field f) = is_field d p f
referent_settled d locals tops p (referent.Shared f) = chosen d tops p f >>= λ g. is_field d p g
referent_settled d locals tops p (referent.Local i) = elim (slice_get locals i) [
  | None ↦ Err (fault.Sort p)
  | Some l ↦ Ok (record { tree = refers p (referent.Local i); kind = relation l.arity })
]

-- arguments with their arities and first tokens
pub record Arguments : Type 0 where
  pub trees : PhraseTrees
  pub arities : List (ℕ × Place)

-- an argument is compared with its parameter where that one has an arity
abbrev pub fits : Option ℕ → ℕ → Bool
fits None n = true
fits (Some m) n = m == n

abbrev pub arguments_fit : Place → List (Option ℕ) → List (ℕ × Place) → Checked
arguments_fit p [] [] = Ok tt
arguments_fit p (m ∷ ms) (n ∷ ns) = unless (fits m n.0) (fault.Arity n.1) >>= λ fit. arguments_fit p ms ns
arguments_fit p ms ns = Err (fault.Sort p)

abbrev pub call_kind : Place → Option Header → List (ℕ × Place) → Result Kind TypeFault
call_kind p None ns = Err (fault.Sort p)
call_kind p (Some h) ns = arguments_fit p h.parameters ns >>= λ fit. Ok h.kind

-- the local of n variables with a domain
abbrev pub onto : ℕ → Local → List Local → List Local
onto n l locals = replicate n l ++ locals

-- a part that has to be a formula
abbrev pub formula_from : PhraseTree → Result Settled TypeFault → Result PhraseTree TypeFault
formula_from x answer = answer >>= λ y. as_formula (first_place x) y.kind >>= λ is. Ok y.tree

abbrev mutual
  -- a part, where a shared name in its place belongs to one of these signatures
  pub settled : Declared → List Local → List ℕ → PhraseTree → Result Settled TypeFault
  settled d locals tops (refers p r) = referent_settled d locals tops p r
  settled d locals tops (called p n xs) = do
    ys ← arguments_settled d locals xs
    k ← call_kind p (d.callee n) ys.arities
    Ok (record { tree = called p n ys.trees; kind = k })
  settled d locals tops (numbered n) = Ok (record { tree = numbered n; kind = number })
  settled d locals tops (constant c p) = Ok (record { tree = constant c p; kind = relation (constant_arity c) })
  settled d locals tops (bracketed p x) = settled d locals tops x >>= λ y. Ok (record { tree = bracketed p y.tree; kind = y.kind })
  settled d locals tops (block p xs) = formulas_settled d locals xs >>= λ ys. Ok (record { tree = block p ys; kind = formula })
  settled d locals tops (prefixed f p x) = do
    y ← settled d locals [] x
    k ← prefix_kind f p (first_place x) y.kind
    Ok (record { tree = prefixed f p y.tree; kind = k })
  settled d locals tops (chain x ls) = do
    y ← settled d locals [] x
    zs ← links_settled d locals (first_place x) y.kind (type_in d locals y.tree) ls
    Ok (record { tree = chain y.tree zs.0; kind = zs.1 })
  settled d locals tops (path x steps) = do
    inner ← (if is_shared x then tops_in d locals steps else Ok [])
    y ← settled d locals inner x
    zs ← steps_settled d locals (first_place x) y.kind (type_in d locals y.tree) steps
    Ok (record { tree = path y.tree zs.0; kind = zs.1 })
  settled d locals tops (compared a c b) = do
    y ← settled d locals [] a
    left ← may_stand_left c.comparison (first_place a) y.kind
    z ← settled d locals [] b
    right ← fits_left c.place (first_place b) y.kind z.kind
    Ok (record { tree = compared y.tree c z.tree; kind = formula })
  settled d locals tops (implies a p b) = do
    y ← formula_from a (settled d locals [] a)
    z ← formula_from b (settled d locals [] b)
    Ok (record { tree = implies y p z; kind = formula })
  settled d locals tops (implies_else a p b c) = do
    x ← formula_from a (settled d locals [] a)
    y ← formula_from b (settled d locals [] b)
    z ← formula_from c (settled d locals [] c)
    Ok (record { tree = implies_else x p y z; kind = formula })
  settled d locals tops (quantified q p ds x) = do
    es ← domains_settled true d locals ds
    y ← formula_from x (settled d es.1 [] x)
    Ok (record { tree = quantified q p es.0 y; kind = formula })
  settled d locals tops (bound_by_let p xs x) = do
    ys ← values_settled d locals xs
    z ← formula_from x (settled d ys.1 [] x)
    Ok (record { tree = bound_by_let p ys.0 z; kind = formula })

  pub formulas_settled : Declared → List Local → PhraseTrees → Result PhraseTrees TypeFault
  formulas_settled d locals no_phrases = Ok no_phrases
  formulas_settled d locals (more_phrases x xs) = formula_from x (settled d locals [] x) >>= λ y. formulas_settled d locals xs >>= λ ys. Ok (more_phrases y ys)

  pub arguments_settled : Declared → List Local → PhraseTrees → Result Arguments TypeFault
  arguments_settled d locals no_phrases = Ok (record { trees = no_phrases; arities = [] })
  arguments_settled d locals (more_phrases x xs) = do
    y ← settled d locals [] x
    n ← as_relation (first_place x) y.kind
    ys ← arguments_settled d locals xs
    Ok (record { trees = more_phrases y.tree ys.trees; arities = (n, first_place x) ∷ ys.arities })

  -- the links of a chain whose operands so far begin at a place, and are of a kind and a type
  pub links_settled : Declared → List Local → Place → Kind → Lists → LinkTrees → Result (LinkTrees × Kind) TypeFault
  links_settled d locals left k a no_links = Ok (no_links, k)
  links_settled d locals left k a (more_links o p x ls) =
      if is_connective o
      then (as_formula left k >>= λ is. formula_from x (settled d locals [] x) >>= λ y. links_settled d locals left formula [] ls >>= λ zs. Ok (more_links o p y zs.0, zs.1))
      else (do
        m ← as_relation left k
        y ← settled d locals (tops_behind o a) x
        n ← as_relation (first_place x) y.kind
        r ← operator_arity o p left (first_place x) m n
        zs ← links_settled d locals left (relation r) (operator_type o a (type_in d locals y.tree)) ls
        Ok (more_links o p y.tree zs.0, zs.1))

  -- the steps behind an expression that begins at a place, and is of a kind and a type
  pub steps_settled : Declared → List Local → Place → Kind → Lists → StepTrees → Result (StepTrees × Kind) TypeFault
  steps_settled d locals left k a no_steps = Ok (no_steps, k)
  steps_settled d locals left k a (join_first p x steps) = do
    m ← as_relation left k
    y ← settled d locals (ends_of a) x
    n ← as_relation (first_place x) y.kind
    r ← joined_arity p m n
    zs ← steps_settled d locals left (relation r) (joins a (type_in d locals y.tree)) steps
    Ok (join_first p y.tree zs.0, zs.1)
  steps_settled d locals left k a (brackets_first p xs steps) = do
    m ← as_relation left k
    ys ← arguments_settled d locals xs
    r ← brackets_arity p m (map (λ n. n.0) ys.arities)
    zs ← steps_settled d locals left (relation r) (brackets_type a (types_of (types_in d) (local_types locals) ys.trees)) steps
    Ok (brackets_first p ys.trees zs.0, zs.1)

  -- the signatures to which a shared name before these steps belongs: those with which its first argument in brackets ends
  pub tops_in : Declared → List Local → StepTrees → Result (List ℕ) TypeFault
  tops_in d locals no_steps = Ok []
  tops_in d locals (join_first p x steps) = Ok []
  tops_in d locals (brackets_first p xs steps) = first_ends d locals xs

  pub first_ends : Declared → List Local → PhraseTrees → Result (List ℕ) TypeFault
  first_ends d locals no_phrases = Ok []
  first_ends d locals (more_phrases x xs) = settled d locals [] x >>= λ y. Ok (ends_of (type_in d locals y.tree))

  -- domains, which have to be unary where they are a quantifier's, and the locals behind them
  pub domains_settled : Bool → Declared → List Local → DomainTrees → Result (DomainTrees × List Local) TypeFault
  domains_settled single d locals no_domains = Ok (no_domains, locals)
  domains_settled single d locals (more_domains disjoint n mark x ds) = do
    y ← settled d locals [] x
    m ← as_relation (first_place x) y.kind
    one ← unless (if single then m == 1 else true) (fault.NotUnary (first_place x))
    zs ← domains_settled single d (onto n (record { arity = m; type = type_in d locals y.tree }) locals) ds
    Ok (more_domains disjoint n mark y.tree zs.0, zs.1)

  -- the values of a `let`, and the locals behind them
  pub values_settled : Declared → List Local → PhraseTrees → Result (PhraseTrees × List Local) TypeFault
  values_settled d locals no_phrases = Ok (no_phrases, locals)
  values_settled d locals (more_phrases x xs) = do
    y ← settled d locals [] x
    n ← as_relation (first_place x) y.kind
    zs ← values_settled d (record { arity = n; type = type_in d locals y.tree } ∷ locals) xs
    Ok (more_phrases y.tree zs.0, zs.1)
