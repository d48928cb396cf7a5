-- The bounding type of an expression: the lists of top-level signatures that its tuples may have, whatever each signature
-- and each field holds. Nothing is taken away by a difference or an override.
use Rattle.std.specs.Prelude.{ℕ, ◌-◌, List, [], ◌∷◌, ◌++◌, map, length, reverse, take, drop, filter, flat_map, slice_index_or, Bool, if◌then◌else◌, bytes_eq}
use Rattle.std.specs.List.{list_any}
use Rattle.alloy_syntax.specs.declared.tree.Constant.{Constant}
use Rattle.alloy_syntax.specs.declared.tree.Constant.TheVariants as constants
use Rattle.alloy_syntax.specs.declared.tree.Prefix.{Prefix}
use Rattle.alloy_syntax.specs.declared.tree.Prefix.TheVariants as prefixes
use Rattle.alloy_syntax.specs.declared.tree.Operator.{Operator}
use Rattle.alloy_syntax.specs.declared.tree.Operator.TheVariants as operator
use Rattle.named_model.specs.declared.named.Signature.{Signature}
use Rattle.named_model.specs.declared.phrase.Referent.{Referent}
use Rattle.named_model.specs.declared.phrase.Referent.TheVariants as referent
use Rattle.named_model.specs.Phrase.{PhraseTree, refers, called, constant, bracketed, prefixed, chain, path, PhraseTrees, no_phrases, more_phrases, LinkTrees, no_links, more_links, StepTrees, no_steps, join_first, brackets_first}
use Rattle.named_model.specs.Signatures.{tops, top_of}

-- lists of top-level signatures
abbrev pub Lists : Type 0
Lists = List (List ℕ)

-- ---- operators

-- whether the list is one of these
abbrev pub has : Lists → List ℕ → Bool
has ls l = list_any (bytes_eq l) ls

-- the last signature of a list, and the first, as lists of one
abbrev pub end_of : List ℕ → List ℕ
end_of l = drop (length l - 1) l

abbrev pub start_of : List ℕ → List ℕ
start_of l = take 1 l

-- each list of the one followed by each of the other
abbrev pub products : Lists → Lists → Lists
products a b = flat_map (λ l. map (λ r. l ++ r) b) a

-- a list without its last signature, followed by another without its first, where these two are one
abbrev pub joined : List ℕ → List ℕ → Lists
joined l r = if bytes_eq (end_of l) (start_of r) then (take (length l - 1) l ++ drop 1 r) ∷ [] else []

abbrev pub joins : Lists → Lists → Lists
joins a b = flat_map (λ l. flat_map (joined l) b) a

abbrev pub meet : Lists → Lists → Lists
meet a b = filter (has b) a

abbrev pub starting_in : Lists → Lists → Lists
starting_in s a = filter (λ l. has s (start_of l)) a

abbrev pub ending_in : Lists → Lists → Lists
ending_in a s = filter (λ l. has s (end_of l)) a

-- the pairs between which one can go by pairs of these, by way of these signatures alone
abbrev pub through : List ℕ → Lists → Lists
through [] a = a
through (k ∷ ks) a = through ks (a ++ joins (ending_in a ((k ∷ []) ∷ [])) (starting_in ((k ∷ []) ∷ []) a))

-- each of these signatures alone, and each beside itself
abbrev pub singles : List ℕ → Lists
singles = map (λ s. s ∷ [])

abbrev pub doubles : List ℕ → Lists
doubles = map (λ s. s ∷ s ∷ [])

abbrev pub constant_type : List ℕ → Constant → Lists
constant_type ts constants.None = []
constant_type ts constants.Univ = singles ts
constant_type ts constants.Iden = doubles ts

abbrev pub prefix_type : List ℕ → Prefix → Lists → Lists
prefix_type ts prefixes.Transpose a = map reverse a
prefix_type ts prefixes.Closure a = through ts a
prefix_type ts prefixes.ReflexiveClosure a = through ts a ++ doubles ts
prefix_type ts prefix a = []

abbrev pub operator_type : Operator → Lists → Lists → Lists
operator_type operator.Union a b = a ++ b
operator_type operator.Minus a b = a
operator_type operator.Meet a b = meet a b
operator_type operator.Product a b = products a b
operator_type operator.Override a b = a ++ b
operator_type operator.Domain a b = starting_in a b
operator_type operator.Range a b = ending_in a b
operator_type connective a b = []

-- joins with what stands in brackets, the first one innermost
abbrev pub brackets_type : Lists → List Lists → Lists
brackets_type a [] = a
brackets_type a (b ∷ bs) = brackets_type (joins b a) bs

-- ---- expressions

-- the signatures, the types of the fields, and the type of a call of the predicate or function of a number, by the types of
-- its arguments
pub record Types : Type 0 where
  pub signatures : List Signature
  pub fields : List Lists
  pub calls : ℕ → List Lists → Lists

-- a shared name has no type of its own
abbrev pub referent_type : Types → List Lists → Referent → Lists
referent_type t locals (referent.Signature s) = (top_of t.signatures s ∷ []) ∷ []
referent_type t locals (referent.Field f) = slice_index_or t.fields f []
referent_type t locals (referent.Shared f) = []
referent_type t locals (referent.Local i) = slice_index_or locals i []

abbrev mutual
  -- the type of an expression, by those of the local names; of a formula or a number, nothing
  pub type_of : Types → List Lists → PhraseTree → Lists
  type_of t locals (refers p r) = referent_type t locals r
  type_of t locals (called p n xs) = t.calls n (types_of t locals xs)
  type_of t locals (constant c p) = constant_type (tops t.signatures) c
  type_of t locals (bracketed p x) = type_of t locals x
  type_of t locals (prefixed f p x) = prefix_type (tops t.signatures) f (type_of t locals x)
  type_of t locals (chain x ls) = links_type t locals (type_of t locals x) ls
  type_of t locals (path x steps) = steps_type t locals (type_of t locals x) steps
  type_of t locals formula = []

  pub types_of : Types → List Lists → PhraseTrees → List Lists
  types_of t locals no_phrases = []
  types_of t locals (more_phrases x xs) = type_of t locals x ∷ types_of t locals xs

  -- of a chain that begins with lists of this type
  pub links_type : Types → List Lists → Lists → LinkTrees → Lists
  links_type t locals a no_links = a
  links_type t locals a (more_links o p x ls) = links_type t locals (operator_type o a (type_of t locals x)) ls

  pub steps_type : Types → List Lists → Lists → StepTrees → Lists
  steps_type t locals a no_steps = a
  steps_type t locals a (join_first p x steps) = steps_type t locals (joins a (type_of t locals x)) steps
  steps_type t locals a (brackets_first p xs steps) = steps_type t locals (brackets_type a (types_of t locals xs)) steps
