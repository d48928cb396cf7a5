-- The formula of a problem: what is said of each signature, of each field, by the facts, and by the command.
use Rattle.std.specs.Prelude.{ℕ, ◌+◌, ◌-◌, ◌==◌, nat_lt, List, [], ◌∷◌, ◌++◌, map, filter, length, flat_map, slice_get, slice_index_or, Bool, true, false, if◌then◌else◌, Option, Some, None, is_none}
use Rattle.std.specs.List.{range_with_len}
use Rattle.alloy_syntax.specs.declared.tree.MultiplicityWord.{MultiplicityWord}
use Rattle.alloy_syntax.specs.declared.tree.Manner.{Manner}
use Rattle.alloy_syntax.specs.declared.tree.Manner.TheVariants as manner
use Rattle.alloy_syntax.specs.declared.tree.Quantifier.TheVariants as quantifier
use Rattle.alloy_syntax.specs.declared.tree.CommandKind.{CommandKind}
use Rattle.alloy_syntax.specs.declared.tree.CommandKind.TheVariants as command_kind
use Rattle.named_model.specs.declared.named.Signature.{Signature}
use Rattle.named_model.specs.declared.named.Listing.{Listing}
use Rattle.named_model.specs.Phrase.{PhraseTree, PhraseTrees, no_phrases}
use Rattle.named_model.specs.Model.{FieldTree, CalleeTree, TargetTree, at_predicate, at_assertion, at_block, CommandTree, NamedTree}
use Rattle.named_model.specs.Signatures.{signature_at, extensions}
use Rattle.model_sizes.specs.Sizes.{listings_of, listing_for, is_alone}
use Rattle.model_types.specs.Models.{bound_arity, sides_of}
use Rattle.rel_formula.specs.Kernel.{ExpressionTree, rel, var, union, meet, product, join, FormulaTree, within, conjunction, for_all, formulas_of}
use Rattle.lowering_rules.specs.Parts.{expression_in, formula_in, true_formula, no_of, one_of, exactly, at_most, marked, negation_if}
use Rattle.lowering_rules.specs.Binders.{behind_domains, variables_in, differences_in, quantified_by}
use Rattle.lowering_rules.specs.Lowering.{Base, base_of, field_number, lowered, formulas_lowered, domains_lowered, meaning_lowered}

-- ---- signatures

-- a signature lies in its parent, and apart from what extends that one before it
abbrev pub parent_says : List Signature → ℕ → Option (Manner × ℕ) → List FormulaTree
parent_says xs s None = []
parent_says xs s (Some p) = within (rel s) (rel p.1) ∷ (elim p.0 [
  | manner.In ↦ []
  | manner.Extends ↦ map (λ q. no_of (meet (rel q) (rel s))) (filter (λ q. nat_lt q s) (extensions xs p.1))
])

-- the union of signatures, from the left
abbrev pub union_from : ExpressionTree → List ℕ → ExpressionTree
union_from e [] = e
union_from e (s ∷ ss) = union_from (union e (rel s)) ss

-- an abstract signature with extensions has nothing beside them
abbrev pub extensions_say : ℕ → List ℕ → List FormulaTree
extensions_say s [] = []
extensions_say s (e ∷ es) = within (rel s) (union_from (rel e) es) ∷ []

-- a size that is listed; a top-level signature that isn't `one` or `lone` has it by its bounds
abbrev pub listing_says : Signature → ℕ → Option Listing → List FormulaTree
listing_says x s None = []
listing_says x s (Some l) =
    if (if is_none x.parent then is_alone x.mark else true)
    then (if l.exactly then exactly l.number.value (rel s) else at_most l.number.value (rel s)) ∷ []
    else []

abbrev pub signature_says : List Signature → List Listing → ℕ → List FormulaTree
signature_says xs ls s = let x = signature_at xs s in
    parent_says xs s x.parent
    ++ (if x.is_abstract then extensions_say s (extensions xs s) else [])
    ++ marked x.mark (rel s)
    ++ listing_says x s (listing_for ls s)

-- ---- fields

-- `one` where a unary bound has no word
abbrev pub word_before : Option MultiplicityWord → ExpressionTree → List FormulaTree
word_before None e = one_of e ∷ []
word_before mark e = marked mark e

-- for each atom of the field's signature, what the word before a unary bound says of the atoms that the field r leads to
abbrev pub unary_says : ℕ → FieldTree → List FormulaTree
unary_says r f =
    if bound_arity f.bound == 1
    then map (for_all (rel f.owner)) (word_before f.mark (join (var 0) (rel r)))
    else []

-- for each atom of the field's signature and each of the left side, what the word of the right side says of the atoms that the
-- field r leads to
abbrev pub right_says : Base → ℕ → FieldTree → PhraseTree → List FormulaTree
right_says base r f left =
    map (λ g. for_all (rel f.owner) (for_all (expression_in (lowered base [] 1 left)) g)) (marked f.right (join (var 0) (join (var 1) (rel r))))

-- for each atom of the field's signature and each of the right side, what the word of the left side says of the atoms from
-- which the field r leads to it
abbrev pub left_says : Base → ℕ → FieldTree → PhraseTree → List FormulaTree
left_says base r f right =
    map (λ g. for_all (rel f.owner) (for_all (expression_in (lowered base [] 1 right)) g)) (marked f.left (join (join (var 1) (rel r)) (var 0)))

abbrev pub arrow_says : Base → ℕ → FieldTree → Option (PhraseTree × PhraseTree) → List FormulaTree
arrow_says base r f None = []
arrow_says base r f (Some sides) = right_says base r f sides.0 ++ left_says base r f sides.1

-- the field whose relation has the number r lies in the product of its signature and its bound
abbrev pub field_says : Base → ℕ → FieldTree → List FormulaTree
field_says base r f =
    within (rel r) (product (rel f.owner) (expression_in (lowered base [] 0 f.bound)))
    ∷ unary_says r f ++ arrow_says base r f (sides_of f.bound)

abbrev pub fields_say : Base → ℕ → List FieldTree → List FormulaTree
fields_say base r [] = []
fields_say base r (f ∷ fs) = field_says base r f ++ fields_say base (r + 1) fs

-- ---- facts and commands

abbrev pub block_says : Base → PhraseTrees → FormulaTree
block_says base xs = conjunction (formulas_lowered base [] 0 xs)

-- facts are numbered from 1
abbrev pub fact_says : NamedTree → Base → ℕ → FormulaTree
fact_says m base n = block_says base (slice_index_or m.facts (n - 1) no_phrases)

abbrev pub all_facts : NamedTree → List ℕ
all_facts m = range_with_len 1 (length m.facts)

-- some atoms of the domains of the parameters make the body true
abbrev pub predicate_says : Base → Option CalleeTree → FormulaTree
predicate_says base None = true_formula
predicate_says base (Some c) =
    let inner = variables_in c.parameters in
    quantified_by quantifier.Some (domains_lowered base [] 0 c.parameters) (differences_in inner 0 c.parameters)
    (formula_in (meaning_lowered base (behind_domains 0 c.parameters []) inner c.meaning))

abbrev pub target_says : NamedTree → Base → TargetTree → FormulaTree
target_says m base (at_block xs) = block_says base xs
target_says m base (at_predicate n) = predicate_says base (slice_get m.callees n)
target_says m base (at_assertion n) = block_says base (slice_index_or m.assertions n no_phrases)

abbrev pub is_check : CommandKind → Bool
is_check command_kind.Run = false
is_check command_kind.Check = true

abbrev pub command_says : NamedTree → Base → CommandTree → FormulaTree
command_says m base c = negation_if (is_check c.kind) (target_says m base c.target)

-- ---- all of it, with these facts

abbrev pub formula_of : NamedTree → CommandTree → List ℕ → FormulaTree
formula_of m c facts = let base = base_of m in conjunction (formulas_of (
    flat_map (signature_says m.signatures (listings_of c.scope)) (range_with_len 0 (length m.signatures))
    ++ fields_say base (field_number (length m.signatures) 0) m.fields
    ++ map (fact_says m base) facts
    ++ command_says m base c ∷ []))
