-- The types of a part are the same, where they say the same of each predicate and function that it calls.
use Rattle.std.proofs.Common.{◌≡◌, ℕ, List, ◌∷◌, refl, ap}
use Rattle.named_model.specs.declared.named.Signature.{Signature}
use Rattle.named_model.specs.declared.phrase.Referent.{Referent}
use Rattle.named_model.specs.declared.phrase.Referent.TheVariants as referent
use Rattle.named_model.specs.Phrase.{PhraseTree, refers, called, numbered, constant, bracketed, block, prefixed, chain, path, compared, implies, implies_else, quantified, bound_by_let, PhraseTrees, no_phrases, more_phrases, LinkTrees, no_links, more_links, StepTrees, no_steps, join_first, brackets_first}
use Rattle.named_model.specs.Signatures.{tops}
use Rattle.model_types.specs.Bounding.{Lists, Types, type_of, types_of, links_type, steps_type, referent_type, prefix_type, operator_type, joins, brackets_type}
use Rattle.alloy_types.specs.Headers.Called.{EachCalled, EachCalledInAll, EachCalledInLinks, EachCalledInSteps}

module _ (signatures : List Signature) (fields : List Lists) (f g : ℕ → List Lists → Lists) (P : ℕ → Type 0) (agree : (n : ℕ) → P n → f n ≡ g n) where
  abbrev one : Types
  one = record { signatures = signatures; fields = fields; calls = f }

  abbrev other : Types
  other = record { signatures = signatures; fields = fields; calls = g }

  name_alike : (ls : List Lists) (r : Referent) → referent_type one ls r ≡ referent_type other ls r
  name_alike ls (referent.Signature s) = refl
  name_alike ls (referent.Field n) = refl
  name_alike ls (referent.Shared n) = refl
  name_alike ls (referent.Local i) = refl

  mutual
    pub type_alike : (ls : List Lists) (x : PhraseTree) → EachCalled P x → type_of one ls x ≡ type_of other ls x
    type_alike ls (refers p r) h = name_alike ls r
    type_alike ls (called p n xs) h = λ i. agree n h.0 i (types_alike ls xs h.1 i)
    type_alike ls (numbered n) h = refl
    type_alike ls (constant c p) h = refl
    type_alike ls (bracketed p x) h = type_alike ls x h
    type_alike ls (block p xs) h = refl
    type_alike ls (prefixed k p x) h = ap (prefix_type (tops signatures) k) (type_alike ls x h)
    type_alike ls (chain x links) h = links_alike ls links h.1 (type_of one ls x) (type_of other ls x) (type_alike ls x h.0)
    type_alike ls (path x steps) h = steps_alike ls steps h.1 (type_of one ls x) (type_of other ls x) (type_alike ls x h.0)
    type_alike ls (compared a c b) h = refl
    type_alike ls (implies a p b) h = refl
    type_alike ls (implies_else a p b c) h = refl
    type_alike ls (quantified q p ds x) h = refl
    type_alike ls (bound_by_let p xs x) h = refl

    pub types_alike : (ls : List Lists) (xs : PhraseTrees) → EachCalledInAll P xs → types_of one ls xs ≡ types_of other ls xs
    types_alike ls no_phrases h = refl
    types_alike ls (more_phrases x xs) h = λ i. type_alike ls x h.0 i ∷ types_alike ls xs h.1 i

    links_alike : (ls : List Lists) (links : LinkTrees) → EachCalledInLinks P links → (a b : Lists) → a ≡ b → links_type one ls a links ≡ links_type other ls b links
    links_alike ls no_links h a b e = e
    links_alike ls (more_links o p x links) h a b e =
        links_alike ls links h.1 (operator_type o a (type_of one ls x)) (operator_type o b (type_of other ls x)) (λ i. operator_type o (e i) (type_alike ls x h.0 i))

    steps_alike : (ls : List Lists) (steps : StepTrees) → EachCalledInSteps P steps → (a b : Lists) → a ≡ b → steps_type one ls a steps ≡ steps_type other ls b steps
    steps_alike ls no_steps h a b e = e
    steps_alike ls (join_first p x steps) h a b e =
        steps_alike ls steps h.1 (joins a (type_of one ls x)) (joins b (type_of other ls x)) (λ i. joins (e i) (type_alike ls x h.0 i))
    steps_alike ls (brackets_first p xs steps) h a b e =
        steps_alike ls steps h.1 (brackets_type a (types_of one ls xs)) (brackets_type b (types_of other ls xs)) (λ i. brackets_type (e i) (types_alike ls xs h.0 i))
