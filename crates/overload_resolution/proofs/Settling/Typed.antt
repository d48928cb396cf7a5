-- Parts have the same types over the same types of what they name.
use Rattle.std.proofs.Common.{ℕ, zero, suc, List, [], ◌∷◌, reverse, Option, Some, None, refl, ap}
use Rattle.std.specs.List.{slice_index_or}
use Rattle.named_model.specs.declared.named.Signature.{Signature}
use Rattle.named_model.specs.declared.phrase.Referent.TheVariants as referent
use Rattle.named_model.specs.Phrase.{PhraseTree, refers, called, numbered, constant, bracketed, block, prefixed, chain, path, compared, implies, implies_else, quantified, bound_by_let, PhraseTrees, no_phrases, more_phrases, LinkTrees, no_links, more_links, StepTrees, no_steps, join_first, brackets_first}
use Rattle.named_model.specs.Signatures.{tops, top_of}
use Rattle.model_types.specs.Bounding.{Lists, Types, type_of, types_of, links_type, steps_type, constant_type, prefix_type, operator_type, joins, brackets_type}
use Rattle.model_types.specs.Bounds.Same.{AreSame}
use Rattle.model_types.proofs.Bounds.SameListsMade.{same, same_then, same_prefix, same_operator, same_joins}
use Rattle.overload_resolution.specs.Expressions.Types.{AreEachSame, called_type, types_within}
use Rattle.overload_resolution.proofs.Expressions.Each.{each_at, each_reverse}
use Rattle.overload_resolution.specs.Settling.Same.{AreSameTypes}

pub brackets_alike : (a b : Lists) (xs ys : List Lists) → AreSame a b → AreEachSame xs ys → AreSame (brackets_type a xs) (brackets_type b ys)
brackets_alike a b [] [] h k = h
brackets_alike a b [] (y ∷ ys) h k = absurd k
brackets_alike a b (x ∷ xs) [] h k = absurd k
brackets_alike a b (x ∷ xs) (y ∷ ys) h k = brackets_alike (joins x a) (joins y b) xs ys (same_joins x a y b k.0 h) k.1

mutual
  pub type_alike : (t u : Types) → AreSameTypes t u → (ls ms : List Lists) → AreEachSame ls ms → (x : PhraseTree) → AreSame (type_of t ls x) (type_of u ms x)
  type_alike t u s ls ms h (refers p (referent.Signature n)) = same ((top_of t.signatures n ∷ []) ∷ []) ((top_of u.signatures n ∷ []) ∷ []) (ap (λ k. (k ∷ []) ∷ []) (s.over n))
  type_alike t u s ls ms h (refers p (referent.Field n)) = s.fields n
  type_alike t u s ls ms h (refers p (referent.Shared n)) = λ q. refl
  type_alike t u s ls ms h (refers p (referent.Local n)) = each_at ls ms n h
  type_alike t u s ls ms h (called p n xs) = s.calls n (types_of t ls xs) (types_of u ms xs) (types_alike t u s ls ms h xs)
  type_alike t u s ls ms h (numbered n) = λ q. refl
  type_alike t u s ls ms h (constant c p) = same (constant_type (tops t.signatures) c) (constant_type (tops u.signatures) c) (ap (λ ks. constant_type ks c) s.at_the_top)
  type_alike t u s ls ms h (bracketed p x) = type_alike t u s ls ms h x
  type_alike t u s ls ms h (block p xs) = λ q. refl
  type_alike t u s ls ms h (prefixed f p x) =
      same_then (prefix_type (tops t.signatures) f (type_of t ls x)) (prefix_type (tops t.signatures) f (type_of u ms x)) (prefix_type (tops u.signatures) f (type_of u ms x))
      (same_prefix (tops t.signatures) f (type_of t ls x) (type_of u ms x) (type_alike t u s ls ms h x))
      (same (prefix_type (tops t.signatures) f (type_of u ms x)) (prefix_type (tops u.signatures) f (type_of u ms x)) (ap (λ ks. prefix_type ks f (type_of u ms x)) s.at_the_top))
  type_alike t u s ls ms h (chain x ks) = links_alike t u s ls ms h (type_of t ls x) (type_of u ms x) (type_alike t u s ls ms h x) ks
  type_alike t u s ls ms h (path x steps) = steps_alike t u s ls ms h (type_of t ls x) (type_of u ms x) (type_alike t u s ls ms h x) steps
  type_alike t u s ls ms h (compared a c b) = λ q. refl
  type_alike t u s ls ms h (implies a p b) = λ q. refl
  type_alike t u s ls ms h (implies_else a p b c) = λ q. refl
  type_alike t u s ls ms h (quantified k p ds x) = λ q. refl
  type_alike t u s ls ms h (bound_by_let p xs x) = λ q. refl

  pub types_alike : (t u : Types) → AreSameTypes t u → (ls ms : List Lists) → AreEachSame ls ms → (xs : PhraseTrees) → AreEachSame (types_of t ls xs) (types_of u ms xs)
  types_alike t u s ls ms h no_phrases = tt
  types_alike t u s ls ms h (more_phrases x xs) = (type_alike t u s ls ms h x, types_alike t u s ls ms h xs)

  links_alike : (t u : Types) → AreSameTypes t u → (ls ms : List Lists) → AreEachSame ls ms → (a b : Lists) → AreSame a b → (ks : LinkTrees) → AreSame (links_type t ls a ks) (links_type u ms b ks)
  links_alike t u s ls ms h a b k no_links = k
  links_alike t u s ls ms h a b k (more_links o p x ks) =
      links_alike t u s ls ms h (operator_type o a (type_of t ls x)) (operator_type o b (type_of u ms x))
      (same_operator o a (type_of t ls x) b (type_of u ms x) k (type_alike t u s ls ms h x)) ks

  steps_alike : (t u : Types) → AreSameTypes t u → (ls ms : List Lists) → AreEachSame ls ms → (a b : Lists) → AreSame a b → (steps : StepTrees) → AreSame (steps_type t ls a steps) (steps_type u ms b steps)
  steps_alike t u s ls ms h a b k no_steps = k
  steps_alike t u s ls ms h a b k (join_first p x steps) =
      steps_alike t u s ls ms h (joins a (type_of t ls x)) (joins b (type_of u ms x)) (same_joins a (type_of t ls x) b (type_of u ms x) k (type_alike t u s ls ms h x)) steps
  steps_alike t u s ls ms h a b k (brackets_first p xs steps) =
      steps_alike t u s ls ms h (brackets_type a (types_of t ls xs)) (brackets_type b (types_of u ms xs)) (brackets_alike a b (types_of t ls xs) (types_of u ms xs) k (types_alike t u s ls ms h xs)) steps

-- calls by bodies have the same types of the same arguments
pub within_alike : (signatures : List Signature) (fields : List Lists) (bodies : List (Option PhraseTree)) (k : ℕ) → AreSameTypes (types_within signatures fields bodies k) (types_within signatures fields bodies k)
within_alike signatures fields bodies zero = record { at_the_top = refl; over = λ s. refl; fields = λ f t. refl; calls = λ n xs ys h t. refl }
within_alike signatures fields bodies (suc k) = record {
  at_the_top = refl;
  over = λ s. refl;
  fields = λ f t. refl;
  calls = λ n xs ys h. go (slice_index_or bodies n None) xs ys h (within_alike signatures fields bodies k);
}
  where
    go : (body : Option PhraseTree) (xs ys : List Lists) → AreEachSame xs ys → AreSameTypes (types_within signatures fields bodies k) (types_within signatures fields bodies k)
        → AreSame (called_type (types_within signatures fields bodies k) body xs) (called_type (types_within signatures fields bodies k) body ys)
    go None xs ys h same = λ t. refl
    go (Some body) xs ys h same = type_alike (types_within signatures fields bodies k) (types_within signatures fields bodies k) same (reverse xs) (reverse ys) (each_reverse xs ys h) body
