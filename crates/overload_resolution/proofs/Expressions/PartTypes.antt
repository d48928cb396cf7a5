-- The type of a part by the types of what stands in it.
use Rattle.std.proofs.Common.{◌≡◌, ℕ, List, map, reverse, sym, ap, ◌∙◌, subst, Box, Vec, Global}
use Rattle.alloy_lex.specs.declared.token.Place.{Place}
use Rattle.alloy_syntax.specs.declared.tree.Constant as the_constant
use Rattle.alloy_syntax.specs.declared.tree.Prefix.{Prefix}
use Rattle.named_model.specs.declared.phrase.Referent.{Referent}
use Rattle.named_model.specs.declared.phrase.Phrase.{Phrase, Refers, Called, Constant, Bracketed, Prefixed, Chain, Path}
use Rattle.named_model.specs.declared.phrase.Link.{Link}
use Rattle.named_model.specs.declared.phrase.Step.{Step}
use Rattle.named_model.specs.Phrase.{PhraseTree, links_of, steps_of}
use Rattle.named_model.specs.Signatures.{tops}
use Rattle.named_model.specs.View.{phrase_view, phrases_view, link_view, step_view}
use Rattle.model_types.specs.Bounding.{Lists, Types, constant_type, prefix_type, type_of, types_of, links_type, steps_type, referent_type}
use Rattle.model_types.specs.Bounds.Same.{AreSame}
use Rattle.overload_resolution.specs.declared.expression_types.known.Known.{Known}
use Rattle.overload_resolution.specs.Expressions.Types.{AreEachSame, StandFor}
use Rattle.overload_resolution.proofs.Expressions.SeenPhrases.{refers_seen, called_seen, constant_seen, bracketed_seen, prefixed_seen, chain_seen, path_seen}

-- what is found is the type of a part, whatever types the tables stand for
abbrev pub IsType : Known → ℕ → List Lists → Phrase → Lists → Type 0
IsType known calls locals x found = (t : Types) (ls : List Lists) → StandFor known calls t → AreEachSame (reverse locals) ls → AreSame found (type_of t ls (phrase_view x))

module _ (known : Known) (calls inner : ℕ) (locals : List Lists) (whole : Phrase) (found : Lists) (same : inner ≡ calls) where
  there : (t : Types) → StandFor known calls t → StandFor known inner t
  there t s = subst (λ (k : ℕ). StandFor known k t) (sym same) s

  seen : (t : Types) (ls : List Lists) (x : PhraseTree) → phrase_view whole ≡ x → AreSame found (type_of t ls x) → AreSame found (type_of t ls (phrase_view whole))
  seen t ls x e h = subst (λ (y : PhraseTree). AreSame found (type_of t ls y)) (sym e) h

  pub named_whole : (p : Place) (r : Referent) → whole ≡ Refers p r
      → ((k : ℕ) (t : Types) (ls : List Lists) → StandFor known k t → AreEachSame (reverse locals) ls → AreSame found (referent_type t ls r)) → IsType known calls locals whole found
  named_whole p r is made = λ t ls s h. seen t ls _ (ap phrase_view is ∙ refers_seen p r) (made calls t ls s h)

  pub called_whole : (p : Place) (n : ℕ) (arguments : Vec Phrase Global) (slice : List Phrase) (types given : List Lists) → whole ≡ Called p n arguments → slice ≡ arguments.items → given ≡ types
      → ((t : Types) (ls : List Lists) → StandFor known inner t → AreEachSame (reverse locals) ls → AreEachSame types (types_of t ls (phrases_view slice)))
      → ((t : Types) (ys : List Lists) → StandFor known inner t → AreEachSame given ys → AreSame found (t.calls n ys)) → IsType known calls locals whole found
  called_whole p n arguments slice types given is all are each made = λ t ls s h.
      let ys = types_of t ls (phrases_view arguments.items) in
      seen t ls _ (ap phrase_view is ∙ called_seen p n arguments)
      (made t ys (there t s)
      (subst (λ (xs : List Lists). AreEachSame xs ys) (sym are)
      (subst (λ (xs : List Phrase). AreEachSame types (types_of t ls (phrases_view xs))) all (each t ls (there t s) h))))

  pub constant_whole : (c : the_constant.Constant) (p : Place) (ts : List ℕ) → whole ≡ Constant c p → ts ≡ known.tops.items → AreSame found (constant_type ts c) → IsType known calls locals whole found
  constant_whole c p ts is all made = λ t ls s h.
      seen t ls _ (ap phrase_view is ∙ constant_seen c p) (subst (λ (xs : List ℕ). AreSame found (constant_type xs c)) (all ∙ s.at_the_top) made)

  pub bracketed_whole : (p : Place) (x : Box Phrase Global) (y : Phrase) → whole ≡ Bracketed p x → y ≡ x.value → IsType known inner locals y found → IsType known calls locals whole found
  bracketed_whole p x y is one made = λ t ls s h.
      seen t ls _ (ap phrase_view is ∙ bracketed_seen p x) (subst (λ (z : Phrase). AreSame found (type_of t ls (phrase_view z))) one (made t ls (there t s) h))

  pub prefixed_whole : (f : Prefix) (p : Place) (x : Box Phrase Global) (y : Phrase) (a : Lists) (ts : List ℕ) → whole ≡ Prefixed f p x → y ≡ x.value → ts ≡ known.tops.items
      → IsType known inner locals y a → ((b : Lists) → AreSame a b → AreSame found (prefix_type ts f b)) → IsType known calls locals whole found
  prefixed_whole f p x y a ts is one all begins made = λ t ls s h.
      seen t ls _ (ap phrase_view is ∙ prefixed_seen f p x)
      (subst (λ (z : Phrase). AreSame found (prefix_type (tops t.signatures) f (type_of t ls (phrase_view z)))) one
      (subst (λ (xs : List ℕ). AreSame found (prefix_type xs f (type_of t ls (phrase_view y)))) (all ∙ s.at_the_top) (made (type_of t ls (phrase_view y)) (begins t ls (there t s) h))))

  pub chain_whole : (first : Box Phrase Global) (x : Phrase) (links : Vec Link Global) (slice : List Link) (a : Lists) → whole ≡ Chain first links → x ≡ first.value → slice ≡ links.items
      → IsType known inner locals x a
      → ((t : Types) (ls : List Lists) (y : Lists) → StandFor known inner t → AreEachSame (reverse locals) ls → AreSame a y → AreSame found (links_type t ls y (links_of (map link_view slice))))
      → IsType known calls locals whole found
  chain_whole first x links slice a is one all begins made = λ t ls s h.
      seen t ls _ (ap phrase_view is ∙ chain_seen first links)
      (subst (λ (y : Phrase). AreSame found (links_type t ls (type_of t ls (phrase_view y)) (links_of (map link_view links.items)))) one
      (subst (λ (ks : List Link). AreSame found (links_type t ls (type_of t ls (phrase_view x)) (links_of (map link_view ks)))) all
      (made t ls (type_of t ls (phrase_view x)) (there t s) h (begins t ls (there t s) h))))

  pub path_whole : (head : Box Phrase Global) (x : Phrase) (steps : Vec Step Global) (slice : List Step) (a : Lists) → whole ≡ Path head steps → x ≡ head.value → slice ≡ steps.items
      → IsType known inner locals x a
      → ((t : Types) (ls : List Lists) (y : Lists) → StandFor known inner t → AreEachSame (reverse locals) ls → AreSame a y → AreSame found (steps_type t ls y (steps_of (map step_view slice))))
      → IsType known calls locals whole found
  path_whole head x steps slice a is one all begins made = λ t ls s h.
      seen t ls _ (ap phrase_view is ∙ path_seen head steps)
      (subst (λ (y : Phrase). AreSame found (steps_type t ls (type_of t ls (phrase_view y)) (steps_of (map step_view steps.items)))) one
      (subst (λ (ks : List Step). AreSame found (steps_type t ls (type_of t ls (phrase_view x)) (steps_of (map step_view ks)))) all
      (made t ls (type_of t ls (phrase_view x)) (there t s) h (begins t ls (there t s) h))))
