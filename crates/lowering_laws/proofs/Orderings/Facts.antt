-- The fact of an ordering and its fields, as they are lowered.
use Rattle.std.specs.Prelude.{codes}
use Rattle.std.proofs.Common.{◌≡◌, ℕ, false, List, [], ◌∷◌, None, refl}
use Rattle.alloy_lex.specs.declared.token.Place.{Place}
use Rattle.alloy_syntax.specs.declared.tree.Prefix.TheVariants as prefix
use Rattle.alloy_syntax.specs.declared.tree.Quantifier.TheVariants as quantifier
use Rattle.alloy_syntax.specs.declared.tree.Comparing.{Comparing}
use Rattle.alloy_syntax.specs.declared.tree.Comparison.TheVariants as comparison
use Rattle.alloy_syntax.specs.declared.tree.Open.{Open}
use Rattle.alloy_syntax.specs.Tree.{trees_of}
use Rattle.named_model.specs.declared.phrase.Referent.TheVariants as referent
use Rattle.named_model.specs.declared.standing.Standing.TheVariants as standing
use Rattle.named_model.specs.Phrase.{PhraseTree, refers, prefixed, path, compared, quantified, PhraseTrees, no_phrases, more_phrases, no_steps, join_first, no_domains, more_domains}
use Rattle.named_model.specs.Names.{Globals, named_as, with_steps, standing_of, resolved, all_resolved}
use Rattle.model_types.specs.Typing.{Declared, formulas_settled}
use Rattle.model_types.specs.Models.{or_same}
use Rattle.rel_formula.specs.Kernel.{formulas_of}
use Rattle.lowering_rules.specs.Lowering.{Base, field_number, formulas_lowered}
use Rattle.order_lib.specs.Library as library
use Rattle.order_lib.specs.Library.{own}
use Rattle.lowering_laws.specs.Orders.{fact_says}
use Rattle.lowering_laws.proofs.Orderings.Settled.{StaysSo, StayAll, or_stays, signature_stays, field_stays, local_stays, prefixed_stays, join_stays, compared_stays, quantified_stays, none_stay, more_stay}

-- ---- the fact, with its names tied to these numbers: the ordered signature, the ordering's own, and its two fields

module _ (p : Place) (a b : ℕ) where
  abbrev pub signature_phrase : PhraseTree
  signature_phrase = refers p (referent.Signature a)

  abbrev pub variable_phrase : PhraseTree
  variable_phrase = refers p (referent.Local 0)

  abbrev pub field_phrase : ℕ → PhraseTree
  field_phrase k = path (refers p (referent.Signature b)) (join_first p (refers p (referent.Field k)) no_steps)

  abbrev pub join_phrase : PhraseTree → PhraseTree → PhraseTree
  join_phrase x y = path x (join_first p y no_steps)

  abbrev pub all_phrase : PhraseTree → PhraseTree
  all_phrase x = quantified quantifier.All p (more_domains false 1 None signature_phrase no_domains) x

  abbrev pub in_here : Comparing
  in_here = record { comparison = comparison.In; negated = false; place = p }

  abbrev pub fact_phrases : ℕ → ℕ → PhraseTrees
  fact_phrases i j =
      more_phrases (prefixed prefix.No p (join_phrase (field_phrase j) (field_phrase i)))
      (more_phrases (all_phrase (prefixed prefix.Lone p (join_phrase variable_phrase (field_phrase j))))
      (more_phrases (all_phrase (prefixed prefix.Lone p (join_phrase (field_phrase j) variable_phrase)))
      (more_phrases (compared signature_phrase in_here (join_phrase (field_phrase i) (prefixed prefix.ReflexiveClosure p (field_phrase j)))) no_phrases)))

  -- ---- it stays as it is, whatever its types

  module _ (d : Declared) where
    pub field_phrase_stays : (k : ℕ) → StaysSo d (field_phrase k)
    field_phrase_stays k = join_stays d (refers p (referent.Signature b)) p (refers p (referent.Field k)) (signature_stays d p b) (field_stays d p k)

    pub joined_stays : (x y : PhraseTree) → StaysSo d x → StaysSo d y → StaysSo d (join_phrase x y)
    joined_stays x y left right = join_stays d x p y left right

    all_stays : (x : PhraseTree) → StaysSo d x → StaysSo d (all_phrase x)
    all_stays x same = quantified_stays d quantifier.All p false 1 None signature_phrase x (signature_stays d p a) same

    fact_stays : (i j : ℕ) → StayAll d (fact_phrases i j)
    fact_stays i j =
        let first = field_phrase_stays i in
        let next = field_phrase_stays j in
        let x = local_stays d p 0 in
        let none = prefixed_stays d prefix.No p (join_phrase (field_phrase j) (field_phrase i)) (joined_stays (field_phrase j) (field_phrase i) next first) in
        let behind = all_stays (prefixed prefix.Lone p (join_phrase variable_phrase (field_phrase j))) (prefixed_stays d prefix.Lone p (join_phrase variable_phrase (field_phrase j)) (joined_stays variable_phrase (field_phrase j) x next)) in
        let before = all_stays (prefixed prefix.Lone p (join_phrase (field_phrase j) variable_phrase)) (prefixed_stays d prefix.Lone p (join_phrase (field_phrase j) variable_phrase) (joined_stays (field_phrase j) variable_phrase next x)) in
        let steps = prefixed_stays d prefix.ReflexiveClosure p (field_phrase j) next in
        let all = compared_stays d signature_phrase in_here (join_phrase (field_phrase i) (prefixed prefix.ReflexiveClosure p (field_phrase j))) (signature_stays d p a) (joined_stays (field_phrase i) (prefixed prefix.ReflexiveClosure p (field_phrase j)) first steps) in
        more_stay d _ _ none (more_stay d _ _ behind (more_stay d _ _ before (more_stay d _ _ all (none_stay d))))

    pub fact_settled : (i j : ℕ) → or_same (formulas_settled d []) (fact_phrases i j) ≡ fact_phrases i j
    fact_settled i j = or_stays (formulas_settled d []) (fact_phrases i j) (λ ys e. fact_stays i j [] ys e)

  -- ---- what it becomes

  pub fact_lowered : (base : Base) (i j : ℕ) →
      formulas_lowered base [] 0 (fact_phrases i j) ≡ formulas_of (fact_says (record { signature = a; own = b; first = field_number base.signatures i; next = field_number base.signatures j }))
  fact_lowered base i j = refl

-- ---- the fact of the tree

module _ (g : Globals) (o : Open) (a b i j : ℕ) where
  abbrev p : Place
  p = o.alias.place

  -- what its names stand for behind these local names
  pub record Stand (locals : List (List ℕ)) : Type 0 where
    pub own_is : standing_of g locals (own o (codes "Ord")).text ≡ standing.Signature b
    pub first_is : standing_of g locals (own o (codes "First")).text ≡ standing.Field i
    pub next_is : standing_of g locals (own o (codes "Next")).text ≡ standing.Field j

  pub first_resolved : (locals : List (List ℕ)) → Stand locals → resolved g locals (library.first_atom o) ≡ field_phrase p a b i
  first_resolved locals is = λ k. with_steps g (named_as p (is.own_is k)) (join_first p (named_as p (is.first_is k)) no_steps)

  pub next_resolved : (locals : List (List ℕ)) → Stand locals → resolved g locals (library.neighbours o) ≡ field_phrase p a b j
  next_resolved locals is = λ k. with_steps g (named_as p (is.own_is k)) (join_first p (named_as p (is.next_is k)) no_steps)

  pub fact_resolved : standing_of g [] o.signature.text ≡ standing.Signature a → Stand [] → Stand (codes "x" ∷ []) → all_resolved g [] (trees_of (library.order_formulas o)) ≡ fact_phrases p a b i j
  fact_resolved signature outer inner =
      let first = first_resolved [] outer in
      let next = next_resolved [] outer in
      let behind = next_resolved (codes "x" ∷ []) inner in
      let x = refers p (referent.Local 0) in
      λ k.
      more_phrases (prefixed prefix.No p (with_steps g (next k) (join_first p (first k) no_steps)))
      (more_phrases (quantified quantifier.All p (more_domains false 1 None (named_as p (signature k)) no_domains) (prefixed prefix.Lone p (with_steps g x (join_first p (behind k) no_steps))))
      (more_phrases (quantified quantifier.All p (more_domains false 1 None (named_as p (signature k)) no_domains) (prefixed prefix.Lone p (with_steps g (behind k) (join_first p x no_steps))))
      (more_phrases (compared (named_as p (signature k)) (in_here p a b) (with_steps g (first k) (join_first p (prefixed prefix.ReflexiveClosure p (next k)) no_steps))) no_phrases)))
