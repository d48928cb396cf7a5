-- Heads of paths, behind the first argument that they ask for; and parts that stand inside local names.
use Rattle.std.proofs.Common.{◌≡◌, ℕ, Bool, true, false, ◌||◌, List, [], ◌∷◌, map, drop, Option, Some, None, Result, Ok, Err, refl, sym, ap, ◌∙◌, if◌then◌else◌, Vec, Global}
use Rattle.std.specs.List.{slice_get}
use Rattle.std.specs.Option.{option_map, IfSome}
use Rattle.alloy_lex.specs.declared.token.Place.{Place}
use Rattle.alloy_syntax.specs.declared.tree.Quantifier.{Quantifier}
use Rattle.named_model.specs.Answers.{◌>>=◌}
use Rattle.named_model.specs.declared.phrase.Phrase.{Phrase}
use Rattle.named_model.specs.declared.phrase.Phrase.TheOpen.{Step-F}
use Rattle.named_model.specs.declared.phrase.Step.{Step, Join, Brackets, fold-roll-Step}
use Rattle.named_model.specs.declared.phrase.Step.TheVariants.{rolls-Join, rolls-Brackets}
use Rattle.named_model.specs.Phrase.{PhraseTree, path, quantified, bound_by_let, PhraseTrees, no_phrases, more_phrases, LinkTree, StepTree, joined, in_brackets, StepTrees, no_steps, join_first, brackets_first, step_first, steps_of, DomainTree, DomainTrees}
use Rattle.named_model.specs.View.{phrase_view, phrases_view, step_view, phrase_level, step_level, domain_level, link_level}
use Rattle.model_types.specs.declared.fault.TypeFault.{TypeFault}
use Rattle.model_types.specs.Sorts.{formula, first_place}
use Rattle.model_types.specs.Typing.{Declared, Local, Settled, types_in, type_in, is_shared, ends_of, formula_from, settled, steps_settled, tops_in, domains_settled, values_settled}
use Rattle.overload_resolution.specs.Fields.Alike.{AreAlike}
use Rattle.overload_resolution.specs.Names.Shared.{shared_in, shared_among, shared_in_domains}
use Rattle.model_types.specs.declared.part_sorts.kinds.Kind.{Kind}
use Rattle.overload_resolution.specs.Settling.Inside.{AreAlikeWhere}
use Rattle.overload_resolution.specs.Settling.Same.{AreSameTypes, Asks}
use Rattle.overload_resolution.specs.Settling.Single.{argument_before, argument_asked, tops_of}
use Rattle.overload_resolution.proofs.Settling.SettledAlike.{settled_alike}
use Rattle.overload_resolution.proofs.Settling.SharedDeclarations.{asks_right}
use Rattle.overload_resolution.specs.Settling.Told.{IsTold}
use Rattle.overload_resolution.proofs.Settling.Asking.{tops_alike}
use Rattle.overload_resolution.proofs.Settling.Reaching.{told_then}
use Rattle.overload_resolution.specs.Scopes.Given.{settled_view}
use Rattle.overload_resolution.specs.Parts.Given.{IsGivenFirst, IsGivenBefore}

-- a part behind signatures that are alike
pub settled_by : (d : Declared) (now ls : List Local) (tops ts : List ℕ) (x : PhraseTree) → now ≡ ls → AreAlike tops ts → settled d now tops x ≡ settled d ls ts x
settled_by d now ls tops ts x same alike = ap (λ m. settled d m tops x) same ∙ tops_alike true d ls tops ts x (λ e. refl) (λ e. alike)

-- ---- heads

module _ (d : Declared) (ls : List Local) where
  some_first : (r : Result Settled TypeFault) (g : List ℕ → Result Settled TypeFault)
      → ((r >>= λ y. Ok (ends_of (type_in d ls y.tree))) >>= g) ≡ ((r >>= λ y. Ok (Some y)) >>= λ o. g (tops_of d ls o))
  some_first (Ok y) g = refl
  some_first (Err e) g = refl

  head_apart : (b : Bool) (steps : StepTrees) (g : List ℕ → Result Settled TypeFault)
      → ((if b then tops_in d ls steps else Ok []) >>= g) ≡ ((if b then argument_before d ls steps else Ok None) >>= λ o. g (tops_of d ls o))
  head_apart false steps g = refl
  head_apart true no_steps g = refl
  head_apart true (join_first p x steps) g = refl
  head_apart true (brackets_first p no_phrases steps) g = refl
  head_apart true (brackets_first p (more_phrases x xs) steps) g = some_first (settled d ls [] x) g

  abbrev behind_head : PhraseTree → StepTrees → List ℕ → Result Settled TypeFault
  behind_head x steps inner = settled d ls inner x >>= λ y. steps_settled d ls (first_place x) y.kind (type_in d ls y.tree) steps >>= λ zs. Ok (record { tree = path y.tree zs.0; kind = zs.1 })

  path_apart : (tops : List ℕ) (x : PhraseTree) (steps : StepTrees) → settled d ls tops (path x steps) ≡ (argument_asked d ls x steps >>= λ o. behind_head x steps (tops_of d ls o))
  path_apart tops x steps = head_apart (is_shared x) steps (behind_head x steps)

  module _ (tops : List ℕ) (x : PhraseTree) (steps : StepTrees) where
    -- what is told of the argument that the head asks for is told of the path
    pub path_asked_told : (e : TypeFault) → IsTold e (argument_asked d ls x steps) → IsTold e (settled d ls tops (path x steps))
    path_asked_told e told = told_then e (argument_asked d ls x steps) (λ o. behind_head x steps (tops_of d ls o)) (settled d ls tops (path x steps)) (path_apart tops x steps) told

    module _ (given : Option Settled) (asked : argument_asked d ls x steps ≡ Ok given) where
      path_given : settled d ls tops (path x steps) ≡ behind_head x steps (tops_of d ls given)
      path_given = path_apart tops x steps ∙ ap (λ r. r >>= λ o. behind_head x steps (tops_of d ls o)) asked

      pub path_head_told : (e : TypeFault) → IsTold e (settled d ls (tops_of d ls given) x) → IsTold e (settled d ls tops (path x steps))
      path_head_told e told =
          told_then e (settled d ls (tops_of d ls given) x) (λ y. steps_settled d ls (first_place x) y.kind (type_in d ls y.tree) steps >>= λ zs. Ok (record { tree = path y.tree zs.0; kind = zs.1 })) (settled d ls tops (path x steps)) path_given told

      module _ (y : Settled) (head : settled d ls (tops_of d ls given) x ≡ Ok y) where
        pub path_head : settled d ls tops (path x steps) ≡ (steps_settled d ls (first_place x) y.kind (type_in d ls y.tree) steps >>= λ zs. Ok (record { tree = path y.tree zs.0; kind = zs.1 }))
        path_head = path_given ∙ ap (λ r. r >>= λ y. steps_settled d ls (first_place x) y.kind (type_in d ls y.tree) steps >>= λ zs. Ok (record { tree = path y.tree zs.0; kind = zs.1 })) head

  -- ---- inside local names

  module _ (asked : Bool) (s : AreSameTypes (types_in d) (types_in d)) (new behind : List Local) (alike : AreAlikeWhere asked new behind) (tops : List ℕ) (x : PhraseTree) where
    module _ (q : Quantifier) (p : Place) (ds es : DomainTrees) (asks : Asks (shared_in_domains ds || shared_in x) asked) (are : domains_settled true d ls ds ≡ Ok (es, behind)) where
      body : settled d new [] x ≡ settled d behind [] x
      body = settled_alike asked d s new behind alike [] [] (λ e t. refl) x (asks_right (shared_in_domains ds) (shared_in x) asked asks)

      pub inside : settled d ls tops (quantified q p ds x) ≡ (formula_from x (settled d new [] x) >>= λ y. Ok (record { tree = quantified q p es y; kind = formula }))
      inside =
          ap (λ r. r >>= λ (es : DomainTrees × List Local). formula_from x (settled d es.1 [] x) >>= λ y. Ok (record { tree = quantified q p es.0 y; kind = formula })) are
          ∙ ap (λ r. formula_from x r >>= λ y. Ok (record { tree = quantified q p es y; kind = formula })) (sym body)

    module _ (p : Place) (xs ys : PhraseTrees) (asks : Asks (shared_among xs || shared_in x) asked) (are : values_settled d ls xs ≡ Ok (ys, behind)) where
      let_body : settled d new [] x ≡ settled d behind [] x
      let_body = settled_alike asked d s new behind alike [] [] (λ e t. refl) x (asks_right (shared_among xs) (shared_in x) asked asks)

      pub let_inside : settled d ls tops (bound_by_let p xs x) ≡ (formula_from x (settled d new [] x) >>= λ y. Ok (record { tree = bound_by_let p ys y; kind = formula }))
      let_inside =
          ap (λ r. r >>= λ (ys : PhraseTrees × List Local). formula_from x (settled d ys.1 [] x) >>= λ y. Ok (record { tree = bound_by_let p ys.0 y; kind = formula })) are
          ∙ ap (λ r. formula_from x r >>= λ y. Ok (record { tree = bound_by_let p ys y; kind = formula })) (sym let_body)

-- ---- the first step

pub brackets_seen : (p : Place) (xs : Vec Phrase Global) → step_view (Brackets p xs) ≡ in_brackets p (map phrase_view xs.items)
brackets_seen p xs = ap step_view (sym (rolls-Brackets p xs)) ∙ fold-roll-Step PhraseTree StepTree DomainTree LinkTree phrase_level step_level domain_level link_level (Step-F.Brackets p xs)

pub join_seen : (p : Place) (x : Phrase) → step_view (Join p x) ≡ joined p (phrase_view x)
join_seen p x = ap step_view (sym (rolls-Join p x)) ∙ fold-roll-Step PhraseTree StepTree DomainTree LinkTree phrase_level step_level domain_level link_level (Step-F.Join p x)

-- the steps, where brackets or a join come first
first_is : (steps : List Step) (s : Step) → Some s ≡ slice_get steps 0 → steps ≡ s ∷ drop 1 steps
first_is [] s e = absurd cc
first_is (x ∷ steps) s e = let same : s ≡ x = cc in ap (λ y. y ∷ steps) (sym same)

pub brackets_come : (steps : List Step) (s : Step) (p : Place) (xs : Vec Phrase Global) → Some s ≡ slice_get steps 0 → s ≡ Brackets p xs
    → steps_of (map step_view steps) ≡ brackets_first p (phrases_view xs.items) (steps_of (map step_view (drop 1 steps)))
brackets_come steps s p xs e is =
    ap (λ ss. steps_of (map step_view ss)) (first_is steps s e) ∙ ap (λ v. step_first v (steps_of (map step_view (drop 1 steps)))) (ap step_view is ∙ brackets_seen p xs)

pub join_comes : (steps : List Step) (s : Step) (p : Place) (x : Phrase) → Some s ≡ slice_get steps 0 → s ≡ Join p x
    → steps_of (map step_view steps) ≡ join_first p (phrase_view x) (steps_of (map step_view (drop 1 steps)))
join_comes steps s p x e is =
    ap (λ ss. steps_of (map step_view ss)) (first_is steps s e) ∙ ap (λ v. step_first v (steps_of (map step_view (drop 1 steps)))) (ap step_view is ∙ join_seen p x)

-- the first argument of brackets by themselves
pub given_brackets : (d : Declared) (ls : List Local) (given : Option (Phrase × Kind)) (s : Step) (p : Place) (xs : Vec Phrase Global) → s ≡ Brackets p xs → IsGivenBefore d ls given (step_first (step_view s) no_steps)
    → IsGivenFirst d ls given (phrases_view xs.items)
given_brackets d ls given s p xs is h = h p (phrases_view xs.items) no_steps (ap (λ v. step_first v no_steps) (ap step_view is ∙ brackets_seen p xs))

-- ---- the argument that the head asks for

some_by : (r : Result Settled TypeFault) (z : Settled) → (r >>= λ y. Ok (Some y)) ≡ Ok (Some z) → r ≡ Ok z
some_by (Ok y) z e = cc
some_by (Err x) z e = absurd cc

given_by : (b : Bool) (r : Result Settled TypeFault) (given : Option (Phrase × Kind)) → (if b then (r >>= λ y. Ok (Some y)) else Ok None) ≡ Ok (option_map settled_view given) → IfSome given (λ g. r ≡ Ok (settled_view g))
given_by b r None e = tt
given_by false r (Some g) e = absurd cc
given_by true r (Some g) e = some_by r (settled_view g) e

-- is the first in brackets that come first
pub asked_before : (d : Declared) (ls : List Local) (x : PhraseTree) (steps : StepTrees) (given : Option (Phrase × Kind)) → argument_asked d ls x steps ≡ Ok (option_map settled_view given) → IsGivenBefore d ls given steps
asked_before d ls x steps given asked p xs rest is y more are =
    given_by (is_shared x) (settled d ls [] y) given
    (sym (ap (λ (ss : StepTrees). argument_asked d ls x ss) is ∙ ap (λ (zs : PhraseTrees). argument_asked d ls x (brackets_first p zs rest)) are) ∙ asked)
