-- Loops over formulas and over arguments, a turn at a time.
use Rattle.std.proofs.Common.{◌≡◌, ℕ, ◌+◌, ◌<◌, ◌≤◌, List, [], ◌∷◌, ◌++◌, map, length, get_or, drop, Option, Ok, refl, sym, ap, subst, ◌∙◌}
use Rattle.std.proofs.lemmas.List.{map_push}
use Rattle.alloy_lex.specs.declared.token.Place.{Place}
use Rattle.named_model.specs.declared.phrase.Phrase.{Phrase}
use Rattle.named_model.specs.Phrase.{PhraseTree, more_phrases, phrases_of}
use Rattle.named_model.specs.View.{phrase_view, phrases_view}
use Rattle.model_types.specs.declared.fault.TypeFault.{TypeFault}
use Rattle.model_types.specs.Sorts.{first_place}
use Rattle.model_types.specs.Typing.{Declared, Local, formula_from, settled, formulas_settled, arguments_settled}
use Rattle.model_types.specs.declared.part_sorts.kinds.Kind.{Kind}
use Rattle.overload_resolution.specs.Settling.Single.{relation_settled}
use Rattle.overload_resolution.specs.Settling.Told.{IsTold}
use Rattle.overload_resolution.proofs.Settling.Loops.{FormulasLeft, formulas_more, formulas_fault, formulas_all, ArgumentsLeft, before_arguments, arguments_more, arguments_fault, arguments_all}
use Rattle.overload_resolution.proofs.Settling.Reaching.{next_is, none_is, reached_start}
use Rattle.overload_resolution.specs.Parts.Given.{relation_view, IsGiven, IsGivenFirst}

-- the arguments that were found, with their arities, and those that are left
abbrev pub ArgumentsFound : Declared → List Local → List Phrase → List Phrase → List Phrase → List (ℕ × Place) → Type 0
ArgumentsFound d ls all rest phrases arities =
    (found : List ((PhraseTree × ℕ) × Place)) × (map (λ q. q.0.0) found ≡ map phrase_view phrases) × (map (λ q. (q.0.1, q.1)) found ≡ arities)
    × ArgumentsLeft d ls (phrases_view all) (phrases_view rest) found

module _ (d : Declared) (ls : List Local) (all : List Phrase) where
  pub formula_start : FormulasLeft d ls (phrases_view all) (phrases_view all) []
  formula_start = reached_start more_phrases (formulas_settled d ls (phrases_view all))

  pub formula_all : (i : ℕ) (found : List Phrase) → length all ≤ i → FormulasLeft d ls (phrases_view all) (phrases_view (drop i all)) (map phrase_view found)
      → formulas_settled d ls (phrases_view all) ≡ Ok (phrases_view found)
  formula_all i found l before =
      formulas_all d ls (phrases_view all) (map phrase_view found)
      (subst (λ xs. FormulasLeft d ls (phrases_view all) (phrases_view xs) (map phrase_view found)) (none_is all i l) before)

  -- the first argument that is left
  pub given_here : (given : Option (Phrase × Kind)) (i : ℕ) (x : Phrase) → i < length all → x ≡ get_or all i x → IsGivenFirst d ls given (phrases_view (drop i all)) → IsGiven d ls given (phrase_view x)
  given_here given i x l is h = h (phrase_view x) (phrases_view (drop (i + 1) all)) (ap phrases_view (next_is all i x l is))

  module _ (now : List Local) (same : now ≡ ls) (i : ℕ) (x : Phrase) (l : i < length all) (is : x ≡ get_or all i x) where
    module _ (found : List Phrase) (before : FormulasLeft d ls (phrases_view all) (phrases_view (drop i all)) (map phrase_view found)) where
      next : FormulasLeft d ls (phrases_view all) (more_phrases (phrase_view x) (phrases_view (drop (i + 1) all))) (map phrase_view found)
      next = subst (λ xs. FormulasLeft d ls (phrases_view all) (phrases_view xs) (map phrase_view found)) (next_is all i x l is) before

      pub formula_more : (y : Phrase) (more : List Phrase) → more ≡ found ++ y ∷ [] → formula_from (phrase_view x) (settled d now [] (phrase_view x)) ≡ Ok (phrase_view y)
          → FormulasLeft d ls (phrases_view all) (phrases_view (drop (i + 1) all)) (map phrase_view more)
      formula_more y more pushed one =
          subst (λ ys. FormulasLeft d ls (phrases_view all) (phrases_view (drop (i + 1) all)) ys) (sym (ap (map phrase_view) pushed ∙ map_push phrase_view found y))
          (formulas_more d ls (phrases_view all) (phrases_view (drop (i + 1) all)) (phrase_view x) (phrase_view y) (map phrase_view found)
          (sym (ap (λ m. formula_from (phrase_view x) (settled d m [] (phrase_view x))) same) ∙ one) next)

      pub formula_fault : (e : TypeFault) → IsTold e (formula_from (phrase_view x) (settled d now [] (phrase_view x))) → IsTold e (formulas_settled d ls (phrases_view all))
      formula_fault e told =
          formulas_fault d ls (phrases_view all) (phrases_view (drop (i + 1) all)) (phrase_view x) (map phrase_view found) e
          (subst (λ m. IsTold e (formula_from (phrase_view x) (settled d m [] (phrase_view x)))) same told) next

    module _ (phrases : List Phrase) (arities : List (ℕ × Place)) (before : ArgumentsFound d ls all (drop i all) phrases arities) where
      behind : ArgumentsLeft d ls (phrases_view all) (more_phrases (phrase_view x) (phrases_view (drop (i + 1) all))) before.0
      behind = subst (λ xs. ArgumentsLeft d ls (phrases_view all) (phrases_view xs) before.0) (next_is all i x l is) before.3

      pub argument_more : (y : Phrase) (n : ℕ) (p : Place) (more : List Phrase) (further : List (ℕ × Place)) → more ≡ phrases ++ y ∷ [] → further ≡ arities ++ (n, p) ∷ [] → p ≡ first_place (phrase_view x)
          → relation_settled d now (phrase_view x) ≡ Ok (relation_view (y, n)) → ArgumentsFound d ls all (drop (i + 1) all) more further
      argument_more y n p more further pushed put begins one =
          let q : (PhraseTree × ℕ) × Place = ((phrase_view y, n), first_place (phrase_view x)) in
          let found = before.0 in (
            found ++ q ∷ [],
            map_push (λ q. q.0.0) found q ∙ ap (λ ys. ys ++ phrase_view y ∷ []) before.1 ∙ sym (ap (map phrase_view) pushed ∙ map_push phrase_view phrases y),
            map_push (λ q. (q.0.1, q.1)) found q ∙ ap (λ ys. ys ++ (n, first_place (phrase_view x)) ∷ []) before.2 ∙ sym (put ∙ ap (λ z. arities ++ (n, z) ∷ []) begins),
            arguments_more d ls (phrases_view all) (phrases_view (drop (i + 1) all)) (phrase_view x) (phrase_view y, n) found
                (sym (ap (λ m. relation_settled d m (phrase_view x)) same) ∙ one) behind,
          )

      pub argument_fault : (e : TypeFault) → IsTold e (relation_settled d now (phrase_view x)) → IsTold e (arguments_settled d ls (phrases_view all))
      argument_fault e told =
          arguments_fault d ls (phrases_view all) (phrases_view (drop (i + 1) all)) (phrase_view x) before.0 e
          (subst (λ m. IsTold e (relation_settled d m (phrase_view x))) same told) behind

  pub argument_start : ArgumentsFound d ls all all [] []
  argument_start = ([], refl, refl, reached_start (before_arguments d ls) (arguments_settled d ls (phrases_view all)))

  pub argument_all : (i : ℕ) (phrases : List Phrase) (arities : List (ℕ × Place)) → length all ≤ i → ArgumentsFound d ls all (drop i all) phrases arities
      → arguments_settled d ls (phrases_view all) ≡ Ok (record { trees = phrases_view phrases; arities = arities })
  argument_all i phrases arities l before =
      arguments_all d ls (phrases_view all) before.0 (subst (λ xs. ArgumentsLeft d ls (phrases_view all) (phrases_view xs) before.0) (none_is all i l) before.3)
      ∙ (λ j. Ok (record { trees = phrases_of (before.1 j); arities = before.2 j }))
