-- Headers and bodies, by the groups of parameters.
use Rattle.std.proofs.Common.{◌≡◌, ℕ, Bool, List, [], map, reverse, refl, sym, ap, ◌∙◌, Option}
use Rattle.std.proofs.lemmas.List.{append-nil}
use Rattle.named_model.specs.Phrase.{PhraseTree, DomainTrees}
use Rattle.named_model.specs.Model.{MeaningTree, formulas, value, CalleeTree}
use Rattle.model_types.specs.Sorts.{Kind}
use Rattle.model_types.specs.Typing.{Declared, Local, settled, types_in}
use Rattle.model_types.specs.Models.{or_unknown, parameters_known, domains_known, kind_known, header_with, header_of}
use Rattle.overload_resolution.specs.Names.Shared.{shared_in}
use Rattle.overload_resolution.specs.Settling.Inside.{AreAlikeWhere}
use Rattle.overload_resolution.specs.Settling.Same.{AreSameTypes, Asks}
use Rattle.overload_resolution.proofs.Settling.SharedDeclarations.{asks_left, asks_right}
use Rattle.overload_resolution.proofs.Settling.SettledAlike.{settled_alike}
use Rattle.alloy_types.specs.Headers.Bodies.{tree_of, body_in, body_of}
use Rattle.alloy_types.specs.Calls.Groups.{GroupTree, groups_in, behind, arities_of}
use Rattle.alloy_types.specs.Calls.Meanings.{shared_in_meaning, kind_in}
use Rattle.alloy_types.proofs.Calls.Grouped.{local_arity, arities_are, locals_are}

module _ (d : Declared) where
  locals_known : (ds : DomainTrees) → reverse (map or_unknown (parameters_known (domains_known d [] ds))) ≡ behind d [] (groups_in d [] ds)
  locals_known ds = sym (append-nil (reverse (map or_unknown (parameters_known (domains_known d [] ds))))) ∙ locals_are d [] ds

  with_parameters : (ls : List (Option Local)) (x : MeaningTree) → (header_with d ls x).parameters ≡ map local_arity ls
  with_parameters ls (formulas xs) = refl
  with_parameters ls (value range body) = refl

  with_kind : (ls : List (Option Local)) (x : MeaningTree) → (header_with d ls x).kind ≡ kind_in d (reverse (map or_unknown ls)) x
  with_kind ls (formulas xs) = refl
  with_kind ls (value range body) = refl

  module _ (c : CalleeTree) (gs : List GroupTree) (are : gs ≡ groups_in d [] c.parameters) where
    abbrev known : List (Option Local)
    known = parameters_known (domains_known d [] c.parameters)

    locals_by : behind d [] gs ≡ reverse (map or_unknown known)
    locals_by = ap (behind d []) are ∙ sym (locals_known c.parameters)

    pub parameters_by : (ns : List (Option ℕ)) → ns ≡ arities_of gs → ns ≡ (header_of d c).parameters
    parameters_by ns e = e ∙ ap arities_of are ∙ sym (arities_are d [] c.parameters) ∙ sym (with_parameters known c.meaning)

    pub kind_by : (k : Kind) → k ≡ kind_in d (behind d [] gs) c.meaning → k ≡ (header_of d c).kind
    kind_by k e = e ∙ ap (λ (ls : List Local). kind_in d ls c.meaning) locals_by ∙ sym (with_kind known c.meaning)

    pub body_by : (b : Option PhraseTree) → b ≡ body_in d (behind d [] gs) c.meaning → b ≡ body_of d c
    body_by b e = e ∙ ap (λ (ls : List Local). body_in d ls c.meaning) locals_by

-- what is known of what a predicate or a function stands for is the same behind local names that are alike
module _ (asked : Bool) (d : Declared) (same : AreSameTypes (types_in d) (types_in d)) (ls ms : List Local) (h : AreAlikeWhere asked ls ms) where
  part_alike : (x : PhraseTree) → Asks (shared_in x) asked → settled d ls [] x ≡ settled d ms [] x
  part_alike x a = settled_alike asked d same ls ms h [] [] (λ e t. refl) x a

  pub kind_alike : (x : MeaningTree) → Asks (shared_in_meaning x) asked → kind_in d ls x ≡ kind_in d ms x
  kind_alike (formulas xs) a = refl
  kind_alike (value range body) a = ap kind_known (part_alike range (asks_left (shared_in range) (shared_in body) asked a))

  pub body_alike : (x : MeaningTree) → Asks (shared_in_meaning x) asked → body_in d ls x ≡ body_in d ms x
  body_alike (formulas xs) a = refl
  body_alike (value range body) a = ap tree_of (part_alike body (asks_right (shared_in range) (shared_in body) asked a))
