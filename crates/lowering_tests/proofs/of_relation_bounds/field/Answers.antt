use Rattle.std.proofs.Common.{◌≡◌, ◌≤◌, [], ◌∷◌, length, All, refl, sym, subst, arith}
use Rattle.std.proofs.lemmas.List.Elements.{All-nil, All-cons}
use Rattle.named_model.specs.declared.phrase.Referent.TheVariants as referent
use Rattle.named_model.specs.Phrase.{PhraseTree, refers}
use Rattle.named_model.specs.Signatures.{top_of}
use Rattle.model_types.specs.Models.{bound_arity}
use Rattle.lowering_rules.specs.Typed.{IsBound}
use Rattle.rel_lower.specs.Bounding.Bounds.{bound_type}
use Rattle.rel_lower.specs.Bounding.Typed.{HasLists}
use Rattle.lowering_tests.proofs.of_relation_bounds.field.Goals as goal

pub returns : goal.returns
returns c = λ xs.
    let x : PhraseTree = refers (record { line = 1; column = 1 }) (referent.Signature 1) in
    let bound : IsBound x = tt in
    let few : bound_arity x ≤ 2 = omega arith in
    let even : All (λ l. length l ≡ bound_arity x) (bound_type xs x) = All-cons (λ l. length l ≡ 1) (top_of xs 1 ∷ []) [] refl (All-nil (λ l. length l ≡ 1)) in
    subst (λ (y : PhraseTree). HasLists xs y) (sym c.second-bound.ensures) (record { bound = bound; few = few; even = even })
