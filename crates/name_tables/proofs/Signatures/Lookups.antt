-- Names that are signatures', and names that are none's.
use Rattle.std.proofs.Common.{◌≡◌, ℕ, ◌+◌, true, false, List, [], ◌∷◌, Option, Some, None, refl, sym, ap, ◌∙◌, inl, inr, if◌then◌else◌, unwrap_or}
use Rattle.std.specs.List.{position_from}
use Rattle.std.specs.Str.{bytes_eq}
use Rattle.std.proofs.lemmas.Bool.{cases_Bool}
use Rattle.std.proofs.lemmas.List.Folds.{list_any_at}
use Rattle.std.proofs.lemmas.List.Quantifiers.{position-Some}
use Rattle.std.proofs.lemmas.Iterator.Adapters.{position_from-zero}
use Rattle.alloy_syntax.specs.declared.tree.Name.{Name}
use Rattle.named_model.specs.declared.fault.NameFault.TheVariants.{Unknown}
use Rattle.named_model.specs.Names.{Globals, number_of, is_among}
use Rattle.named_model.specs.Declarations.{number_in}
use Rattle.named_model.specs.Faults.{unless_signature}
use Rattle.name_tables.specs.Told.{IsTold}

none_from : (i : ℕ) (names : List (List ℕ)) (t : List ℕ) → position_from (λ name. bytes_eq name t) i names ≡ None → is_among names t ≡ false
none_from i [] t e = refl
none_from i (name ∷ names) t e =
    elim (cases_Bool (bytes_eq name t)) [
      | inl holds ↦ absurd (some_is_none (rw holds at e))
      | inr fails ↦ rw fails (none_from (i + 1) names t (rw fails at e))
    ]
  where
    some_is_none : Some i ≡ None → ⊥
    some_is_none h = absurd cc

pub known : (g : Globals) (name : Name) (n : ℕ) → number_of g.signatures name.text ≡ Some n → (unless_signature g name ≡ []) × (n ≡ number_in g.signatures name)
known g name n e =
    let at = position-Some (λ s. bytes_eq s name.text) g.signatures n [] e in
    let there : is_among g.signatures name.text ≡ true = list_any_at (λ s. bytes_eq s name.text) g.signatures n [] at.0 at.1 in (
      ap (λ b. if b then [] else Unknown name.place ∷ []) there,
      sym (ap (λ (o : Option ℕ). unwrap_or o 0) e),
    )

pub unknown : (g : Globals) (name : Name) → number_of g.signatures name.text ≡ None → IsTold (Unknown name.place) (unless_signature g name)
unknown g name e =
    let missing : is_among g.signatures name.text ≡ false = none_from 0 g.signatures name.text (sym (position_from-zero (λ s. bytes_eq s name.text) g.signatures) ∙ e) in
    rw missing (inr refl)
