-- What a call becomes.
use Rattle.std.proofs.Common.{◌≡◌, ℕ, zero, suc, ◌-◌, List, map, Option, Some, None, slice_get, refl, sym, ap, ◌∙◌, arith}
use Rattle.std.proofs.lemmas.Option.{slice_get-map}
use Rattle.std.specs.Prelude.{option_map}
use Rattle.rel_formula.specs.Kernel.{ExpressionTree, nothing}
use Rattle.named_model.specs.declared.named.Callee.{Callee}
use Rattle.named_model.specs.View.{callee_view}
use Rattle.named_model.specs.Model.{NamedTree}
use Rattle.lowering_rules.specs.Binders.{arguments}
use Rattle.lowering_rules.specs.Parts.{relation}
use Rattle.lowering_rules.specs.Lowering.{base_within, calls_within, body_lowered, meaning_lowered}

seen_at : (cs : List Callee) (c : ℕ) (o : Option Callee) → o ≡ slice_get cs c → slice_get (map callee_view cs) c ≡ option_map callee_view o
seen_at cs c o e = slice_get-map callee_view cs c ∙ ap (option_map callee_view) (sym e)

module _ (m : NamedTree) (c d : ℕ) (es : List ExpressionTree) where
  pub too_deep : (calls : ℕ) → calls ≡ 0 → relation nothing ≡ calls_within calls m c d es
  too_deep calls none = ap (λ n. calls_within n m c d es) (sym none)

  pub not_there : (calls : ℕ) (cs : List Callee) → m.callees ≡ map callee_view cs → None ≡ slice_get cs c → relation nothing ≡ calls_within calls m c d es
  not_there zero cs are none = refl
  not_there (suc n) cs are none = sym (ap (body_lowered (base_within n m) d es) (ap (λ xs. slice_get xs c) are ∙ seen_at cs c None none))

  pub there : (calls : ℕ) (cs : List Callee) (callee : Callee) → m.callees ≡ map callee_view cs → (calls ≡ 0 → ⊥) → Some callee ≡ slice_get cs c
      → meaning_lowered (base_within (calls - 1) m) (arguments d es) d (callee_view callee).meaning ≡ calls_within calls m c d es
  there zero cs callee are some is = absurd (some refl)
  there (suc n) cs callee are some is =
      let less : suc n - 1 ≡ n = omega arith in
      ap (λ k. meaning_lowered (base_within k m) (arguments d es) d (callee_view callee).meaning) less
      ∙ sym (ap (body_lowered (base_within n m) d es) (ap (λ xs. slice_get xs c) are ∙ seen_at cs c (Some callee) is))
