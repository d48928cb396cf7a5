use Rattle.std.proofs.Common.{◌≡◌, ◌∙◌, ◌∷◌, [], ◌&&◌, List, Contains, IsTrue, is_none, refl, sym, ap, subst}
use Rattle.tuple_core.specs.Rows.{IsSetOf}
use Rattle.rel_formula.specs.declared.problem.Relation.{Relation}
use Rattle.named_model.specs.declared.named.Signature.{Signature}
use Rattle.named_model.specs.Signatures.{signature_at, no_signature, top_of}
use Rattle.named_model.specs.View.{named_view}
use Rattle.model_sizes.proofs.Numbers.{item_is}
use Rattle.lowering_rules.specs.Relations.{is_exact, signature_outline}
use Rattle.rel_lower.proofs.Placing.Outlines.{is_outlined}
use Rattle.rel_lower.proofs.relation_bounds.signatures.signature_relation.Goals as goal

pub returns : goal.returns
returns c =
    let xs = c.args.named.now.signatures.items in
    let sizes = c.args.sizes.now in
    let s = c.args.signature in
    let o = signature_outline (named_view c.args.named.now) sizes s in
    let lower = c.in_ok-all_or_none.field-0 in
    let upper = c.in_ok-upper.upper in
    let r : Relation = record { name = c.in_ok-of.field-0; lower = lower; upper = upper } in
    let item : signature_at xs s ≡ c.index-declared.result.now = item_is xs s no_signature c.index-declared.result.now c.requires.there c.index-declared.ensures in
    let top : c.top_of.result ≡ top_of xs s = c.top_of.ensures ∙ ap (λ (ys : List Signature). top_of ys s) c.deref.ensures.value in
    let fixed : c.is_fixed-fixed.result ≡ o.fixed = c.is_fixed-fixed.ensures ∙ ap (λ (x : Signature). is_none x.parent && is_exact sizes s) (sym item) in
    is_outlined sizes o c.top_of.result r refl (ap (λ k. (k ∷ []) ∷ []) (sym top)) (c.in_ok-of.ensures ∙ c.text.ensures.value ∙ ap (λ (x : Signature). x.name) (sym item)) c.in_ok-upper.ensures
    (subst (λ b. IsSetOf lower upper.arity (λ t. IsTrue b × Contains upper.rows t)) fixed c.in_ok-all_or_none.ensures)
