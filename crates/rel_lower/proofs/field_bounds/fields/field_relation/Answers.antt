use Rattle.std.proofs.Common.{◌∷◌, [], ◌+◌, List, sym, subst, ◌∙◌}
use Rattle.std.proofs.lemmas.Result.{err_from_is_err_and}
use Rattle.tuple_core.specs.Rows.{IsSetOf}
use Rattle.named_model.specs.declared.named.Signature.{Signature}
use Rattle.named_model.specs.Signatures.{top_of}
use Rattle.named_model.specs.View.{field_view, named_view, phrase_view}
use Rattle.model_types.specs.Bounding.{products}
use Rattle.model_types.specs.Models.{bound_arity}
use Rattle.lowering_rules.specs.Relations.{InProducts, field_outline}
use Rattle.rel_lower.specs.Bounding.Bounds.{IsTooLarge, bound_type}
use Rattle.rel_lower.specs.Bounding.Typed.{HasLists}
use Rattle.rel_lower.proofs.Bounding.Cells.{no_lower}
use Rattle.rel_lower.proofs.field_bounds.fields.field_relation.Goals as goal

pub field_places-requires-clause-typed : goal.field_places-requires-clause-typed
field_places-requires-clause-typed c = subst (λ (xs : List Signature). HasLists xs (phrase_view c.args.field.now.bound)) (sym c.deref.ensures.value) c.requires.typed

pub returns-in_err-upper : goal.returns-in_err-upper
returns-in_err-upper c =
    let p = err_from_is_err_and c.from_residual-in_err-upper.result c.from_residual-in_err-upper.ensures.1 in
    let f = c.args.field.now in
    rw (p.1, p.2) (subst (λ (xs : List Signature). IsTooLarge c.args.room (InProducts c.args.sizes.now (products ((top_of xs f.owner ∷ []) ∷ []) (bound_type xs (phrase_view f.bound)))) c.in_err-upper.field-0.0) c.deref.ensures.value c.in_err-upper.ensures)

pub returns : goal.returns
returns c =
    let f = c.args.field.now in
    let n = bound_arity (phrase_view f.bound) + 1 in
    let upper = subst (λ (xs : List Signature). IsSetOf c.in_ok-upper.upper n (InProducts c.args.sizes.now (products ((top_of xs f.owner ∷ []) ∷ []) (bound_type xs (phrase_view f.bound))))) c.deref.ensures.value c.in_ok-upper.ensures.0 in (
      record {
        name = c.in_ok-name.ensures;
        lower = no_lower c.args.sizes.now (field_outline (named_view c.args.named.now) (field_view f)) c.new-lower.result
            (c.new-lower.ensures.arity ∙ c.arity.ensures.value ∙ c.in_ok-upper.ensures.0.arity_is) c.new-lower.ensures.rows (λ e. absurd cc);
        upper = upper;
      },
      c.in_ok-upper.ensures.1,
    )
