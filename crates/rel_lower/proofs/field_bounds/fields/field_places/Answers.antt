use Rattle.std.proofs.Common.{◌∷◌, [], subst, sym, arith}
use Rattle.std.proofs.lemmas.Result.{MatchResult-weaker}
use Rattle.tuple_core.specs.Gains.{Same}
use Rattle.tuple_core.proofs.Congruence.{set_of_same}
use Rattle.named_model.specs.Signatures.{top_of}
use Rattle.named_model.specs.View.{phrase_view}
use Rattle.model_types.specs.Bounding.{Lists, products}
use Rattle.lowering_rules.specs.Relations.{InProducts}
use Rattle.model_types.specs.Bounds.Same.{lists_of}
use Rattle.rel_lower.specs.Bounding.Bounds.{bound_type}
use Rattle.rel_lower.proofs.Bounding.EvenLists.{lists_long}
use Rattle.rel_lower.proofs.Bounding.Lists.{same_products}
use Rattle.rel_lower.proofs.Bounding.PlacedProducts.{weaker_too_large}
use Rattle.rel_lower.proofs.field_bounds.fields.field_places.Goals as goal

pub products_of-requires-clause-long : goal.products_of-requires-clause-long
products_of-requires-clause-long c =
    let f = c.args.field.now in
    let few = c.requires.typed.few in
    let columns = c.in_ok-columns.ensures in
    lists_long c.args.signatures.now (phrase_view f.bound) (top_of c.args.signatures.now f.owner) (omega arith) c.requires.typed c.as_slice.result.now c.in_ok-lists.lists c.as_slice.ensures c.in_ok-lists.ensures

pub returns : goal.returns
returns c =
    let sizes = c.args.sizes.now in
    let type = products ((top_of c.args.signatures.now c.args.field.now.owner ∷ []) ∷ []) (bound_type c.args.signatures.now (phrase_view c.args.field.now.bound)) in
    let lists : Lists = lists_of c.as_slice.result.now in
    let same : Same (InProducts sizes lists) (InProducts sizes type) =
    subst (λ ls. Same (InProducts sizes ls) (InProducts sizes type)) (sym c.as_slice.ensures) (same_products sizes c.in_ok-lists.lists type c.in_ok-lists.ensures) in
    let few = c.requires.typed.few in
    let columns = c.in_ok-columns.ensures in
    MatchResult-weaker c.products_of.result c.products_of.ensures
    (λ v h. (set_of_same (omega arith) same h.0, h.1))
    (λ f h. weaker_too_large c.args.room (InProducts sizes lists) (InProducts sizes type) f same.to h)
