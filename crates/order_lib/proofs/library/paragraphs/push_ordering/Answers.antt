use Rattle.order_lib.specs.Library.{the_signature, the_fact, functions, predicates}
use Rattle.std.proofs.Common.{[], ◌∷◌}
use Rattle.order_lib.proofs.Pushes.{three_parts}
use Rattle.order_lib.proofs.library.paragraphs.push_ordering.Goals as goal

pub returns : goal.returns
returns c =
    let o = c.args.ordering.now in
    three_parts _ _ _ _ (the_signature o ∷ the_fact o ∷ []) (functions o) (predicates o) c.in_ok-push_order.ensures c.in_ok-push_functions.ensures c.in_ok-push_predicates.ensures
