use Rattle.order_lib.proofs.Pushes.{one_more, four_more}
use Rattle.order_lib.proofs.library.predicates.push_predicates.Goals as goal

pub returns : goal.returns
returns c =
    four_more _ _ _ _ _ _ _ _ _ (one_more _ _ _ _ c.in_ok-push.ensures c.in_ok-lt.ensures) (one_more _ _ _ _ c.in_ok-push-2.ensures c.in_ok-gt.ensures)
    (one_more _ _ _ _ c.in_ok-push-3.ensures c.in_ok-lte.ensures) (one_more _ _ _ _ c.in_ok-push-4.ensures c.in_ok-gte.ensures)
