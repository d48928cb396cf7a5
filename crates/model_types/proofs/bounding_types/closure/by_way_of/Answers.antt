use Rattle.std.proofs.Common.{refl, [], ◌∷◌}
use Rattle.std.proofs.lemmas.Result.{IfOk-weaker}
use Rattle.model_types.specs.Bounding.{Lists, ending_in, starting_in, joins}
use Rattle.model_types.proofs.Bounds.SameListsMade.{same_then, same_joins, same_ending, same_starting}
use Rattle.model_types.proofs.bounding_types.closure.by_way_of.Goals as goal

pub returns : goal.returns
returns c =
    let pairs = c.args.pairs.now in
    let way : Lists = (c.args.top ∷ []) ∷ [] in
    let found = c.in_ok-way.way in
    let before = same_then c.in_ok-before.before (ending_in pairs found) (ending_in pairs way) c.in_ok-before.ensures (same_ending pairs found pairs way (λ t. refl) c.in_ok-way.ensures) in
    let behind = same_then c.in_ok-behind.behind (starting_in found pairs) (starting_in way pairs) c.in_ok-behind.ensures (same_starting found pairs way pairs c.in_ok-way.ensures (λ t. refl)) in
    IfOk-weaker c.joins.result _ _
    (λ t h. same_then t (joins c.in_ok-before.before c.in_ok-behind.behind) (joins (ending_in pairs way) (starting_in way pairs)) h
    (same_joins c.in_ok-before.before c.in_ok-behind.behind (ending_in pairs way) (starting_in way pairs) before behind))
    c.joins.ensures
