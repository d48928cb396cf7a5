use Rattle.std.proofs.Common.{ap, ◌∙◌, ◌++◌, ◌∷◌, []}
use Rattle.std.specs.List.{list_any}
use Rattle.model_types.proofs.Bounds.SetsSoFar.{one_more}
use Rattle.model_types.proofs.bounding_types.kept.BoundingType.put.Goals as goal

pub returns-clause-ok : goal.returns-clause-ok
returns-clause-ok c = λ t.
    one_more c.self.inside.rows.keys c.args.list c.insert_full.new.self.keys c.in_ok-insert_full.ensures.keys t
    ∙ ap (λ ls. list_any t (ls ++ c.args.list.items ∷ [])) c.self.view_is
