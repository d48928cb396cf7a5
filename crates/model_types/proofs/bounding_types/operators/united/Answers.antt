use Rattle.model_types.proofs.Bounds.SetsSoFar.{put}
use Rattle.model_types.proofs.bounding_types.operators.united.Goals as goal

pub returns : goal.returns
returns c = put c.args.a c.put_all.new.all _ c.args.b.now c.in_ok-put_all.ensures c.as_slice.ensures
