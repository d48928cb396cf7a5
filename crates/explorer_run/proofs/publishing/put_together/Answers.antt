use Rattle.explorer_run.proofs.Joined.{none_joined, one_more_joined}
use Rattle.explorer_run.proofs.publishing.put_together.Goals as goal

pub loop-part-init : goal.loop-part-init
loop-part-init c = none_joined c.new-all.result c.new-all.ensures.items

pub loop-part-preserved : goal.loop-part-preserved
loop-part-preserved c = one_more_joined c.loop-part.yielded c.in-Some.part c.in_ok-made.made c.loop-part.all c.append.new.self c.in_ok-made.was c.in_ok-append.ensures.items c.loop-part.invariant
