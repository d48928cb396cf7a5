use Rattle.std.proofs.Common.{◌∙◌}
use Rattle.crew_run.proofs.Hiring.{numbered}
use Rattle.crew_run.proofs.workers.written.Goals as goal

pub returns-clause-numbers : goal.returns-clause-numbers
returns-clause-numbers g c = numbered c.close.result.entries c.args.workers c.gather.new.root.view.made (c.close.ensures.mine ∙ c.gather.ensures.own) c.close.ensures.numbers (c.gather.ensures.made ∙ c.hire.ensures.root.made)
