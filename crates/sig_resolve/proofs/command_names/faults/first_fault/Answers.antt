use Rattle.std.proofs.Common.{map}
use Rattle.alloy_syntax.specs.View.{paragraph_view}
use Rattle.sig_resolve.proofs.command_names.faults.first_fault.Goals as goal

pub returns : goal.returns
returns c = c.first_of.ensures (map paragraph_view c.args.paragraphs.now) c.in_ok-predicates.ensures
