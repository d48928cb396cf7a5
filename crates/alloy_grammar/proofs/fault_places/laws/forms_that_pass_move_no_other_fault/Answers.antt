use Rattle.std.proofs.Common.{true, false, refl}
use Rattle.alloy_syntax.specs.Readers.{refused, too_deep}
use Rattle.alloy_syntax.specs.Paragraphs.{model_at}
use Rattle.alloy_grammar.proofs.Faults.Models.{stays_read, stays, passing}
use Rattle.alloy_grammar.proofs.fault_places.laws.forms_that_pass_move_no_other_fault.Goals as goal

pub returns-clause-read : goal.returns-clause-read
returns-clause-read c limit ts m e = stays_read (model_at true limit ts) (model_at false limit ts) m (passing limit ts) e

pub returns-clause-refused : goal.returns-clause-refused
returns-clause-refused c limit ts rest e = stays (model_at true limit ts) (model_at false limit ts) (refused rest) refl (passing limit ts) e

pub returns-clause-too_deep : goal.returns-clause-too_deep
returns-clause-too_deep c limit ts rest e = stays (model_at true limit ts) (model_at false limit ts) (too_deep rest) refl (passing limit ts) e
