use Rattle.named_model.specs.Faults.{assertions}
use Rattle.name_tables.proofs.repeated_names.stated.add_assertion.Goals as goal

pub returns : goal.returns
returns c = λ cs before is. c.in_ok-add_name.ensures assertions (λ ws. tt) cs before is
