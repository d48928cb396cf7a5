use Rattle.renaming_classes.proofs.ClassLaws.{of_itself, of_back, of_then}
use Rattle.renaming_classes.proofs.laws.renamings_are_a_class.Goals as goal

pub returns : goal.returns
returns c = record { itself = of_itself; back = of_back; onward = of_then }
