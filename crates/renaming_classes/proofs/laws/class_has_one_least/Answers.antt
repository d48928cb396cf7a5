use Rattle.renaming_classes.proofs.ClassLaws.{of_back, of_then, one_least}
use Rattle.renaming_classes.proofs.laws.class_has_one_least.Goals as goal

pub returns : goal.returns
returns c = λ p s t first second is one two. one_least p first second one.least two.least (of_then p first s second (of_back p s first one.renaming) (of_then p s t second is two.renaming))
