use Rattle.renaming_classes.proofs.Listing.{due_up_to_renaming}
use Rattle.renaming_classes.proofs.laws.due_are_minimal_up_to_renaming.Goals as goal

pub returns : goal.returns
returns c = due_up_to_renaming
