use Rattle.renaming_classes.proofs.Listing.{exactly_least, all_apart}
use Rattle.renaming_classes.proofs.laws.classes_are_of_all_minimal.Goals as goal

pub returns : goal.returns
returns c = record { exactly = exactly_least; apart = all_apart }
