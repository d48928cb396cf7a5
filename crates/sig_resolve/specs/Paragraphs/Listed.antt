-- A size that a scope lists.
use Rattle.alloy_syntax.specs.declared.tree.Entry.{Entry}
use Rattle.named_model.specs.declared.named.Listing.{Listing}
use Rattle.named_model.specs.Names.{Globals, number_of}

-- with the number of its signature, if there is one
abbrev pub listed : Globals → Entry → Listing
listed g e = record { exactly = e.exactly; number = e.number; place = e.name.place; signature = number_of g.signatures e.name.text }
