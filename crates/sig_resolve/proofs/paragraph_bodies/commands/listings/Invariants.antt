use Rattle.std.proofs.Common.{◌≡◌, take, map}
use Rattle.sig_resolve.specs.Paragraphs.Listed.{listed}
use Rattle.sig_resolve.proofs.paragraph_bodies.commands.listings.Given as goal

abbrev pub invariant-loop-entry : goal.invariant-loop-entry
invariant-loop-entry l = l.all.items ≡ map (listed l.names.globals) (take l.entry-index l.entries)
