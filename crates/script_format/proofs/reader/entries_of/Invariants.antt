use Rattle.std.proofs.Common.{◌≡◌, take}
use Rattle.script_format.proofs.reader.entries_of.Given as goal

abbrev pub invariant-loop-draft : goal.invariant-loop-draft
invariant-loop-draft l = l.entries.items ≡ take l.draft-index l.drafts
