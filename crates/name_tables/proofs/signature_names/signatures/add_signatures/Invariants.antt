use Rattle.std.proofs.Common.{◌≡◌, ◌++◌, map, take}
use Rattle.name_tables.specs.Signatures.Named.{signature_under}
use Rattle.name_tables.proofs.signature_names.signatures.add_signatures.Given as goal

abbrev pub invariant-loop-name : goal.invariant-loop-name
invariant-loop-name l = l.signatures.items ≡ l.fn.signatures.items ++ map (signature_under l.is_abstract l.mark l.parent) (take l.name-index l.names)
