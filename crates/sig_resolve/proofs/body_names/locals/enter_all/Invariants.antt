use Rattle.std.proofs.Common.{◌≡◌, drop}
use Rattle.named_model.specs.Names.{onto}
use Rattle.name_tables.specs.InForce.{with_locals}
use Rattle.sig_resolve.proofs.body_names.locals.enter_all.Given as goal

abbrev pub invariant-loop-name : goal.invariant-loop-name
invariant-loop-name l = with_locals l.names (onto (drop l.name-index l.new) l.names.locals) ≡ with_locals l.fn.names (onto l.new l.fn.names.locals)
