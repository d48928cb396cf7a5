use Rattle.std.proofs.Common.{◌≡◌, ◌-◌, length, take}
use Rattle.cnf_core.specs.Literal.{HasVarsUpTo}
use Rattle.refutation_check.specs.Renaming.{renamed_clause}
use Rattle.refutation_check.specs.Numbering.{name_in}
use Rattle.refutation_check.proofs.sparse.numbered.Given as goal

abbrev pub invariant-loop-lit : goal.invariant-loop-lit
invariant-loop-lit l = record {
  named : renamed_clause (name_in l.names) l.made.items ≡ take l.lit-index l.lits;
  within : HasVarsUpTo (length l.names - 1) l.made.items;
}
