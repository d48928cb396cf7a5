use Rattle.std.proofs.Common.{◌≡◌, ◌-◌, length, map, take}
use Rattle.refutation_check.specs.Renaming.{renamed_clause}
use Rattle.refutation_check.specs.Numbering.{name_in}
use Rattle.refutation_check.proofs.sparse.numbered_formula.Given as goal

abbrev pub invariant-loop-clause : goal.invariant-loop-clause
invariant-loop-clause l = record {
  named : map (renamed_clause (name_in l.names)) l.formula.clauses ≡ take l.clause-index l.clauses;
  vars : l.formula.vars ≡ length l.names - 1;
}
