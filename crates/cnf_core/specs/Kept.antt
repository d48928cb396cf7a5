-- What is kept of a clause.
use Rattle.std.specs.Prelude.{◌∷◌, [], List}
use Rattle.cnf_core.specs.declared.literal.Lit.{Lit}
use Rattle.cnf_core.specs.declared.clause.Kept.{Kept}
use Rattle.cnf_core.specs.declared.clause.Kept.TheVariants.{One, Listed}

-- its literals
abbrev pub kept_literals : Kept → List Lit
kept_literals (One l) = l ∷ []
kept_literals (Listed lits) = lits.items
