-- What contracts see of local names: the last one that was entered first.
use Rattle.std.specs.Prelude.{List, map, reverse}
use Rattle.rel_formula.specs.View.{expression_tree}
use Rattle.lowering_rules.specs.Binders as binders
use Rattle.body_lowering.specs.declared.locals.Local.{Local}

abbrev pub local_view : Local → binders.Local
local_view l = record { depth = l.depth; expression = expression_tree l.expression }

abbrev pub locals_view : List Local → List binders.Local
locals_view ls = reverse (map local_view ls)
