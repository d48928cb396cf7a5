use Rattle.std.proofs.Common.{◌≡◌, map, reverse, take}
use Rattle.rel_formula.specs.View.{formula_tree}
use Rattle.rel_formula.specs.Kernel.{formulas_of}
use Rattle.rel_terms.specs.Numbers.{Is, ◌⊕◌}
use Rattle.rel_terms.specs.Upper.{upper_structure}
use Rattle.rel_terms.specs.Terms.{FormulasHave}
use Rattle.rel_terms.specs.Counting.{Adds, RowsHave}
use Rattle.rel_terms.proofs.formula.+add_formula.Given as goal

abbrev pub invariant-add_for_each-loop-row : goal.invariant-add_for_each-loop-row
invariant-add_for_each-loop-row l = record {
  env : l.env.items ≡ l.fn.env.items;
  adds : Adds (RowsHave (upper_structure l.problem) (reverse l.fn.env.items) l.more (formula_tree l.f) (take l.row-index l.rows)) l.fn.tally.terms l.tally.terms;
}

abbrev pub invariant-add_parts-loop-part : goal.invariant-add_parts-loop-part
invariant-add_parts-loop-part l = record {
  env : l.env.items ≡ l.fn.env.items;
  adds : Adds (Is 1 ⊕ FormulasHave (upper_structure l.problem) (reverse l.fn.env.items) (formulas_of (map formula_tree (take l.part-index l.parts)))) l.fn.tally.terms l.tally.terms;
}
