use Rattle.std.proofs.Common.{map, ◌∙◌, ap, sym}
use Rattle.rel_formula.specs.Kernel.{junction, formulas_of}
use Rattle.rel_formula.specs.View.{formula_tree}
use Rattle.rel_formula.proofs.AndOrParts.{Junction-tree}
use Rattle.rel_formula.proofs.formula.+copy.Goals as goal

pub Formula::copy-returns-in_ok-copies-in-Junction : goal.Formula::copy-returns-in_ok-copies-in-Junction
Formula::copy-returns-in_ok-copies-in-Junction t c =
    Junction-tree c.in-Junction.connective c.in_ok-copies-in-Junction.field-0
    ∙ ap (λ fs. junction c.in-Junction.connective (formulas_of fs)) (c.in_ok-copies-in-Junction.ensures ∙ ap (map formula_tree) c.deref-in-Junction.ensures.value)
    ∙ sym (Junction-tree c.in-Junction.connective c.in-Junction.parts) ∙ ap formula_tree (sym c.in-Junction.is)
