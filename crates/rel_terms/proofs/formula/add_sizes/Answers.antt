use Rattle.std.proofs.Common.{Contains, subst, sym}
use Rattle.rel_formula.specs.declared.connectives.Comparison.{Comparison}
use Rattle.rel_formula.specs.Sizes.{HasSize}
use Rattle.rel_terms.specs.Terms.{compared_terms}
use Rattle.rel_terms.specs.Counting.{Adds}
use Rattle.rel_terms.proofs.Adding.{adds_both}
use Rattle.rel_terms.proofs.formula.add_sizes.Goals as goal

pub returns-in-Equal : goal.returns-in-Equal
returns-in-Equal c =
    let L = Contains c.args.left.now.rows in
    let R = Contains c.args.right.now.rows in
    subst (λ (o : Comparison). Adds (compared_terms o L R) c.args.tally.now.terms c.add_size-in-Equal-2.new.self.terms) (sym c.in-Equal.is)
    (adds_both (HasSize L) (HasSize R) _ _ _ c.add_size-in-Equal.ensures c.add_size-in-Equal-2.ensures)
