use Rattle.std.proofs.Common.{length, Contains, subst}
use Rattle.rel_formula.specs.Sizes.{HasSize}
use Rattle.rel_terms.specs.Numbers.{Is}
use Rattle.rel_terms.specs.Counting.{Adds}
use Rattle.rel_terms.proofs.Adding.{adds_only, size_of_rows}
use Rattle.rel_terms.proofs.tally.Tally.add_size.Goals as goal

pub returns : goal.returns
returns c =
    adds_only (HasSize (Contains c.args.set.now.rows)) (length c.args.set.now.rows) c.args.self.now.terms c.add.new.self.terms (size_of_rows c.args.set.now c.rows.ensures.well)
    (subst (λ rows. Adds (Is (length rows)) c.args.self.now.terms c.add.new.self.terms) c.rows.ensures.value c.add.ensures)
