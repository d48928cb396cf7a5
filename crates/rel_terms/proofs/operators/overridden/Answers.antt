use Rattle.std.proofs.Common.{◌*◌, ◌∙◌, Contains, length, List, subst}
use Rattle.tuple_core.specs.declared.atom.Atom.{Atom}
use Rattle.rel_formula.specs.Sizes.{HasSize}
use Rattle.rel_terms.specs.Numbers.{Is, ◌⊗◌}
use Rattle.rel_terms.specs.Counting.{Adds}
use Rattle.rel_terms.proofs.Numbers.{only_is, only_product}
use Rattle.rel_terms.proofs.Adding.{adds_both, adds_only, size_of_rows}
use Rattle.rel_terms.proofs.Counted.{counted}
use Rattle.rel_terms.proofs.operators.overridden.Goals as goal

pub returns : goal.returns
returns c =
    let R = HasSize (Contains c.args.right.now.rows) in
    let k = length c.args.right.now.rows in
    let twice = adds_only (Is 2 ⊗ R) (2 * k) _ _ (only_product (Is 2) R 2 k (only_is 2) (size_of_rows c.args.right.now c.rows.ensures.well))
    (subst (λ (rows : List (List Atom)). Adds (Is (2 * length rows)) c.add_size.new.self.terms c.add_product.new.self.terms) c.rows.ensures.value c.add_product.ensures) in
    let set = c.in_ok-both.ensures in
    counted (record { arity_is = set.arity_is ∙ c.requires.left; just = set.just }) (adds_both _ _ _ _ _ c.add_size.ensures twice)
