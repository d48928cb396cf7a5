use Rattle.std.proofs.Common.{◌≡◌, ℕ, ◌*◌, Contains, length, List, subst, arith}
use Rattle.tuple_core.specs.declared.atom.Atom.{Atom}
use Rattle.tuple_core.specs.Rows.{Rows, IsRows}
use Rattle.rel_formula.specs.Sizes.{HasSize}
use Rattle.rel_terms.specs.Numbers.{Is, ◌⊗◌}
use Rattle.rel_terms.specs.Counting.{Adds}
use Rattle.rel_terms.proofs.Numbers.{only_product}
use Rattle.rel_terms.proofs.Adding.{adds_only, size_of_rows}
use Rattle.rel_terms.proofs.Counted.{counted}
use Rattle.rel_terms.proofs.operators.multiplied.Goals as goal

-- the product of the numbers of rows is that of the sizes
sizes : (l r : Rows) → IsRows l → IsRows r → (ls rs : List (List Atom)) → ls ≡ l.rows → rs ≡ r.rows → (b a : ℕ) →
    Adds (Is (length ls * length rs)) b a → Adds (HasSize (Contains l.rows) ⊗ HasSize (Contains r.rows)) b a
sizes l r p q ls rs e f b a h =
    let L = HasSize (Contains l.rows) in
    let R = HasSize (Contains r.rows) in
    adds_only (L ⊗ R) (length l.rows * length r.rows) b a (only_product L R (length l.rows) (length r.rows) (size_of_rows l p) (size_of_rows r q))
    (subst (λ (xs : List (List Atom)). Adds (Is (length l.rows * length xs)) b a) f (subst (λ (xs : List (List Atom)). Adds (Is (length xs * length rs)) b a) e h))

pub returns-then-is_above : goal.returns-then-is_above
returns-then-is_above c = record {
  arity_is = let e = c.new.ensures.arity in let l = c.arity.ensures.value in let r = c.arity-then-is_above.ensures.value in omega arith;
  just = λ l. absurd (let over = c.is_above.ensures.0 c.if-is_above.true in omega arith);
  adds = sizes c.args.left.now c.args.right.now c.rows.ensures.well c.rows-2.ensures.well c.rows.result.now c.rows-2.result.now c.rows.ensures.value c.rows-2.ensures.value _ _ c.add_product.ensures;
}

pub returns : goal.returns
returns c = counted c.in_ok-tuples.ensures
    (sizes c.args.left.now c.args.right.now c.rows.ensures.well c.rows-2.ensures.well c.rows.result.now c.rows-2.result.now c.rows.ensures.value c.rows-2.ensures.value _ _ c.add_product.ensures)
