use Rattle.std.proofs.Common.{◌≡◌, ◌∷◌, [], ◌++◌, ◌∙◌, List, take, map, filter, not, get_or, append_assoc, ap, sym, subst, Contains, true, Bool}
use Rattle.std.proofs.lemmas.List.{take_all}
use Rattle.std.specs.List.{list_any}
use Rattle.std.specs.Ordering.{eq_by_cmp}
use Rattle.tuple_core.specs.declared.atom.Atom.{Atom}
use Rattle.tuple_core.specs.Order.{tuple_cmp}
use Rattle.rel_formula.specs.Bounds.{cell_of}
use Rattle.rel_formula.proofs.Cells.{open_more, open_same}
use Rattle.rel_formula.proofs.problem.add_cells.Goals.{then-not-contains+in_ok-push, else-not-contains}
use Rattle.rel_formula.proofs.problem.add_cells.Goals as goal

pub loop-tuple-preserved : goal.loop-tuple-preserved
loop-tuple-preserved c =
    let rows = c.rows-tuple-items.result.now in
    let lower = c.args.relation.now.lower.rows in
    let i = c.loop-tuple.tuple-index in
    let r = c.args.number in
    let old = c.args.cells.now.items in
    let test : List Atom → Bool = λ t. not (list_any (eq_by_cmp tuple_cmp t) lower) in
    let done = map (cell_of r) (filter test (take i rows)) in
    let x = c.tuple-item.result in
    let at : get_or rows i x ≡ x = sym c.tuple-item.is in
    let base : c.loop-tuple.cells.items ≡ old ++ done = c.loop-tuple.invariant in
    elim c.if-not-contains.branch [
      | then-not-contains+in_ok-push w ↦
          let none : Contains lower (get_or rows i x) → ⊥ = subst (λ t. Contains lower t → ⊥) (sym at) (λ has. absurd (let h : c.contains.result ≡ true = c.contains.ensures.1 has in let e = w.if-not-contains.true in cc)) in
          let pushed : c.if-not-contains.cells.items ≡ c.loop-tuple.cells.items ++ cell_of r w.copy.result ∷ [] = let e = w.cells-is in let f = w.in_ok-push.ensures.items in cc in
          pushed ∙ ap (λ t. c.loop-tuple.cells.items ++ cell_of r t ∷ []) (w.copy.ensures ∙ sym at) ∙ ap (λ b. b ++ cell_of r (get_or rows i x) ∷ []) base
          ∙ append_assoc old done (cell_of r (get_or rows i x) ∷ []) ∙ ap (λ z. old ++ z) (sym (open_more r lower rows i x c.loop-tuple-test.true none))
      | else-not-contains w ↦
          let has : Contains lower (get_or rows i x) = subst (Contains lower) (sym at) (c.contains.ensures.0 w.if-not-contains.false) in
          let kept : c.if-not-contains.cells.items ≡ c.loop-tuple.cells.items = let e = w.cells-is in cc in
          kept ∙ base ∙ ap (λ z. old ++ z) (sym (open_same r lower rows i x c.loop-tuple-test.true has))
    ]

pub returns : goal.returns
returns c =
    let rows = c.rows-tuple-items.result.now in
    let r = c.args.number in
    let test : List Atom → Bool = λ t. not (list_any (eq_by_cmp tuple_cmp t) c.args.relation.now.lower.rows) in
    let all : take c.loop-tuple.tuple-index rows ≡ rows = take_all c.loop-tuple.tuple-index rows c.loop-tuple-test.false in
    let base : c.loop-tuple.cells.items ≡ c.args.cells.now.items ++ map (cell_of r) (filter test (take c.loop-tuple.tuple-index rows)) = c.loop-tuple.invariant in
    base ∙ ap (λ xs. c.args.cells.now.items ++ map (cell_of r) (filter test xs)) (all ∙ c.rows-tuple-items.ensures.value)
