use Rattle.std.proofs.Common.{map, refl, ap, sym, ◌∙◌, ◌+◌, ◌*◌, drop, subst, inl, ◌≡◌}
use Rattle.std.specs.Prelude.{Result, IsErrAnd, Vec, Box}
use Rattle.std.specs.declared.alloc.Global.{Global}
use Rattle.std.proofs.lemmas.Result.{err_from_is_err_and}
use Rattle.alloy_syntax.specs.Tree.{BoundTree, unions_of, arrows_of}
use Rattle.alloy_syntax.specs.declared.tree.Operator.TheVariants.{Union, Product}
use Rattle.alloy_syntax.specs.declared.tree.Bound.{Bound}
use Rattle.alloy_syntax.specs.View.{bound_view, arrow_view}
use Rattle.named_model.specs.declared.fault.NameFault.{NameFault}
use Rattle.named_model.specs.declared.fault.NameFault.TheVariants.{Memory}
use Rattle.named_model.specs.declared.phrase.Link.{Link}
use Rattle.named_model.specs.declared.phrase.Phrase.{Phrase}
use Rattle.named_model.specs.Names.{Globals}
use Rattle.named_model.specs.Phrase.{links_of}
use Rattle.named_model.specs.View.{phrase_view, link_view}
use Rattle.named_model.specs.Declarations.{bound_resolved, unions_resolved, arrows_resolved}
use Rattle.named_model.specs.Faults.{bound_faults, union_faults, arrow_faults}
use Rattle.name_tables.specs.Told.{IsTold, Answers}
use Rattle.name_tables.proofs.Telling.{told_first, told_second, told_by}
use Rattle.name_tables.proofs.Reaching.{link_first}
use Rattle.name_tables.specs.Signatures.Bounds.{placed_view}
use Rattle.name_tables.proofs.Signatures.BoundOperands.{links_more, links_fault, links_all, seen_named, seen_bracketed, seen_side, seen_union, seen_arrows, seen_chain, union_faults_are, union_value_is, arrow_faults_are, arrow_value_is}
use Rattle.alloy_syntax.proofs.tree.Bound.TheLaws.{the_size}
use Rattle.alloy_syntax.proofs.tree.BoundArrow.TheLaws.{the_size as arrow_size}
use Rattle.reference_cycles.proofs.Recursion.Smaller.{part_falls, row_falls, item_falls}
use Rattle.name_tables.proofs.Signatures.SmallerBounds.{placed_size, boxed_falls, unboxed_falls, operand_falls, bracketed_smaller, operand_smaller, operands_smaller, side_smaller, sides_smaller, arrow_smaller}
use Rattle.name_tables.proofs.signature_names.bounds.+bounds.Goals as goal

-- the exit of a bound tells its fault
bound_told : (g : Globals) (b : Bound) (r : Result Phrase NameFault) (e : NameFault) → IsErrAnd r (λ y. y ≡ e) → IsTold e (bound_faults g (bound_view b))
    → Answers r (bound_faults g (bound_view b)) (λ (x : Phrase). phrase_view x ≡ bound_resolved g (bound_view b))
bound_told g b r e = told_by r e (bound_faults g (bound_view b)) (λ (x : Phrase). phrase_view x ≡ bound_resolved g (bound_view b))

pub arrows-loop-arrow-preserved : goal.arrows-loop-arrow-preserved
arrows-loop-arrow-preserved t c =
    let g = c.args.names.now.globals in
    links_more (λ as'. arrow_faults g (arrows_of (map arrow_view as'))) (λ as'. arrows_resolved g (arrows_of (map arrow_view as'))) c.args.arrows.now c.loop-arrow.arrow-index c.loop-arrow.links.items c.loop-arrow.invariant
    c.arrow-item.result c.in_ok-link.link c.push.new.self.items _ c.loop-arrow-test.true c.arrow-item.is c.in_ok-push.ensures.items refl c.in_ok-link.ensures.0
    (ap (λ z. link_first z (arrows_resolved g (arrows_of (map arrow_view (drop (c.loop-arrow.arrow-index + 1) c.args.arrows.now))))) (sym c.in_ok-link.ensures.1))

pub arrows-returns-in_err-link : goal.arrows-returns-in_err-link
arrows-returns-in_err-link t c =
    let g = c.args.names.now.globals in
    let p = err_from_is_err_and c.from_residual.result c.from_residual.ensures.1 in
    rw (p.1, p.2)
    (links_fault (λ as'. arrow_faults g (arrows_of (map arrow_view as'))) (λ as'. arrows_resolved g (arrows_of (map arrow_view as'))) c.args.arrows.now c.loop-arrow.arrow-index c.loop-arrow.links.items c.loop-arrow.invariant
    c.arrow-item.result _ c.in_err-link.field-0.0 c.loop-arrow-test.true c.arrow-item.is refl c.in_err-link.ensures)

pub arrows-returns : goal.arrows-returns
arrows-returns t c =
    let g = c.args.names.now.globals in
    links_all (λ as'. arrow_faults g (arrows_of (map arrow_view as'))) (λ as'. arrows_resolved g (arrows_of (map arrow_view as'))) c.args.arrows.now c.loop-arrow.arrow-index c.loop-arrow.links.items c.loop-arrow.invariant
    c.loop-arrow-test.false refl refl

pub unions-loop-operand-preserved : goal.unions-loop-operand-preserved
unions-loop-operand-preserved t c =
    let g = c.args.names.now.globals in
    links_more (λ us. union_faults g (unions_of (map placed_view us))) (λ us. unions_resolved g (unions_of (map placed_view us))) c.args.operands.now c.loop-operand.operand-index c.loop-operand.links.items c.loop-operand.invariant
    c.operand-item.result c.link.result c.push.new.self.items _ c.loop-operand-test.true c.operand-item.is c.in_ok-push.ensures.items refl c.in_ok-inner.ensures.0
    (ap (λ z. link_first z (unions_resolved g (unions_of (map placed_view (drop (c.loop-operand.operand-index + 1) c.args.operands.now))))) (sym (c.link.ensures ∙ ap (λ z. record { operator = Union; place = c.operand-item.result.0; operand = z }) c.in_ok-inner.ensures.1)))

pub unions-returns : goal.unions-returns
unions-returns t c =
    let g = c.args.names.now.globals in
    links_all (λ us. union_faults g (unions_of (map placed_view us))) (λ us. unions_resolved g (unions_of (map placed_view us))) c.args.operands.now c.loop-operand.operand-index c.loop-operand.links.items c.loop-operand.invariant
    c.loop-operand-test.false refl refl

pub bound-returns-in_ok-links-in-Union : goal.bound-returns-in_ok-links-in-Union
bound-returns-in_ok-links-in-Union t c =
    let g = c.args.names.now.globals in
    let e = ap bound_view c.in-Union.is ∙ seen_union c.in-Union.first c.in-Union.others in
    let at = c.deref-in-Union.ensures in
    let row = c.deref-in-Union-2.ensures.value in
    let us = unions_of (map placed_view c.in-Union.others.items) in (
      ap (bound_faults g) e
          ∙ union_faults_are g (bound_view c.in-Union.first.value) us (sym (ap (λ b. bound_faults g (bound_view b)) at) ∙ c.in_ok-first-in-Union.ensures.0) (sym (ap (λ os. union_faults g (unions_of (map placed_view os))) row) ∙ c.in_ok-links-in-Union.ensures.0),
      seen_chain c.in_ok-first-in-Union.first c.in_ok-links-in-Union.links
          ∙ union_value_is g (bound_view c.in-Union.first.value) us (phrase_view c.in_ok-first-in-Union.first.value) (links_of (map link_view c.in_ok-links-in-Union.links.items))
          (c.in_ok-first-in-Union.ensures.1 ∙ ap (λ b. bound_resolved g (bound_view b)) at)
          (c.in_ok-links-in-Union.ensures.1 ∙ ap (λ os. unions_resolved g (unions_of (map placed_view os))) row)
          ∙ sym (ap (bound_resolved g) e),
    )

pub bound-returns-in_ok-links-in-Arrows : goal.bound-returns-in_ok-links-in-Arrows
bound-returns-in_ok-links-in-Arrows t c =
    let g = c.args.names.now.globals in
    let e = ap bound_view c.in-Arrows.is ∙ seen_arrows c.in-Arrows.first c.in-Arrows.others in
    let at = c.deref-in-Arrows.ensures in
    let row = c.deref-in-Arrows-2.ensures.value in
    let as' = arrows_of (map arrow_view c.in-Arrows.others.items) in (
      ap (bound_faults g) e
          ∙ arrow_faults_are g (bound_view c.in-Arrows.first.value) as' (sym (ap (λ b. bound_faults g (bound_view b)) at) ∙ c.in_ok-first-in-Arrows.ensures.0) (sym (ap (λ xs. arrow_faults g (arrows_of (map arrow_view xs))) row) ∙ c.in_ok-links-in-Arrows.ensures.0),
      seen_chain c.in_ok-first-in-Arrows.first c.in_ok-links-in-Arrows.links
          ∙ arrow_value_is g (bound_view c.in-Arrows.first.value) as' (phrase_view c.in_ok-first-in-Arrows.first.value) (links_of (map link_view c.in_ok-links-in-Arrows.links.items))
          (c.in_ok-first-in-Arrows.ensures.1 ∙ ap (λ b. bound_resolved g (bound_view b)) at)
          (c.in_ok-links-in-Arrows.ensures.1 ∙ ap (λ xs. arrows_resolved g (arrows_of (map arrow_view xs))) row)
          ∙ sym (ap (bound_resolved g) e),
    )

pub bound-boxed-requires : goal.bound-boxed-requires
bound-boxed-requires t c = (boxed_falls t _ _ _ _ c.decreases c.in-Bracketed.is c.deref.ensures (bracketed_smaller _ _), tt)

pub bound-boxed-requires-in-Union : goal.bound-boxed-requires-in-Union
bound-boxed-requires-in-Union t c = (boxed_falls t _ _ _ _ c.decreases c.in-Union.is c.deref-in-Union.ensures (operand_smaller _ _), tt)

pub bound-unions-requires : goal.bound-unions-requires
bound-unions-requires t c = (row_falls the_size t placed_size _ _ c.decreases c.in-Union.is _ _ c.deref-in-Union-2.ensures.value (operands_smaller _ _), tt)

pub bound-boxed-requires-in-Arrows : goal.bound-boxed-requires-in-Arrows
bound-boxed-requires-in-Arrows t c = (boxed_falls t _ _ _ _ c.decreases c.in-Arrows.is c.deref-in-Arrows.ensures (side_smaller _ _), tt)

pub bound-arrows-requires : goal.bound-arrows-requires
bound-arrows-requires t c = (row_falls the_size t arrow_size _ _ c.decreases c.in-Arrows.is _ _ c.deref-in-Arrows-2.ensures.value (sides_smaller _ _), tt)

pub boxed-bound-requires : goal.boxed-bound-requires
boxed-bound-requires t c = (unboxed_falls (2 * the_size c.args.inner.now) t c.decreases, tt)

pub unions-bound-requires : goal.unions-bound-requires
unions-bound-requires t c = (operand_falls t c.args.operands.now c.loop-operand.operand-index c.operand-item.result c.decreases c.loop-operand-test.true c.operand-item.is, tt)

pub arrows-side_of-requires : goal.arrows-side_of-requires
arrows-side_of-requires t c = (item_falls arrow_size t c.args.arrows.now c.loop-arrow.arrow-index c.arrow-item.result c.decreases c.loop-arrow-test.true c.arrow-item.is, tt)

pub side_of-bound-requires : goal.side_of-bound-requires
side_of-bound-requires t c = (part_falls arrow_size t the_size c.args.arrow.now c.args.arrow.now c.decreases refl c.args.arrow.now.side c.args.arrow.now.side refl (arrow_smaller _), tt)

pub bound-returns-in_err-spend : goal.bound-returns-in_err-spend
bound-returns-in_err-spend t c =
    bound_told c.args.names.now.globals c.args.bound.now c.from_residual.result Memory c.from_residual.ensures.1 (inl refl)

pub bound-returns-in-Named : goal.bound-returns-in-Named
bound-returns-in-Named t c =
    let g = c.args.names.now.globals in
    subst (λ (x : BoundTree). Answers c.named.result (bound_faults g x) (λ (y : Phrase). phrase_view y ≡ bound_resolved g x)) (sym (ap bound_view c.in-Named.is ∙ seen_named c.in-Named.name)) c.named.ensures

pub bound-returns-in_err-boxed-in-Bracketed : goal.bound-returns-in_err-boxed-in-Bracketed
bound-returns-in_err-boxed-in-Bracketed t c =
    let g = c.args.names.now.globals in
    let e = c.in_err-boxed-in-Bracketed.field-0.0 in
    bound_told g c.args.bound.now c.from_residual-in_err-boxed-in-Bracketed.result e c.from_residual-in_err-boxed-in-Bracketed.ensures.1
    (subst (λ x. IsTold e (bound_faults g x)) (sym (ap bound_view c.in-Bracketed.is ∙ seen_bracketed c.in-Bracketed.place c.in-Bracketed.inner)) (subst (λ (x : Bound). IsTold e (bound_faults g (bound_view x))) c.deref.ensures c.in_err-boxed-in-Bracketed.ensures))

pub bound-returns-in_err-first-in-Union : goal.bound-returns-in_err-first-in-Union
bound-returns-in_err-first-in-Union t c =
    let g = c.args.names.now.globals in
    let e = c.in_err-first-in-Union.field-0.0 in
    let is = ap bound_view c.in-Union.is ∙ seen_union c.in-Union.first c.in-Union.others in
    let first = subst (λ (x : Bound). IsTold e (bound_faults g (bound_view x))) c.deref-in-Union.ensures c.in_err-first-in-Union.ensures in
    bound_told g c.args.bound.now c.from_residual-in_err-first-in-Union.result e c.from_residual-in_err-first-in-Union.ensures.1
    (subst (λ x. IsTold e (bound_faults g x)) (sym is) (told_first e (bound_faults g (bound_view c.in-Union.first.value)) (union_faults g (unions_of (map placed_view c.in-Union.others.items))) first))

pub bound-returns-in_err-links-in-Union : goal.bound-returns-in_err-links-in-Union
bound-returns-in_err-links-in-Union t c =
    let g = c.args.names.now.globals in
    let e = c.in_err-links-in-Union.field-0.0 in
    let is = ap bound_view c.in-Union.is ∙ seen_union c.in-Union.first c.in-Union.others in
    let none = sym (ap (λ (x : Bound). bound_faults g (bound_view x)) c.deref-in-Union.ensures) ∙ c.in_ok-first-in-Union.ensures.0 in
    let more = subst (λ os. IsTold e (union_faults g (unions_of (map placed_view os)))) c.deref-in-Union-2.ensures.value c.in_err-links-in-Union.ensures in
    bound_told g c.args.bound.now c.from_residual-in_err-links-in-Union.result e c.from_residual-in_err-links-in-Union.ensures.1
    (subst (λ x. IsTold e (bound_faults g x)) (sym is) (told_second e (bound_faults g (bound_view c.in-Union.first.value)) (union_faults g (unions_of (map placed_view c.in-Union.others.items))) none more))

pub bound-returns-in_err-first-in-Arrows : goal.bound-returns-in_err-first-in-Arrows
bound-returns-in_err-first-in-Arrows t c =
    let g = c.args.names.now.globals in
    let e = c.in_err-first-in-Arrows.field-0.0 in
    let is = ap bound_view c.in-Arrows.is ∙ seen_arrows c.in-Arrows.first c.in-Arrows.others in
    let first = subst (λ (x : Bound). IsTold e (bound_faults g (bound_view x))) c.deref-in-Arrows.ensures c.in_err-first-in-Arrows.ensures in
    bound_told g c.args.bound.now c.from_residual-in_err-first-in-Arrows.result e c.from_residual-in_err-first-in-Arrows.ensures.1
    (subst (λ x. IsTold e (bound_faults g x)) (sym is) (told_first e (bound_faults g (bound_view c.in-Arrows.first.value)) (arrow_faults g (arrows_of (map arrow_view c.in-Arrows.others.items))) first))

pub bound-returns-in_err-links-in-Arrows : goal.bound-returns-in_err-links-in-Arrows
bound-returns-in_err-links-in-Arrows t c =
    let g = c.args.names.now.globals in
    let e = c.in_err-links-in-Arrows.field-0.0 in
    let is = ap bound_view c.in-Arrows.is ∙ seen_arrows c.in-Arrows.first c.in-Arrows.others in
    let none = sym (ap (λ (x : Bound). bound_faults g (bound_view x)) c.deref-in-Arrows.ensures) ∙ c.in_ok-first-in-Arrows.ensures.0 in
    let more = subst (λ xs. IsTold e (arrow_faults g (arrows_of (map arrow_view xs)))) c.deref-in-Arrows-2.ensures.value c.in_err-links-in-Arrows.ensures in
    bound_told g c.args.bound.now c.from_residual-in_err-links-in-Arrows.result e c.from_residual-in_err-links-in-Arrows.ensures.1
    (subst (λ x. IsTold e (bound_faults g x)) (sym is) (told_second e (bound_faults g (bound_view c.in-Arrows.first.value)) (arrow_faults g (arrows_of (map arrow_view c.in-Arrows.others.items))) none more))

pub boxed-returns-in_err-phrase : goal.boxed-returns-in_err-phrase
boxed-returns-in_err-phrase t c =
    let g = c.args.names.now.globals in
    told_by c.from_residual.result c.in_err-phrase.field-0.0 (bound_faults g (bound_view c.args.inner.now)) (λ (x : Box Phrase Global). phrase_view x.value ≡ bound_resolved g (bound_view c.args.inner.now)) c.from_residual.ensures.1 c.in_err-phrase.ensures

pub boxed-returns-in_err-new : goal.boxed-returns-in_err-new
boxed-returns-in_err-new t c =
    let g = c.args.names.now.globals in
    told_by c.from_residual-in_err-new.result Memory (bound_faults g (bound_view c.args.inner.now)) (λ (x : Box Phrase Global). phrase_view x.value ≡ bound_resolved g (bound_view c.args.inner.now)) c.from_residual-in_err-new.ensures.1 (inl refl)

pub unions-returns-in_err-inner : goal.unions-returns-in_err-inner
unions-returns-in_err-inner t c =
    let g = c.args.names.now.globals in
    told_by c.from_residual.result c.in_err-inner.field-0.0 (union_faults g (unions_of (map placed_view c.args.operands.now))) (λ (xs : Vec Link Global). links_of (map link_view xs.items) ≡ unions_resolved g (unions_of (map placed_view c.args.operands.now))) c.from_residual.ensures.1
    (links_fault (λ us. union_faults g (unions_of (map placed_view us))) (λ us. unions_resolved g (unions_of (map placed_view us))) c.args.operands.now c.loop-operand.operand-index c.loop-operand.links.items c.loop-operand.invariant
    c.operand-item.result _ c.in_err-inner.field-0.0 c.loop-operand-test.true c.operand-item.is refl c.in_err-inner.ensures)

pub unions-returns-in_err-push : goal.unions-returns-in_err-push
unions-returns-in_err-push t c =
    let g = c.args.names.now.globals in
    told_by c.from_residual-in_err-push.result Memory (union_faults g (unions_of (map placed_view c.args.operands.now))) (λ (xs : Vec Link Global). links_of (map link_view xs.items) ≡ unions_resolved g (unions_of (map placed_view c.args.operands.now))) c.from_residual-in_err-push.ensures.1 (inl refl)

pub arrows-returns-in_err-push : goal.arrows-returns-in_err-push
arrows-returns-in_err-push t c =
    let g = c.args.names.now.globals in
    told_by c.from_residual-in_err-push.result Memory (arrow_faults g (arrows_of (map arrow_view c.args.arrows.now))) (λ (xs : Vec Link Global). links_of (map link_view xs.items) ≡ arrows_resolved g (arrows_of (map arrow_view c.args.arrows.now))) c.from_residual-in_err-push.ensures.1 (inl refl)

pub side_of-returns-in_err-operand : goal.side_of-returns-in_err-operand
side_of-returns-in_err-operand t c =
    let g = c.args.names.now.globals in
    let a = arrow_view c.args.arrow.now in
    told_by c.from_residual.result c.in_err-operand.field-0.0 (bound_faults g a.side) (λ (x : Link). link_view x ≡ record { operator = Product; place = a.place; operand = bound_resolved g a.side }) c.from_residual.ensures.1
    (subst (λ x. IsTold c.in_err-operand.field-0.0 (bound_faults g x)) (sym (seen_side c.args.arrow.now)) c.in_err-operand.ensures)
