use Rattle.std.proofs.Common.{◌≡◌, ◌∙◌, true, false, arith, inl, inr, refl}
use Rattle.std.proofs.lemmas.List.{get_or_default}
use Rattle.cnf_core.specs.declared.literal.Lit.{Lit}
use Rattle.sat_core.proofs.Merged.{has_none, has_next, has_not, has_all}
use Rattle.sat_core.proofs.marked_log.has_each.Goals.{then-at-lits-via-then-at-lits, then-at-lits-via-else-at-lits+then-not-is_same}
use Rattle.sat_core.proofs.marked_log.has_each.Goals as goal

pub loop-other-init : goal.loop-other-init
loop-other-init c = has_none _ _

pub place_of-at-requires : goal.place_of-at-requires
place_of-at-requires c = c.loop-other.invariant.within

pub loop-other-preserved : goal.loop-other-preserved
loop-other-preserved c =
    let d : Lit = record { var = 0; positive = false } in
    let now = c.place_of-at.ensures in
    has_next c.args.lits.now c.args.others.now c.requires.lits c.requires.others c.loop-other.other-index c.loop-other.at c.place_of-at.result d c.loop-other-test.true c.loop-other.invariant now.within now.later now.below d (omega (arith, now.within, c.if-at-lits.false))
    (c.is_same.ensures.0 (let f = c.if-not-is_same.false in cc))

pub returns-then-at-lits : goal.returns-then-at-lits
returns-then-at-lits c =
    let d : Lit = record { var = 0; positive = false } in
    let now = c.place_of-at.ensures in (
      λ e. absurd (let h : false ≡ true = e in cc),
      λ all. absurd (has_not c.args.lits.now c.args.others.now c.requires.lits c.requires.others c.loop-other.other-index c.loop-other.at c.place_of-at.result d c.loop-other-test.true c.loop-other.invariant now.within now.later now.below now.here
          (elim c.then-at-lits.branch [
            | then-at-lits-via-then-at-lits w ↦ inl w.if-at-lits.true
            | then-at-lits-via-else-at-lits+then-not-is_same w ↦ inr (λ e is. let t = w.is_same.ensures.1 (get_or_default c.args.lits.now c.place_of-at.result d e (omega (arith, now.within, w.if-at-lits.false)) ∙ is) in let f = w.if-not-is_same.true in cc)
          ])
          all),
    )

pub returns : goal.returns
returns c = (λ e. has_all c.args.lits.now c.args.others.now c.loop-other.other-index c.loop-other.at c.loop-other.invariant c.loop-other-test.false, λ all. refl)
