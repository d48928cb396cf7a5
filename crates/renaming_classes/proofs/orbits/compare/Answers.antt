use Rattle.std.proofs.Common.{◌≡◌, ◌↔◌, true, get_or, inl, inr, Contains, subst}
use Rattle.std.proofs.lemmas.Bool.{cases_Bool}
use Rattle.renaming_classes.proofs.Decided.{same_test}
use Rattle.renaming_classes.proofs.orbits.compare.Goals as goal
use mathlib.Core.Bool.{not, beq}

pub returns-in-Some-clause-marked : goal.returns-in-Some-clause-marked
returns-in-Some-clause-marked c = λ k is even.
    let l = c.in-Some.leader in
    let s = c.args.scenario.now in
    let same : l ≡ k = cc in
    elim (cases_Bool (not (beq c.has.result c.has-in-Some.result))) [
      | inl differ ↦ absurd (let e = c.mark_if.ensures.marked differ in let f = subst (λ n. get_or c.mark_if.new.mixed.items n true ≡ true) same e in cc)
      | inr alike ↦ subst (λ n. Contains s c.args.number ↔ Contains s n) same (same_test c.has.result c.has-in-Some.result (Contains s c.args.number) (Contains s l) c.has.ensures c.has-in-Some.ensures alike)
    ]
