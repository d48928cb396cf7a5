use Rattle.std.proofs.Common.{◌≡◌, ◌↔◌, true, false, get_or, slice_get, Some, inl, inr, Contains, sym, subst, arith}
use Rattle.std.proofs.lemmas.Bool.{cases_lt, cases_Bool}
use Rattle.renaming_classes.proofs.orbits.Orbits.mixed.Goals as goal

pub loop-number-preserved : goal.loop-number-preserved
loop-number-preserved c = λ n k l lead even.
    let i = c.loop-number.number in
    let old = c.loop-number.mixed.items in
    elim (cases_lt n i) [
      | inl less ↦ elim (cases_Bool (get_or old k true)) [
        | inl marked ↦ absurd (let e = c.compare.ensures.stays k marked in cc)
        | inr free ↦ c.loop-number.invariant n k less lead free
      ]
      | inr past ↦
          let same : n ≡ i = omega arith in
          let here : c.leader.result ≡ Some k = (c.leader.ensures k).1 (subst (λ m. slice_get c.args.self.now m ≡ Some (Some k)) same lead) in
          subst (λ m. Contains c.args.scenario.now m ↔ Contains c.args.scenario.now k) (sym same) (c.compare.ensures.marked k here even)
    ]

pub returns : goal.returns
returns c = λ n k l lead even. c.loop-number.invariant n k (let v = c.cells-number-end.ensures.value in let t = c.loop-number-test.false in omega arith) lead even
