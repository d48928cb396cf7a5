use Rattle.std.proofs.Common.{◌≡◌, ◌+◌, inl, inr, sym, subst, arith}
use Rattle.std.proofs.lemmas.Bool.{cases_lt}
use Rattle.crew_run.specs.Crew.{HasGivenUp}
use Rattle.crew_run.proofs.answer.have_given_up.Goals as goal

pub loop-place-preserved : goal.loop-place-preserved
loop-place-preserved c = λ by low high. elim (cases_lt c.loop-place.place by) [
  | inl past ↦
      let same : by ≡ c.loop-place.place + 1 = omega arith in
      subst (HasGivenUp c.args.entries.now) (sym same) (c.has_given_up.ensures c.if-not-has_given_up.false)
  | inr before ↦ c.loop-place.invariant by low before
]
