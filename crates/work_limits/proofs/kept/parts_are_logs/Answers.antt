use Rattle.std.proofs.Common.{◌≡◌, length, get_or, take, All, subst, arith}
use Rattle.std.proofs.Math.Seq.{take-length}
use Rattle.std.proofs.lemmas.List.Elements.{All-more}
use Rattle.refutation_check.specs.Log.{IsLog}
use Rattle.refutation_check.specs.Part.{Parted}
use Rattle.work_limits.proofs.kept.parts_are_logs.Goals as goal

abbrev HasLog : Parted → Type 0
HasLog part = IsLog part.log

pub loop-part-preserved : goal.loop-part-preserved
loop-part-preserved c =
    let items = c.args.parts.now in
    let one : HasLog c.part-item.result = subst IsLog c.log.ensures.log c.steps.ensures.log in
    let here : HasLog (get_or items c.loop-part.part-index c.part-item.result) = subst HasLog c.part-item.is one in
    All-more HasLog items c.loop-part.part-index c.part-item.result c.loop-part-test.true c.loop-part.invariant here

pub returns : goal.returns
returns c =
    let items = c.args.parts.now in
    let end : c.loop-part.part-index ≡ length items = omega arith in
    let all : All HasLog (take (length items) items) = subst (λ n. All HasLog (take n items)) end c.loop-part.invariant in
    subst (All HasLog) (take-length items) all
