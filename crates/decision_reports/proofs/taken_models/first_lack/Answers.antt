use Rattle.std.proofs.Common.{get_or, ℕ, List, subst}
use Rattle.std.specs.Prelude.{IfSome, IfNone, Vec, Option}
use Rattle.std.specs.declared.alloc.Global.{Global}
use Rattle.std.proofs.lemmas.List.{get_or_default}
use Rattle.tuple_core.proofs.Steps.{all_step, all_done}
use Rattle.named_model.specs.View.{named_view}
use Rattle.served_models.specs.Served.{LacksProblem}
use Rattle.decision_reports.specs.Taken.{CanBeRun}
use Rattle.decision_reports.proofs.FoundModels.{bad_among}
use Rattle.decision_reports.proofs.taken_models.first_lack.Goals as goal

pub returns-in-Some : goal.returns-in-Some
returns-in-Some c =
    let xs = c.args.numbers.now in
    let i = c.loop-number.number-index in
    let n = get_or xs i 0 in
    let m = named_view c.args.model.now in
    let lacks = subst (λ (found : Option (Vec ℕ Global)). IfSome found (λ (words : Vec ℕ Global). LacksProblem m n words.items)) c.in-Some.is c.in_ok-words.ensures.some in
    bad_among m xs i n c.in-Some.words.items c.loop-number-test.true (get_or_default xs i 0 n c.loop-number-test.true) c.loop-number.invariant lacks

pub loop-number-preserved : goal.loop-number-preserved
loop-number-preserved c =
    let xs = c.args.numbers.now in
    let i = c.loop-number.number-index in
    let n = get_or xs i 0 in
    let m = named_view c.args.model.now in
    let can = subst (λ (found : Option (Vec ℕ Global)). IfNone found (CanBeRun m n)) c.in_default.is c.in_ok-words.ensures.none in
    all_step (CanBeRun m) xs i n c.loop-number-test.true (get_or_default xs i 0 n c.loop-number-test.true) c.loop-number.invariant can

pub returns : goal.returns
returns c = all_done (CanBeRun (named_view c.args.model.now)) c.args.numbers.now c.loop-number.number-index c.loop-number-test.false c.loop-number.invariant
