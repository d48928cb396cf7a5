use Rattle.std.proofs.Common.{◌≡◌, ◌++◌, ◌∷◌, ◌+◌, [], ℕ, List, ap, sym, ◌∙◌, arith, length}
use Rattle.std.specs.Prelude.{filter, if◌then◌else◌, Bool}
use Rattle.std.specs.List.{range_with_len}
use Rattle.named_model.specs.View.{named_view}
use Rattle.decision_reports.specs.Taken.{is_of_kind}
use Rattle.decision_reports.proofs.FoundModels.{numbers_more}
use Rattle.decision_reports.proofs.taken_models.numbers_of.Goals as goal

pub loop-place-preserved : goal.loop-place-preserved
loop-place-preserved c =
    let m = named_view c.args.model.now in
    numbers_more c.args.kind m c.loop-place.place c.loop-place.numbers.items c.push_if.new.numbers.items c.is_of_kind.result c.is_of_kind.ensures c.in_ok-push_if.ensures c.loop-place.invariant
