use Rattle.std.proofs.Common.{◌≡◌}
use Rattle.std.specs.Prelude.{filter}
use Rattle.std.specs.List.{range_with_len}
use Rattle.named_model.specs.View.{named_view}
use Rattle.decision_reports.specs.Taken.{is_of_kind}
use Rattle.decision_reports.proofs.taken_models.numbers_of.Given as goal

abbrev pub invariant-loop-place : goal.invariant-loop-place
invariant-loop-place l = l.numbers.items ≡ filter (is_of_kind l.kind (named_view l.model)) (range_with_len 1 l.place)
