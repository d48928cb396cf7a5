use Rattle.std.proofs.Common.{◌≡◌, Some, slice_get, subst}
use Rattle.std.proofs.lemmas.List.Elements.{All-nil}
use Rattle.session_rules.specs.States.{Start}
use Rattle.script_text.specs.Printed.{proved}
use Rattle.script_text.specs.Replies.{PrintedSession}
use Rattle.explorer_cli.proofs.BackedReplies.{IsProved, printed_at, right_print}
use Rattle.explorer_cli.proofs.laws.printed_proofs_are_right.Goals as goal

pub returns : goal.returns
returns c t budget x s run place clauses log at =
    let there = printed_at t run.floors run.replies place (proved clauses log) (subst (λ (r : PrintedSession). slice_get r.replies place ≡ Some (proved clauses log)) run.is at) in
    right_print t c.accepted_is_entailed.ensures.refuted (Start budget) x.commands run.replies run.floors run.exchanges run.transcript run.backed (All-nil (IsProved t)) run.checkable place clauses log there
