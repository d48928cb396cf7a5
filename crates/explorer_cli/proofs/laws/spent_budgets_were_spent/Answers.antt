use Rattle.std.proofs.lemmas.List.Elements.{All-nil}
use Rattle.session_rules.specs.States.{Start}
use Rattle.session_rules.specs.declared.answers.Refusal.TheVariants.{Spent}
use Rattle.session_rules.specs.declared.answers.Reply.TheVariants.{Refused}
use Rattle.explorer_cli.proofs.BackedReplies.{IsProved, backed_at, spent_at}
use Rattle.explorer_cli.proofs.laws.spent_budgets_were_spent.Goals as goal

pub returns : goal.returns
returns c t budget x s run place done floor at =
    spent_at t done floor (backed_at t (Start budget) x.commands run.replies run.floors run.exchanges run.transcript run.backed (All-nil (IsProved t)) place (Refused (Spent done)) floor at)
