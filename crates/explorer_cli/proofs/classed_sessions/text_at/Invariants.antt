use Rattle.std.proofs.Common.{◌≡◌, ◌<◌, ◌++◌, ℕ, List, take, get_or, codes}
use Rattle.session_rules.specs.declared.answers.Reply.{Reply}
use Rattle.script_text.specs.Printed.{all_printed}
use Rattle.script_text.specs.Replies.{PrintsCheckableProof}
use Rattle.explorer_cli.specs.Classes.{AreClassedReplies}
use Rattle.explorer_cli.proofs.classed_sessions.text_at.Given as goal

abbrev pub invariant-loop-place : goal.invariant-loop-place
invariant-loop-place l = record {
  text : (lines : List ℕ) × AreClassedReplies l.translation.problem (take l.place l.floors) (all_printed l.translation (take l.place l.floors) (take l.place l.replies)) lines × (l.out.items ≡ codes "== " ++ l.fn.name ++ codes "\n" ++ lines);
  checkable : (k : ℕ) (floor : List ℕ) (reply : Reply) → k < l.place → PrintsCheckableProof l.translation (get_or l.floors k floor) (get_or l.replies k reply);
}
