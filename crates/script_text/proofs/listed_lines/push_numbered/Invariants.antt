use Rattle.std.proofs.Common.{◌≡◌, ◌++◌, ℕ, List, take}
use Rattle.script_text.specs.Replies.{AreNumbered}
use Rattle.script_text.proofs.listed_lines.push_numbered.Given as goal

abbrev pub invariant-loop-place : goal.invariant-loop-place
invariant-loop-place l = (lines : List ℕ) × AreNumbered l.problem l.word l.first (take l.place l.scenarios) lines × (l.out.items ≡ l.fn.out.items ++ lines)
