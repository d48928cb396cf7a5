use Rattle.std.proofs.Common.{◌≤◌, length, take}
use Rattle.script_text.specs.Limits.{most_output}
use Rattle.explorer_run.specs.Served.{translations_of}
use Rattle.explorer_cli.specs.Classes.{AreTranscriptTexts}
use Rattle.explorer_cli.proofs.sessions.text_of_sessions.Given as goal

abbrev pub invariant-loop-place : goal.invariant-loop-place
invariant-loop-place l = record {
  texts : AreTranscriptTexts l.purpose (translations_of l.served) (take l.place l.scripts) (take l.place l.served.transcripts.items) l.text.items;
  fits : length l.text.items ≤ most_output;
}
