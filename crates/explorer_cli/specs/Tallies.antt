-- What the lists of transcripts come to, as the code counts them.
use Rattle.std.specs.Prelude.{◌≤◌, ℕ, List, length, sum_by}
use Rattle.session_rules.specs.declared.answers.Reply.{Reply}
use Rattle.session_rules.specs.declared.answers.Reply.TheVariants.{All as AllShown}
use Rattle.session_rules.specs.declared.script.Transcript.{Transcript}
use Rattle.script_text.specs.Limits.{most_output}
use Rattle.explorer_run.specs.Served.{translations_of}
use Rattle.served_models.specs.declared.purposes.Purpose.TheVariants.{Lists}
use Rattle.explorer_cli.specs.declared.sessions.Ran.{Ran}
use Rattle.explorer_cli.specs.Classes.{AreTranscriptTexts}
use Rattle.explorer_cli.specs.Load.{summary}

-- how many scenarios a reply lists that ends its floor; and one where it does
abbrev pub scenarios_in : Reply → ℕ
scenarios_in (AllShown scenarios) = length scenarios
scenarios_in r = 0

abbrev pub ends_in : Reply → ℕ
ends_in (AllShown scenarios) = 1
ends_in r = 0

-- the sum over all replies of transcripts
abbrev pub sum_in : (Reply → ℕ) → List Transcript → ℕ
sum_in count transcripts = sum_by (λ y. sum_by count y.replies) transcripts

-- the summary of transcripts
abbrev pub summary_in : List Transcript → List ℕ
summary_in transcripts = summary (length transcripts) (sum_in scenarios_in transcripts) (sum_in ends_in transcripts)

-- the transcripts have a text, as `run` would write it
abbrev pub HasLines : Ran → Type 0
HasLines ran = (lines : List ℕ) × AreTranscriptTexts Lists (translations_of ran.served) ran.scripts.items ran.served.transcripts.items lines × (length lines ≤ most_output)
