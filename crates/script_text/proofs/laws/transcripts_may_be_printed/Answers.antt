use Rattle.script_text.proofs.AnsweredTranscripts.{transcript_prints}
use Rattle.script_text.proofs.laws.transcripts_may_be_printed.Goals as goal

pub returns : goal.returns
returns c = transcript_prints
