-- A command without an input answers as one that has read nothing.
use Rattle.std.proofs.Common.{◌≡◌, ◌≤◌, ◌⊎◌, ◌∙◌, ℕ, List, [], take, drop, length, refl, sym, ap, subst, arith}
use Rattle.outside_io.specs.declared.status.Status.{Status}
use Rattle.outside_io.specs.declared.status.Status.TheVariants.{NoMemory}
use Rattle.command_words.specs.declared.reading.Command.{Command}
use Rattle.proof_command.specs.Inputs.{AnswersInput, IsWritten}
use Rattle.proof_command.proofs.Inputs.{answered}
use Rattle.explorer_cli.specs.Outcome.{IsAnswerTo, limit_of}
use Rattle.explorer_cli.proofs.Fronts.{answers_whole}

pub answers_unread : (command : Command) → limit_of command ≡ 0 → (source_tells : Type 0) (had bytes : List ℕ) (sink_tells : Type 0) (old new : List ℕ) (result : Status) → bytes ≡ []
    → (result ≡ NoMemory) ⊎ ((status : Status) × (text : List ℕ) × IsAnswerTo command bytes status text × IsWritten status text sink_tells old new result)
    → AnswersInput (limit_of command) (IsAnswerTo command) source_tells had had sink_tells old new result
answers_unread command none source_tells had bytes sink_tells old new result empty written = record {
  front = λ t. ([], refl, omega arith);
  done = answered (limit_of command) (IsAnswerTo command) (answers_whole command) source_tells had had bytes sink_tells old new result (λ t. empty ∙ sym (ap (λ (n : ℕ). take n had) none)) (λ t. sym (ap (λ (n : ℕ). drop n had) none)) written;
}
