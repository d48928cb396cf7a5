-- How a call that reads an input and writes the answer to it stands to that answer. Of a source and of a sink it is known in
-- each call whether they tell their bytes, and which bytes: those that were and are left, those that were and are written.
use Rattle.std.specs.Prelude.{◌≡◌, ◌⊎◌, ◌++◌, ℕ, List, drop}
use Rattle.outside_io.specs.Front.{TakesFront, AppendsPart}
use Rattle.outside_io.specs.declared.status.Status.{Status}
use Rattle.outside_io.specs.declared.status.Status.TheVariants.{SourceFailed, SinkFailed, NoMemory}

-- the text was appended, and its status is the result; or, where the sink failed, a part of it was
abbrev pub IsWritten : Status → List ℕ → Type 0 → List ℕ → List ℕ → Status → Type 0
IsWritten status text tells old new result =
    ((result ≡ status) × (tells → new ≡ old ++ text)) ⊎ ((result ≡ SinkFailed) × (tells → AppendsPart old new text))

-- an answer was written: where the source tells its bytes, one to all that it had, and else one to some bytes
pub record WritesAnswer (IsAnswer : List ℕ → Status → List ℕ → Type 0) (source_tells : Type 0) (had : List ℕ) (sink_tells : Type 0) (old new : List ℕ) (result : Status) : Type 0 where
  pub status : Status
  pub text : List ℕ
  pub told : source_tells → IsAnswer had status text
  pub untold : (bytes : List ℕ) × IsAnswer bytes status text
  pub written : IsWritten status text sink_tells old new result

-- `most` bytes at most were read; unless the source failed or memory was wanting, all that the source had was, or just so many,
-- and the answer was written
pub record AnswersInput (most : ℕ) (IsAnswer : List ℕ → Status → List ℕ → Type 0) (source_tells : Type 0) (had left : List ℕ) (sink_tells : Type 0) (old new : List ℕ) (result : Status) : Type 0 where
  pub front : source_tells → TakesFront most had left
  pub done : (result ≡ SourceFailed) ⊎ (result ≡ NoMemory) ⊎ ((source_tells → left ≡ drop most had) × WritesAnswer IsAnswer source_tells had sink_tells old new result)
