-- The numbers of a program's ends.
use Rattle.std.specs.Prelude.{ℕ}
use Rattle.outside_io.specs.declared.status.Status.{Status}
use Rattle.outside_io.specs.declared.status.Status.TheVariants.{Done, NotAccepted, WordsRefused, InputRefused, ModelRefused, SourceFailed, SinkFailed, NoMemory}

-- the number that the system is told
abbrev pub number_of : Status → ℕ
number_of Done = 0
number_of NotAccepted = 1
number_of WordsRefused = 2
number_of InputRefused = 3
number_of ModelRefused = 4
number_of SourceFailed = 5
number_of SinkFailed = 6
number_of NoMemory = 7
