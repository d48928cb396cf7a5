-- How a script is refused.
use Rattle.std.specs.Prelude.{ℕ, List, [], ◌++◌, codes, decimal}
use Rattle.script_format.specs.declared.fault.ScriptFault.{ScriptFault}
use Rattle.script_format.specs.declared.fault.ScriptFault.TheVariants as fault

-- the line that refuses a script, with the words that say why
abbrev pub script_line : List ℕ → List ℕ
script_line words = codes "fault script " ++ words ++ codes "\n"

-- a line's number, and what is wrong with the line
abbrev pub line_words : ℕ → List ℕ → List ℕ
line_words line kind = codes "line " ++ decimal line ++ codes " " ++ kind

-- what is told of a fault; want of memory is no fault of a script
abbrev pub fault_words : ScriptFault → List ℕ
fault_words fault.TooLong = codes "too_long"
fault_words fault.NotText = codes "not_text"
fault_words (fault.BadDirective line) = line_words line (codes "bad_directive")
fault_words (fault.StrayText line) = line_words line (codes "stray_text")
fault_words (fault.UnknownModel line) = line_words line (codes "unknown_model")
fault_words (fault.UnknownSession line) = line_words line (codes "unknown_session")
fault_words (fault.Twice line) = line_words line (codes "twice")
fault_words (fault.BadNumber line) = line_words line (codes "bad_number")
fault_words (fault.TooMany line) = line_words line (codes "too_many")
fault_words fault.Memory = []
