-- What the code has read.
use Rattle.std.specs.Prelude.{◌≡◌, ◌⊎◌, List, ℕ, Result, Ok, Err, Some, None}
use Rattle.script_format.specs.declared.fault.Stop.{Stop}
use Rattle.script_format.specs.declared.fault.Stop.TheVariants as stop
use Rattle.script_format.specs.declared.line.Line.{Line}
use Rattle.script_format.specs.declared.reader.Reader.{Reader}
use Rattle.script_format.specs.declared.entries.Script.{Script}
use Rattle.script_format.specs.declared.fault.Kind.{Kind}
use Rattle.script_format.specs.declared.fault.ScriptFault.{ScriptFault}
use Rattle.script_format.specs.declared.fault.ScriptFault.TheVariants as fault
use Rattle.script_format.specs.Reading.{Reading, Start, fault_of, after}
use Rattle.script_format.specs.Lines.{line_of}
use Rattle.script_format.specs.Script.{Leads, IsFirstFault, fault_at}

abbrev pub reading_of : Reader → Reading
reading_of r = record { models = r.models.items; sessions = r.sessions.items; began = r.began; commands = r.commands; asked = r.asked }

-- a line was taken, or its fault was told, or memory was wanting
abbrev pub Takes : {A : Type 0} → Reading → List ℕ → Line → Result A Stop → Reading → Type 0
Takes old text line (Ok done) new = (fault_of old line ≡ None) × (new ≡ after old text line)
Takes old text line (Err stop.Memory) new = Unit {0}
Takes old text line (Err (stop.Fault kind)) new = fault_of old line ≡ Some kind

-- the same of the line with this number
abbrev pub TakesAt : {A : Type 0} → Reading → List ℕ → ℕ → Result A ScriptFault → Reading → Type 0
TakesAt old text number (Ok done) new = (fault_of old (line_of old.began text) ≡ None) × (new ≡ after old text (line_of old.began text))
TakesAt old text number (Err f) new = (f ≡ fault.Memory) ⊎ ((kind : Kind) × (fault_of old (line_of old.began text) ≡ Some kind) × (f ≡ fault_at kind number))

-- the lines are this script, or have this fault, or memory was wanting
abbrev pub Reads : List (List ℕ) → Result Script ScriptFault → Type 0
Reads texts (Ok s) = (last : Reading) × Leads Start texts last × (s.models ≡ last.models) × (s.sessions ≡ last.sessions)
Reads texts (Err f) = (f ≡ fault.Memory) ⊎ ((number : ℕ) × (kind : Kind) × IsFirstFault texts number kind × (f ≡ fault_at kind number))
