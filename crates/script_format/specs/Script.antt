-- Which script bytes are, and which fault they have.
use Rattle.std.specs.Prelude.{◌≡◌, ◌⊎◌, ◌≤◌, ◌<◌, ◌+◌, ℕ, List, [], ◌∷◌, ◌++◌, length, Some, None}
use Rattle.std.specs.Str.{IsUtf8}
use Rattle.std.specs.Str.Lines.{lines}
use Rattle.script_format.specs.declared.entries.Script.{Script}
use Rattle.script_format.specs.declared.fault.Kind.{Kind}
use Rattle.script_format.specs.declared.fault.Kind.TheVariants as kind
use Rattle.script_format.specs.declared.fault.ScriptFault.{ScriptFault}
use Rattle.script_format.specs.declared.fault.ScriptFault.TheVariants as fault
use Rattle.script_format.specs.Lines.{line_of}
use Rattle.script_format.specs.Reading.{Reading, Start, fault_of, after}

-- none of the lines has a fault, and with them the one reading becomes the other
abbrev pub Leads : Reading → List (List ℕ) → Reading → Type 0
Leads first [] last = last ≡ first
Leads first (text ∷ others) last = (fault_of first (line_of first.began text) ≡ None) × Leads (after first text (line_of first.began text)) others last

-- the line of this number, from 1, is the first one with a fault, and this is its first fault
pub record IsFirstFault (texts : List (List ℕ)) (number : ℕ) (kind : Kind) : Type 0 where
  pub before : List (List ℕ)
  pub text : List ℕ
  pub others : List (List ℕ)
  pub texts_are : texts ≡ before ++ text ∷ others
  pub number_is : number ≡ length before + 1
  pub last : Reading
  pub leads : Leads Start before last
  pub fault : fault_of last (line_of last.began text) ≡ Some kind

-- at most 1,048,576 bytes of UTF-8
abbrev pub IsText : List ℕ → Type 0
IsText bytes = (length bytes ≤ 1048576) × IsUtf8 bytes

-- the bytes are this script
pub record IsScript (bytes : List ℕ) (s : Script) : Type 0 where
  pub is_text : IsText bytes
  pub last : Reading
  pub leads : Leads Start (lines bytes) last
  pub models : s.models ≡ last.models
  pub sessions : s.sessions ≡ last.sessions

abbrev pub fault_at : Kind → ℕ → ScriptFault
fault_at kind.StrayText n = fault.StrayText n
fault_at kind.BadDirective n = fault.BadDirective n
fault_at kind.BadNumber n = fault.BadNumber n
fault_at kind.UnknownModel n = fault.UnknownModel n
fault_at kind.UnknownSession n = fault.UnknownSession n
fault_at kind.Twice n = fault.Twice n
fault_at kind.TooMany n = fault.TooMany n

-- a line of the bytes has the fault, and no line before it has one
abbrev pub HasLineFault : List ℕ → ScriptFault → Type 0
HasLineFault bytes f = IsText bytes × ((number : ℕ) × (kind : Kind) × IsFirstFault (lines bytes) number kind × (f ≡ fault_at kind number))

-- the bytes are no script for this reason: they are too many, or no text, or one of their lines has a fault
abbrev pub HasFault : List ℕ → ScriptFault → Type 0
HasFault bytes f =
    ((f ≡ fault.TooLong) × (1048576 < length bytes))
    ⊎ ((f ≡ fault.NotText) × (length bytes ≤ 1048576) × (IsUtf8 bytes → ⊥))
    ⊎ HasLineFault bytes f
