-- The sessions of a script have at most 4,096 commands together.
use Rattle.std.proofs.Common.{◌≡◌, ◌≤◌, ◌+◌, ◌++◌, ℕ, zero, suc, List, [], ◌∷◌, All, length, refl, subst, sym, arith, length-append}
use Rattle.std.specs.Str.Lines.{lines}
use Rattle.session_words.specs.declared.commands.Command.{Command}
use Rattle.script_format.specs.declared.entries.SessionEntry.{SessionEntry}
use Rattle.script_format.specs.declared.entries.Script.{Script}
use Rattle.script_format.specs.declared.line.Line.{Line}
use Rattle.script_format.specs.declared.line.Line.TheVariants as line
use Rattle.script_format.specs.Lines.{line_of}
use Rattle.script_format.specs.Reading.{Reading, Start, new_session, after, changed, with_command}
use Rattle.script_format.specs.Script.{Leads, IsScript}
use Rattle.script_format.proofs.LineReadings.{beyond}
use Rattle.script_format.proofs.Soundness.{sound_after, sound_at_start}

abbrev commands_in : List SessionEntry → ℕ
commands_in [] = 0
commands_in (x ∷ xs) = length x.commands + commands_in xs

count_changed : (c : Command) (k : ℕ) (ss : List SessionEntry) → commands_in (changed (with_command c) k ss) ≤ commands_in ss + 1
count_changed c k [] = omega arith
count_changed c zero (x ∷ xs) = omega (arith, length-append x.commands (c ∷ []))
count_changed c (suc k) (x ∷ xs) = omega (arith, count_changed c k xs)

count_more : (ss : List SessionEntry) (s : SessionEntry) → length s.commands ≡ 0 → commands_in (ss ++ s ∷ []) ≡ commands_in ss
count_more [] s none = omega (arith, none)
count_more (x ∷ xs) s none = omega (arith, count_more xs s none)

-- the sessions have no more commands than were counted
abbrev IsCounted : Reading → Type 0
IsCounted r = commands_in r.sessions ≤ r.commands

counted_on : (r : Reading) (text : List ℕ) (l : Line) → IsCounted r → IsCounted (after r text l)
unfolding after
counted_on r text line.Idle h = h
counted_on r text line.Stray h = h
counted_on r text line.BadNumber h = h
counted_on r text line.Unknown h = h
counted_on r text (line.Text k) h = h
counted_on r text (line.Model name) h = h
counted_on r text (line.Session name model number) h = omega (arith, h, count_more r.sessions (new_session r name model number) refl)
counted_on r text (line.More name) h = h
counted_on r text (line.Command k command) h = omega (arith, h, count_changed command k r.sessions)

counted_after : (first last : Reading) (texts : List (List ℕ)) → Leads first texts last → IsCounted first → IsCounted last
counted_after first last [] e h = subst IsCounted (sym e) h
counted_after first last (x ∷ xs) p h = counted_after (beyond first x) last xs p.1 (counted_on first x (line_of first.began x) h)

each_counted : (ss : List SessionEntry) (most : ℕ) → commands_in ss ≤ most → All (λ (x : SessionEntry). length x.commands ≤ most) ss
each_counted [] most few k d l = absurd (omega arith)
each_counted (x ∷ xs) most few zero d l = omega arith
each_counted (x ∷ xs) most few (suc k) d l = each_counted xs most (omega arith) k d (omega arith)

pub few_commands : (bytes : List ℕ) (s : Script) → IsScript bytes s → All (λ (x : SessionEntry). length x.commands ≤ 4096) s.sessions
few_commands bytes s is =
    let sound = sound_after Start is.last (lines bytes) is.leads sound_at_start in
    let counted = counted_after Start is.last (lines bytes) is.leads (omega arith) in
    each_counted s.sessions 4096 (subst (λ (ss : List SessionEntry). commands_in ss ≤ 4096) (sym is.sessions) (omega (arith, sound.commands, counted)))
