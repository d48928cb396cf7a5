-- What a command may print, and problems whose names and numbers can be told apart in a text.
use Rattle.std.specs.Prelude.{◌≡◌, ◌≢◌, ◌⊎◌, ◌==◌, ◌+◌, ◌<◌, ◌≤◌, ◌^◌, ℕ, List, [], ◌∷◌, length, Bool, ◌||◌, All, IsTrue}
use Rattle.std.specs.List.{AllZip}
use Rattle.cnf_core.specs.declared.literal.Lit.{Lit}
use Rattle.refutation_check.specs.declared.log.Step.{Step as LogStep}
use Rattle.tuple_core.specs.declared.atom.Atom.{Atom}
use Rattle.rel_formula.specs.Bounds.{Bounded, IsProblem, IsAtomOf, cells_of}
use Rattle.rel_formula.specs.Instance.{IsScenario}
use Rattle.session_words.specs.declared.steps.Step.{Step}
use Rattle.session_words.specs.declared.steps.Step.TheVariants as step
use Rattle.session_words.specs.declared.commands.Command.{Command}
use Rattle.session_words.specs.declared.commands.Command.TheVariants as command
use Rattle.script_format.specs.Tuples.{is_language_byte}
use Rattle.script_text.specs.Printed.{Printed, shown, ended, offered, augmented, back, budget_set, listed, partly, proved, refused, no_memory}
use Rattle.script_text.specs.Replies.{PrintedSession}

-- a byte of a relation's name: a letter, a digit, `_`, `'`, `.` or `/`
abbrev pub is_relation_byte : ℕ → Bool
is_relation_byte b = is_language_byte b || b == 46 || b == 47

-- a problem whose relations have such names, and whose atoms have places of 16 bits
pub record IsWritable (p : Bounded) : Type 0 where
  pub problem : IsProblem p
  pub names : All (λ r. All (λ b. IsTrue (is_relation_byte b)) r.name) p.relations
  pub places : (a : Atom) → IsAtomOf p a → a.place < 2 ^ 16

-- an answer to a command, other than a refusal and want of memory
abbrev pub Answers : Command → Printed → Type 0
Answers (command.Step step.Next) r = ((n : ℕ) × (s : List ℕ) × (r ≡ shown n s)) ⊎ ((n : ℕ) × (r ≡ ended n))
Answers (command.Step step.Offers) r = (cells : List ℕ) × (r ≡ offered cells)
Answers (command.Step (step.Augment relation tuple)) r = r ≡ augmented
Answers (command.Step step.Back) r = r ≡ back
Answers (command.Step (step.Budget budget)) r = (n : ℕ) × (r ≡ budget_set n)
Answers (command.Step step.Proof) r = (clauses : List (List Lit)) × (log : List LogStep) × (r ≡ proved clauses log)
Answers (command.All n) r = ((ss : List (List ℕ)) × (r ≡ listed ss)) ⊎ ((first : ℕ) × (s : List ℕ) × (ss : List (List ℕ)) × (r ≡ partly first (s ∷ ss)))

-- what may be printed for a command
abbrev pub MayPrint : Command → Printed → Type 0
MayPrint c r = Answers c r ⊎ ((words : List ℕ) × (r ≡ refused words)) ⊎ (r ≡ no_memory)

-- a number, and a literal, from 1 and with 64 bits at most
abbrev pub IsSmall : ℕ → Type 0
IsSmall n = (1 ≤ n) × (n < 2 ^ 64)

abbrev pub IsSmallLiteral : Lit → Type 0
IsSmallLiteral l = IsSmall l.var

-- a step with such literals and hints
abbrev pub IsSmallStep : LogStep → Type 0
IsSmallStep s = All IsSmallLiteral s.clause × All IsSmall s.hints

-- scenarios and cells are the problem's, numbers have 64 bits, and the words of a refusal stand on one line
abbrev pub IsProper : Bounded → Printed → Type 0
IsProper p (shown n s) = (n < 2 ^ 64) × IsScenario p s
IsProper p (ended n) = n < 2 ^ 64
IsProper p (offered cells) = All (λ n. n < length (cells_of p)) cells × (length cells < 2 ^ 64)
IsProper p (budget_set n) = n < 2 ^ 64
IsProper p (listed ss) = All (IsScenario p) ss × (length ss < 2 ^ 63)
IsProper p (partly first ss) = (first < 2 ^ 63) × (length ss < 2 ^ 63) × All (IsScenario p) ss
IsProper p (proved clauses log) = (length clauses + length log < 2 ^ 64) × All (All IsSmallLiteral) clauses × All IsSmallStep log
IsProper p (refused words) = All (λ b. b ≢ 10) words
IsProper p r = Unit {0}

-- what is printed of a session is printed for these commands, and can be told apart
pub record IsPrintedFor (commands : List Command) (s : PrintedSession) : Type 0 where
  pub writable : IsWritable s.problem
  pub each : AllZip MayPrint commands s.replies
  pub proper : All (IsProper s.problem) s.replies

-- the same session, whatever was answered
pub record AreAlike (s t : PrintedSession) : Type 0 where
  pub problem : s.problem ≡ t.problem
  pub name : s.name ≡ t.name
