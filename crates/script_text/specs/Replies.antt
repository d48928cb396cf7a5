-- How replies and sessions are written.
use Rattle.std.specs.Prelude.{◌≡◌, ◌+◌, ℕ, List, [], ◌∷◌, ◌++◌, length, slice_index_or, codes, decimal, All}
use Rattle.std.specs.List.{flat_map}
use Rattle.refutation_check.specs.WrittenProof.{proof_text}
use Rattle.tuple_core.specs.Rows.{Rows, IsRows}
use Rattle.rel_formula.specs.declared.problem.Cell.{Cell}
use Rattle.rel_formula.specs.Bounds.{Bounded, relation_at, cell_of, cells_of}
use Rattle.rel_formula.specs.Instance.{AreCells}
use Rattle.rel_formula.specs.Tables.{AreTables}
use Rattle.translation_rules.specs.Translation.{Translated}
use Rattle.script_text.specs.Proofs.Printed.{IsCheckable}
use Rattle.session_rules.specs.Proofs.{Proves}
use Rattle.session_rules.specs.declared.end_proof.ProofKind.TheVariants.{End}
use Rattle.session_rules.specs.declared.answers.Reply.{Reply}
use Rattle.session_rules.specs.declared.answers.Reply.TheVariants as reply
use Rattle.script_text.specs.Lines.{tuple_text, relation_lines}
use Rattle.script_text.specs.Printed.{Printed, shown, ended, offered, augmented, back, budget_set, listed, partly, proved, refused, no_memory}

-- a line for each relation of the problem, with its value in the scenario, the tuples in order
abbrev pub IsScenarioText : Bounded → List ℕ → List ℕ → Type 0
IsScenarioText p scenario text = (tables : List Rows) × AreTables p scenario tables × All IsRows tables × (text ≡ relation_lines p p.relations tables)

-- scenarios that are numbered from n on, each with a line above it: a word and its number
abbrev pub AreNumbered : Bounded → List ℕ → ℕ → List (List ℕ) → List ℕ → Type 0
AreNumbered p word n [] text = text ≡ []
AreNumbered p word n (scenario ∷ scenarios) text =
    (lines : List ℕ) × (others : List ℕ) × IsScenarioText p scenario lines × AreNumbered p word (n + 1) scenarios others × (text ≡ word ++ decimal n ++ codes "\n" ++ lines ++ others)

-- the cell of a number: its relation's name and its tuple
abbrev pub cell_line : Bounded → ℕ → List ℕ
cell_line p n =
    let cell : Cell = slice_index_or (cells_of p) n (cell_of 0 []) in
    (relation_at p.relations cell.relation).name ++ codes " " ++ tuple_text p cell.tuple ++ codes "\n"

-- the lines of a reply
abbrev pub IsReplyText : Bounded → Printed → List ℕ → Type 0
IsReplyText p (shown number scenario) text = (lines : List ℕ) × IsScenarioText p scenario lines × (text ≡ codes "scenario " ++ decimal number ++ codes "\n" ++ lines)
IsReplyText p (ended number) text = text ≡ codes "end " ++ decimal number ++ codes "\n"
IsReplyText p (offered cells) text = text ≡ codes "offers " ++ decimal (length cells) ++ codes "\n" ++ flat_map (cell_line p) cells
IsReplyText p augmented text = text ≡ codes "augmented\n"
IsReplyText p back text = text ≡ codes "back\n"
IsReplyText p (budget_set budget) text = text ≡ codes "budget " ++ decimal budget ++ codes "\n"
IsReplyText p (listed scenarios) text =
    (lines : List ℕ) × AreNumbered p (codes "listed ") 1 scenarios lines × (text ≡ lines ++ codes "end " ++ decimal (length scenarios) ++ codes "\n")
IsReplyText p (partly first scenarios) text =
    (lines : List ℕ) × AreNumbered p (codes "scenario ") first scenarios lines × (text ≡ lines ++ codes "partly " ++ decimal (length scenarios) ++ codes "\n")
IsReplyText p (proved clauses log) text = text ≡ codes "proof " ++ decimal (length clauses + length log) ++ codes "\n" ++ proof_text clauses log
IsReplyText p (refused words) text = text ≡ codes "refused " ++ words ++ codes "\n"
IsReplyText p no_memory text = text ≡ codes "memory\n"

-- the lines of replies, one after the other
abbrev pub AreReplyTexts : Bounded → List Printed → List ℕ → Type 0
AreReplyTexts p [] text = text ≡ []
AreReplyTexts p (r ∷ rs) text = (first : List ℕ) × (others : List ℕ) × IsReplyText p r first × AreReplyTexts p rs others × (text ≡ first ++ others)

-- `== `, the session's name, and the lines of its replies
abbrev pub IsSessionText : Bounded → List ℕ → List Printed → List ℕ → Type 0
IsSessionText p name replies text = (lines : List ℕ) × AreReplyTexts p replies lines × (text ≡ codes "== " ++ name ++ codes "\n" ++ lines)

-- what is printed of a session: its problem, its name and its replies
pub record PrintedSession : Type 0 where
  pub problem : Bounded
  pub name : List ℕ
  pub replies : List Printed

-- the texts of sessions, one after the other
abbrev pub IsOutput : List PrintedSession → List ℕ → Type 0
IsOutput [] text = text ≡ []
IsOutput (s ∷ others) text = (first : List ℕ) × (rest : List ℕ) × IsSessionText s.problem s.name s.replies first × IsOutput others rest × (text ≡ first ++ rest)

-- the cells that the reply names are the problem's
abbrev pub FitsProblem : Bounded → Printed → Type 0
FitsProblem p (shown number scenario) = AreCells p scenario
FitsProblem p (offered cells) = AreCells p cells
FitsProblem p (listed scenarios) = All (AreCells p) scenarios
FitsProblem p (partly first scenarios) = All (AreCells p) scenarios
FitsProblem p r = Unit {0}

-- the cells that the reply names are the problem's
abbrev pub NamesCellsOf : Bounded → Reply → Type 0
NamesCellsOf p (reply.Shown number scenario) = AreCells p scenario
NamesCellsOf p (reply.Offers cells) = AreCells p cells
NamesCellsOf p (reply.All scenarios) = All (AreCells p) scenarios
NamesCellsOf p (reply.Partly first scenarios) = All (AreCells p) scenarios
NamesCellsOf p (reply.Proof proof) = All (AreCells p) proof.blocked
NamesCellsOf p r = Unit {0}

-- the reply prints no proof
abbrev pub PrintsNoProof : Reply → Type 0
PrintsNoProof (reply.Proof proof) = ⊥
PrintsNoProof r = Unit {0}

-- a proof that the reply prints is one of the end of this floor
abbrev pub PrintsRightProof : Translated → List ℕ → Reply → Type 0
PrintsRightProof t floor (reply.Proof proof) = Proves t floor End proof
PrintsRightProof t floor r = Unit {0}

-- the lines of a proof that the reply prints can be read, and are accepted by `check` where they are no longer than a proof
-- text may be
abbrev pub PrintsCheckableProof : Translated → List ℕ → Reply → Type 0
PrintsCheckableProof t floor (reply.Proof proof) = IsCheckable t floor End proof
PrintsCheckableProof t floor r = Unit {0}
