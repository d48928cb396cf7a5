-- What is read of the words of a proof text. A number above 2,147,483,647 is read as 2,147,483,648.
use Rattle.std.specs.Prelude.{◌≡◌, ◌≢◌, ◌==◌, ◌<◌, ◌≤◌, ◌+◌, ◌*◌, ◌-◌, ◌&&◌, ◌++◌, ◌∷◌, [], ℕ, Bool, true, false, not, List, All, Option, None, Some, codes, length, map, min, nat_le, if◌then◌else◌}
use Rattle.cnf_core.specs.declared.literal.Lit.{Lit}
use Rattle.refutation_check.specs.declared.proof_text.word.Word.{Word}
use Rattle.refutation_check.specs.declared.proof_text.word.Word.TheVariants.{Clause, Step, End, Number, Negative, Other}
use Rattle.refutation_check.specs.declared.proof_text.line.Form.{Form}
use Rattle.refutation_check.specs.declared.proof_text.line.Form.TheVariants as forms
use Rattle.refutation_check.specs.ProofText.{words_in, IsNumber, IsLiteral, number_of, literal_of, IsClauseLine, IsStepLine}

-- ---- bytes

abbrev pub is_in_line : ℕ → Bool
is_in_line b = not (b == 10)

abbrev pub is_digit : ℕ → Bool
is_digit b = nat_le 48 b && nat_le b 57

-- what stands behind the spaces at the front
abbrev pub behind_spaces : List ℕ → List ℕ
behind_spaces [] = []
behind_spaces (b ∷ bytes) = if b == 32 then behind_spaces bytes else b ∷ bytes

-- the digits at the front, and what stands behind them
abbrev pub digits_in : List ℕ → List ℕ
digits_in [] = []
digits_in (b ∷ bytes) = if is_digit b then b ∷ digits_in bytes else []

abbrev pub behind_digits : List ℕ → List ℕ
behind_digits [] = []
behind_digits (b ∷ bytes) = if is_digit b then behind_digits bytes else b ∷ bytes

-- a word ends before these bytes
abbrev pub ends_before : List ℕ → Bool
ends_before [] = true
ends_before (b ∷ bytes) = b == 32

abbrev pub capped : ℕ → ℕ
capped n = min n 2147483648

-- a number that is read, and a digit more
abbrev pub with_digit : ℕ → ℕ → ℕ
with_digit n b = capped (n * 10 + (b - 48))

-- the number that is read behind another one
abbrev pub read_after : ℕ → List ℕ → ℕ
read_after n [] = n
read_after n (b ∷ bytes) = if is_digit b then read_after (with_digit n b) bytes else n

-- ---- words

-- the word is read as this
abbrev pub IsRead : List ℕ → Word → Type 0
IsRead word Clause = word ≡ codes "c"
IsRead word Step = word ≡ codes "s"
IsRead word End = word ≡ codes "0"
IsRead word (Number n) = IsNumber word × (n ≡ capped (number_of word))
IsRead word (Negative n) = (digits : List ℕ) × (word ≡ 45 ∷ digits) × IsNumber digits × (n ≡ capped (number_of digits))
IsRead word Other = (word ≢ codes "c") × (word ≢ codes "s") × (word ≢ codes "0") × (IsLiteral word → ⊥)

-- the first word of a line is read as this, and the others stand behind it
pub record IsFirstWord (bytes : List ℕ) (read : Word) (rest : List ℕ) : Type 0 where
  pub word : List ℕ
  pub others : List (List ℕ)
  pub there : words_in bytes ≡ word ∷ others
  pub is_read : IsRead word read
  pub behind : read ≢ Other → others ≡ words_in rest
  pub shorter : length rest < length bytes

-- ---- literals and hints, up to their `0`

abbrev pub read_literal : List ℕ → Lit
read_literal word = let l = literal_of word in record { var = capped l.var; positive = l.positive }

abbrev pub read_number : List ℕ → ℕ
read_number word = capped (number_of word)

-- the words are these literals, `0`, and what stands behind it
pub record IsFront (IsItem : List ℕ → Type 0) (words items rest : List (List ℕ)) : Type 0 where
  pub spelled : words ≡ items ++ codes "0" ∷ rest
  pub each : All IsItem items

-- the items at the front are read and put at the end, and behind their `0` stands the rest
pub record IsReadTo {X : Type 0} (IsItem : List ℕ → Type 0) (read : List ℕ → X) (line : List ℕ) (old new : List X) (rest : List ℕ) : Type 0 where
  pub items : List (List ℕ)
  pub front : IsFront IsItem (words_in line) items (words_in rest)
  pub read_is : new ≡ old ++ map read items

-- the line has no such front
abbrev pub HasNoFront : (List ℕ → Type 0) → List ℕ → Type 0
HasNoFront IsItem line = (items rest : List (List ℕ)) → IsFront IsItem (words_in line) items rest → ⊥

-- the literal and the number that a word is read as
abbrev pub literal_in : Word → Option Lit
literal_in (Number n) = Some (record { var = n; positive = true })
literal_in (Negative n) = Some (record { var = n; positive = false })
literal_in Clause = None
literal_in Step = None
literal_in End = None
literal_in Other = None

abbrev pub number_in : Word → Option ℕ
number_in (Number n) = Some n
number_in (Negative n) = None
number_in Clause = None
number_in Step = None
number_in End = None
number_in Other = None

-- ---- lines

pub record IsReadClause (words : List (List ℕ)) (lits : List Lit) (numbers : List ℕ) : Type 0 where
  pub literals : List (List ℕ)
  pub line : IsClauseLine words literals
  pub lits_are : lits ≡ map read_literal literals
  pub numbers_are : numbers ≡ []

pub record IsReadStep (words : List (List ℕ)) (lits : List Lit) (numbers : List ℕ) : Type 0 where
  pub literals : List (List ℕ)
  pub hints : List (List ℕ)
  pub line : IsStepLine words literals hints
  pub lits_are : lits ≡ map read_literal literals
  pub numbers_are : numbers ≡ map read_number hints

-- the form of a line, with its literals and hints
abbrev pub IsForm : List (List ℕ) → Form → List Lit → List ℕ → Type 0
IsForm words forms.Blank lits numbers = words ≡ []
IsForm words forms.Clause lits numbers = IsReadClause words lits numbers
IsForm words forms.Step lits numbers = IsReadStep words lits numbers
IsForm words forms.Other lits numbers =
    (words ≢ []) × ((literals : List (List ℕ)) → IsClauseLine words literals → ⊥) × ((literals hints : List (List ℕ)) → IsStepLine words literals hints → ⊥)
