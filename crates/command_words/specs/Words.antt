-- Which words tell the program what to do.
use Rattle.std.specs.Prelude.{◌≡◌, ◌≤◌, ◌+◌, ◌*◌, ◌-◌, ◌⊎◌, ◌++◌, ◌∷◌, [], ℕ, List, All, codes, length}
use Rattle.command_words.specs.declared.reading.Command.{Command}
use Rattle.command_words.specs.declared.reading.Command.TheVariants.{Run, Check, Distinct, Assert, Facts, Load, Crew}

abbrev pub IsDigit : ℕ → Type 0
IsDigit b = (48 ≤ b) × (b ≤ 57)

-- a number is one to nine digits; leading zeros are allowed
pub record IsNumber (word : List ℕ) : Type 0 where
  pub some : 1 ≤ length word
  pub few : length word ≤ 9
  pub digits : All IsDigit word

-- the number of these digits behind those of another one
abbrev pub number_after : ℕ → List ℕ → ℕ
number_after n [] = n
number_after n (b ∷ digits) = number_after (n * 10 + (b - 48)) digits

-- the words of an option: its name and its number, as the next word or behind `=`
pub record IsOption (name : List ℕ) (low high : ℕ) (words : List (List ℕ)) (n : ℕ) : Type 0 where
  pub word : List ℕ
  pub number : IsNumber word
  pub is : n ≡ number_after 0 word
  pub least : low ≤ n
  pub most : n ≤ high
  pub given : (words ≡ name ∷ word ∷ []) ⊎ (words ≡ (name ++ codes "=" ++ word) ∷ [])

abbrev pub IsWorkers : List (List ℕ) → ℕ → Type 0
IsWorkers words n = IsOption (codes "--workers") 1 16 words n

-- the budget where none is given
abbrev pub default_budget : ℕ
default_budget = 20000

abbrev pub IsBudget : List (List ℕ) → ℕ → Type 0
IsBudget words n = IsOption (codes "--budget") 0 100000 words n

-- one part of the words and then the other
pub record AreBoth (First Second : List (List ℕ) → Type 0) (words : List (List ℕ)) : Type 0 where
  pub front : List (List ℕ)
  pub back : List (List ℕ)
  pub in_order : words ≡ front ++ back
  pub first : First front
  pub second : Second back

-- no option, one of the two, or both in either order; an option that isn't there has its default
abbrev pub AreOptions : List (List ℕ) → ℕ → ℕ → Type 0
AreOptions words workers budget =
    ((words ≡ []) × (workers ≡ 4) × (budget ≡ default_budget))
    ⊎ (IsWorkers words workers × (budget ≡ default_budget))
    ⊎ (IsBudget words budget × (workers ≡ 4))
    ⊎ AreBoth (λ front. IsWorkers front workers) (λ back. IsBudget back budget) words
    ⊎ AreBoth (λ front. IsBudget front budget) (λ back. IsWorkers back workers) words

-- no option, or that of the budget
abbrev pub IsBudgetAlone : List (List ℕ) → ℕ → Type 0
IsBudgetAlone words budget = ((words ≡ []) × (budget ≡ default_budget)) ⊎ IsBudget words budget

-- a word alone, which is a number from 1 to 16
pub record IsLoadNumber (words : List (List ℕ)) (n : ℕ) : Type 0 where
  pub word : List ℕ
  pub number : IsNumber word
  pub is : n ≡ number_after 0 word
  pub least : 1 ≤ n
  pub most : n ≤ 16
  pub alone : words ≡ word ∷ []

-- the number of a load, and before it, behind it or not at all the option of the workers
abbrev pub AreOfLoad : List (List ℕ) → ℕ → ℕ → Type 0
AreOfLoad words number workers =
    (IsLoadNumber words number × (workers ≡ 4))
    ⊎ AreBoth (λ front. IsLoadNumber front number) (λ back. IsWorkers back workers) words
    ⊎ AreBoth (λ front. IsWorkers front workers) (λ back. IsLoadNumber back number) words

-- the name of a command, and what stands behind it
abbrev pub IsBehind : List ℕ → List (List ℕ) → (List (List ℕ) → Type 0) → Type 0
IsBehind name words Are = (options : List (List ℕ)) × (words ≡ name ∷ options) × Are options

-- the words say this command: its name with its options, or `check` alone
abbrev pub Says : List (List ℕ) → Command → Type 0
Says words (Run workers budget) = IsBehind (codes "run") words (λ options. AreOptions options workers budget)
Says words Check = words ≡ codes "check" ∷ []
Says words (Distinct workers budget) = IsBehind (codes "distinct") words (λ options. AreOptions options workers budget)
Says words (Assert budget) = IsBehind (codes "assert") words (λ options. IsBudgetAlone options budget)
Says words (Facts budget) = IsBehind (codes "facts") words (λ options. IsBudgetAlone options budget)
Says words (Load number workers) = IsBehind (codes "load") words (λ behind. AreOfLoad behind number workers)
Says words (Crew workers budget) = IsBehind (codes "crew") words (λ options. AreOptions options workers budget)

-- no command is said
abbrev pub SaysNone : List (List ℕ) → Type 0
SaysNone words = (c : Command) → Says words c → ⊥
