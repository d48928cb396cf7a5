-- The options of a command, from the first one on.
use Rattle.std.proofs.Common.{◌≡◌, ◌⊎◌, ◌++◌, ℕ, List, [], ◌∷◌, codes, get_or, refl, sym, subst, ap, ◌∙◌, arith, inl, inr}
use Rattle.command_words.specs.Words.{AreOfLoad, AreOptions, IsBehind, IsBudgetAlone, IsLoadNumber, IsNumber, IsWorkers, Says, number_after}
use Rattle.command_words.specs.declared.reading.Command.{Command}
use Rattle.command_words.specs.declared.reading.Command.TheVariants.{Run, Check, Distinct, Assert, Facts, Load, Crew}
use Rattle.command_words.proofs.OptionLemmas.{BeginsWithOption, begin_value, begins_once, first_bytes, not_both, some_words, alone}

-- the option alone, or no words and its default
abbrev pub IsLastWorkers : List (List ℕ) → ℕ → Type 0
IsLastWorkers words n = ((words ≡ []) × (n ≡ 4)) ⊎ IsWorkers words n

pub record FromWorkers (words : List (List ℕ)) (workers budget : ℕ) : Type 0 where
  pub rest : List (List ℕ)
  pub begins : BeginsWithOption (codes "--workers") 1 16 words workers rest
  pub last : IsBudgetAlone rest budget

pub record FromBudget (words : List (List ℕ)) (workers budget : ℕ) : Type 0 where
  pub rest : List (List ℕ)
  pub begins : BeginsWithOption (codes "--budget") 0 100000 words budget rest
  pub last : IsLastWorkers rest workers

pub record AreNone (words : List (List ℕ)) (workers budget : ℕ) : Type 0 where
  pub none : words ≡ []
  pub workers_are : workers ≡ 4
  pub budget_is : budget ≡ 20000

-- by the first option
pub FromFirst : List (List ℕ) → ℕ → ℕ → Type 0
FromFirst words workers budget = AreNone words workers budget ⊎ FromWorkers words workers budget ⊎ FromBudget words workers budget

pub from_first : (words : List (List ℕ)) (workers budget : ℕ) → AreOptions words workers budget → FromFirst words workers budget
unfolding FromFirst
from_first words workers budget (inl none) = inl (record { none = none.0; workers_are = none.1; budget_is = none.2 })
from_first words workers budget (inr (inl one)) = inr (inl (record { rest = []; begins = alone (codes "--workers") 1 16 words workers one.0; last = inl (refl, one.1) }))
from_first words workers budget (inr (inr (inl one))) = inr (inr (record { rest = []; begins = alone (codes "--budget") 0 100000 words budget one.0; last = inl (refl, one.1) }))
from_first words workers budget (inr (inr (inr (inl both)))) =
    inr (inl (record { rest = both.back; begins = record { front = both.front; in_order = both.in_order; option = both.first }; last = inr both.second }))
from_first words workers budget (inr (inr (inr (inr both)))) =
    inr (inr (record { rest = both.back; begins = record { front = both.front; in_order = both.in_order; option = both.first }; last = inr both.second }))

-- ---- last options

pub budget_once : (words : List (List ℕ)) (n m : ℕ) → IsBudgetAlone words n → IsBudgetAlone words m → n ≡ m
budget_once words n m (inl a) (inl b) = a.1 ∙ sym b.1
budget_once words n m (inl a) (inr b) = absurd (some_words (codes "--budget") 0 100000 words m [] (alone (codes "--budget") 0 100000 words m b) a.0)
budget_once words n m (inr a) (inl b) = absurd (some_words (codes "--budget") 0 100000 words n [] (alone (codes "--budget") 0 100000 words n a) b.0)
budget_once words n m (inr a) (inr b) = (begins_once (codes "--budget") 0 100000 words n m [] [] (alone (codes "--budget") 0 100000 words n a) (alone (codes "--budget") 0 100000 words m b)).number_is

pub last_workers_once : (words : List (List ℕ)) (n m : ℕ) → IsLastWorkers words n → IsLastWorkers words m → n ≡ m
last_workers_once words n m (inl a) (inl b) = a.1 ∙ sym b.1
last_workers_once words n m (inl a) (inr b) = absurd (some_words (codes "--workers") 1 16 words m [] (alone (codes "--workers") 1 16 words m b) a.0)
last_workers_once words n m (inr a) (inl b) = absurd (some_words (codes "--workers") 1 16 words n [] (alone (codes "--workers") 1 16 words n a) b.0)
last_workers_once words n m (inr a) (inr b) = (begins_once (codes "--workers") 1 16 words n m [] [] (alone (codes "--workers") 1 16 words n a) (alone (codes "--workers") 1 16 words m b)).number_is

-- ---- both options

pub record SameOptions (workers others budget other : ℕ) : Type 0 where
  pub workers_are : workers ≡ others
  pub budget_is : budget ≡ other

pub options_once : (words : List (List ℕ)) (workers others budget other : ℕ) → AreOptions words workers budget → AreOptions words others other → SameOptions workers others budget other
unfolding FromFirst
options_once words workers others budget other a b =
    elim (from_first words workers budget a) [
      | inl nothing ↦ elim (from_first words others other b) [
        | inl none ↦ record { workers_are = nothing.workers_are ∙ sym none.workers_are; budget_is = nothing.budget_is ∙ sym none.budget_is }
        | inr (inl from) ↦ absurd (some_words (codes "--workers") 1 16 words others from.rest from.begins nothing.none)
        | inr (inr from) ↦ absurd (some_words (codes "--budget") 0 100000 words other from.rest from.begins nothing.none)
      ]
      | inr (inl first) ↦ elim (from_first words others other b) [
        | inl none ↦ absurd (some_words (codes "--workers") 1 16 words workers first.rest first.begins none.none)
        | inr (inl from) ↦
            let once = begins_once (codes "--workers") 1 16 words workers others first.rest from.rest first.begins from.begins in
            record { workers_are = once.number_is; budget_is = budget_once from.rest budget other (subst (λ (r : List (List ℕ)). IsBudgetAlone r budget) once.rest_is first.last) from.last }
        | inr (inr from) ↦ absurd (not_both words workers other first.rest from.rest first.begins from.begins)
      ]
      | inr (inr first) ↦ elim (from_first words others other b) [
        | inl none ↦ absurd (some_words (codes "--budget") 0 100000 words budget first.rest first.begins none.none)
        | inr (inl from) ↦ absurd (not_both words others budget from.rest first.rest from.begins first.begins)
        | inr (inr from) ↦
            let once = begins_once (codes "--budget") 0 100000 words budget other first.rest from.rest first.begins from.begins in
            record { workers_are = last_workers_once from.rest workers others (subst (λ (r : List (List ℕ)). IsLastWorkers r workers) once.rest_is first.last) from.last; budget_is = once.number_is }
      ]
    ]

-- ---- the words of a load

-- the number stands first, or the option does
pub record FromNumber (words : List (List ℕ)) (n workers : ℕ) : Type 0 where
  pub word : List ℕ
  pub rest : List (List ℕ)
  pub in_order : words ≡ word ∷ rest
  pub number : IsNumber word
  pub is : n ≡ number_after 0 word
  pub last : IsLastWorkers rest workers

pub record FromOption (words : List (List ℕ)) (n workers : ℕ) : Type 0 where
  pub rest : List (List ℕ)
  pub begins : BeginsWithOption (codes "--workers") 1 16 words workers rest
  pub last : IsLoadNumber rest n

abbrev pub FromEither : List (List ℕ) → ℕ → ℕ → Type 0
FromEither words n workers = FromNumber words n workers ⊎ FromOption words n workers

from_either : (words : List (List ℕ)) (n workers : ℕ) → AreOfLoad words n workers → FromEither words n workers
from_either words n workers (inl one) = inl (record { word = one.0.word; rest = []; in_order = one.0.alone; number = one.0.number; is = one.0.is; last = inl (refl, one.1) })
from_either words n workers (inr (inl both)) =
    inl (record { word = both.first.word; rest = both.back; in_order = both.in_order ∙ ap (λ (ws : List (List ℕ)). ws ++ both.back) both.first.alone; number = both.first.number; is = both.first.is; last = inr both.second })
from_either words n workers (inr (inr both)) =
    inr (record { rest = both.back; begins = record { front = both.front; in_order = both.in_order; option = both.first }; last = both.second })

-- a number doesn't begin as an option does
no_option : (word behind : List ℕ) → IsNumber word → word ≡ codes "--workers" ++ behind → ⊥
no_option word behind is e =
    let some = is.some in
    let first = is.digits 0 0 (omega arith) in
    absurd (omega (arith, first.0, ap (λ (w : List ℕ). get_or w 0 0) e))

not_first : (words : List (List ℕ)) (n m workers others : ℕ) → FromNumber words n workers → FromOption words m others → ⊥
not_first words n m workers others a b =
    let first = first_bytes (codes "--workers") words b.begins.option.word b.rest (begin_value (codes "--workers") 1 16 words others b.rest b.begins) in
    no_option a.word first.0 a.number (sym (ap (λ (ws : List (List ℕ)). get_or ws 0 []) a.in_order) ∙ first.1)

pub record SameLoad (n m workers others : ℕ) : Type 0 where
  pub number_is : n ≡ m
  pub workers_are : workers ≡ others

numbers_once : (words : List (List ℕ)) (n m workers others : ℕ) → FromNumber words n workers → FromNumber words m others → SameLoad n m workers others
numbers_once words n m workers others a b =
    let e = sym a.in_order ∙ b.in_order in
    let word : a.word ≡ b.word = cc in
    let rest : a.rest ≡ b.rest = cc in
    record { number_is = a.is ∙ ap (number_after 0) word ∙ sym b.is; workers_are = last_workers_once b.rest workers others (subst (λ (ws : List (List ℕ)). IsLastWorkers ws workers) rest a.last) b.last }

number_once : (words : List (List ℕ)) (n m : ℕ) → IsLoadNumber words n → IsLoadNumber words m → n ≡ m
number_once words n m a b =
    let e = sym a.alone ∙ b.alone in
    let word : a.word ≡ b.word = cc in
    a.is ∙ ap (number_after 0) word ∙ sym b.is

behind_once : (words : List (List ℕ)) (n m workers others : ℕ) → FromOption words n workers → FromOption words m others → SameLoad n m workers others
behind_once words n m workers others a b =
    let once = begins_once (codes "--workers") 1 16 words workers others a.rest b.rest a.begins b.begins in
    record { number_is = number_once b.rest n m (subst (λ (ws : List (List ℕ)). IsLoadNumber ws n) once.rest_is a.last) b.last; workers_are = once.number_is }

pub load_once : (words : List (List ℕ)) (n m workers others : ℕ) → AreOfLoad words n workers → AreOfLoad words m others → SameLoad n m workers others
load_once words n m workers others a b = go (from_either words n workers a) (from_either words m others b)
  where
    go : FromEither words n workers → FromEither words m others → SameLoad n m workers others
    go (inl x) (inl y) = numbers_once words n m workers others x y
    go (inl x) (inr y) = absurd (not_first words n m workers others x y)
    go (inr x) (inl y) = absurd (not_first words m n others workers y x)
    go (inr x) (inr y) = behind_once words n m workers others x y

-- ---- one command

-- the first word is the command's name
abbrev pub name_said : Command → List ℕ
name_said (Run workers budget) = codes "run"
name_said Check = codes "check"
name_said (Distinct workers budget) = codes "distinct"
name_said (Assert budget) = codes "assert"
name_said (Facts budget) = codes "facts"
name_said (Load number workers) = codes "load"
name_said (Crew workers budget) = codes "crew"

abbrev pub first_word : List (List ℕ) → List ℕ
first_word [] = []
first_word (w ∷ ws) = w

pub is_first_word : (words : List (List ℕ)) (c : Command) → Says words c → first_word words ≡ name_said c
is_first_word words (Run workers budget) says = ap first_word says.1
is_first_word words Check says = ap first_word says
is_first_word words (Distinct workers budget) says = ap first_word says.1
is_first_word words (Assert budget) says = ap first_word says.1
is_first_word words (Facts budget) says = ap first_word says.1
is_first_word words (Load number workers) says = ap first_word says.1
is_first_word words (Crew workers budget) says = ap first_word says.1

-- the names differ in their second byte
abbrev pub second_byte : List ℕ → ℕ
second_byte name = get_or name 1 0

same_options_said : (make : ℕ → ℕ → Command) (name : List ℕ) (words : List (List ℕ)) (workers others budget other : ℕ) → IsBehind name words (λ o. AreOptions o workers budget) → IsBehind name words (λ o. AreOptions o others other)
    → make workers budget ≡ make others other
same_options_said make name words workers others budget other a b =
    let options : a.0 ≡ b.0 = cc (a.1, b.1) in
    let same = options_once b.0 workers others budget other (subst (λ (ws : List (List ℕ)). AreOptions ws workers budget) options a.2) b.2 in
    ap (λ n. make n budget) same.workers_are ∙ ap (make others) same.budget_is

same_budget_said : (make : ℕ → Command) (name : List ℕ) (words : List (List ℕ)) (budget other : ℕ) → IsBehind name words (λ o. IsBudgetAlone o budget) → IsBehind name words (λ o. IsBudgetAlone o other) → make budget ≡ make other
same_budget_said make name words budget other a b =
    let options : a.0 ≡ b.0 = cc (a.1, b.1) in
    ap make (budget_once b.0 budget other (subst (λ (ws : List (List ℕ)). IsBudgetAlone ws budget) options a.2) b.2)

same_load_said : (words : List (List ℕ)) (n m workers others : ℕ) → IsBehind (codes "load") words (λ o. AreOfLoad o n workers) → IsBehind (codes "load") words (λ o. AreOfLoad o m others) → Load n workers ≡ Load m others
same_load_said words n m workers others a b =
    let behind : a.0 ≡ b.0 = cc (a.1, b.1) in
    let same = load_once b.0 n m workers others (subst (λ (ws : List (List ℕ)). AreOfLoad ws n workers) behind a.2) b.2 in
    ap (λ k. Load k workers) same.number_is ∙ ap (Load m) same.workers_are

-- commands with one name
same_named : (words : List (List ℕ)) (c d : Command) → Says words c → Says words d → name_said c ≡ name_said d → c ≡ d
same_named words (Run workers budget) (Run others other) a b e = same_options_said Run (codes "run") words workers others budget other a b
same_named words (Run workers budget) Check a b e = absurd (omega (arith, ap second_byte e))
same_named words (Run workers budget) (Distinct others other) a b e = absurd (omega (arith, ap second_byte e))
same_named words (Run workers budget) (Assert other) a b e = absurd (omega (arith, ap second_byte e))
same_named words (Run workers budget) (Facts other) a b e = absurd (omega (arith, ap second_byte e))
same_named words (Run workers budget) (Load number more) a b e = absurd (omega (arith, ap second_byte e))
same_named words (Run workers budget) (Crew others other) a b e = absurd (omega (arith, ap second_byte e))
same_named words Check (Run others other) a b e = absurd (omega (arith, ap second_byte e))
same_named words Check Check a b e = refl
same_named words Check (Distinct others other) a b e = absurd (omega (arith, ap second_byte e))
same_named words Check (Assert other) a b e = absurd (omega (arith, ap second_byte e))
same_named words Check (Facts other) a b e = absurd (omega (arith, ap second_byte e))
same_named words Check (Load number workers) a b e = absurd (omega (arith, ap second_byte e))
same_named words Check (Crew workers budget) a b e = absurd (omega (arith, ap second_byte e))
same_named words (Distinct workers budget) (Run others other) a b e = absurd (omega (arith, ap second_byte e))
same_named words (Distinct workers budget) Check a b e = absurd (omega (arith, ap second_byte e))
same_named words (Distinct workers budget) (Distinct others other) a b e = same_options_said Distinct (codes "distinct") words workers others budget other a b
same_named words (Distinct workers budget) (Assert other) a b e = absurd (omega (arith, ap second_byte e))
same_named words (Distinct workers budget) (Facts other) a b e = absurd (omega (arith, ap second_byte e))
same_named words (Distinct workers budget) (Load number more) a b e = absurd (omega (arith, ap second_byte e))
same_named words (Distinct workers budget) (Crew others other) a b e = absurd (omega (arith, ap second_byte e))
same_named words (Assert budget) (Run others other) a b e = absurd (omega (arith, ap second_byte e))
same_named words (Assert budget) Check a b e = absurd (omega (arith, ap second_byte e))
same_named words (Assert budget) (Distinct others other) a b e = absurd (omega (arith, ap second_byte e))
same_named words (Assert budget) (Assert other) a b e = same_budget_said Assert (codes "assert") words budget other a b
same_named words (Assert budget) (Facts other) a b e = absurd (omega (arith, ap second_byte e))
same_named words (Assert budget) (Load number workers) a b e = absurd (omega (arith, ap second_byte e))
same_named words (Assert budget) (Crew workers other) a b e = absurd (omega (arith, ap second_byte e))
same_named words (Facts budget) (Run others other) a b e = absurd (omega (arith, ap second_byte e))
same_named words (Facts budget) Check a b e = absurd (omega (arith, ap second_byte e))
same_named words (Facts budget) (Distinct others other) a b e = absurd (omega (arith, ap second_byte e))
same_named words (Facts budget) (Assert other) a b e = absurd (omega (arith, ap second_byte e))
same_named words (Facts budget) (Facts other) a b e = same_budget_said Facts (codes "facts") words budget other a b
same_named words (Facts budget) (Load number workers) a b e = absurd (omega (arith, ap second_byte e))
same_named words (Facts budget) (Crew workers other) a b e = absurd (omega (arith, ap second_byte e))
same_named words (Load number workers) (Run others other) a b e = absurd (omega (arith, ap second_byte e))
same_named words (Load number workers) Check a b e = absurd (omega (arith, ap second_byte e))
same_named words (Load number workers) (Distinct others other) a b e = absurd (omega (arith, ap second_byte e))
same_named words (Load number workers) (Assert other) a b e = absurd (omega (arith, ap second_byte e))
same_named words (Load number workers) (Facts other) a b e = absurd (omega (arith, ap second_byte e))
same_named words (Load number workers) (Load other others) a b e = same_load_said words number other workers others a b
same_named words (Load number workers) (Crew others other) a b e = absurd (omega (arith, ap second_byte e))
same_named words (Crew workers budget) (Run others other) a b e = absurd (omega (arith, ap second_byte e))
same_named words (Crew workers budget) Check a b e = absurd (omega (arith, ap second_byte e))
same_named words (Crew workers budget) (Distinct others other) a b e = absurd (omega (arith, ap second_byte e))
same_named words (Crew workers budget) (Assert other) a b e = absurd (omega (arith, ap second_byte e))
same_named words (Crew workers budget) (Facts other) a b e = absurd (omega (arith, ap second_byte e))
same_named words (Crew workers budget) (Load number more) a b e = absurd (omega (arith, ap second_byte e))
same_named words (Crew workers budget) (Crew others other) a b e = same_options_said Crew (codes "crew") words workers others budget other a b

pub one_command : (words : List (List ℕ)) (c d : Command) → Says words c → Says words d → c ≡ d
one_command words c d a b = same_named words c d a b (sym (is_first_word words c a) ∙ is_first_word words d b)
