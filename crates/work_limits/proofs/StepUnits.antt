-- How many units the work for a step has.
use Rattle.std.proofs.Common.{◌≡◌, ◌≢◌, inl, inr, ◌<◌, ◌≤◌, ◌+◌, ◌*◌, ◌^◌, [], ◌∷◌, ℕ, List, length, get_or, All, AllPairs, Contains, refl, sym, ap, subst, arith}
use Rattle.std.specs.Prelude.{slice_index_or}
use Rattle.std.specs.List.{AllZip, range_with_len}
use Rattle.std.proofs.lemmas.List.Elements.{All-nil, All-cons, All-head, All-contains, Contains-push}
use Rattle.std.proofs.lemmas.List.FromFn.{length-range_with_len}
use Rattle.std.proofs.lemmas.Slice.Zip.{AllZip-long}
use Rattle.std.proofs.Math.Nat.{mul_assoc, mul-le-mul_right}
use Rattle.cnf_core.specs.Literal.{HasVarsUpTo}
use Rattle.refutation_check.specs.declared.log.Step.{Step as LogStep}
use Rattle.refutation_check.specs.Part.{Parted}
use Rattle.rel_formula.specs.Bounds.{Bounded, IsProblem, cells_of}
use Rattle.rel_formula.specs.Instance.{AreCells, IsScenario, with_cell}
use Rattle.rel_formula.proofs.Counts.{no_longer}
use Rattle.rel_formula.proofs.Lists.{some_below}
use Rattle.translation_rules.specs.Translation.{Translated}
use Rattle.translation_rules.specs.Parts.{AreSearched, TriesCell, novel_in}
use Rattle.translation_rules.proofs.Tests.{range_in}
use Rattle.session_words.specs.declared.atom_names.AtomName.{AtomName}
use Rattle.session_words.specs.declared.steps.Step.{Step}
use Rattle.session_words.specs.declared.steps.Step.TheVariants.{Next, Offers, Augment, Back, Budget, Proof}
use Rattle.session_rules.specs.States.{State, top_floor, shown_here, IsCurrent}
use Rattle.session_rules.specs.Sound.{IsSound, IsFloor}
use Rattle.session_rules.specs.Proofs.{IsCopy}
use Rattle.session_rules.specs.Work.{Round, IsRound, AreRounds, IsNextWork, IsOffersWork, IsAugmentWork, IsWork, parts_of_round, units_in}
use Rattle.rel_formula.specs.Renaming.{IsRenamingOf}
use Rattle.renaming_classes.specs.Counts.{IsNumberOfRenamings}
use Rattle.work_limits.proofs.CopyCounts.{few_renamed}
use Rattle.work_limits.specs.Units.{AreLogs, most_in_round, most_units}
use Rattle.work_limits.specs.Variables.{AreOverFirst}
use Rattle.work_limits.proofs.PartUnits.{IsLocalOver, parts_units}
use Rattle.work_limits.proofs.LocalVariables.{with_cell_cells, units_over}
use Rattle.work_limits.proofs.Rounds.{round_over, rounds_over, are_copies, parts_over, few_parts, few_copies}

-- the floors and the scenarios of a sound state have cells
top_cells : (p : Bounded) (above : List (List ℕ)) → All (IsFloor p) above → AreCells p (slice_index_or above 0 [])
top_cells p [] floors = All-nil (λ n. n < length (cells_of p))
top_cells p (floor ∷ above) floors = (All-head (IsFloor p) floor above floors).scenario.cells

shown_cells : (p : Bounded) (s : State) → IsSound p s → All (AreCells p) (shown_here s)
shown_cells p s sound k d l = (sound.due (top_floor s) k d l).minimal.instance_of.scenario.cells

current_cells : (p : Bounded) (s : State) → IsSound p s → (current : List ℕ) → IsCurrent s current → AreCells p current
current_cells p s sound current is =
    All-contains (AreCells p) (shown_here s) current (shown_cells p s sound) (subst (λ (xs : List (List ℕ)). Contains xs current) (sym is.1) (Contains-push is.0 current))

-- the cells of parts, and the parts
tried_cells : (p : Bounded) (current : List ℕ) (cells : List ℕ) (parts : List Parted) → AllZip (TriesCell p current) cells parts → AreCells p cells
tried_cells p current [] [] each = All-nil (λ n. n < length (cells_of p))
tried_cells p current [] (part ∷ parts) each = elim each [ ]
tried_cells p current (cell ∷ cells) [] each = elim each [ ]
tried_cells p current (cell ∷ cells) (part ∷ parts) each = All-cons (λ n. n < length (cells_of p)) cell cells each.0.in_range (tried_cells p current cells parts each.1)

tried_over : (v : ℕ) (p : Bounded) → length (cells_of p) ≤ v → (current : List ℕ) → AreCells p current → (cells : List ℕ) (parts : List Parted) → AllZip (TriesCell p current) cells parts → All (IsLocalOver v) parts
tried_over v p few current are [] [] each = All-nil (IsLocalOver v)
tried_over v p few current are [] (part ∷ parts) each = elim each [ ]
tried_over v p few current are (cell ∷ cells) [] each = elim each [ ]
tried_over v p few current are (cell ∷ cells) (part ∷ parts) each =
    All-cons (IsLocalOver v) part parts
    (subst (All (HasVarsUpTo v)) (sym each.0.local) (units_over v p few (with_cell cell current) (with_cell_cells p cell current each.0.in_range are)))
    (tried_over v p few current are cells parts each.1)

-- so many parts at most, each with few units
times : (parts most power units : ℕ) → parts ≤ most → units ≤ parts * power → units ≤ most * power
times parts most power units few each = let h : parts * power ≤ most * power = mul-le-mul_right power few in omega arith

by_copies : (parts rounds copies each power units : ℕ) → parts ≤ rounds * each → rounds ≤ copies + 1 → units ≤ parts * power → units + copies ≤ each * power + copies * (each * power + 1)
by_copies parts rounds copies each power units few few_rounds novel =
    let a : rounds * each ≤ (copies + 1) * each = mul-le-mul_right each few_rounds in
    let b : parts * power ≤ (copies + 1) * each * power = mul-le-mul_right power (let h : parts ≤ (copies + 1) * each = omega arith in h) in
    let c : (copies + 1) * each * power ≡ (copies + 1) * (each * power) = mul_assoc (copies + 1) each power in
    let d : (copies + 1) * (each * power) ≡ copies * (each * power) + each * power = one_row copies (each * power) in
    let e : copies * (each * power + 1) ≡ copies * (each * power) + copies = one_column copies (each * power) in
    omega arith
  where
    one_row : (a b : ℕ) → (a + 1) * b ≡ a * b + b
    one_row a b = omega arith

    one_column : (a b : ℕ) → a * (b + 1) ≡ a * b + a
    one_column a b = omega arith

-- there are no copies of nothing
no_copies : (p : Bounded) (floor : List ℕ) (shown : List (List ℕ)) → shown ≡ [] → (copies : List (List ℕ)) → All (IsCopy p floor shown) copies → copies ≡ []
no_copies p floor shown none [] are = refl
no_copies p floor shown none (copy ∷ copies) are =
    let renamed = (are 0 copy (omega arith)).renamed in
    let there = subst (λ (xs : List (List ℕ)). Contains xs renamed.0) none renamed.1 in
    absurd (let l = there.1 in omega arith)

round_units : (parts rounds copies each power sets units : ℕ) → parts ≤ rounds * each → rounds ≤ copies + 1 → copies < sets → units ≤ parts * power → units + copies ≤ sets * (each * power + 1)
round_units parts rounds copies each power sets units few few_rounds few_copies most =
    let a : rounds * each ≤ sets * each = mul-le-mul_right each (let h : rounds ≤ sets = omega arith in h) in
    let b : parts * power ≤ sets * each * power = mul-le-mul_right power (let h : parts ≤ sets * each = omega arith in h) in
    let c : sets * each * power ≡ sets * (each * power) = mul_assoc sets each power in
    let d : sets * (each * power + 1) ≡ sets * (each * power) + sets = one_more sets (each * power) in
    omega arith
  where
    one_more : (a b : ℕ) → a * (b + 1) ≡ a * b + a
    one_more a b = omega arith

-- what is said of rounds: at most one more than copies, which are distinct
abbrev pub AreFew : Translated → Type 0
AreFew t = (floor : List ℕ) (shown blocked : List (List ℕ)) (rounds : List Round) (copies : List (List ℕ)) → AreRounds t floor shown blocked rounds copies
    → (length rounds ≤ length copies + 1) × AllPairs (λ x y. x ≢ y) copies

module _ (v : ℕ) (t : Translated) (pool : List LogStep) (rounds_are : AreFew t) (first : AreOverFirst v t pool) (s : State) (sound : IsSound t.problem s)
    (parts : List Parted) (searched : AreSearched t pool parts) (logs : AreLogs parts) where
  -- what is said of the rounds of a search for the next scenario
  next_is : (copies : List (List ℕ)) → (work : IsNextWork t (top_floor s) (shown_here s) parts copies)
      → (length parts ≤ length work.rounds * (length (cells_of t.problem) + 2)) × (novel_in t pool parts ≤ length parts * 3 ^ v)
      × (length work.rounds ≤ length copies + 1) × AllPairs (λ x y. x ≢ y) copies × All (IsCopy t.problem (top_floor s) (shown_here s)) copies
  next_is copies work =
      let p = t.problem in
      let floor = top_floor s in
      let shown = shown_here s in
      let cells : AreCells p floor = top_cells p s.above sound.floors in
      let seen = shown_cells p s sound in
      let blocked : All (AreCells p) work.blocked = λ k d l. elim (work.covered k d l) [
        | inl there ↦ All-contains (AreCells p) shown (get_or work.blocked k d) seen there
        | inr is_copy ↦ is_copy.minimal.instance_of.scenario.cells
      ] in
      let each = rounds_over v t pool first floor cells shown work.blocked blocked work.rounds copies work.are_rounds in
      let over : All (IsLocalOver v) parts = subst (All (IsLocalOver v)) (sym work.all_parts) (parts_over v p work.rounds each) in
      let few : length parts ≤ length work.rounds * (length (cells_of p) + 2) =
      subst (λ (xs : List Parted). length xs ≤ length work.rounds * (length (cells_of p) + 2)) (sym work.all_parts) (few_parts v p work.rounds each) in
      let is = rounds_are floor shown work.blocked work.rounds copies work.are_rounds in
      (few, parts_units v t pool parts first over searched logs, is.0, is.1, are_copies t floor shown work.blocked work.rounds copies work.are_rounds)

  next_units : (copies : List (List ℕ)) → IsNextWork t (top_floor s) (shown_here s) parts copies → units_in t pool parts copies ≤ most_units Next (length (cells_of t.problem)) v
  next_units copies work =
      let is = next_is copies work in
      round_units (length parts) (length work.rounds) (length copies) (length (cells_of t.problem) + 2) (3 ^ v) (2 ^ length (cells_of t.problem)) (novel_in t pool parts)
      is.0 is.2 (few_copies t.problem (top_floor s) (shown_here s) (sound.due (top_floor s)) copies is.3 is.4) is.1

  copies_units : (copies : List (List ℕ)) → IsNextWork t (top_floor s) (shown_here s) parts copies
      → units_in t pool parts copies ≤ most_in_round (length (cells_of t.problem)) v + length copies * (most_in_round (length (cells_of t.problem)) v + 1)
  copies_units copies work =
      let is = next_is copies work in
      by_copies (length parts) (length work.rounds) (length copies) (length (cells_of t.problem) + 2) (3 ^ v) (novel_in t pool parts) is.0 is.2 is.1

  first_units : (copies : List (List ℕ)) → IsNextWork t (top_floor s) (shown_here s) parts copies → shown_here s ≡ []
      → (copies ≡ []) × (units_in t pool parts copies ≤ most_in_round (length (cells_of t.problem)) v)
  first_units copies work none =
      let c = length (cells_of t.problem) in
      let is = next_is copies work in
      let no_copy = no_copies t.problem (top_floor s) (shown_here s) none copies is.4 in
      let zero : length copies ≡ 0 = ap length no_copy in
      let one : length work.rounds ≤ 1 = (let h = is.2 in omega arith) in
      let few = times (length work.rounds) 1 (c + 2) (length parts) one is.0 in
      let most = times (length parts) (c + 2) (3 ^ v) (novel_in t pool parts) (let h : length parts ≤ c + 2 = omega arith in h) is.1 in
      (no_copy, omega arith)

  offers_units : (copies : List (List ℕ)) → IsOffersWork t.problem s parts → copies ≡ [] → units_in t pool parts copies ≤ most_units Offers (length (cells_of t.problem)) v
  offers_units copies work none =
      let c = length (cells_of t.problem) in
      let no_copy : length copies ≡ 0 = ap length none in
      elim work [
        | inl no_part ↦
            let most = parts_units v t pool parts first (subst (All (IsLocalOver v)) (sym no_part) (All-nil (IsLocalOver v))) searched logs in
            let zero : length parts ≤ c = (let e : length parts ≡ 0 = ap length no_part in omega arith) in
            let h = times (length parts) c (3 ^ v) (novel_in t pool parts) zero most in
            omega arith
        | inr (current, is, tries) ↦
            let cells = current_cells t.problem s sound current is in
            let most = parts_units v t pool parts first (tried_over v t.problem first.cells current cells tries.cells parts tries.each) searched logs in
            let are = tried_cells t.problem current tries.cells parts tries.each in
            let count = no_longer tries.cells (range_with_len 0 c) tries.distinct (λ n there. range_in c n (All-contains (λ n. n < c) tries.cells n are there)) in
            let few : length parts ≤ c = omega (arith, count, length-range_with_len 0 c, AllZip-long (TriesCell t.problem current) tries.cells parts tries.each) in
            let h = times (length parts) c (3 ^ v) (novel_in t pool parts) few most in
            omega arith
      ]

  augment_units : (name : List ℕ) (names : List AtomName) (copies : List (List ℕ)) → IsAugmentWork t.problem s name names parts → copies ≡ []
      → units_in t pool parts copies ≤ most_units (Augment name names) (length (cells_of t.problem)) v
  augment_units name names copies work none =
      let no_copy : length copies ≡ 0 = ap length none in
      let over : All (IsLocalOver v) parts = λ k d l.
      let tries = work.each k d l in
      let asked = tries.asked in
      let current = current_cells t.problem s sound asked.current asked.is_current in
      let in_range = some_below (cells_of t.problem) asked.cell _ asked.named.3 in
      let floor : AreCells t.problem tries.floor = subst (AreCells t.problem) (sym asked.floor_is) (with_cell_cells t.problem asked.cell asked.current in_range current) in
      subst (All (HasVarsUpTo v)) (sym tries.local) (units_over v t.problem first.cells tries.floor floor) in
      let most = parts_units v t pool parts first over searched logs in
      let one : length parts ≤ 1 = (let l = work.few in omega arith) in
      let h = times (length parts) 1 (3 ^ v) (novel_in t pool parts) one most in
      omega arith

  nothing_units : (copies : List (List ℕ)) → parts ≡ [] → copies ≡ [] → units_in t pool parts copies ≤ 0
  nothing_units copies no_part no_copy =
      subst (λ (xs : List Parted). novel_in t pool xs + length copies ≤ 0) (sym no_part) (subst (λ (xs : List (List ℕ)). novel_in t pool [] + length xs ≤ 0) (sym no_copy) (omega arith))

pub step_units : (v : ℕ) (t : Translated) (pool : List LogStep) → AreFew t → AreOverFirst v t pool → (s : State) → IsSound t.problem s → (step : Step) (parts : List Parted) (copies : List (List ℕ))
    → IsWork t pool s step parts copies → AreLogs parts → units_in t pool parts copies ≤ most_units step (length (cells_of t.problem)) v
step_units v t pool few first s sound Next parts copies is logs = next_units v t pool few first s sound parts is.searched logs copies is.work
step_units v t pool few first s sound Offers parts copies is logs = offers_units v t pool few first s sound parts is.searched logs copies is.work.0 is.work.1
step_units v t pool few first s sound (Augment name names) parts copies is logs = augment_units v t pool few first s sound parts is.searched logs name names copies is.work.0 is.work.1
step_units v t pool few first s sound Back parts copies is logs = nothing_units v t pool few first s sound parts is.searched logs copies is.work.0 is.work.1
step_units v t pool few first s sound (Budget budget) parts copies is logs = nothing_units v t pool few first s sound parts is.searched logs copies is.work.0 is.work.1
step_units v t pool few first s sound Proof parts copies is logs = nothing_units v t pool few first s sound parts is.searched logs copies is.work.0 is.work.1

pub first_scenario_units : (v : ℕ) (t : Translated) (pool : List LogStep) → AreFew t → AreOverFirst v t pool → (s : State) → IsSound t.problem s → (parts : List Parted) (copies : List (List ℕ))
    → IsWork t pool s Next parts copies → AreLogs parts → shown_here s ≡ [] → (copies ≡ []) × (units_in t pool parts copies ≤ most_in_round (length (cells_of t.problem)) v)
first_scenario_units v t pool few first s sound parts copies is logs none = first_units v t pool few first s sound parts is.searched logs copies is.work none

pub one_round : (v : ℕ) (t : Translated) (pool : List LogStep) → AreOverFirst v t pool → (floor : List ℕ) (blocked : List (List ℕ)) (round : Round) → IsScenario t.problem floor → All (IsScenario t.problem) blocked
    → IsRound t floor blocked round → AreSearched t pool (parts_of_round round) → AreLogs (parts_of_round round) → novel_in t pool (parts_of_round round) ≤ most_in_round (length (cells_of t.problem)) v
one_round v t pool first floor blocked round scenario scenarios is searched logs =
    let over = round_over v t pool first floor scenario.cells blocked (λ k d l. (scenarios k d l).cells) round is in
    times (length (parts_of_round round)) (length (cells_of t.problem) + 2) (3 ^ v) (novel_in t pool (parts_of_round round)) over.few
    (parts_units v t pool (parts_of_round round) first over.over searched logs)

pub units_by_copies : (v : ℕ) (t : Translated) (pool : List LogStep) → AreFew t → AreOverFirst v t pool → (s : State) → IsSound t.problem s → (parts : List Parted) (copies : List (List ℕ))
    → IsWork t pool s Next parts copies → AreLogs parts
    → units_in t pool parts copies ≤ most_in_round (length (cells_of t.problem)) v + length copies * (most_in_round (length (cells_of t.problem)) v + 1)
units_by_copies v t pool few first s sound parts copies is logs = copies_units v t pool few first s sound parts is.searched logs copies is.work

pub copies_by_renamings : (t : Translated) → AreFew t → (s : State) → IsSound t.problem s → (n : ℕ) → IsProblem t.problem → IsNumberOfRenamings t.problem n → ((x : List ℕ) → IsRenamingOf t.problem x x)
    → (parts : List Parted) (copies : List (List ℕ)) → IsNextWork t (top_floor s) (shown_here s) parts copies → length (shown_here s) + length copies ≤ length (shown_here s) * n
copies_by_renamings t few s sound n well number itself parts copies work =
    let floor = top_floor s in
    let shown = shown_here s in
    few_renamed t.problem n well number itself floor shown copies (sound.once floor) (sound.due floor)
    (few floor shown work.blocked work.rounds copies work.are_rounds).1 (are_copies t floor shown work.blocked work.rounds copies work.are_rounds)
