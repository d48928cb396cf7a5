-- Logs of which no step names a unit.
use Rattle.std.proofs.Common.{◌≡◌, ◌≢◌, ◌⊎◌, inl, inr, ◌<◌, ◌≤◌, ◌+◌, ◌-◌, ◌&&◌, ℕ, zero, suc, Bool, true, false, List, [], ◌∷◌, ◌++◌, map, replicate, take, length, get_or, slice_get, Some, All, refl, sym, ◌∙◌, ap, subst, arith, append-nil, length-append}
use Rattle.std.specs.Prelude.{if◌then◌else◌}
use Rattle.std.specs.List.{list_all}
use Rattle.std.proofs.lemmas.Bool.{cases_lt}
use Rattle.std.proofs.lemmas.List.{get_or-take, get_or_append_left, get_or-append_right, get_or-replicate, length-replicate, length-map, length-take-le, take_more}
use Rattle.std.proofs.Math.Seq.{take-length}
use Rattle.std.proofs.lemmas.Option.{slice_get-get_or, slice_get_within, get_or_from_slice_get}
use Rattle.cnf_core.specs.declared.literal.Lit.{Lit}
use Rattle.refutation_check.specs.declared.log.Step.{Step}
use Rattle.refutation_check.specs.Chain.{members_of, IsAccepted, EndsEmpty}
use Rattle.refutation_check.specs.Renumbering.{free_steps, is_free, kept_number, not_local}
use Rattle.refutation_check.specs.SearchLog.{HasNoEmpty}
use Rattle.sat_core.specs.Answers.{HasEmptyOnlyLast, NamesNoUnits}
use Rattle.translation_rules.specs.Locals.{literal_of, units_of}
use Rattle.augmenter.specs.Free.{IsFreeButLast}

-- ---- which members are kept

-- of these members, all are kept but so many behind so many
abbrev pub KeepsOthers : ℕ → ℕ → List Bool → Type 0
KeepsOthers count local kept = (hint : ℕ) → 1 ≤ hint → hint ≤ length kept → ((hint ≤ count) ⊎ (count + local < hint)) → get_or kept (hint - 1) false ≡ true

length_not_local : (count local pool : ℕ) → length (not_local count local pool) ≡ count + local + pool
length_not_local count local pool =
    let a : length (replicate count true) ≡ count = length-replicate count true in
    let b : length (replicate local false) ≡ local = length-replicate local false in
    let c : length (replicate pool true) ≡ pool = length-replicate pool true in
    let d : length (replicate count true ++ replicate local false) ≡ length (replicate count true) + length (replicate local false) = length-append (replicate count true) (replicate local false) in
    let e : length ((replicate count true ++ replicate local false) ++ replicate pool true) ≡ length (replicate count true ++ replicate local false) + length (replicate pool true) =
    length-append (replicate count true ++ replicate local false) (replicate pool true) in
    omega arith

others_first : (count local pool : ℕ) → KeepsOthers count local (not_local count local pool)
others_first count local pool hint one within (inl low) =
    let first : length (replicate count true) ≡ count = length-replicate count true in
    let both : length (replicate count true ++ replicate local false) ≡ length (replicate count true) + length (replicate local false) = length-append (replicate count true) (replicate local false) in
    get_or_append_left (replicate count true ++ replicate local false) (replicate pool true) false (hint - 1) (omega arith)
    ∙ get_or_append_left (replicate count true) (replicate local false) false (hint - 1) (omega arith)
    ∙ get_or-replicate count (hint - 1) true false (omega arith)
others_first count local pool hint one within (inr high) =
    let first : length (replicate count true) ≡ count = length-replicate count true in
    let second : length (replicate local false) ≡ local = length-replicate local false in
    let both : length (replicate count true ++ replicate local false) ≡ length (replicate count true) + length (replicate local false) = length-append (replicate count true) (replicate local false) in
    let all : hint ≤ count + local + pool = let e = length_not_local count local pool in omega arith in
    get_or-append_right (replicate count true ++ replicate local false) (replicate pool true) (count + local) (hint - 1) false (omega arith) (omega arith)
    ∙ get_or-replicate pool (hint - 1 - (count + local)) true false (omega arith)

others_push : (count local : ℕ) (kept : List Bool) → KeepsOthers count local kept → KeepsOthers count local (kept ++ true ∷ [])
others_push count local kept keeps hint one within other = elim (cases_lt (hint - 1) (length kept)) [
  | inl l ↦ get_or_append_left kept (true ∷ []) false (hint - 1) l ∙ keeps hint one (omega arith) other
  | inr past ↦
      let long : length (kept ++ true ∷ []) ≡ length kept + length (true ∷ []) = length-append kept (true ∷ []) in
      let at : hint - 1 ≡ length kept + 0 = omega arith in
      let zero' : hint - 1 - length kept ≡ 0 = omega arith in
      get_or-append_right kept (true ∷ []) (length kept) (hint - 1) false refl past ∙ ap (λ n. get_or (true ∷ []) n false) zero'
]

-- ---- steps that name others alone

-- each hint of each step names one of so many members, or an earlier step, but none of so many behind so many
abbrev pub NameOthers : ℕ → ℕ → ℕ → List Step → Type 0
NameOthers count local members steps =
    (i : ℕ) (d : Step) → i < length steps → All (λ hint. (1 ≤ hint) × (hint ≤ members + i) × ((hint ≤ count) ⊎ (count + local < hint))) (get_or steps i d).hints

all_pass : (test : ℕ → Bool) (xs : List ℕ) → ((k : ℕ) (d : ℕ) → k < length xs → test (get_or xs k d) ≡ true) → list_all test xs ≡ true
all_pass test [] each = refl
all_pass test (x ∷ xs) each = ap (λ b. b && list_all test xs) (each 0 x (omega arith)) ∙ all_pass test xs (λ k d l. each (suc k) d (omega arith))

free_here : (count local : ℕ) (kept : List Bool) (hints : List ℕ) → KeepsOthers count local kept →
    All (λ hint. (1 ≤ hint) × (hint ≤ length kept + 0) × ((hint ≤ count) ⊎ (count + local < hint))) hints → is_free kept hints ≡ true
free_here count local kept hints keeps others =
    all_pass (λ hint. get_or kept (hint - 1) false) hints (λ k d l. let is = others k d l in keeps (get_or hints k d) is.0 (let m = is.1 in omega arith) is.2)

pub all_free : (count local : ℕ) (kept : List Bool) (steps : List Step) → KeepsOthers count local kept → NameOthers count local (length kept) steps →
    map (λ (s : Step). s.clause) (free_steps kept steps) ≡ map (λ (s : Step). s.clause) steps
all_free count local kept [] keeps others = refl
all_free count local kept (s ∷ steps) keeps others =
    let free : is_free kept s.hints ≡ true = free_here count local kept s.hints keeps (others 0 s (omega arith)) in
    let long : length (kept ++ true ∷ []) ≡ length kept + length (true ∷ []) = length-append kept (true ∷ []) in
    let rest = all_free count local (kept ++ true ∷ []) steps (others_push count local kept keeps)
    (λ i d l k e h. let is = others (suc i) d (omega arith) k e h in (is.0, (let m = is.1 in omega arith), is.2)) in
    ap (λ b. map (λ (s : Step). s.clause) (if b then record { clause = s.clause; hints = map (λ hint. kept_number hint kept) s.hints } ∷ free_steps (kept ++ true ∷ []) steps else free_steps (kept ++ false ∷ []) steps)) free
    ∙ ap (λ (cs : List (List Lit)). s.clause ∷ cs) rest

-- ---- logs that name no unit

unit_at : (cells : List ℕ) (i : ℕ) → i < length cells → (l : Lit) × (slice_get (units_of cells) i ≡ Some (l ∷ []))
unit_at [] i h = absurd (omega arith)
unit_at (cell ∷ cells) zero h = (literal_of cell, refl)
unit_at (cell ∷ cells) (suc i) h = unit_at cells i (omega arith)

-- the hints of a log have the numbers of members and of earlier steps
abbrev pub HintsNameMembers : Type 0
HintsNameMembers = (members : List (List Lit)) (log : List Step) → IsAccepted members log → (i : ℕ) (s : Step) → slice_get log i ≡ Some s → All (λ hint. (1 ≤ hint) × (hint ≤ length members + i)) s.hints

-- a log is its steps before the last, and the last
split_last : (log : List Step) (last : Step) → length log - 1 < length log → slice_get log (length log - 1) ≡ Some last → log ≡ take (length log - 1) log ++ last ∷ []
split_last log last within at =
    let n : ℕ = length log - 1 in
    let all : take (n + 1) log ≡ log = subst (λ (m : ℕ). take m log ≡ log) (omega arith) (take-length log) in
    sym all ∙ (take_more log n last within ∙ ap (λ (s : Step). take n log ++ s ∷ []) (get_or_from_slice_get log n last last at))

module _ (named : HintsNameMembers) (clauses : List (List Lit)) (cells : List ℕ) (pool log : List Step) (accepted : IsAccepted (members_of (clauses ++ units_of cells) pool) log)
    (no_units : NamesNoUnits (length clauses) (units_of cells) log) where
  abbrev kept : List Bool
  kept = not_local (length clauses) (length (units_of cells)) (length pool)

  members_long : length (members_of (clauses ++ units_of cells) pool) ≡ length kept
  members_long =
      let a : length (members_of (clauses ++ units_of cells) pool) ≡ length (clauses ++ units_of cells) + length (map (λ (s : Step). s.clause) pool) =
      length-append (clauses ++ units_of cells) (map (λ (s : Step). s.clause) pool) in
      let b : length (clauses ++ units_of cells) ≡ length clauses + length (units_of cells) = length-append clauses (units_of cells) in
      let c : length (map (λ (s : Step). s.clause) pool) ≡ length pool = length-map pool (λ (s : Step). s.clause) in
      let d = length_not_local (length clauses) (length (units_of cells)) (length pool) in
      omega arith

  -- a hint of a step that is not empty names no unit
  other : (i : ℕ) (d : Step) → i < length log → (get_or log i d).clause ≢ [] → (k e : ℕ) → k < length (get_or log i d).hints →
      (get_or (get_or log i d).hints k e ≤ length clauses) ⊎ (length clauses + length (units_of cells) < get_or (get_or log i d).hints k e)
  other i d l some k e h =
      let hint : ℕ = get_or (get_or log i d).hints k e in
      elim (cases_lt (length clauses) hint) [
        | inr low ↦ inl low
        | inl above ↦ elim (cases_lt (length clauses + length (units_of cells)) hint) [
          | inl high ↦ inr high
          | inr within ↦
              let count : length (units_of cells) ≡ length cells = length-map cells (λ cell. literal_of cell ∷ []) in
              let unit = unit_at cells (hint - length clauses - 1) (omega arith) in
              absurd (no_units i d l some k e h (record { literal = unit.0; after = above; named = (omega arith, unit.1) }))
        ]
      ]

  -- the first steps, none of which is empty, rest on no unit
  pub first_are_free : (n : ℕ) → n ≤ length log → HasNoEmpty (take n log) → map (λ (s : Step). s.clause) (free_steps kept (take n log)) ≡ map (λ (s : Step). s.clause) (take n log)
  first_are_free n within none =
      all_free (length clauses) (length (units_of cells)) kept (take n log) (others_first (length clauses) (length (units_of cells)) (length pool)) (λ i d l.
      let long : length (take n log) ≡ n = length-take-le n log within in
      let few : i < n = omega arith in
      let in' : i < length log = omega arith in
      let same : get_or (take n log) i d ≡ get_or log i d = get_or-take n log i d few in
      let some : (get_or log i d).clause ≢ [] = subst (λ (s : Step). s.clause ≢ []) same (none i d l) in
      subst (λ (s : Step). All (λ hint. (1 ≤ hint) × (hint ≤ length kept + i) × ((hint ≤ length clauses) ⊎ (length clauses + length (units_of cells) < hint))) s.hints) (sym same)
      (λ k e h.
      let is = named (members_of (clauses ++ units_of cells) pool) log accepted i (get_or log i d) (slice_get-get_or log i d in') k e h in
      let count = members_long in
      (is.0, (let m = is.1 in omega arith), other i d in' some k e h)))

  pub all_are_free : HasNoEmpty log → IsFreeButLast kept log
  all_are_free none =
      let whole : take (length log) log ≡ log = take-length log in
      record {
        steps = log;
        end = [];
        in_order = sym (append-nil log);
        last = inl refl;
        free = subst (λ (xs : List Step). map (λ (s : Step). s.clause) (free_steps kept xs) ≡ map (λ (s : Step). s.clause) xs) whole
            (first_are_free (length log) (omega arith) (subst HasNoEmpty (sym whole) none));
      }

  pub ended_is_free : EndsEmpty log → HasEmptyOnlyLast log → IsFreeButLast kept log
  ended_is_free (last, at, empty) none =
      let within : length log - 1 < length log = slice_get_within log (length log - 1) last at in
      record {
        steps = take (length log - 1) log;
        end = last ∷ [];
        in_order = split_last log last within at;
        last = inr (last, refl, empty);
        free = first_are_free (length log - 1) (omega arith) none;
      }
