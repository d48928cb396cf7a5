-- Rounds on their way.
use Rattle.std.proofs.Common.{◌≡◌, ◌⊎◌, inl, inr, ◌<◌, ◌≤◌, ◌+◌, ℕ, List, [], ◌∷◌, ◌++◌, flat_map, length, sum_by, All, Contains, refl, sym, ◌∙◌, ap, subst, arith, append_assoc, append-nil, length-append}
use Rattle.std.proofs.lemmas.List.{length_push}
use Rattle.std.proofs.lemmas.List.Elements.{All-nil, All-cons, All-push, All-append, All-contains, All-weaker, Contains-append_left, Contains-append_right, Contains-append_cases}
use Rattle.std.proofs.lemmas.List.Sums.{sum_by-append}
use Rattle.std.proofs.lemmas.Grind.{flat_map-append}
use Rattle.refutation_check.specs.declared.log.Step.{Step as LogStep}
use Rattle.refutation_check.specs.Chain.{IsAccepted, EndsEmpty}
use Rattle.refutation_check.specs.SearchLog.{IsSearchLog, novel_steps}
use Rattle.refutation_check.specs.Part.{Parted}
use Rattle.rel_formula.specs.Bounds.{Bounded}
use Rattle.rel_formula.specs.Instance.{AreCells}
use Rattle.swap_symmetry.specs.Due.{IsDue}
use Rattle.translation_rules.specs.Translation.{Translated}
use Rattle.translation_rules.specs.Locals.{locals_of}
use Rattle.translation_rules.specs.Parts.{AreSearched, LastGoesOn, given_to, novel_in}
use Rattle.translation_rules.proofs.Tests.{from_each}
use Rattle.session_rules.specs.ProofOfEnd.{ProofOfEnd}
use Rattle.session_rules.specs.Proofs.{RefutesWith, Proves, IsCopy, IsCovered}
use Rattle.session_rules.specs.declared.end_proof.ProofKind.TheVariants.{End}
use Rattle.session_rules.specs.Work.{Round, IsRound, AreRounds, parts_of_round, IsNextWork, units_in}
use Rattle.session_state.specs.Rounds.Rounds.{HasNewCopy, IsRoundAt}
use Rattle.session_state.specs.declared.search_rounds.next.NextAt.{NextAt}
use Rattle.session_state.specs.declared.search_rounds.next.Found.TheVariants.{Spent}
use Rattle.session_state.specs.Rounds.Next.{IsEndAt, IsAnswer, IsStopped}
use Rattle.session_state.proofs.Rounds.SearchedRounds.{goes_on_behind}

-- a round behind rounds that each found a copy
pub last_round : (t : Translated) (floor : List ℕ) (shown blocked : List (List ℕ)) (rounds : List Round) (copies : List (List ℕ)) (round : Round) → length rounds ≡ length copies →
    AreRounds t floor shown blocked rounds copies → IsRound t floor (blocked ++ copies) round → AreRounds t floor shown blocked (rounds ++ round ∷ []) copies
last_round t floor shown blocked [] [] round e are is = (subst (λ b. IsRound t floor b round) (append-nil blocked) is, refl)
last_round t floor shown blocked [] (copy ∷ copies) round e are is = absurd (omega arith)
last_round t floor shown blocked (first ∷ rounds) [] round e are is = absurd (omega arith)
last_round t floor shown blocked (first ∷ rounds) (copy ∷ copies) round e (here, is_copy, fresh, later) is =
    (here, is_copy, fresh, last_round t floor shown (blocked ++ copy ∷ []) rounds copies round (omega arith) later (subst (λ b. IsRound t floor b round) (sym (append_assoc blocked (copy ∷ []) copies)) is))

-- and one that finds a copy too
pub one_more_round : (t : Translated) (floor : List ℕ) (shown blocked : List (List ℕ)) (rounds : List Round) (copies : List (List ℕ)) (round : Round) (found : List ℕ) → length rounds ≡ length copies →
    AreRounds t floor shown blocked rounds copies → IsRound t floor (blocked ++ copies) round → IsCopy t.problem floor shown found → ¬ Contains (blocked ++ copies) found →
    AreRounds t floor shown blocked (rounds ++ round ∷ []) (copies ++ found ∷ [])
one_more_round t floor shown blocked [] [] round found e are is is_found out =
    (subst (λ b. IsRound t floor b round) (append-nil blocked) is, is_found, subst (λ b. ¬ Contains b found) (append-nil blocked) out, refl)
one_more_round t floor shown blocked [] (copy ∷ copies) round found e are is is_found out = absurd (omega arith)
one_more_round t floor shown blocked (first ∷ rounds) [] round found e are is is_found out = absurd (omega arith)
one_more_round t floor shown blocked (first ∷ rounds) (copy ∷ copies) round found e (here, is_copy, fresh, later) is is_found out =
    let same = sym (append_assoc blocked (copy ∷ []) copies) in
    (here, is_copy, fresh, one_more_round t floor shown (blocked ++ copy ∷ []) rounds copies round found (omega arith) later (subst (λ b. IsRound t floor b round) same is) is_found (subst (λ b. ¬ Contains b found) same out))

-- a copy that wasn't known
abbrev pub IsNewCopy : Bounded → List ℕ → List (List ℕ) → List (List ℕ) → List ℕ → Type 0
IsNewCopy p floor shown copies s = IsCopy p floor shown s × (¬ Contains copies s)

-- each round so far found a copy, all of them are blocked, and so much of the budget is left
pub record Going (t : Translated) (pool : List LogStep) (floor : List ℕ) (shown copies : List (List ℕ)) (budget : ℕ) (blocked : List (List ℕ)) (parts : List Parted) (found : List (List ℕ)) (left : ℕ) : Type 0 where
  pub rounds : List Round
  pub all_parts : parts ≡ flat_map parts_of_round rounds
  pub whole : length rounds ≡ length found
  pub are_rounds : AreRounds t floor shown (shown ++ copies) rounds found
  pub blocked_are : blocked ≡ shown ++ copies ++ found
  pub new : All (IsNewCopy t.problem floor shown copies) found
  pub searched : AreSearched t pool parts
  pub units : units_in t pool parts found + left ≡ budget

-- what was done in the end
pub record Done (t : Translated) (pool : List LogStep) (floor : List ℕ) (shown copies : List (List ℕ)) (budget : ℕ) (parts : List Parted) (found : List (List ℕ)) : Type 0 where
  pub searched : AreSearched t pool parts
  pub work : (work : IsNextWork t floor shown parts found) × (work.blocked ≡ shown ++ copies) × (length work.rounds ≡ length found + 1)
  pub new : All (IsNewCopy t.problem floor shown copies) found
  pub few : units_in t pool parts found ≤ budget

-- and what was found by it
pub record Answered (t : Translated) (pool : List LogStep) (floor : List ℕ) (shown copies : List (List ℕ)) (budget : ℕ) (next : NextAt) : Type 0 where
  pub done : Done t pool floor shown copies budget next.parts next.copies
  pub answer : IsAnswer t pool floor shown copies budget next.parts next.copies next.found
  pub stopped : IsStopped t pool floor shown next.parts next.copies next.found

pub set_out : (t : Translated) (pool : List LogStep) (floor : List ℕ) (shown copies : List (List ℕ)) (budget : ℕ) → Going t pool floor shown copies budget (shown ++ copies) [] [] budget
set_out t pool floor shown copies budget = record {
  rounds = [];
  all_parts = refl;
  whole = refl;
  are_rounds = refl;
  blocked_are = sym (append-nil (shown ++ copies));
  new = All-nil (IsNewCopy t.problem floor shown copies);
  searched = All-nil (λ (part : Parted). IsSearchLog (given_to t pool part) part.log);
  units = omega arith;
}

module _ (p : Bounded) (floor : List ℕ) (shown copies found : List (List ℕ)) (all_due : All (IsDue p floor) shown) (all_copies : All (IsCopy p floor shown) copies) where
  -- what is blocked at first
  pub covered_first : IsCovered p floor shown (shown ++ copies)
  covered_first = from_each (λ (s : List ℕ). Contains shown s ⊎ IsCopy p floor shown s) (shown ++ copies) (λ s c. elim (Contains-append_cases shown copies s c) [
    | inl was ↦ inl was
    | inr known ↦ inr (All-contains (IsCopy p floor shown) copies s all_copies known)
  ])

  -- and later
  pub covered_later : All (IsNewCopy p floor shown copies) found → IsCovered p floor shown (shown ++ copies ++ found)
  covered_later new = from_each (λ (s : List ℕ). Contains shown s ⊎ IsCopy p floor shown s) (shown ++ copies ++ found) (λ s c. elim (Contains-append_cases (shown ++ copies) found s c) [
    | inl before ↦ All-contains (λ (s : List ℕ). Contains shown s ⊎ IsCopy p floor shown s) (shown ++ copies) s covered_first before
    | inr now ↦ inr (All-contains (IsNewCopy p floor shown copies) found s new now).0
  ])

  cells_of_one : (s : List ℕ) → Contains shown s ⊎ IsCopy p floor shown s → AreCells p s
  cells_of_one s (inl was) = (All-contains (IsDue p floor) shown s all_due was).minimal.instance_of.scenario.cells
  cells_of_one s (inr copy) = copy.minimal.instance_of.scenario.cells

  pub cells_of_blocked : (blocked : List (List ℕ)) → IsCovered p floor shown blocked → All (AreCells p) blocked
  cells_of_blocked blocked covered = from_each (AreCells p) blocked (λ s c. cells_of_one s (All-contains (λ (s : List ℕ). Contains shown s ⊎ IsCopy p floor shown s) blocked s covered c))

module _ (t : Translated) (pool : List LogStep) (floor : List ℕ) (shown copies : List (List ℕ)) (budget : ℕ) (blocked : List (List ℕ)) (parts : List Parted) (found : List (List ℕ)) (left : ℕ)
    (going : Going t pool floor shown copies budget blocked parts found left) where
  pub shown_are_blocked : All (Contains blocked) shown
  shown_are_blocked = from_each (Contains blocked) shown (λ s c. subst (λ (b : List (List ℕ)). Contains b s) (sym going.blocked_are) (Contains-append_left (shown ++ copies) found s (Contains-append_left shown copies s c)))

  pub few_blocked : length blocked ≡ length shown + length copies + length found
  few_blocked = let e = ap length going.blocked_are in let f = length-append (shown ++ copies) found in let g = length-append shown copies in omega arith

  module _ (more : List Parted) (round : IsRoundAt t pool floor blocked left more) where
    abbrev Known : Parted → Type 0
    Known part = IsSearchLog (given_to t pool part) part.log

    is_round : IsRound t floor ((shown ++ copies) ++ found) round.round
    is_round = subst (λ (b : List (List ℕ)). IsRound t floor b round.round) going.blocked_are round.is_round

    all_parts : parts ++ more ≡ flat_map parts_of_round (going.rounds ++ round.round ∷ [])
    all_parts =
        ap (λ ps. ps ++ more) going.all_parts ∙ ap (λ ps. flat_map parts_of_round going.rounds ++ ps) (round.all_parts ∙ sym (append-nil (parts_of_round round.round)))
        ∙ sym (flat_map-append parts_of_round going.rounds (round.round ∷ []))

    all_searched : AreSearched t pool (parts ++ more)
    all_searched = All-append Known parts more going.searched round.searched

    novel_sum : novel_in t pool (parts ++ more) ≡ novel_in t pool parts + novel_in t pool more
    novel_sum = sum_by-append (λ (part : Parted). novel_steps (given_to t pool part) part.log) parts more

    shown_first : All (Contains (shown ++ copies)) shown
    shown_first = from_each (Contains (shown ++ copies)) shown (λ s c. Contains-append_left shown copies s c)

    first_covered : All (IsCopy t.problem floor shown) copies → IsCovered t.problem floor shown (shown ++ copies)
    first_covered all_copies = from_each (λ (s : List ℕ). Contains shown s ⊎ IsCopy t.problem floor shown s) (shown ++ copies) (λ s c. elim (Contains-append_cases shown copies s c) [
      | inl was ↦ inl was
      | inr known ↦ inr (All-contains (IsCopy t.problem floor shown) copies s all_copies known)
    ])

    -- what was done with this round
    pub done : All (IsCopy t.problem floor shown) copies → Done t pool floor shown copies budget (parts ++ more) found
    done all_copies = record {
      searched = all_searched;
      work = (
        record {
          rounds = going.rounds ++ round.round ∷ [];
          blocked = shown ++ copies;
          all_parts = all_parts;
          shown_blocked = shown_first;
          covered = first_covered all_copies;
          are_rounds = last_round t floor shown (shown ++ copies) going.rounds found round.round going.whole going.are_rounds is_round;
        },
        refl,
        (let long = length_push going.rounds round.round in let w = going.whole in omega arith),
      );
      new = going.new;
      few = (let e = novel_sum in let f = round.few in let g = going.units in omega arith);
    }

    -- all of the budget is spent
    pub spent_all : novel_in t pool more ≡ left → units_in t pool (parts ++ more) found ≡ budget
    spent_all all = let e = novel_sum in let g = going.units in omega arith

    -- and was stopped, where the last round was
    pub stopped : All (IsCopy t.problem floor shown) copies → LastGoesOn t pool more ⊎ HasNewCopy t.problem floor shown blocked → IsStopped t pool floor shown (parts ++ more) found Spent
    stopped all_copies (inl on) = inl (goes_on_behind t pool parts more on)
    stopped all_copies (inr new) =
        inr (
          new.0,
          record {
            rounds = going.rounds ++ round.round ∷ [];
            blocked = shown ++ copies;
            all_parts = all_parts;
            shown_blocked = shown_first;
            covered = first_covered all_copies;
            are_rounds =
                one_more_round t floor shown (shown ++ copies) going.rounds found round.round new.0 going.whole going.are_rounds is_round new.1 (subst (λ (b : List (List ℕ)). ¬ Contains b new.0) going.blocked_are new.2);
          },
        )

    -- on with a new copy
    pub next : (copy : List ℕ) (rest : ℕ) → IsCopy t.problem floor shown copy → ¬ Contains blocked copy → novel_in t pool more + 1 + rest ≡ left →
        Going t pool floor shown copies budget (blocked ++ copy ∷ []) (parts ++ more) (found ++ copy ∷ []) rest
    next copy rest is_copy out units = record {
      rounds = going.rounds ++ round.round ∷ [];
      all_parts = all_parts;
      whole = (let a = length_push going.rounds round.round in let b = length_push found copy in let w = going.whole in omega arith);
      are_rounds = one_more_round t floor shown (shown ++ copies) going.rounds found round.round copy going.whole going.are_rounds is_round is_copy (subst (λ (b : List (List ℕ)). ¬ Contains b copy) going.blocked_are out);
      blocked_are = ap (λ b. b ++ copy ∷ []) going.blocked_are ∙ append_assoc (shown ++ copies) found (copy ∷ []);
      new = All-push (IsNewCopy t.problem floor shown copies) found copy going.new
          (is_copy, λ c. out (subst (λ (b : List (List ℕ)). Contains b copy) (sym going.blocked_are) (Contains-append_left (shown ++ copies) found copy (Contains-append_right shown copies copy c))));
      searched = all_searched;
      units = (let e = novel_sum in let g = going.units in let b = length_push found copy in omega arith);
    }

  -- the end, where the search of the last round ends with the empty clause
  pub ended : (says : (blocked : List (List ℕ)) (part : Parted) → IsSearchLog (given_to t pool part) part.log → EndsEmpty part.log → RefutesWith t part.local (record { imported = length pool; blocked = blocked; pool = pool; log = part.log })) →
      ((proof : ProofOfEnd) → Proves t floor End proof → IsCovered t.problem floor shown proof.blocked → (x : List ℕ) → IsDue t.problem floor x → Contains shown x) →
      All (IsCopy t.problem floor shown) copies → (part : Parted) → IsSearchLog (given_to t pool part) part.log → part.local ≡ locals_of t floor blocked → EndsEmpty part.log →
      IsEndAt t pool floor shown (shown ++ copies ++ found) (parts ++ part ∷ []) (record { imported = length pool; blocked = blocked; pool = pool; log = part.log })
  ended says complete all_copies part log local empty =
      let proof : ProofOfEnd = record { imported = length pool; blocked = blocked; pool = pool; log = part.log } in
      let proves : Proves t floor End proof = subst (λ ls. RefutesWith t ls proof) local (says blocked part log empty) in
      let covered : IsCovered t.problem floor shown blocked = subst (IsCovered t.problem floor shown) (sym going.blocked_are) (covered_by all_copies) in
      record {
        imports = refl;
        blocks = going.blocked_are;
        proves = proves;
        covered = covered;
        complete = complete proof proves covered;
        before = parts;
        last = ap (λ ls. let one : Parted = record { local = ls; log = part.log } in parts ++ one ∷ []) local;
      }
    where
      covered_by : All (IsCopy t.problem floor shown) copies → IsCovered t.problem floor shown (shown ++ copies ++ found)
      covered_by all_copies = from_each (λ (s : List ℕ). Contains shown s ⊎ IsCopy t.problem floor shown s) (shown ++ copies ++ found) (λ s c. elim (Contains-append_cases (shown ++ copies) found s c) [
        | inr now ↦ inr (All-contains (IsNewCopy t.problem floor shown copies) found s going.new now).0
        | inl before ↦ elim (Contains-append_cases shown copies s before) [
          | inl was ↦ inl was
          | inr known ↦ inr (All-contains (IsCopy t.problem floor shown) copies s all_copies known)
        ]
      ])
