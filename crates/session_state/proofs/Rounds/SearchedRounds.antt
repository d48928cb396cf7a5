-- Rounds: a search, and the descent from what it finds.
use Rattle.std.proofs.Common.{◌≡◌, ◌⊎◌, ◌≤◌, ◌+◌, ◌∙◌, inl, inr, ℕ, List, [], ◌∷◌, ◌++◌, length, All, Contains, refl, sym, ap, subst, arith, append_assoc}
use Rattle.std.proofs.lemmas.List.Elements.{All-nil, All-cons, All-contains}
use Rattle.std.proofs.lemmas.List.Sums.{sum_by-cons}
use Rattle.refutation_check.specs.declared.log.Step.{Step as LogStep}
use Rattle.refutation_check.specs.SearchLog.{IsSearchLog, novel_steps}
use Rattle.refutation_check.specs.Part.{Parted}
use Rattle.rel_formula.specs.Bounds.{Bounded}
use Rattle.rel_formula.specs.Instance.{Includes}
use Rattle.rel_formula.proofs.Lists.{pairs_nil}
use Rattle.translation_rules.specs.Translation.{Translated}
use Rattle.translation_rules.specs.Locals.{IsLeft, locals_of}
use Rattle.translation_rules.specs.Parts.{LastGoesOn, given_to, novel_in}
use Rattle.translation_rules.specs.Descents.{IsProperPart, Lowering, IsLowering}
use Rattle.translation_rules.proofs.Tests.{from_each}
use Rattle.minimiser.specs.Down.{IsDescent}
use Rattle.session_rules.specs.Proofs.{IsCopy}
use Rattle.session_state.specs.declared.search_rounds.round.RoundEnd.{RoundEnd}
use Rattle.session_state.specs.declared.search_rounds.round.RoundEnd.TheVariants.{Due, Copy, Refuted, Spent}
use Rattle.session_state.specs.Rounds.Rounds.{left_in, parts_in, HasNewCopy, IsRoundAt, IsRightRound, IsStoppedRound}
use Rattle.session_state.specs.Rounds.Descended.{IsDueOrCopy, HasCopyIn, LeadsTo, DescendsTo}

abbrev HasItsLog : Translated → List LogStep → Parted → Type 0
HasItsLog t pool part = IsSearchLog (given_to t pool part) part.log

-- the novel steps of one part more
pub novel_more : (t : Translated) (pool : List LogStep) (part : Parted) (parts : List Parted) → novel_in t pool (part ∷ parts) ≡ novel_steps (given_to t pool part) part.log + novel_in t pool parts
novel_more t pool part parts = sum_by-cons (λ (x : Parted). novel_steps (given_to t pool x) x.log) part parts

pub novel_none : (t : Translated) (pool : List LogStep) → novel_in t pool [] ≡ 0
novel_none t pool = refl

-- the last of some parts goes on behind others too
pub goes_on_behind : (t : Translated) (pool : List LogStep) (parts more : List Parted) → LastGoesOn t pool more → LastGoesOn t pool (parts ++ more)
goes_on_behind t pool parts more on = record {
  before = parts ++ on.before;
  last = on.last;
  in_order = ap (λ (ps : List Parted). parts ++ ps) on.in_order ∙ sym (append_assoc parts on.before (on.last ∷ []));
  goes_on = on.goes_on;
}

-- what was left with more scenarios blocked is left with these
pub left_with : (p : Bounded) (floor : List ℕ) (shown blocked : List (List ℕ)) (start : List ℕ) → All (Contains blocked) shown → IsLeft p floor blocked start → IsLeft p floor shown start
left_with p floor shown blocked start all found = record {
  instance_of = found.instance_of;
  above = found.above;
  settled = found.settled;
  fresh = from_each (λ (b : List ℕ). ¬ Includes start b) shown (λ b there. All-contains (λ (b : List ℕ). ¬ Includes start b) blocked b found.fresh (All-contains (Contains blocked) shown b all there));
}

-- what lies in a scenario that was left to be found isn't blocked
pub not_blocked : (p : Bounded) (floor : List ℕ) (blocked : List (List ℕ)) (start scenario : List ℕ) → IsLeft p floor blocked start → Includes start scenario → ¬ Contains blocked scenario
not_blocked p floor blocked start scenario found within there = All-contains (λ b. ¬ Includes start b) blocked scenario found.fresh there within

-- a unit that is taken leaves less
pub leaves_less : (p : Bounded) (floor : List ℕ) (shown : List (List ℕ)) (minimal : List ℕ) (over : ℕ) (end : RoundEnd) → IsDueOrCopy p floor shown minimal over end → left_in end ≤ over
leaves_less p floor shown minimal over (Due scenario all) is = omega arith
leaves_less p floor shown minimal over (Copy scenario all rest) (same, copy, one) = omega arith
leaves_less p floor shown minimal over (Refuted part) never = absurd never
leaves_less p floor shown minimal over (Spent all) is = omega arith

module _ (t : Translated) (pool : List LogStep) (floor : List ℕ) (shown : List (List ℕ)) (part : Parted) (start : List ℕ) (left : ℕ) (parts : List Parted) (descent : IsDescent t pool floor start left parts) where
  -- a descent to a minimal scenario
  module _ (minimal : List ℕ) (within : Includes start minimal) (over : ℕ) (units : novel_in t pool parts + over ≡ left) where
    leads : (end : RoundEnd) → IsDueOrCopy t.problem floor shown minimal over end → LeadsTo t pool floor shown start left parts end
    leads (Due scenario all) is = is
    leads (Copy scenario all rest) (same, copy, one) = (subst (IsCopy t.problem floor shown) (sym same) copy, subst (Includes start) (sym same) within, omega arith)
    leads (Refuted other) never = absurd never
    leads (Spent all) (copy, none) = (omega arith, inr (minimal, copy, within))

    pub led_down : (end : RoundEnd) → parts_in end ≡ part ∷ parts → IsDueOrCopy t.problem floor shown minimal over end → DescendsTo t pool floor shown part start left end
    led_down end in_order is = record { parts = parts; in_order = in_order; descent = descent; leads = leads end is }

-- a search alone
pub search_alone : (t : Translated) (pool : List LogStep) (floor : List ℕ) (blocked : List (List ℕ)) (budget : ℕ) (part : Parted) → part.local ≡ locals_of t floor blocked → IsSearchLog (given_to t pool part) part.log →
    novel_steps (given_to t pool part) part.log ≤ budget → IsRoundAt t pool floor blocked budget (part ∷ [])
search_alone t pool floor blocked budget part local log few = record {
  round = record { search = part; descent = [] };
  is_round = record {
    local = local;
    descent = record {
      down = record { lowerings = All-nil (IsLowering t.problem floor); shrinking = pairs_nil (λ (x y : Lowering). IsProperPart x.from y.from) };
      first = λ x others e. absurd (let k = ap length e in omega arith);
    };
  };
  all_parts = refl;
  searched = All-cons (HasItsLog t pool) part [] log (All-nil (HasItsLog t pool));
  few = let m = novel_more t pool part [] in let n = novel_none t pool in omega arith;
}

-- a search, and the descent from what it found
module _ (t : Translated) (pool : List LogStep) (floor : List ℕ) (shown blocked : List (List ℕ)) (budget : ℕ) (part : Parted) (start : List ℕ) (found : IsLeft t.problem floor blocked start) (left : ℕ)
    (rest : novel_steps (given_to t pool part) part.log + left ≡ budget) where
  right : (parts : List Parted) (end : RoundEnd) → parts_in end ≡ part ∷ parts → LeadsTo t pool floor shown start left parts end → IsRightRound t pool floor shown blocked budget end
  right parts (Due scenario all) e is = is
  right parts (Copy scenario all over) e (copy, within, units) = (
    copy,
    not_blocked t.problem floor blocked start scenario found within,
    let s : novel_in t pool all.items ≡ novel_in t pool (part ∷ parts) = ap (novel_in t pool) e in
        let m = novel_more t pool part parts in
        omega arith,
  )
  right parts (Refuted other) e never = absurd never
  right parts (Spent all) e (units, on) =
      let s : novel_in t pool all.items ≡ novel_in t pool (part ∷ parts) = ap (novel_in t pool) e in
      let m = novel_more t pool part parts in
      omega arith

  stops : (parts all : List Parted) → all ≡ part ∷ parts → LastGoesOn t pool parts ⊎ HasCopyIn t.problem floor shown start → LastGoesOn t pool all ⊎ HasNewCopy t.problem floor shown blocked
  stops parts all e (inl on) = inl (subst (LastGoesOn t pool) (sym e) (goes_on_behind t pool (part ∷ []) parts on))
  stops parts all e (inr has) = inr (has.0, has.1, not_blocked t.problem floor blocked start has.0 found has.2)

  stopped : (parts : List Parted) (end : RoundEnd) → parts_in end ≡ part ∷ parts → LeadsTo t pool floor shown start left parts end → IsStoppedRound t pool floor shown blocked end
  stopped parts (Due scenario all) e is = tt
  stopped parts (Copy scenario all over) e is = tt
  stopped parts (Refuted other) e never = tt
  stopped parts (Spent all) e is = stops parts all.items e is.1

  module _ (end : RoundEnd) (d : DescendsTo t pool floor shown part start left end) where
    pub right_round : IsRightRound t pool floor shown blocked budget end
    right_round = right d.parts end d.in_order d.leads

    pub stopped_round : IsStoppedRound t pool floor shown blocked end
    stopped_round = stopped d.parts end d.in_order d.leads

    pub search_and_descent : part.local ≡ locals_of t floor blocked → IsSearchLog (given_to t pool part) part.log → IsRoundAt t pool floor blocked budget (parts_in end)
    search_and_descent local log = subst (IsRoundAt t pool floor blocked budget) (sym d.in_order) (record {
      round = record { search = part; descent = d.descent.descent.lowerings };
      is_round = record {
        local = local;
        descent = record {
          down = d.descent.descent.down;
          first = λ x others e. subst (IsLeft t.problem floor blocked) (sym (d.descent.descent.first x others e)) found;
        };
      };
      all_parts = ap (λ ps. part ∷ ps) d.descent.descent.all_parts;
      searched = All-cons (HasItsLog t pool) part d.parts log d.descent.searched;
      few = let m = novel_more t pool part d.parts in let f = d.descent.few in omega arith;
    })
