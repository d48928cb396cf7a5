-- Rounds of a search that is gone on with.
use Rattle.std.proofs.Common.{◌≡◌, inl, inr, ◌≤◌, ◌+◌, ◌∙◌, ℕ, Bool, true, false, List, [], ◌∷◌, ◌++◌, length, map, refl, sym, ap, ap₂, subst, arith, append_assoc, append-nil}
use Rattle.std.specs.Global.{Vec}
use Rattle.std.specs.Prelude.{MatchBool}
use Rattle.std.proofs.lemmas.List.{length-map, map-append}
use Rattle.std.proofs.lemmas.List.Elements.{All-map}
use Rattle.cnf_core.specs.declared.literal.Lit.{Lit}
use Rattle.cnf_core.specs.Formula.{Formula}
use Rattle.cnf_core.specs.Literal.{HasVarsUpTo, negation_of}
use Rattle.cnf_core.specs.Valuation.{Satisfies}
use Rattle.refutation_check.specs.declared.log.Step.{Step as LogStep}
use Rattle.refutation_check.specs.Chain.{IsAccepted, IsChain, members_of}
use Rattle.refutation_check.specs.SearchLog.{IsSearchLog, novel_steps}
use Rattle.refutation_check.specs.Part.{Parted}
use Rattle.refutation_check.proofs.Novelty.{novel_all}
use Rattle.rel_formula.specs.Instance.{AreCells, Includes}
use Rattle.translation_rules.specs.Free.{is_free_of}
use Rattle.translation_rules.specs.Translation.{Translated, clauses_of_swaps}
use Rattle.translation_rules.specs.Locals.{IsLeft, absence_in, literal_of, locals_of, units_of}
use Rattle.translation_rules.specs.Parts.{given_to, novel_in}
use Rattle.translation.specs.Kept.{IsTranslation}
use Rattle.minimiser.specs.Down.{IsDescent}
use Rattle.session_rules.specs.Proofs.{IsCopy}
use Rattle.sat_core.specs.declared.search.Answer.{Answer}
use Rattle.sat_core.specs.Assuming.{numbered}
use Rattle.sat_core.specs.Kept.{Kept, IsKept, IfBlocked, number_in, told}
use Rattle.sat_core.specs.Search.{IsAnswerTo, IsSoFar}
use Rattle.sat_core.proofs.Going.{told_so_far}
use Rattle.sat_core.proofs.Numbered.{log_so_far}
use Rattle.sat_core.proofs.Searches.{accepted_more, cannot_hold, members_none}
use Rattle.sat_core.proofs.Told.{none_so_far}
use Rattle.session_state.specs.declared.search_rounds.round.RoundEnd.{RoundEnd}
use Rattle.session_state.specs.declared.search_rounds.round.RoundEnd.TheVariants.{Due, Copy, Refuted, Spent}
use Rattle.session_state.specs.Rounds.Rounds.{left_in, parts_in, IsRoundAt, IsRightRound, IsStoppedRound}
use Rattle.session_state.specs.Rounds.Descended.{DescendsTo}
use Rattle.session_state.specs.Rounds.Going.{IsGoing, GoesOnWith, HasLocals, IsCopied, IsUntold, kept_in, silent, telling}
use Rattle.session_state.proofs.Rounds.SearchedRounds.{right_round, stopped_round, search_and_descent}

-- what is said of a formula and of local clauses is said of equal ones
pub kept_over : (f g : Formula) (asked local : List (List Lit)) (pool : List LogStep) (k : Kept) → f ≡ g → asked ≡ local → IsKept f asked pool k → IsKept g local pool k
kept_over f g asked local pool k e same kept = subst (λ (h : Formula). IsKept h local pool k) e (subst (λ (ls : List (List Lit)). IsKept f ls pool k) same kept)

pub answer_over : (f g : Formula) (asked local : List (List Lit)) (pool : List LogStep) (budget : ℕ) (a b : Answer) → f ≡ g → asked ≡ local → a ≡ b → IsAnswerTo f asked pool budget a → IsAnswerTo g local pool budget b
answer_over f g asked local pool budget a b e same is answer =
    subst (IsAnswerTo g local pool budget) is (subst (λ (h : Formula). IsAnswerTo h local pool budget a) e (subst (λ (ls : List (List Lit)). IsAnswerTo f ls pool budget a) same answer))

-- the local clauses with one more scenario blocked
pub one_more_local : (t : Translated) (floor : List ℕ) (blocked : List (List ℕ)) (copy : List ℕ) → locals_of t floor (blocked ++ copy ∷ []) ≡ locals_of t floor blocked ++ absence_in copy ∷ []
one_more_local t floor blocked copy =
    let before : List (List Lit) = clauses_of_swaps (is_free_of t.problem floor) t.swaps ++ units_of floor in
    ap (λ (cs : List (List Lit)). before ++ cs) (map-append absence_in blocked (copy ∷ [])) ∙ sym (append_assoc before (map absence_in blocked) (absence_in copy ∷ []))

-- the clause that blocks a scenario has variables of the formula
pub absence_within : (t : Translated) → IsTranslation t → (copy : List ℕ) → AreCells t.problem copy → HasVarsUpTo t.cnf.vars (absence_in copy)
absence_within t is copy cells =
    All-map (λ (l : Lit). l.var ≤ t.cnf.vars) (λ cell. negation_of (literal_of cell)) copy (λ k d h. let low = cells k d h in let few = is.cells in omega arith)

-- where a valuation satisfies what is given, the empty clause is no chain over it
pub no_chain : (clauses local : List (List Lit)) (pool : List LogStep) (v : ℕ → Bool) → IsAccepted clauses pool → Satisfies v (clauses ++ local) → (hints : List ℕ) → IsChain (members_of (clauses ++ local) pool) [] hints → ⊥
no_chain clauses local pool v accepted satisfied hints chain =
    let last : LogStep = record { clause = []; hints = hints } in
    let given : List (List Lit) = members_of (clauses ++ local) pool in
    let one : IsAccepted given (last ∷ []) = accepted_more given [] last (λ i d h. absurd (omega (arith, h))) (subst (λ (cs : List (List Lit)). IsChain cs [] hints) (sym (members_none given)) chain) in
    cannot_hold clauses local pool (last ∷ []) accepted one (last, refl, refl) v satisfied

-- the search blocks a copy, or stays as it was
module _ (t : Translated) (pool : List LogStep) (floor : List ℕ) (blocked : List (List ℕ)) (copy : List ℕ) (f : Formula) (f_is : f ≡ t.cnf) (local : List (List Lit)) (local_is : local ≡ locals_of t floor blocked) (clause : List Lit) (clause_is : clause ≡ absence_in copy) where
  pub all_local : local ++ clause ∷ [] ≡ locals_of t floor (blocked ++ copy ∷ [])
  all_local = ap₂ (λ (ls : List (List Lit)) (c : List Lit). ls ++ c ∷ []) local_is clause_is ∙ sym (one_more_local t floor blocked copy)

  module _ (old new : Kept) (place : ℕ) (behind : place ≡ length local) (is : Bool)
      (says : (first rest : List (List Lit)) → local ≡ first ++ rest → place ≡ length first → IfBlocked f (first ++ clause ∷ rest) pool clause old new is) where
    last : IfBlocked f (local ++ clause ∷ []) pool clause old new is
    last = says local [] (sym (append-nil local)) behind

    or_stays : (b : Bool) → IfBlocked f (local ++ clause ∷ []) pool clause old new b → MatchBool b (IsGoing t pool floor (blocked ++ copy ∷ []) new) (new ≡ old)
    or_stays true kept = kept_over f t.cnf (local ++ clause ∷ []) (locals_of t floor (blocked ++ copy ∷ [])) pool new f_is all_local kept
    or_stays false (same, why) = same

    pub blocked_or_same : MatchBool is (IsGoing t pool floor (blocked ++ copy ∷ []) new) (new ≡ old)
    blocked_or_same = or_stays is last

-- how a round ends, with the search and the local clauses that there are then; so much was left behind its descent
pub record IsRoundOf (t : Translated) (pool : List LogStep) (floor : List ℕ) (shown blocked : List (List ℕ)) (budget : ℕ) (k : Kept) (clauses : List (List Lit)) (over : ℕ) (end : RoundEnd) : Type 0 where
  pub parts : IsRoundAt t pool floor blocked budget (parts_in end)
  pub answer : IsRightRound t pool floor shown blocked budget end
  pub stopped : IsStoppedRound t pool floor shown blocked end
  pub going : GoesOnWith t pool floor blocked k end
  pub local : HasLocals t floor blocked clauses end
  pub left : left_in end ≤ over + kept_in k end

-- a round at a smaller budget is one at a larger
wider : (t : Translated) (pool : List LogStep) (floor : List ℕ) (blocked : List (List ℕ)) (less budget : ℕ) (parts : List Parted) → less ≤ budget → IsRoundAt t pool floor blocked less parts → IsRoundAt t pool floor blocked budget parts
wider t pool floor blocked less budget parts low round =
    record { round = round.round; is_round = round.is_round; all_parts = round.all_parts; searched = round.searched; few = let few = round.few in omega arith }

module _ (t : Translated) (pool : List LogStep) (floor : List ℕ) (shown blocked : List (List ℕ)) (start : List ℕ) (found : IsLeft t.problem floor blocked start) (left budget : ℕ) (k : Kept) (going : IsGoing t pool floor blocked k)
    (open' : (hints : List ℕ) → IsChain (members_of (t.cnf.clauses ++ locals_of t floor blocked) pool) [] hints → ⊥) (room : length k.steps + left ≡ budget) where
  abbrev own : List (List Lit)
  own = locals_of t floor blocked

  abbrev given : List (List Lit)
  given = members_of (t.cnf.clauses ++ own) pool

  -- a round whose first part tells nothing
  module _ (end : RoundEnd) (d : DescendsTo t pool floor shown (silent t floor blocked) start left end) where
    silent_log : IsSearchLog given []
    silent_log = log_so_far given own (length t.cnf.clauses) [] (none_so_far given own (length t.cnf.clauses))

    quiet : novel_steps (given_to t pool (silent t floor blocked)) [] + left ≡ left
    quiet = omega arith

    pub silent_round : IsRoundAt t pool floor blocked budget (parts_in end)
    silent_round =
        wider t pool floor blocked left budget (parts_in end) (omega (arith, room)) (search_and_descent t pool floor shown blocked left (silent t floor blocked) start found left quiet end d refl silent_log)

    silent_right : IsRightRound t pool floor shown blocked left end
    silent_right = right_round t pool floor shown blocked left (silent t floor blocked) start found left quiet end d

    -- it came to a copy: what is kept is left too
    pub untold : (copy : List ℕ) (all : Vec Parted) (rest over : ℕ) → end ≡ Copy copy all rest → over ≡ rest + length k.steps → IsUntold t pool floor shown blocked budget k copy all.items over
    untold copy all rest over is over_is =
        let down = subst (DescendsTo t pool floor shown (silent t floor blocked) start left) is d in
        record {
          start = start;
          found = found;
          no_chain = open';
          left = left;
          room = room;
          parts = down.parts;
          in_order = down.in_order;
          descent = down.descent;
          is_copy = down.leads.0;
          within = down.leads.1;
          rest = rest;
          units = down.leads.2;
          over_is = over_is;
        }

    pub copy_right : (copy : List ℕ) (all : Vec Parted) (rest over : ℕ) → end ≡ Copy copy all rest → over ≡ rest + length k.steps → IsRightRound t pool floor shown blocked budget (Copy copy all over)
    copy_right copy all rest over is over_is =
        let right : IsRightRound t pool floor shown blocked left (Copy copy all rest) = subst (IsRightRound t pool floor shown blocked left) is silent_right in
        (right.0, right.1, let all_units = right.2 in omega arith)

  -- what is kept, told
  so_far : IsSoFar given own (length t.cnf.clauses) (told k)
  so_far = told_so_far t.cnf own pool k.trail.clauses k.trail.vars k.assumed k.numbers k.steps going.holds open'

  told_units : novel_steps given (told k) ≡ length k.steps
  told_units = novel_all given (told k) so_far.novel ∙ length-map k.steps (numbered (number_in k.numbers))

  -- a round whose first part tells what is kept
  module _ (end : RoundEnd) (d : DescendsTo t pool floor shown (telling t floor blocked k) start left end) where
    loud : novel_steps (given_to t pool (telling t floor blocked k)) (told k) + left ≡ budget
    loud = ap (λ (n : ℕ). n + left) told_units ∙ room

    pub told_round : IsRoundAt t pool floor blocked budget (parts_in end)
    told_round = search_and_descent t pool floor shown blocked budget (telling t floor blocked k) start found left loud end d refl (log_so_far given own (length t.cnf.clauses) (told k) so_far)

    pub told_right : IsRightRound t pool floor shown blocked budget end
    told_right = right_round t pool floor shown blocked budget (telling t floor blocked k) start found left loud end d

    pub told_stopped : IsStoppedRound t pool floor shown blocked end
    told_stopped = stopped_round t pool floor shown blocked budget (telling t floor blocked k) start found left loud end d

  -- a round that came to a copy, which is blocked
  module _ (copy : List ℕ) (parts : List Parted) (rest : ℕ) (descent : IsDescent t pool floor start left parts) (is_copy : IsCopy t.problem floor shown copy) (within : Includes start copy) (units : novel_in t pool parts + 1 + rest ≡ left)
      (over0 : ℕ) (over0_is : over0 ≡ rest + length k.steps) (new : Kept) (clauses : List (List Lit)) where
    pub copied_round : (end : RoundEnd) → IsCopied t pool floor blocked k new clauses copy parts over0 end → IsRoundOf t pool floor shown blocked budget new clauses rest end
    copied_round (Due scenario all) never = absurd never
    copied_round (Copy scenario all over) (same, goes, now, inl (items, steps, more)) =
        let end : RoundEnd = Copy scenario all rest in
        let d : DescendsTo t pool floor shown (silent t floor blocked) start left end =
        record { parts = parts; in_order = items; descent = descent; leads = (subst (IsCopy t.problem floor shown) (sym same) is_copy, subst (Includes start) (sym same) within, units) } in
        let right = silent_right end d in
        let long = ap length steps in
        record {
          parts = silent_round end d;
          answer = (right.0, right.1, let all_units = right.2 in omega arith);
          stopped = tt;
          going = (subst (λ (s : List ℕ). IsGoing t pool floor (blocked ++ s ∷ []) new) (sym same) goes, omega arith);
          local = subst (λ (s : List ℕ). clauses ≡ locals_of t floor (blocked ++ s ∷ [])) (sym same) now;
          left = omega arith;
        }
    copied_round (Copy scenario all over) (same, goes, now, inr (items, none, as_much)) =
        let end : RoundEnd = Copy scenario all over in
        let d : DescendsTo t pool floor shown (telling t floor blocked k) start left end =
        record { parts = parts; in_order = items; descent = descent; leads = (subst (IsCopy t.problem floor shown) (sym same) is_copy, subst (Includes start) (sym same) within, omega arith) } in
        let long : length new.steps ≡ 0 = ap length none in
        record {
          parts = told_round end d;
          answer = told_right end d;
          stopped = tt;
          going = (subst (λ (s : List ℕ). IsGoing t pool floor (blocked ++ s ∷ []) new) (sym same) goes, omega arith);
          local = subst (λ (s : List ℕ). clauses ≡ locals_of t floor (blocked ++ s ∷ [])) (sym same) now;
          left = omega arith;
        }
    copied_round (Refuted part) never = absurd never
    copied_round (Spent all) never = absurd never
