-- How a search goes on, and how it ends.
use Rattle.std.proofs.Common.{◌≡◌, ◌≢◌, ◌<◌, ◌≤◌, ◌+◌, ◌-◌, ◌++◌, [], ◌∷◌, ◌⊎◌, ℕ, Bool, false, Some, None, List, length, get_or, take, map, All, arith, sym, ◌∙◌, ap, inl, inr, refl, subst, append_assoc, length-append}
use Rattle.std.proofs.lemmas.Bool.{cases_lt}
use Rattle.std.proofs.lemmas.List.{take_all, take_more, take-append-le, get_or_append_left, get_or-map, map-append, length-map}
use Rattle.std.proofs.Math.Seq.{get_or-append_seam}
use Rattle.std.proofs.lemmas.Option.{slice_get-get_or, get_or_from_slice_get, slice_get_cases}
use Rattle.std.proofs.lemmas.List.Elements.{All-contains, All-push, All-append, All-map, All-weaker, Contains-get_or, Contains-append_cases, Contains-append_left, Contains-append_right}
use Rattle.std.specs.List.{Contains, slice_get}
use Rattle.std.specs.Bool.{IsTrue}
use Rattle.cnf_core.specs.declared.literal.Lit.{Lit}
use Rattle.cnf_core.specs.Literal.{negation_of, IsVariable, IsClause, HasVarsUpTo}
use Rattle.cnf_core.specs.Valuation.{clause_value, value_of, Satisfies}
use Rattle.refutation_check.specs.declared.log.Step.{Step}
use Rattle.refutation_check.specs.Chain.{IsFalsified, IsUnit, Refutes, IsChain, members_of, IsAccepted, IsNovel, EndsEmpty}
use Rattle.refutation_check.specs.SearchLog.{IsVarOf, HasVarsOf, IsAllNovel, IsNovelButLast}
use Rattle.refutation_check.proofs.Entailment.{each_entailed, no_valuation}
use Rattle.unit_propagation.specs.declared.assignment_trail.assigned.Assigned.{Assigned}
use Rattle.unit_propagation.specs.Assignments.Trail.{IsTrail, IsBackTo, falses_of}
use Rattle.unit_propagation.proofs.Assignments.Trails.{All-front, IsTrail-cut, in_falses}
use Rattle.sat_trail.specs.Trailed.{Trailed}
use Rattle.sat_trail.specs.Learnt.{IsFlat, IsAbove, IsAsserting}
use Rattle.sat_trail.specs.Closed.{IsClosed, IsClosedBelow}
use Rattle.sat_trail.proofs.Learned.{placed_decided}
use Rattle.sat_core.specs.Answers.{IsModel}
use Rattle.sat_core.specs.Assuming.{IsAssumedFirst, IsClash}
use Rattle.sat_core.specs.Lent.{IsLearnt, IsStanding, Permits, with_units}
use Rattle.sat_core.specs.Search.{Searching, HasNext, IsFound, IsNext, IsStuck, IsVarIn}
use Rattle.sat_core.proofs.Descents.{flat_or_above, full_model}
use Rattle.sat_core.proofs.Assumes.{below_top, consistent, first_cut, front_true}
use Rattle.sat_core.specs.Assuming.{Keeps}
use Rattle.sat_core.proofs.SearchClauses.{keeps_more, given_closed, given_clauses, given_vars}

-- the members with one more step
pub members_more : (given : List (List Lit)) (log : List Step) (s : Step) → members_of given (log ++ s ∷ []) ≡ members_of given log ++ s.clause ∷ []
members_more given log s = ap (λ (cs : List (List Lit)). given ++ cs) (map-append (λ (s : Step). s.clause) log (s ∷ [])) ∙ sym (append_assoc given (map (λ (s : Step). s.clause) log) (s.clause ∷ []))

pub members_none : (given : List (List Lit)) → members_of given [] ≡ given
members_none given = append_nil given
  where
    append_nil : (xs : List (List Lit)) → xs ++ [] ≡ xs
    append_nil [] = refl
    append_nil (x ∷ xs) = ap (λ (ys : List (List Lit)). x ∷ ys) (append_nil xs)

pub front : (log : List Step) (s : Step) → take (length log) (log ++ s ∷ []) ≡ log
front log s = take-append-le (length log) log (s ∷ []) (omega arith) ∙ take_all (length log) log (omega arith)

pub slice_get_below : (xs : List Step) (i : ℕ) (x : Step) → slice_get xs i ≡ Some x → i < length xs
slice_get_below xs i x e =
    elim (slice_get_cases xs i).1 [
      | inl (y, in', is, there) ↦ in'
      | inr (past, is) ↦ let n : None ≡ Some x = sym is ∙ e in absurd cc
    ]

-- a clause that stands in the log has only the given variables
var_of_log : (given : List (List Lit)) (log : List Step) (c : List Lit) (l : Lit) → HasVarsOf given log → Contains (map (λ s. s.clause) log) c → Contains c l → IsVarOf given l.var
var_of_log given log c l all there h =
    let each : All (λ c. All (λ (l : Lit). IsVarOf given l.var) c) (map (λ (s : Step). s.clause) log) = All-map (λ c. All (λ (l : Lit). IsVarOf given l.var) c) (λ (s : Step). s.clause) log all in
    All-contains (λ (l : Lit). IsVarOf given l.var) c l (All-contains (λ c. All (λ (l : Lit). IsVarOf given l.var) c) (map (λ (s : Step). s.clause) log) c each there) h

var_of_members : (given : List (List Lit)) (log : List Step) (var : ℕ) → HasVarsOf given log → IsVarOf (members_of given log) var → IsVarOf given var
var_of_members given log var all of =
    elim (Contains-append_cases given (map (λ (s : Step). s.clause) log) of.clause of.given) [
      | inl first ↦ record { clause = of.clause; literal = of.literal; given = first; member = of.member; same = of.same }
      | inr later ↦ subst (IsVarOf given) of.same (var_of_log given log of.clause of.literal all later of.member)
    ]

module _ (given : List (List Lit)) (log : List Step) (s : Step) where
  pub accepted_more : IsAccepted given log → IsChain (members_of given log) s.clause s.hints → IsAccepted given (log ++ s ∷ [])
  accepted_more was chain i d h =
      elim (cases_lt i (length log)) [
        | inl lt ↦
            let there = was i d lt in
            rw (take-append-le i log (s ∷ []) (omega arith), get_or_append_left log (s ∷ []) d i lt) there
        | inr ge ↦
            let is : i ≡ length log = omega (arith, length-append log (s ∷ [])) in
            let taken : take i (log ++ s ∷ []) ≡ log = ap (λ (k : ℕ). take k (log ++ s ∷ [])) is ∙ front log s in
            let at : get_or (log ++ s ∷ []) i d ≡ s = ap (λ (k : ℕ). get_or (log ++ s ∷ []) k d) is ∙ get_or-append_seam log s [] d in
            rw (taken, at) chain
      ]

  pub vars_more : HasVarsOf given log → All (λ l. IsVarOf (members_of given log) l.var) s.clause → HasVarsOf given (log ++ s ∷ [])
  vars_more was of =
      All-push (λ (s : Step). All (λ (l : Lit). IsVarOf given l.var) s.clause) log s was (λ k d h. var_of_members given log (get_or s.clause k d).var was (of k d h))

  -- of the steps with one more, one is old or the last
  step_cases : (i : ℕ) (t : Step) → slice_get (log ++ s ∷ []) i ≡ Some t → ((i < length log) × (slice_get log i ≡ Some t) × (take i (log ++ s ∷ []) ≡ take i log)) ⊎ ((i ≡ length log) × (s ≡ t) × (take i (log ++ s ∷ []) ≡ log))
  step_cases i t e =
      let below : i < length (log ++ s ∷ []) = slice_get_below (log ++ s ∷ []) i t e in
      let read : get_or (log ++ s ∷ []) i t ≡ t = get_or_from_slice_get (log ++ s ∷ []) i t t e in
      elim (cases_lt i (length log)) [
        | inl lt ↦ inl (lt, slice_get-get_or log i t lt ∙ ap Some (sym (get_or_append_left log (s ∷ []) t i lt) ∙ read), take-append-le i log (s ∷ []) (omega arith))
        | inr ge ↦
            let is : i ≡ length log = omega (arith, length-append log (s ∷ [])) in
            let taken : take i (log ++ s ∷ []) ≡ log = ap (λ (k : ℕ). take k (log ++ s ∷ [])) is ∙ front log s in
            let at : get_or (log ++ s ∷ []) i t ≡ s = ap (λ (k : ℕ). get_or (log ++ s ∷ []) k t) is ∙ get_or-append_seam log s [] t in
            inr (is, sym at ∙ read, taken)
      ]

  pub novel_more : IsAllNovel given log → IsNovel (members_of given log) s.clause → IsAllNovel given (log ++ s ∷ [])
  novel_more was novel i t e =
      elim (step_cases i t e) [
        | inl (lt, there, taken) ↦ subst (λ (ss : List Step). IsNovel (members_of given ss) t.clause) (sym taken) (was i t there)
        | inr (is, one, taken) ↦ subst (λ (ss : List Step). IsNovel (members_of given ss) t.clause) (sym taken) (subst (λ (t : Step). IsNovel (members_of given log) t.clause) one novel)
      ]

  pub novel_but_last : IsAllNovel given log → s.clause ≡ [] → IsNovelButLast given (log ++ s ∷ [])
  novel_but_last was empty i t e =
      elim (step_cases i t e) [
        | inl (lt, there, taken) ↦ inl (subst (λ (ss : List Step). IsNovel (members_of given ss) t.clause) (sym taken) (was i t there))
        | inr (is, one, taken) ↦ inr (omega (arith, is, length-append log (s ∷ [])), subst (λ (t : Step). t.clause ≡ []) one empty)
      ]

  pub ends_empty : s.clause ≡ [] → EndsEmpty (log ++ s ∷ [])
  ends_empty empty =
      let last : length (log ++ s ∷ []) - 1 ≡ length log = omega (arith, length-append log (s ∷ [])) in
      let in' : length log < length (log ++ s ∷ []) = omega (arith, length-append log (s ∷ [])) in
      (s, ap (slice_get (log ++ s ∷ [])) last ∙ (slice_get-get_or (log ++ s ∷ []) (length log) s in' ∙ ap Some (get_or-append_seam log s [] s)), empty)

pub novel_all : (given : List (List Lit)) (log : List Step) → IsAllNovel given log → IsNovelButLast given log
novel_all given log was i s e = inl (was i s e)

-- the conflict is above level 0, where what is learnt is not empty
pub learnt_above : (old : Trailed) (conflict : ℕ) (clause : List Lit) → IsTrail old.clauses old.assigned → Refutes old.clauses (falses_of old.assigned) conflict → (IsFlat old.clauses old.assigned conflict → clause ≡ []) → clause ≢ [] → IsAbove old.clauses old.assigned conflict
learnt_above old conflict clause trail refuted flat not_empty =
    elim (flat_or_above old.clauses old.assigned trail conflict refuted) [ inl is_flat ↦ absurd (not_empty (flat is_flat)) | inr is_above ↦ is_above ]

-- each literal of what is learnt is false
learnt_false : (assigned : List Assigned) (clause : List Lit) → IsAsserting assigned clause → All (Contains (falses_of assigned)) clause
learnt_false assigned clause asserting k d h =
    let a : Assigned = record { lit = d; level = 0; reason = None } in
    elim (asserting.others (get_or clause k d) a (Contains-get_or clause k d h)) [
      | inl is ↦ subst (Contains (falses_of assigned)) is (in_falses assigned asserting.place a asserting.in_range)
      | inr (j, in', low, is) ↦ subst (Contains (falses_of assigned)) is (in_falses assigned j a in')
    ]

-- what is learnt where the empty clause is no chain
module _ (old : Trailed) (conflict : ℕ) (trail : IsTrail old.clauses old.assigned) (refuted : Refutes old.clauses (falses_of old.assigned) conflict) (deep : (hints : List ℕ) → IsChain old.clauses [] hints → ⊥) (s : Step) (chain : IsChain old.clauses s.clause s.hints) where
  pub learnt_some : s.clause ≢ []
  learnt_some none = deep s.hints (subst (λ (c : List Lit). IsChain old.clauses c s.hints) none chain)

  pub learnt_high : (IsFlat old.clauses old.assigned conflict → s.clause ≡ []) → IsAbove old.clauses old.assigned conflict
  learnt_high flat = learnt_above old conflict s.clause trail refuted flat learnt_some

  -- what is known of the step
  pub learnt_next : HasVarsUpTo old.vars s.clause → All (λ l. IsVarOf old.clauses l.var) s.clause → IsAsserting old.assigned s.clause → IsNovel old.clauses s.clause → IsNext old s
  learnt_next within of asserting novel =
      record { chain = chain; vars_of = of; within = within; not_empty = learnt_some; novel = novel; asserting = asserting }

-- the trail behind a step that is kept
pub kept_next : (old back new : Trailed) (s : Step) (level : ℕ) → new ≡ record { vars = back.vars; clauses = back.clauses ++ s.clause ∷ []; assigned = back.assigned } → back.vars ≡ old.vars → back.clauses ≡ old.clauses → IsBackTo level old.assigned back.assigned →
    IsClosedBelow (old.clauses ++ s.clause ∷ []) back.assigned → HasNext old s new
kept_next old back new s level is vars same went closed =
    record {
      vars = ap (λ (t : Trailed). t.vars) is ∙ vars;
      clauses = ap (λ (t : Trailed). t.clauses) is ∙ ap (λ (cs : List (List Lit)). cs ++ s.clause ∷ []) same;
      closed_below = subst (λ (t : Trailed). IsClosedBelow t.clauses t.assigned) (sym is) (subst (λ (cs : List (List Lit)). IsClosedBelow (cs ++ s.clause ∷ []) back.assigned) (sym same) closed);
      count = went.count;
      stays = ap (λ (t : Trailed). t.assigned) is ∙ went.stays;
    }

-- what satisfies clauses satisfies the first of them
pub model_front : (first : ℕ) (clauses more : List (List Lit)) (values : List Bool) → IsModel first (clauses ++ more) values → IsModel first clauses values
model_front first clauses more values model =
    record {
      enough = model.enough;
      within = All-front (HasVarsUpTo (length values)) clauses more model.within;
      satisfied = All-front (λ c. IsTrue (clause_value (value_of values) c)) clauses more model.satisfied;
    }

-- a trail that went back to its first level has no decision
module _ (clauses : List (List Lit)) (old new : List Assigned) (trail : IsTrail clauses old) (back : IsBackTo 0 old new) where
  pub none_decided : (i : ℕ) (d : Assigned) → i < length new → (get_or new i d).reason ≡ None → ⊥
  none_decided i d h decided =
      let is : IsTrail clauses new = subst (IsTrail clauses) (sym back.stays) (IsTrail-cut clauses old back.count trail) in
      let next = placed_decided clauses (take i new) (get_or new i d) (is i d h) decided in
      let up = below_top clauses new is i d h in
      omega (arith, next, up, back.low)

-- no step was learnt yet
pub learnt_none : (clauses : List (List Lit)) (assumed : List Lit) → IsLearnt clauses assumed []
learnt_none clauses assumed =
    record {
      accepted = λ i d h. absurd (omega arith);
      vars = λ i d h. absurd (omega arith);
      novel = λ i s e. absurd (let below : i < 0 = slice_get_below [] i s e in omega arith);
      no_empty = λ i d h. absurd (omega arith);
      none_assumed = λ i d h. absurd (omega arith);
      direct = inl refl;
    }

-- a trail that went back to its first level stands where a search begins
pub standing_at_start : (assumed : List Lit) (old trail : Trailed) → IsTrail old.clauses old.assigned → trail.clauses ≡ old.clauses → IsBackTo 0 old.assigned trail.assigned → IsStanding assumed 0 trail
standing_at_start assumed old trail ordered same back =
    let free = none_decided old.clauses old.assigned trail.assigned ordered back in
    record { closed_below = λ i d h decided. absurd (free i d h decided); assumed_first = λ i d h decided. absurd (free i d h decided) }

-- the assumed literals stay first where a trail goes back
pub first_behind : (assumed : List Lit) (depth : ℕ) (old new : List Assigned) (level : ℕ) → IsBackTo level old new → IsAssumedFirst assumed depth old → IsAssumedFirst assumed depth new
first_behind assumed depth old new level back was = subst (IsAssumedFirst assumed depth) (sym back.stays) (first_cut old assumed depth was back.count)

-- so does one on which nothing is true
pub standing_at_none : (assumed : List Lit) (trail : Trailed) → trail.assigned ≡ [] → IsStanding assumed 0 trail
standing_at_none assumed trail none =
    let free : (i : ℕ) → i < length trail.assigned → ⊥ = λ i h. omega (arith, h, ap length none) in
    record { closed_below = λ i d h decided. absurd (free i h); assumed_first = λ i d h decided. absurd (free i h) }

-- before the first step
pub searching_from : (assumed : List Lit) (depth : ℕ) (trail : Trailed) (log : List Step) → log ≡ [] → All (IsVarIn trail.vars) assumed → IsStanding assumed depth trail → Searching trail.clauses trail.vars assumed depth trail log
searching_from assumed depth trail log none in_range stands =
    subst (Searching trail.clauses trail.vars assumed depth trail) (sym none) (record {
      clauses_are = sym (members_none trail.clauses);
      vars_are = refl;
      in_range = in_range;
      closed_below = stands.closed_below;
      assumed_first = stands.assumed_first;
      learnt = learnt_none trail.clauses assumed;
    })

-- a literal that is assumed has its clause
pub has_unit : (ls : List Lit) (l : Lit) → Contains ls l → Contains (map (λ (l : Lit). l ∷ []) ls) (l ∷ [])
has_unit ls l (k, h, e) =
    (k, omega (arith, h, length-map ls (λ (l : Lit). l ∷ [])), get_or-map (λ (l : Lit). l ∷ []) ls k l (l ∷ []) h ∙ ap (λ (x : Lit). x ∷ []) e)

-- the clauses and those of one literal
keeps_units : (clauses : List (List Lit)) (assumed : List Lit) → Keeps (with_units clauses assumed) clauses assumed
keeps_units clauses assumed =
    record {
      of_kept = λ c h. Contains-append_left clauses (map (λ (l : Lit). l ∷ []) assumed) c h;
      of_assumed = λ l h. Contains-append_right clauses (map (λ (l : Lit). l ∷ []) assumed) (l ∷ []) (has_unit assumed l h);
      each = λ c h. elim (Contains-append_cases clauses (map (λ (l : Lit). l ∷ []) assumed) c h) [
        | inl there ↦ inl there
        | inr unit ↦ inr (is_unit assumed c unit)
      ];
    }
  where
    is_unit : (ls : List Lit) (c : List Lit) → Contains (map (λ (l : Lit). l ∷ []) ls) c → (l : Lit) × (c ≡ l ∷ []) × Contains ls l
    is_unit ls c (k, h, e) =
        let d : Lit = record { var = 0; positive = false } in
        let below : k < length ls = omega (arith, h, length-map ls (λ (l : Lit). l ∷ [])) in
        (get_or ls k d, sym e ∙ get_or-map (λ (l : Lit). l ∷ []) ls k d c below, Contains-get_or ls k d below)

module _ (clauses : List (List Lit)) (vars : ℕ) (assumed : List Lit) (depth : ℕ) (old : Trailed) (log : List Step) (was : Searching clauses vars assumed depth old log) where
  module _ (mid : Trailed) (same : mid.clauses ≡ old.clauses) (same_vars : mid.vars ≡ old.vars) (trail : IsTrail mid.clauses mid.assigned) where
    mid_members : mid.clauses ≡ members_of clauses log
    mid_members = same ∙ was.clauses_are

    -- how many clauses the trail has
    pub members_long : length mid.clauses ≡ length clauses + length log
    members_long = ap length mid_members ∙ (length-append clauses (map (λ (s : Step). s.clause) log) ∙ ap (λ (n : ℕ). length clauses + n) (length-map log (λ (s : Step). s.clause)))

    pub clash_so_far : IsClash mid.clauses assumed → IsClash (members_of clauses log) assumed
    clash_so_far clash = subst (λ (cs : List (List Lit)). IsClash cs assumed) mid_members clash

    -- the values of a full trail satisfy the clauses with what is assumed
    pub found_model : (values : List Bool) → IsFound mid assumed values → (length values ≡ vars) × IsModel vars (with_units clauses assumed) values
    found_model values found =
        let falses : List Lit = falses_of mid.assigned in
        let all : List (List Lit) = members_of (with_units clauses assumed) log in
        let few : List (List Lit) = members_of clauses log in
        let keeps = keeps_more (with_units clauses assumed) clauses (map (λ (s : Step). s.clause) log) assumed (keeps_units clauses assumed) in
        let mid_vars : mid.vars ≡ vars = same_vars ∙ was.vars_are in
        let variables : All (λ l. IsVariable l.var) assumed = All-weaker (IsVarIn vars) (λ (l : Lit). IsVariable l.var) (λ l low. (low.0, omega (arith, low.1, mid_vars, found.small))) assumed was.in_range in
        let long : length values ≡ vars = found.long ∙ mid_vars in
        let model : IsModel vars all values = full_model vars vars all falses values
        (given_closed all few assumed keeps falses (consistent mid.clauses mid.assigned trail) (subst (λ (cs : List (List Lit)). IsClosed cs falses) mid_members found.full.closed) found.is_true)
        (given_clauses all few assumed keeps (subst (All IsClause) mid_members found.each) variables)
        (given_vars all few assumed keeps vars (subst (λ (n : ℕ). All (HasVarsUpTo n) few) mid_vars (subst (All (HasVarsUpTo mid.vars)) mid_members found.within)) was.in_range) long (omega arith) found.values in
        (long, model_front vars (with_units clauses assumed) (map (λ (s : Step). s.clause) log) values model)

    module _ (conflict : ℕ) (stuck : IsStuck assumed mid conflict) (s : Step) (next : IsNext mid s) where
      -- the literals that were false at the newest place where all that is assumed was true
      at_stop : Permits clauses assumed
      at_stop =
          let falses : List Lit = falses_of (take stuck.place mid.assigned) in
          let all : IsClosed (members_of clauses log) falses = subst (λ (cs : List (List Lit)). IsClosed cs falses) mid_members stuck.closed in
          record {
            falses = falses;
            consistent = consistent mid.clauses (take stuck.place mid.assigned) (IsTrail-cut mid.clauses mid.assigned stuck.place trail);
            closed = All-front (λ c. (¬ IsFalsified (Contains falses) c) × ((l : Lit) → ¬ IsUnit (Contains falses) c l)) clauses (map (λ (s : Step). s.clause) log) all;
            is_true = stuck.assumed_true;
          }

      -- no literal of a step is assumed: each is false, and each assumed literal was true before
      not_assumed : All (λ l. ¬ Contains assumed l) s.clause
      not_assumed k d h there =
          let is_false = learnt_false mid.assigned s.clause next.asserting k d h in
          let is_true = All-contains (λ (l : Lit). Contains (falses_of mid.assigned) (negation_of l)) assumed (get_or s.clause k d) (front_true mid.assigned stuck.place assumed stuck.assumed_true) there in
          consistent mid.clauses mid.assigned trail (get_or s.clause k d) is_false is_true

      -- one more step
      pub learnt_more : IsLearnt clauses assumed (log ++ s ∷ [])
      learnt_more =
          record {
            accepted = accepted_more clauses log s was.learnt.accepted (subst (λ (cs : List (List Lit)). IsChain cs s.clause s.hints) mid_members next.chain);
            vars = vars_more clauses log s was.learnt.vars (subst (λ (cs : List (List Lit)). All (λ (l : Lit). IsVarOf cs l.var) s.clause) mid_members next.vars_of);
            novel = novel_more clauses log s was.learnt.novel (subst (λ (cs : List (List Lit)). IsNovel cs s.clause) mid_members next.novel);
            no_empty = All-push (λ (s : Step). s.clause ≢ []) log s was.learnt.no_empty next.not_empty;
            none_assumed = All-push (λ (s : Step). All (λ l. ¬ Contains assumed l) s.clause) log s was.learnt.none_assumed not_assumed;
            direct = inr at_stop;
          }

      pub searching_more : (new : Trailed) (after : List Step) (deep : ℕ) → IsAssumedFirst assumed deep mid.assigned → HasNext mid s new → after ≡ log ++ s ∷ [] → Searching clauses vars assumed deep new after
      searching_more new after deep first has added =
          subst (Searching clauses vars assumed deep new) (sym added) (record {
            clauses_are = has.clauses ∙ (ap (λ (cs : List (List Lit)). cs ++ s.clause ∷ []) mid_members ∙ sym (members_more clauses log s));
            vars_are = has.vars ∙ (same_vars ∙ was.vars_are);
            in_range = was.in_range;
            closed_below = has.closed_below;
            assumed_first = subst (IsAssumedFirst assumed deep) (sym has.stays) (first_cut mid.assigned assumed deep first has.count);
            learnt = learnt_more;
          })

-- a valuation that satisfies the formula and the local clauses satisfies the pool too
pool_holds : (clauses local : List (List Lit)) (pool : List Step) → IsAccepted clauses pool → (v : ℕ → Bool) → Satisfies v (clauses ++ local) → Satisfies v (members_of (clauses ++ local) pool)
pool_holds clauses local pool accepted v holds =
    let entailed = each_entailed clauses pool accepted in
    let first : Satisfies v clauses = All-front (λ c. IsTrue (clause_value v c)) clauses local holds in
    All-append (λ c. IsTrue (clause_value v c)) (clauses ++ local) (map (λ (s : Step). s.clause) pool) holds
    (All-map (λ c. IsTrue (clause_value v c)) (λ (s : Step). s.clause) pool (λ k d h. entailed k d h v first))

-- a refutation over the pool
pub cannot_hold : (clauses local : List (List Lit)) (pool log : List Step) → IsAccepted clauses pool → IsAccepted (members_of (clauses ++ local) pool) log → EndsEmpty log → (v : ℕ → Bool) → ¬ Satisfies v (clauses ++ local)
cannot_hold clauses local pool log pooled accepted ends v holds =
    no_valuation (members_of (clauses ++ local) pool) log (accepted, ends) v (pool_holds clauses local pool pooled v holds)

-- where the variables of the clauses are bounded, those of the log are
pub vars_bounded : (clauses local : List (List Lit)) (pool log : List Step) → HasVarsOf (members_of (clauses ++ local) pool) log → (n : ℕ) → All (HasVarsUpTo n) clauses → All (HasVarsUpTo n) local → All (λ s. HasVarsUpTo n s.clause) pool → All (λ s. HasVarsUpTo n s.clause) log
vars_bounded clauses local pool log of n first second third k d h j e m =
    let all : All (HasVarsUpTo n) (members_of (clauses ++ local) pool) =
    All-append (HasVarsUpTo n) (clauses ++ local) (map (λ (s : Step). s.clause) pool) (All-append (HasVarsUpTo n) clauses local first second) (All-map (HasVarsUpTo n) (λ (s : Step). s.clause) pool third) in
    let var = of k d h j e m in
    let there : var.literal.var ≤ n = All-contains (λ (l : Lit). l.var ≤ n) var.clause var.literal (All-contains (HasVarsUpTo n) (members_of (clauses ++ local) pool) var.clause all var.given) var.member in
    subst (λ (v : ℕ). v ≤ n) var.same there

-- where the variables of the given clauses are those of a trail, so are those of the log
pub vars_within : (given : List (List Lit)) (log : List Step) (vars : ℕ) → HasVarsOf given log → All (HasVarsUpTo vars) given → All (λ s. HasVarsUpTo vars s.clause) log
vars_within given log vars of within k d h j e m =
    let var = of k d h j e m in
    let there : var.literal.var ≤ vars = All-contains (λ (l : Lit). l.var ≤ vars) var.clause var.literal (All-contains (HasVarsUpTo vars) given var.clause within var.given) var.member in
    subst (λ (v : ℕ). v ≤ vars) var.same there

-- the members with the first steps, and one more of them
pub members_taken : (given : List (List Lit)) (log : List Step) (i : ℕ) (d : Step) → i < length log → members_of given (take (i + 1) log) ≡ members_of given (take i log) ++ (get_or log i d).clause ∷ []
members_taken given log i d h = ap (members_of given) (take_more log i d h) ∙ members_more given (take i log) (get_or log i d)

pub members_all : (given : List (List Lit)) (log : List Step) (n : ℕ) → length log ≤ n → members_of given (take n log) ≡ members_of given log
members_all given log n h = ap (members_of given) (take_all n log h)

-- how many there are
pub members_count : (clauses local : List (List Lit)) (pool log : List Step) → length (members_of (members_of (clauses ++ local) pool) log) ≡ ((length clauses + length local) + length pool) + length log
members_count clauses local pool log =
    let a = length-append (members_of (clauses ++ local) pool) (map (λ (s : Step). s.clause) log) in
    let b = length-append (clauses ++ local) (map (λ (s : Step). s.clause) pool) in
    let c = length-append clauses local in
    let d = length-map pool (λ (s : Step). s.clause) in
    let e = length-map log (λ (s : Step). s.clause) in
    omega (arith, a, b, c, d, e)
