-- What the end of a search on a trail answers.
use Rattle.std.proofs.Common.{Bool, ◌≡◌, ◌<◌, ◌≤◌, ◌+◌, ◌^◌, ◌++◌, [], ◌∷◌, ℕ, List, length, map, All, arith, sym, subst, length-append}
use Rattle.std.proofs.lemmas.List.{map-append, length-map}
use Rattle.cnf_core.specs.declared.literal.Lit.{Lit}
use Rattle.cnf_core.specs.Formula.{Formula}
use Rattle.refutation_check.specs.declared.log.Step.{Step}
use Rattle.refutation_check.specs.Chain.{IsChain, members_of, IsAccepted}
use Rattle.refutation_check.specs.SearchLog.{IsSearchLog}
use Rattle.sat_trail.specs.Closed.{IsClosed}
use Rattle.sat_core.specs.declared.search.Answer.TheVariants.{Found, Refuted, Spent}
use Rattle.sat_core.specs.Answers.{IsModel}
use Rattle.sat_core.specs.Assuming.{IsClash, IsSplit, number_of, numbered}
use Rattle.sat_core.specs.Lent.{IsLearnt, with_units}
use Rattle.sat_core.specs.Search.{IsAnswerTo, IsSoFar}
use Rattle.sat_core.proofs.Numbers.{members_number, number_no_unit}
use Rattle.sat_core.proofs.Numbered.{hints_small, members_numbered, so_far, log_so_far, last_so_far, end_accepted, end_vars, end_empty, end_last, end_log, end_no_units, model_given}
use Rattle.sat_core.proofs.Searches.{cannot_hold, model_front, vars_bounded}
use Rattle.sat_core.proofs.SearchClauses.{keeps_members, keeps_more, never_closed}

pub given_count : (clauses local : List (List Lit)) (pool : List Step) → length (members_of (clauses ++ local) pool) ≡ (length clauses + length local) + length pool
given_count clauses local pool =
    omega (arith, length-append (clauses ++ local) (map (λ (s : Step). s.clause) pool), length-append clauses local, length-map pool (λ (s : Step). s.clause))

module _ (f : Formula) (local : List (List Lit)) (assumed : List Lit) (others : List (List Lit)) (places : List ℕ) (pool : List Step) (budget : ℕ) (split : IsSplit local assumed others places) where
  abbrev given : List (List Lit)
  given = members_of (f.clauses ++ local) pool

  abbrev kept : List (List Lit)
  kept = members_of (f.clauses ++ others) pool

  abbrev steps_in : List Step → List Step
  steps_in log = map (numbered (number_of (length f.clauses) (length local) places)) log

  pub small_hints : (log : List Step) → IsLearnt kept assumed log → length f.clauses + length local + length pool + budget < 2 ^ 30 → length log ≤ budget → All (λ s. All (λ hint. hint < 2 ^ 30) s.hints) log
  small_hints log learnt few within = hints_small kept log learnt.accepted (omega (arith, given_count f.clauses others pool, split.few, few, within))

  pub answer_so_far : (log : List Step) → IsLearnt kept assumed log → IsSoFar given local (length f.clauses) (steps_in log)
  answer_so_far log learnt =
      so_far given kept local assumed (length f.clauses) (keeps_members f.clauses local assumed others places pool split) (number_of (length f.clauses) (length local) places)
      (λ log. members_number f.clauses local assumed others places split pool log) (number_no_unit f.clauses local assumed others places split) log learnt

  pub clash_given : (log : List Step) → IsClash (members_of kept log) assumed → (falses : List Lit) → IsClosed (members_of given (steps_in log)) falses → ⊥
  clash_given log clash falses closed =
      never_closed (members_of given log) (members_of kept log) assumed (keeps_more given kept (map (λ (s : Step). s.clause) log) assumed (keeps_members f.clauses local assumed others places pool split)) clash falses
      (subst (λ (cs : List (List Lit)). IsClosed cs falses) (members_numbered given (number_of (length f.clauses) (length local) places) log) closed)

  pub found_answer : (log : List Step) (vars : ℕ) (values : List Bool) → IsLearnt kept assumed log → length log ≤ budget → (length values ≡ vars) × IsModel vars (with_units kept assumed) values → f.vars ≤ vars → vars < 2 ^ 31 →
      IsAnswerTo f local pool budget (Found values (steps_in log))
  found_answer log vars values learnt few model low small =
      let was = answer_so_far log learnt in
      let satisfied = model_given given kept assumed f.vars vars values (keeps_members f.clauses local assumed others places pool split) model.0 model.1 low in
      record {
        log = log_so_far given local (length f.clauses) (steps_in log) was;
        in_range = vars_bounded f.clauses local pool (steps_in log) was.vars;
        few = omega (arith, few, length-map log (numbered (number_of (length f.clauses) (length local) places)));
        stopped = tt;
        right = (model_front f.vars (f.clauses ++ local) (map (λ (s : Step). s.clause) pool) values satisfied, was.no_empty);
        units = was.no_units;
        last = last_so_far given local (length f.clauses) (steps_in log) was;
        small = omega (arith, model.0, small);
      }

  pub spent_answer : (log : List Step) → IsLearnt kept assumed log → (length log ≡ budget) × (step : Step) × IsLearnt kept assumed (log ++ step ∷ []) → IsAnswerTo f local pool budget (Spent (steps_in log))
  spent_answer log learnt (all, step, more) =
      let number : ℕ → ℕ = number_of (length f.clauses) (length local) places in
      let was = answer_so_far log learnt in
      let one_more = log_so_far given local (length f.clauses) (steps_in (log ++ step ∷ [])) (answer_so_far (log ++ step ∷ []) more) in
      let long : length (steps_in log) ≡ budget = omega (arith, all, length-map log (numbered number)) in
      record {
        log = log_so_far given local (length f.clauses) (steps_in log) was;
        in_range = vars_bounded f.clauses local pool (steps_in log) was.vars;
        few = omega (arith, long);
        right = (long, was.novel, was.no_empty);
        stopped = (numbered number step, subst (IsSearchLog given) (map-append (numbered number) log (step ∷ [])) one_more);
        units = was.no_units;
        last = last_so_far given local (length f.clauses) (steps_in log) was;
        small = tt;
      }

module _ (f : Formula) (local : List (List Lit)) (pool : List Step) (budget : ℕ) (log : List Step) (was : IsSoFar (members_of (f.clauses ++ local) pool) local (length f.clauses) log) (s : Step) (empty : s.clause ≡ [])
    (chain : IsChain (members_of (members_of (f.clauses ++ local) pool) log) s.clause s.hints) where
  abbrev all_given : List (List Lit)
  all_given = members_of (f.clauses ++ local) pool

  -- the budget is spent before the last step
  pub stopped_answer : length log ≡ budget → IsAnswerTo f local pool budget (Spent log)
  stopped_answer all =
      record {
        log = log_so_far all_given local (length f.clauses) log was;
        in_range = vars_bounded f.clauses local pool log was.vars;
        few = omega (arith, all);
        right = (all, was.novel, was.no_empty);
        stopped = (s, end_log all_given local (length f.clauses) log was s empty chain);
        units = was.no_units;
        last = last_so_far all_given local (length f.clauses) log was;
        small = tt;
      }

  pub refuted_answer : (after : List Step) → IsAccepted f.clauses pool → length log + 1 ≤ budget → after ≡ log ++ s ∷ [] → IsAnswerTo f local pool budget (Refuted after)
  refuted_answer after pooled few added =
      let ends = end_empty all_given local (length f.clauses) log was s empty chain in
      subst (λ (steps : List Step). IsAnswerTo f local pool budget (Refuted steps)) (sym added) (record {
        log = end_log all_given local (length f.clauses) log was s empty chain;
        in_range = vars_bounded f.clauses local pool (log ++ s ∷ []) (end_vars all_given local (length f.clauses) log was s empty chain);
        few = omega (arith, few, length-append log (s ∷ []));
        stopped = tt;
        right = (ends, cannot_hold f.clauses local pool (log ++ s ∷ []) pooled (end_accepted all_given local (length f.clauses) log was s empty chain) ends);
        units = end_no_units all_given local (length f.clauses) log was s empty chain;
        last = end_last all_given local (length f.clauses) log was s empty chain;
        small = tt;
      })
