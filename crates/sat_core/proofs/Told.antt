-- What a search that is gone on with answers.
use Rattle.std.proofs.Common.{Bool, ◌≡◌, ◌≢◌, ◌<◌, ◌≤◌, ◌+◌, ◌^◌, ◌++◌, [], ◌∷◌, ℕ, List, length, map, All, arith, sym, ◌∙◌, ap, refl, subst, length-append}
use Rattle.std.proofs.lemmas.List.{length-map}
use Rattle.std.proofs.lemmas.List.Elements.{All-nil}
use Rattle.cnf_core.specs.declared.literal.Lit.{Lit}
use Rattle.cnf_core.specs.Formula.{Formula}
use Rattle.refutation_check.specs.declared.log.Step.{Step}
use Rattle.refutation_check.specs.Chain.{IsChain, members_of}
use Rattle.refutation_check.specs.SearchLog.{IsSearchLog, IsVarOf}
use Rattle.sat_trail.specs.Leaned.{Leaned}
use Rattle.sat_trail.specs.Trailed.{Trailed}
use Rattle.sat_core.specs.declared.lent.Ending.{Ending}
use Rattle.sat_core.specs.declared.lent.Ending.TheVariants.{Found as OnTrail, Clash as ClashOnTrail, Spent as SpentOnTrail}
use Rattle.sat_core.specs.declared.kept.Learnt.{Learnt}
use Rattle.sat_core.specs.declared.kept.Learnt.TheVariants.{Found as Valued, Clash, Spent as NoMore}
use Rattle.sat_core.specs.declared.search.Answer.{Answer}
use Rattle.sat_core.specs.declared.search.Answer.TheVariants.{Found, Refuted, Spent}
use Rattle.sat_core.specs.Answers.{IsModel, NamesUnit, leaned_behind}
use Rattle.sat_core.specs.Assuming.{IsClash, numbered}
use Rattle.sat_core.specs.Kept.{Kept, KeepsTo, HasMore, IsEnd, IsLearntOf, IsLearntTo, TellsNoFound, number_in, told, told_by}
use Rattle.sat_core.specs.Lent.{IsEnding, IsLearnt, steps_of}
use Rattle.sat_core.specs.Search.{IsAnswerTo, IsSoFar}
use Rattle.sat_core.proofs.Going.{told_so_far, kept_model, more_of}
use Rattle.sat_core.proofs.Numbered.{log_so_far, last_so_far}
use Rattle.sat_core.proofs.Searches.{slice_get_below, vars_bounded}

-- no steps are as those of an answer have to be
pub none_so_far : (given local : List (List Lit)) (clauses : ℕ) → IsSoFar given local clauses []
none_so_far given local clauses =
    record {
      accepted = λ i d h. absurd (omega (arith, h));
      vars = All-nil (λ (s : Step). All (λ (l : Lit). IsVarOf given l.var) s.clause);
      novel = λ i s e. absurd (let h : i < 0 = slice_get_below [] i s e in omega (arith, h));
      no_empty = All-nil (λ (s : Step). s.clause ≢ []);
      no_units = All-nil (λ (s : Step). s.clause ≢ [] → All (λ hint. ¬ NamesUnit clauses local hint) s.hints);
      direct = λ hints chain. refl;
    }

module _ (f : Formula) (local : List (List Lit)) (pool : List Step) (budget : ℕ) where
  abbrev given : List (List Lit)
  given = members_of (f.clauses ++ local) pool

  -- a valuation, and no step
  pub found_none : (values : List Bool) (log : List Step) → log ≡ [] → IsModel f.vars (f.clauses ++ local) values → length values < 2 ^ 31 → IsAnswerTo f local pool budget (Found values log)
  found_none values log none model small =
      let was : IsSoFar given local (length f.clauses) log = subst (IsSoFar given local (length f.clauses)) (sym none) (none_so_far given local (length f.clauses)) in
      record {
        log = log_so_far given local (length f.clauses) log was;
        in_range = vars_bounded f.clauses local pool log was.vars;
        few = omega (arith, ap length none);
        right = (model, was.no_empty);
        stopped = tt;
        units = was.no_units;
        last = last_so_far given local (length f.clauses) log was;
        small = small;
      }

  -- all that is kept, where one more step can be learnt
  pub spent_told : (k : Kept) (log : List Step) → log ≡ told k → KeepsTo f local pool k.trail.clauses k.trail.vars k.assumed k.numbers k.steps → ((hints : List ℕ) → IsChain given [] hints → ⊥) → length k.steps ≡ budget → HasMore f local pool k →
      IsAnswerTo f local pool budget (Spent log)
  spent_told k log is kept open' all more =
      let was : IsSoFar given local (length f.clauses) log = subst (IsSoFar given local (length f.clauses)) (sym is) (told_so_far f local pool k.trail.clauses k.trail.vars k.assumed k.numbers k.steps kept open') in
      let m = more.more in
      let one_more = log_so_far given local (length f.clauses) (told m) (told_so_far f local pool m.trail.clauses m.trail.vars m.assumed m.numbers m.steps more.holds open') in
      let long : length log ≡ budget = ap length is ∙ length-map k.steps (numbered (number_in k.numbers)) ∙ all in
      record {
        log = log_so_far given local (length f.clauses) log was;
        in_range = vars_bounded f.clauses local pool log was.vars;
        few = omega (arith, long);
        right = (long, was.novel, was.no_empty);
        stopped = (more.step, subst (IsSearchLog given) (more.told_more ∙ ap (λ (ss : List Step). ss ++ more.step ∷ []) (sym is)) one_more);
        units = was.no_units;
        last = last_so_far given local (length f.clauses) log was;
        small = tt;
      }

  -- what the steps of a search on the trail led to
  module _ (clauses : List (List Lit)) (vars left : ℕ) (assumed : List Lit) (numbers : List ℕ) (steps : List Step) (before : KeepsTo f local pool clauses vars assumed numbers steps) (small : vars < 2 ^ 31) where
    pub learnt_to : (ending : Ending) (result : Learnt) (k : Kept) → IsLearntOf ending result → IsEnding vars clauses assumed left ending → k.trail.clauses ≡ members_of clauses (steps_of ending) → k.assumed ≡ assumed → k.steps ≡ steps ++ steps_of ending →
        KeepsTo f local pool (members_of clauses (steps_of ending)) vars assumed k.numbers k.steps → IsLearntTo f local pool (length steps + left) k result
    learnt_to (OnTrail values log) result k is ends clauses_are assumed_are steps_are after =
        subst (IsLearntTo f local pool (length steps + left) k) (sym is) ((kept_model f local pool clauses vars assumed numbers steps before values ends, omega (arith, ends.0, small)))
    learnt_to (ClashOnTrail log) result k is ends clauses_are assumed_are steps_are after =
        subst (IsLearntTo f local pool (length steps + left) k) (sym is) (subst (λ (ls : List Lit). IsClash k.trail.clauses ls) (sym assumed_are) (subst (λ (cs : List (List Lit)). IsClash cs assumed) (sym clauses_are) ends))
    learnt_to (SpentOnTrail log) result k is ends clauses_are assumed_are steps_are after =
        subst (IsLearntTo f local pool (length steps + left) k) (sym is) ((
          omega (arith, ap length steps_are, length-append steps log, ends.0),
          subst (λ (ls : List Lit). HasMore f local pool (record { trail = k.trail; depth = k.depth; assumed = ls; numbers = k.numbers; steps = k.steps })) (sym assumed_are) (more_of f local pool clauses vars assumed k.numbers k.steps log after ends.1 ends.2 k.trail k.depth),
        ))

-- an end leaves what is leant to, and tells what it tells
pub behind_end : (a : Answer) (leaned : Leaned) → IsEnd a → leaned ≡ leaned_behind a leaned
behind_end (Found values log) leaned none = absurd none
behind_end (Refuted log) leaned end = refl
behind_end (Spent log) leaned end = refl

pub end_tells : (a : Answer) → IsEnd a → TellsNoFound a
end_tells (Found values log) none = absurd none
end_tells (Refuted log) end = tt
end_tells (Spent log) end = tt
