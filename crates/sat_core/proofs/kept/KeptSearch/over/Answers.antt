use Rattle.std.proofs.Common.{◌≡◌, ◌∙◌, ◌++◌, ◌+◌, ◌<◌, ◌≤◌, [], ℕ, List, All, arith, ap, ap₂, get_or, length, subst, sym}
use Rattle.cnf_core.specs.declared.literal.Lit.{Lit}
use Rattle.refutation_check.specs.declared.log.Step.{Step}
use Rattle.refutation_check.specs.Chain.{members_of}
use Rattle.sat_core.specs.Assuming.{number_of}
use Rattle.sat_core.specs.Kept.{KeepsTo}
use Rattle.sat_core.specs.Search.{IsVarIn}
use Rattle.sat_core.proofs.Answered.{given_count}
use Rattle.sat_core.proofs.Numbers.{places_within}
use Rattle.sat_core.proofs.Going.{keeps_none}
use Rattle.sat_core.proofs.Searches.{standing_at_none}
use Rattle.sat_core.proofs.kept.KeptSearch.over.Goals as goal

pub trail_of-requires-clause-few : goal.trail_of-requires-clause-few
trail_of-requires-clause-few c = omega (arith, c.requires.few, c.in_ok-locals.ensures.split.few, ap length c.as_slice-others.ensures.value)

pub first-requires-clause-places : goal.first-requires-clause-places
first-requires-clause-places c =
    let locals = c.in_ok-locals.locals in
    λ k d h. subst (λ (n : ℕ). get_or locals.numbering.places.items k d ≤ n) (sym c.in_ok-locals.ensures.local) (places_within c.args.local.now locals.assumed.items locals.others.items locals.numbering.places.items c.in_ok-locals.ensures.split k d h)

pub returns-clause-kept : goal.returns-clause-kept
returns-clause-kept c =
    let f = c.args.f.now in
    let local = c.args.local.now in
    let pool = c.args.pool.now in
    let locals = c.in_ok-locals.locals in
    let assumed = locals.assumed.items in
    let others = locals.others.items in
    let places = locals.numbering.places.items in
    let trail = c.in_ok-trail.trail in
    let numbers = c.in_ok-numbers.numbers.items in
    let made = c.in_ok-trail.ensures in
    let clauses_are : trail.clauses ≡ members_of (f.clauses ++ others) pool = made.clauses ∙ ap (λ (cs : List (List Lit)). members_of (f.clauses ++ cs) pool) c.as_slice-others.ensures.value in
    let long : length numbers ≡ length (members_of (f.clauses ++ others) pool) = omega (arith, c.in_ok-numbers.ensures.long, c.len.ensures.len, ap length c.as_slice-others.ensures.value, ap length c.steps.ensures.steps, given_count f.clauses others pool) in
    let first_is : locals.numbering.clauses ≡ length f.clauses = c.in_ok-locals.ensures.clauses ∙ c.len.ensures.len in
    let at : (i : ℕ) → i < length numbers → get_or numbers i 0 ≡ number_of (length f.clauses) (length local) places (i + 1) =
    λ i h. c.in_ok-numbers.ensures.each i (omega (arith, h, c.in_ok-numbers.ensures.long)) ∙ ap₂ (λ (n m : ℕ). number_of n m places (i + 1)) first_is c.in_ok-locals.ensures.local in
    let in_range : All (IsVarIn trail.vars) assumed = subst (All (IsVarIn trail.vars)) c.as_slice.ensures.value made.in_range in
    let kept = keeps_none f local assumed others places pool c.in_ok-locals.ensures.split trail.vars numbers long at made.vars in_range in
    record {
      holds = subst (λ (ss : List Step). KeepsTo f local pool trail.clauses trail.vars assumed numbers ss) (sym c.new.ensures)
          (subst (λ (cs : List (List Lit)). KeepsTo f local pool cs trail.vars assumed numbers []) (sym clauses_are) kept);
      stands = standing_at_none assumed trail made.assigned;
    }
