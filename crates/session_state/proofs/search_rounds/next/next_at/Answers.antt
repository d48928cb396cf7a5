use Rattle.std.proofs.Common.{◌≡◌, ◌≤◌, ◌+◌, ◌++◌, [], ℕ, List, length, sym, ◌∙◌, ap, subst, arith, length-append}
use Rattle.cnf_core.specs.declared.literal.Lit.{Lit}
use Rattle.rel_formula.specs.Bounds.{cells_of}
use Rattle.sat_core.specs.Kept.{Kept, IsKept}
use Rattle.translation_rules.specs.Locals.{locals_of}
use Rattle.session_rules.specs.Proofs.{IsCovered}
use Rattle.session_state.specs.Rounds.Going.{IsBlockedAt, StaysAt}
use Rattle.session_state.proofs.Rounds.Sizes.{few_clauses}
use Rattle.session_state.proofs.Rounds.RoundStates.{cells_of_blocked, covered_first}
use Rattle.session_state.proofs.search_rounds.next.next_at.Goals as goal

pub locals_of-requires-clause-blocked : goal.locals_of-requires-clause-blocked
locals_of-requires-clause-blocked c =
    let p = c.args.translation.now.problem in
    let floor = c.args.floor.now in
    let shown = c.args.shown.now in
    let copies = c.args.copies.now in
    let covered = subst (IsCovered p floor shown) (sym (c.as_slice.ensures.value ∙ c.in_ok-blocked.ensures)) (covered_first p floor shown copies [] c.requires.shown c.requires.copies) in
    cells_of_blocked p floor shown copies [] c.requires.shown c.requires.copies c.as_slice.result.now covered

pub woken-requires : goal.woken-requires
woken-requires c =
    let t = c.args.translation.now in
    let floor = c.args.floor.now in
    let blocked : List (List ℕ) = c.as_slice.result.now in
    let items : List (List Lit) = c.in_ok-local.local.items in
    let few = few_clauses t c.problem-problem.ensures.well c.problem-problem.result.now c.problem-problem.ensures.value c.relations.ensures.well.few_cells floor c.numbers.ensures.rising c.requires.floor blocked items c.in_ok-local.ensures in
    let cells : length (cells_of t.problem) ≤ 4096 = subst (λ p. length (cells_of p) ≤ 4096) c.problem-problem.ensures.value c.relations.ensures.well.few_cells in
    let terms = c.problem-problem.ensures.well.translatable.few_terms in
    let clauses = (c.problem-problem.ensures.well.small terms.0 terms.1).clauses in
    let most = terms.2 in
    let many : length blocked ≡ length c.args.shown.now + length c.args.copies.now = ap length (c.as_slice.ensures.value ∙ c.in_ok-blocked.ensures) ∙ length-append c.args.shown.now c.args.copies.now in
    let asked : length c.as_slice-2.result.now ≡ length items = ap length c.as_slice-2.ensures.value in
    let room = c.requires.few in
    let pool_few = c.requires.import.few in
    let budget = c.requires.budget in
    omega arith

pub next_from-requires-clause-local : goal.next_from-requires-clause-local
next_from-requires-clause-local c = c.in_ok-local-2.ensures ∙ c.in_ok-local.ensures ∙ ap (locals_of c.args.translation.now c.args.floor.now) c.as_slice.ensures.value

pub next_from-requires-clause-going : goal.next_from-requires-clause-going
next_from-requires-clause-going c =
    let t = c.args.translation.now in
    let local_is = c.as_slice-2.ensures.value ∙ c.in_ok-local.ensures ∙ ap (locals_of t c.args.floor.now) c.as_slice.ensures.value in
    subst (λ (ls : List (List Lit)). IsKept t.cnf ls c.args.pool.now c.in_ok-trails.trails.search) local_is c.in_ok-trails.ensures.trails.search

pub next_from-requires-clause-kept : goal.next_from-requires-clause-kept
next_from-requires-clause-kept c = let few = c.in_ok-trails.ensures.trails.few in omega arith

pub rest-requires : goal.rest-requires
rest-requires c =
    let t = c.args.translation.now in
    let pool = c.args.pool.now in
    let floor = c.args.floor.now in
    let all : List (List ℕ) = c.args.shown.now ++ c.args.copies.now ++ c.in_ok-next.next.copies in
    let search : Kept = c.next_from.new.search in
    let local = subst (IsBlockedAt t floor all c.next_from.new.local) c.in-Shown.is c.in_ok-next.ensures.local in
    let stays = subst (StaysAt t pool floor all search) c.in-Shown.is c.in_ok-next.ensures.going in
    let woken = c.in_ok-trails.ensures.trails in (
      length search.steps,
      record {
        known = woken.known;
        base = woken.base;
        descents = c.in_ok-next.ensures.trail;
        search = subst (λ (ls : List (List Lit)). IsKept t.cnf ls pool search) (sym (c.into_clauses.ensures ∙ local)) stays;
        few = omega arith;
      },
    )
