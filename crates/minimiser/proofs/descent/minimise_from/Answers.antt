use Rattle.std.proofs.Common.{◌≡◌, ◌≤◌, ◌+◌, ◌-◌, ◌∙◌, ◌++◌, ◌∷◌, [], List, length, refl, sym, subst, ap, arith}
use Rattle.cnf_core.specs.declared.literal.Lit.{Lit}
use Rattle.cnf_core.specs.Formula.{Formula}
use Rattle.cnf_core.specs.Valuation.{value_of}
use Rattle.refutation_check.specs.Part.{Parted}
use Rattle.rel_formula.specs.Bounds.{cells_of}
use Rattle.sat_trail.specs.Trailed.{IsBase}
use Rattle.sat_core.specs.declared.search.Answer.{Answer}
use Rattle.sat_core.specs.declared.search.Answer.TheVariants.{Found, Refuted, Spent}
use Rattle.sat_core.specs.Answers.{learnt_in, IsStopped}
use Rattle.sat_core.specs.Count.{raised}
use Rattle.sat_core.proofs.Counts.{learnt_novel}
use Rattle.translation_rules.specs.Parts.{LastGoesOn, novel_in}
use Rattle.translation_rules.specs.Descents.{descent_locals}
use Rattle.translation_rules.proofs.Locals.Cells.{few_cells}
use Rattle.minimiser.specs.Down.{IsDescent}
use Rattle.minimiser.proofs.Cells.{fewer, few_locals}
use Rattle.minimiser.proofs.DescentStates.{Going, set_out, counted, ended, spent_all, next, minimal}
use Rattle.minimiser.proofs.SolverAnswers.{Told, told, found, goes_on}
use Rattle.minimiser.proofs.descent.minimise_from.Goals as goal

pub descent-init : goal.descent-init
descent-init c =
    let t = c.args.translation.now in
    record {
      going =
          subst (λ s. Going t c.args.pool.now c.args.floor.now c.args.start.now c.args.budget s c.args.budget c.new-parts.result.items) (sym c.in_ok-scenario.ensures)
          (subst (Going t c.args.pool.now c.args.floor.now c.args.start.now c.args.budget c.args.start.now c.args.budget) (sym c.new-parts.ensures.items)
          (set_out t c.args.pool.now c.args.floor.now c.args.start.now c.args.budget c.requires.start c.requires.above));
      novel = omega arith;
    }

pub solve_from-requires-clause-base : goal.solve_from-requires-clause-base
solve_from-requires-clause-base c = subst (λ (f : Formula). IsBase f c.args.base.now) (sym c.cnf.ensures) c.requires.base

pub solve_from-requires-clause-few : goal.solve_from-requires-clause-few
solve_from-requires-clause-few c =
    let t = c.args.translation.now in
    let pool = c.args.pool.now in
    let floor = c.args.floor.now in
    let scenario = c.descent.scenario in
    let left = c.descent.left in
    let going = c.descent.invariant.going in
    let items : List (List Lit) = c.in_ok-local.local.items in
    let local = descent_locals t.problem floor scenario in
    let are : items ≡ local = c.in_ok-local.ensures ∙ ap (λ p. descent_locals p floor scenario) c.problem-problem.ensures.value in
    let few = few_locals t.problem floor scenario (few_cells (length (cells_of t.problem)) floor c.numbers.ensures.rising c.requires.floor) in
    let count : length items ≡ length local = ap length are in
    let cells : length (cells_of t.problem) ≤ 4096 = subst (λ p. length (cells_of p) ≤ 4096) c.problem-problem.ensures.value c.relations.ensures.well.few_cells in
    let spent = going.spent in
    let budget = c.requires.budget in
    let terms = c.problem-problem.ensures.well.translatable.few_terms in
    let clauses = (c.problem-problem.ensures.well.small terms.0 terms.1).clauses in
    let most = terms.2 in
    let given : length c.cnf.result.now.clauses ≡ length t.cnf.clauses = ap (λ (f : Formula). length f.clauses) c.cnf.ensures in
    let asked : length c.as_slice.result.now ≡ length items = ap length c.as_slice.ensures.value in
    let pool_few = c.requires.import.few in
    omega arith

pub of-requires : goal.of-requires
of-requires c =
    let t = c.args.translation.now in
    let pool = c.args.pool.now in
    let floor = c.args.floor.now in
    let scenario = c.descent.scenario in
    let left = c.descent.left in
    let going = c.descent.invariant.going in
    let items : List (List Lit) = c.in_ok-local.local.items in
    let local = descent_locals t.problem floor scenario in
    let are : items ≡ local = c.in_ok-local.ensures ∙ ap (λ p. descent_locals p floor scenario) c.problem-problem.ensures.value in
    let a : Answer = c.in_ok-valuation.field-0 in
    let said : Told t pool local left a = told t pool left c.cnf.result.now c.as_slice.result.now local a c.cnf.ensures (c.as_slice.ensures.value ∙ are) c.in_ok-valuation.ensures.log c.in_ok-valuation.ensures.budget c.in_ok-valuation.ensures.answer in
    let log = c.in-Found.log in
    let part : Parted = record { local = local; log = log } in
    let here = subst (Told t pool local left) c.in-Found.is said in
    let few = few_locals t.problem floor scenario (few_cells (length (cells_of t.problem)) floor c.numbers.ensures.rising c.requires.floor) in
    let count : length items ≡ length local = ap length are in
    let cells : length (cells_of t.problem) ≤ 4096 = subst (λ p. length (cells_of p) ≤ 4096) c.problem-problem.ensures.value c.relations.ensures.well.few_cells in
    let spent = going.spent in
    let budget = c.requires.budget in
    let short = here.few in
    omega arith

pub of-requires-in-Refuted : goal.of-requires-in-Refuted
of-requires-in-Refuted c =
    let t = c.args.translation.now in
    let pool = c.args.pool.now in
    let floor = c.args.floor.now in
    let scenario = c.descent.scenario in
    let left = c.descent.left in
    let going = c.descent.invariant.going in
    let items : List (List Lit) = c.in_ok-local.local.items in
    let local = descent_locals t.problem floor scenario in
    let are : items ≡ local = c.in_ok-local.ensures ∙ ap (λ p. descent_locals p floor scenario) c.problem-problem.ensures.value in
    let a : Answer = c.in_ok-valuation.field-0 in
    let said : Told t pool local left a = told t pool left c.cnf.result.now c.as_slice.result.now local a c.cnf.ensures (c.as_slice.ensures.value ∙ are) c.in_ok-valuation.ensures.log c.in_ok-valuation.ensures.budget c.in_ok-valuation.ensures.answer in
    let log = c.in-Refuted.log in
    let part : Parted = record { local = local; log = log } in
    let here = subst (Told t pool local left) c.in-Refuted.is said in
    let few = few_locals t.problem floor scenario (few_cells (length (cells_of t.problem)) floor c.numbers.ensures.rising c.requires.floor) in
    let count : length items ≡ length local = ap length are in
    let cells : length (cells_of t.problem) ≤ 4096 = subst (λ p. length (cells_of p) ≤ 4096) c.problem-problem.ensures.value c.relations.ensures.well.few_cells in
    let spent = going.spent in
    let budget = c.requires.budget in
    let short = here.few in
    omega arith

pub of-requires-in-Spent : goal.of-requires-in-Spent
of-requires-in-Spent c =
    let t = c.args.translation.now in
    let pool = c.args.pool.now in
    let floor = c.args.floor.now in
    let scenario = c.descent.scenario in
    let left = c.descent.left in
    let going = c.descent.invariant.going in
    let items : List (List Lit) = c.in_ok-local.local.items in
    let local = descent_locals t.problem floor scenario in
    let are : items ≡ local = c.in_ok-local.ensures ∙ ap (λ p. descent_locals p floor scenario) c.problem-problem.ensures.value in
    let a : Answer = c.in_ok-valuation.field-0 in
    let said : Told t pool local left a = told t pool left c.cnf.result.now c.as_slice.result.now local a c.cnf.ensures (c.as_slice.ensures.value ∙ are) c.in_ok-valuation.ensures.log c.in_ok-valuation.ensures.budget c.in_ok-valuation.ensures.answer in
    let log = c.in-Spent.log in
    let part : Parted = record { local = local; log = log } in
    let here = subst (Told t pool local left) c.in-Spent.is said in
    let few = few_locals t.problem floor scenario (few_cells (length (cells_of t.problem)) floor c.numbers.ensures.rising c.requires.floor) in
    let count : length items ≡ length local = ap length are in
    let cells : length (cells_of t.problem) ≤ 4096 = subst (λ p. length (cells_of p) ≤ 4096) c.problem-problem.ensures.value c.relations.ensures.well.few_cells in
    let spent = going.spent in
    let budget = c.requires.budget in
    let short = here.few in
    omega arith

pub descent-smaller : goal.descent-smaller
descent-smaller c =
    let t = c.args.translation.now in
    let pool = c.args.pool.now in
    let floor = c.args.floor.now in
    let scenario = c.descent.scenario in
    let left = c.descent.left in
    let going = c.descent.invariant.going in
    let items : List (List Lit) = c.in_ok-local.local.items in
    let local = descent_locals t.problem floor scenario in
    let are : items ≡ local = c.in_ok-local.ensures ∙ ap (λ p. descent_locals p floor scenario) c.problem-problem.ensures.value in
    let a : Answer = c.in_ok-valuation.field-0 in
    let said : Told t pool local left a = told t pool left c.cnf.result.now c.as_slice.result.now local a c.cnf.ensures (c.as_slice.ensures.value ∙ are) c.in_ok-valuation.ensures.log c.in_ok-valuation.ensures.budget c.in_ok-valuation.ensures.answer in
    let log = c.in-Found.log in
    let part : Parted = record { local = local; log = log } in
    let here = subst (Told t pool local left) c.in-Found.is said in
    let smaller = found t (c.descent_clauses_say_what_is_smaller.ensures t.problem t c.problem-problem.ensures.well.stands) floor scenario c.requires.floor going.instance_of.scenario.cells c.cells.result
    (c.cells.ensures.value ∙ ap (λ p. length (cells_of p)) c.problem-problem.ensures.value) (value_of c.in-Found.valuation) c.in_ok-scenario-in-Found.scenario
    c.in_ok-scenario-in-Found.ensures.cells c.in_ok-scenario-in-Found.ensures.values c.in_ok-scenario-in-Found.ensures.rising here.answer.0.satisfied in
    fewer scenario c.in_ok-scenario-in-Found.scenario c.in_ok-scenario-in-Found.ensures.rising smaller.proper

pub descent-preserved : goal.descent-preserved
descent-preserved c =
    let t = c.args.translation.now in
    let pool = c.args.pool.now in
    let floor = c.args.floor.now in
    let scenario = c.descent.scenario in
    let left = c.descent.left in
    let going = c.descent.invariant.going in
    let items : List (List Lit) = c.in_ok-local.local.items in
    let local = descent_locals t.problem floor scenario in
    let are : items ≡ local = c.in_ok-local.ensures ∙ ap (λ p. descent_locals p floor scenario) c.problem-problem.ensures.value in
    let a : Answer = c.in_ok-valuation.field-0 in
    let said : Told t pool local left a = told t pool left c.cnf.result.now c.as_slice.result.now local a c.cnf.ensures (c.as_slice.ensures.value ∙ are) c.in_ok-valuation.ensures.log c.in_ok-valuation.ensures.budget c.in_ok-valuation.ensures.answer in
    let log = c.in-Found.log in
    let part : Parted = record { local = local; log = log } in
    let here = subst (Told t pool local left) c.in-Found.is said in
    let made : c.of.result ≡ part = c.of.ensures ∙ ap (λ (ls : List (List Lit)). let p : Parted = record { local = ls; log = log } in p) are in
    let now = c.in_ok-push-in-Found.ensures.items ∙ ap (λ (p : Parted). c.descent.parts.items ++ p ∷ []) made in
    let smaller = found t (c.descent_clauses_say_what_is_smaller.ensures t.problem t c.problem-problem.ensures.well.stands) floor scenario c.requires.floor going.instance_of.scenario.cells c.cells.result
    (c.cells.ensures.value ∙ ap (λ p. length (cells_of p)) c.problem-problem.ensures.value) (value_of c.in-Found.valuation) c.in_ok-scenario-in-Found.scenario
    c.in_ok-scenario-in-Found.ensures.cells c.in_ok-scenario-in-Found.ensures.values c.in_ok-scenario-in-Found.ensures.rising here.answer.0.satisfied in
    let on = next t pool floor c.args.start.now c.args.budget scenario left c.descent.parts.items going part refl here.log here.few c.in_ok-scenario-in-Found.scenario smaller here.answer.1 in
    let rose : c.solve_from.new.count ≡ raised c.descent.count (length log) = c.in_ok-valuation.ensures.count ∙ ap (λ (x : Answer). raised c.descent.count (learnt_in x)) c.in-Found.is in
    let few = learnt_novel t.cnf.vars (t.cnf.clauses ++ local) pool left (Found c.in-Found.valuation log) here.log here.answer in
    let more = counted t pool floor c.args.start.now c.args.budget scenario left c.descent.parts.items going part refl here.log here.few c.args.count.now c.descent.count c.solve_from.new.count (length log) rose few c.descent.invariant.novel in
    record {
      going =
          subst (Going t pool floor c.args.start.now c.args.budget c.in_ok-scenario-in-Found.scenario (left - length c.steps.result.now)) (sym now)
          (subst (λ n. Going t pool floor c.args.start.now c.args.budget c.in_ok-scenario-in-Found.scenario (left - n) (c.descent.parts.items ++ part ∷ [])) (sym (ap length c.steps.ensures.steps)) on);
      novel = subst (λ (ps : List Parted). c.solve_from.new.count ≤ c.args.count.now + novel_in t pool ps) (sym now) more;
    }

pub returns-in-Refuted-clause-parts : goal.returns-in-Refuted-clause-parts
returns-in-Refuted-clause-parts c =
    let t = c.args.translation.now in
    let pool = c.args.pool.now in
    let floor = c.args.floor.now in
    let scenario = c.descent.scenario in
    let left = c.descent.left in
    let going = c.descent.invariant.going in
    let items : List (List Lit) = c.in_ok-local.local.items in
    let local = descent_locals t.problem floor scenario in
    let are : items ≡ local = c.in_ok-local.ensures ∙ ap (λ p. descent_locals p floor scenario) c.problem-problem.ensures.value in
    let a : Answer = c.in_ok-valuation.field-0 in
    let said : Told t pool local left a = told t pool left c.cnf.result.now c.as_slice.result.now local a c.cnf.ensures (c.as_slice.ensures.value ∙ are) c.in_ok-valuation.ensures.log c.in_ok-valuation.ensures.budget c.in_ok-valuation.ensures.answer in
    let log = c.in-Refuted.log in
    let part : Parted = record { local = local; log = log } in
    let here = subst (Told t pool local left) c.in-Refuted.is said in
    let made : c.of-in-Refuted.result ≡ part = c.of-in-Refuted.ensures ∙ ap (λ (ls : List (List Lit)). let p : Parted = record { local = ls; log = log } in p) are in
    let now = c.in_ok-push-in-Refuted.ensures.items ∙ ap (λ (p : Parted). c.descent.parts.items ++ p ∷ []) made in
    subst (IsDescent t pool floor c.args.start.now c.args.budget) (sym now) (ended t pool floor c.args.start.now c.args.budget scenario left c.descent.parts.items going part refl here.log here.few)

pub returns-in-Refuted-clause-answer : goal.returns-in-Refuted-clause-answer
returns-in-Refuted-clause-answer c =
    let t = c.args.translation.now in
    let pool = c.args.pool.now in
    let floor = c.args.floor.now in
    let scenario = c.descent.scenario in
    let left = c.descent.left in
    let going = c.descent.invariant.going in
    let items : List (List Lit) = c.in_ok-local.local.items in
    let local = descent_locals t.problem floor scenario in
    let are : items ≡ local = c.in_ok-local.ensures ∙ ap (λ p. descent_locals p floor scenario) c.problem-problem.ensures.value in
    let a : Answer = c.in_ok-valuation.field-0 in
    let said : Told t pool local left a = told t pool left c.cnf.result.now c.as_slice.result.now local a c.cnf.ensures (c.as_slice.ensures.value ∙ are) c.in_ok-valuation.ensures.log c.in_ok-valuation.ensures.budget c.in_ok-valuation.ensures.answer in
    let log = c.in-Refuted.log in
    let part : Parted = record { local = local; log = log } in
    let here = subst (Told t pool local left) c.in-Refuted.is said in
    let made : c.of-in-Refuted.result ≡ part = c.of-in-Refuted.ensures ∙ ap (λ (ls : List (List Lit)). let p : Parted = record { local = ls; log = log } in p) are in
    let now = c.in_ok-push-in-Refuted.ensures.items ∙ ap (λ (p : Parted). c.descent.parts.items ++ p ∷ []) made in (
      minimal t (c.descent_clauses_say_what_is_smaller.ensures t.problem t c.problem-problem.ensures.well.stands) floor scenario going.instance_of going.above here.answer.1,
      going.within,
      (c.descent.parts.items, part, now, refl, here.answer.0),
    )

pub returns-in-Spent-clause-parts : goal.returns-in-Spent-clause-parts
returns-in-Spent-clause-parts c =
    let t = c.args.translation.now in
    let pool = c.args.pool.now in
    let floor = c.args.floor.now in
    let scenario = c.descent.scenario in
    let left = c.descent.left in
    let going = c.descent.invariant.going in
    let items : List (List Lit) = c.in_ok-local.local.items in
    let local = descent_locals t.problem floor scenario in
    let are : items ≡ local = c.in_ok-local.ensures ∙ ap (λ p. descent_locals p floor scenario) c.problem-problem.ensures.value in
    let a : Answer = c.in_ok-valuation.field-0 in
    let said : Told t pool local left a = told t pool left c.cnf.result.now c.as_slice.result.now local a c.cnf.ensures (c.as_slice.ensures.value ∙ are) c.in_ok-valuation.ensures.log c.in_ok-valuation.ensures.budget c.in_ok-valuation.ensures.answer in
    let log = c.in-Spent.log in
    let part : Parted = record { local = local; log = log } in
    let here = subst (Told t pool local left) c.in-Spent.is said in
    let made : c.of-in-Spent.result ≡ part = c.of-in-Spent.ensures ∙ ap (λ (ls : List (List Lit)). let p : Parted = record { local = ls; log = log } in p) are in
    let now = c.in_ok-push-in-Spent.ensures.items ∙ ap (λ (p : Parted). c.descent.parts.items ++ p ∷ []) made in
    subst (IsDescent t pool floor c.args.start.now c.args.budget) (sym now) (ended t pool floor c.args.start.now c.args.budget scenario left c.descent.parts.items going part refl here.log here.few)

pub returns-in-Spent-clause-answer : goal.returns-in-Spent-clause-answer
returns-in-Spent-clause-answer c =
    let t = c.args.translation.now in
    let pool = c.args.pool.now in
    let floor = c.args.floor.now in
    let scenario = c.descent.scenario in
    let left = c.descent.left in
    let going = c.descent.invariant.going in
    let items : List (List Lit) = c.in_ok-local.local.items in
    let local = descent_locals t.problem floor scenario in
    let are : items ≡ local = c.in_ok-local.ensures ∙ ap (λ p. descent_locals p floor scenario) c.problem-problem.ensures.value in
    let a : Answer = c.in_ok-valuation.field-0 in
    let said : Told t pool local left a = told t pool left c.cnf.result.now c.as_slice.result.now local a c.cnf.ensures (c.as_slice.ensures.value ∙ are) c.in_ok-valuation.ensures.log c.in_ok-valuation.ensures.budget c.in_ok-valuation.ensures.answer in
    let log = c.in-Spent.log in
    let part : Parted = record { local = local; log = log } in
    let here = subst (Told t pool local left) c.in-Spent.is said in
    let made : c.of-in-Spent.result ≡ part = c.of-in-Spent.ensures ∙ ap (λ (ls : List (List Lit)). let p : Parted = record { local = ls; log = log } in p) are in
    let now = c.in_ok-push-in-Spent.ensures.items ∙ ap (λ (p : Parted). c.descent.parts.items ++ p ∷ []) made in
    subst (λ (ps : List Parted). novel_in t pool ps ≡ c.args.budget) (sym now) (spent_all t pool floor c.args.start.now c.args.budget scenario left c.descent.parts.items going part refl here.log here.few here.answer.0 here.answer.1)

pub returns-in-Spent-clause-stopped : goal.returns-in-Spent-clause-stopped
returns-in-Spent-clause-stopped c =
    let t = c.args.translation.now in
    let pool = c.args.pool.now in
    let floor = c.args.floor.now in
    let scenario = c.descent.scenario in
    let left = c.descent.left in
    let items : List (List Lit) = c.in_ok-local.local.items in
    let local = descent_locals t.problem floor scenario in
    let are : items ≡ local = c.in_ok-local.ensures ∙ ap (λ p. descent_locals p floor scenario) c.problem-problem.ensures.value in
    let a : Answer = c.in_ok-valuation.field-0 in
    let said : Told t pool local left a = told t pool left c.cnf.result.now c.as_slice.result.now local a c.cnf.ensures (c.as_slice.ensures.value ∙ are) c.in_ok-valuation.ensures.log c.in_ok-valuation.ensures.budget c.in_ok-valuation.ensures.answer in
    let log = c.in-Spent.log in
    let part : Parted = record { local = local; log = log } in
    let here = subst (Told t pool local left) c.in-Spent.is said in
    let made : c.of-in-Spent.result ≡ part = c.of-in-Spent.ensures ∙ ap (λ (ls : List (List Lit)). let p : Parted = record { local = ls; log = log } in p) are in
    let now = c.in_ok-push-in-Spent.ensures.items ∙ ap (λ (p : Parted). c.descent.parts.items ++ p ∷ []) made in
    let stopped = subst (IsStopped (c.cnf.result.now.clauses ++ c.as_slice.result.now) pool) c.in-Spent.is c.in_ok-valuation.ensures.stopped in
    let goes = goes_on t pool c.cnf.result.now c.as_slice.result.now local log c.cnf.ensures (c.as_slice.ensures.value ∙ are) here.answer.2 stopped in
    let last : LastGoesOn t pool (c.descent.parts.items ++ part ∷ []) = record { before = c.descent.parts.items; last = part; in_order = refl; goes_on = goes } in
    subst (LastGoesOn t pool) (sym now) last

pub returns-in-Refuted-clause-novel : goal.returns-in-Refuted-clause-novel
returns-in-Refuted-clause-novel c =
    let t = c.args.translation.now in
    let pool = c.args.pool.now in
    let floor = c.args.floor.now in
    let scenario = c.descent.scenario in
    let left = c.descent.left in
    let going = c.descent.invariant.going in
    let items : List (List Lit) = c.in_ok-local.local.items in
    let local = descent_locals t.problem floor scenario in
    let are : items ≡ local = c.in_ok-local.ensures ∙ ap (λ p. descent_locals p floor scenario) c.problem-problem.ensures.value in
    let a : Answer = c.in_ok-valuation.field-0 in
    let said : Told t pool local left a = told t pool left c.cnf.result.now c.as_slice.result.now local a c.cnf.ensures (c.as_slice.ensures.value ∙ are) c.in_ok-valuation.ensures.log c.in_ok-valuation.ensures.budget c.in_ok-valuation.ensures.answer in
    let log = c.in-Refuted.log in
    let part : Parted = record { local = local; log = log } in
    let here = subst (Told t pool local left) c.in-Refuted.is said in
    let made : c.of-in-Refuted.result ≡ part = c.of-in-Refuted.ensures ∙ ap (λ (ls : List (List Lit)). let p : Parted = record { local = ls; log = log } in p) are in
    let now = c.in_ok-push-in-Refuted.ensures.items ∙ ap (λ (p : Parted). c.descent.parts.items ++ p ∷ []) made in
    let rose : c.solve_from.new.count ≡ raised c.descent.count (length log - 1) = c.in_ok-valuation.ensures.count ∙ ap (λ (x : Answer). raised c.descent.count (learnt_in x)) c.in-Refuted.is in
    let few = learnt_novel t.cnf.vars (t.cnf.clauses ++ local) pool left (Refuted log) here.log here.answer in
    let more = counted t pool floor c.args.start.now c.args.budget scenario left c.descent.parts.items going part refl here.log here.few c.args.count.now c.descent.count c.solve_from.new.count (length log - 1) rose few c.descent.invariant.novel in
    subst (λ (ps : List Parted). c.solve_from.new.count ≤ c.args.count.now + novel_in t pool ps) (sym now) more

pub returns-in-Refuted-clause-spent : goal.returns-in-Refuted-clause-spent
returns-in-Refuted-clause-spent c = omega (arith, c.solve_from.ensures.spent, c.descent.invariant.novel, c.descent.invariant.going.spent)

pub returns-in-Spent-clause-novel : goal.returns-in-Spent-clause-novel
returns-in-Spent-clause-novel c =
    let t = c.args.translation.now in
    let pool = c.args.pool.now in
    let floor = c.args.floor.now in
    let scenario = c.descent.scenario in
    let left = c.descent.left in
    let going = c.descent.invariant.going in
    let items : List (List Lit) = c.in_ok-local.local.items in
    let local = descent_locals t.problem floor scenario in
    let are : items ≡ local = c.in_ok-local.ensures ∙ ap (λ p. descent_locals p floor scenario) c.problem-problem.ensures.value in
    let a : Answer = c.in_ok-valuation.field-0 in
    let said : Told t pool local left a = told t pool left c.cnf.result.now c.as_slice.result.now local a c.cnf.ensures (c.as_slice.ensures.value ∙ are) c.in_ok-valuation.ensures.log c.in_ok-valuation.ensures.budget c.in_ok-valuation.ensures.answer in
    let log = c.in-Spent.log in
    let part : Parted = record { local = local; log = log } in
    let here = subst (Told t pool local left) c.in-Spent.is said in
    let made : c.of-in-Spent.result ≡ part = c.of-in-Spent.ensures ∙ ap (λ (ls : List (List Lit)). let p : Parted = record { local = ls; log = log } in p) are in
    let now = c.in_ok-push-in-Spent.ensures.items ∙ ap (λ (p : Parted). c.descent.parts.items ++ p ∷ []) made in
    let rose : c.solve_from.new.count ≡ raised c.descent.count (length log) = c.in_ok-valuation.ensures.count ∙ ap (λ (x : Answer). raised c.descent.count (learnt_in x)) c.in-Spent.is in
    let few = learnt_novel t.cnf.vars (t.cnf.clauses ++ local) pool left (Spent log) here.log here.answer in
    let more = counted t pool floor c.args.start.now c.args.budget scenario left c.descent.parts.items going part refl here.log here.few c.args.count.now c.descent.count c.solve_from.new.count (length log) rose few c.descent.invariant.novel in
    subst (λ (ps : List Parted). c.solve_from.new.count ≤ c.args.count.now + novel_in t pool ps) (sym now) more

pub returns-in-Spent-clause-spent : goal.returns-in-Spent-clause-spent
returns-in-Spent-clause-spent c = omega (arith, c.solve_from.ensures.spent, c.descent.invariant.novel, c.descent.invariant.going.spent)
