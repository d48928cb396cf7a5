use Rattle.std.proofs.Common.{◌≡◌, ◌≤◌, ◌+◌, ◌∷◌, [], inl, List, length, refl, sym, ◌∙◌, ap, subst, arith}
use Rattle.std.proofs.lemmas.Result.{IfOk-weaker}
use Rattle.cnf_core.specs.declared.literal.Lit.{Lit}
use Rattle.cnf_core.specs.Formula.{Formula}
use Rattle.cnf_core.specs.Valuation.{value_of}
use Rattle.refutation_check.specs.declared.log.Step.{Step as LogStep}
use Rattle.refutation_check.specs.Chain.{EndsEmpty, IsAccepted}
use Rattle.refutation_check.specs.SearchLog.{novel_steps}
use Rattle.refutation_check.specs.Part.{Parted}
use Rattle.refutation_check.proofs.Novelty.{novel_all, novel_at_most}
use Rattle.rel_formula.specs.Bounds.{cells_of}
use Rattle.sat_trail.specs.Trailed.{IsBase}
use Rattle.sat_core.specs.declared.search.Answer.TheVariants.{Found, Refuted as Refutes, Spent as Stops}
use Rattle.sat_core.specs.Kept.{Kept, TellsNoFound}
use Rattle.sat_core.specs.Search.{IsAnswerTo}
use Rattle.translation_rules.specs.Locals.{locals_of}
use Rattle.translation_rules.specs.Parts.{GoesOn, LastGoesOn, given_to, novel_in}
use Rattle.session_state.specs.declared.search_rounds.round.RoundEnd.{RoundEnd}
use Rattle.session_state.specs.Rounds.Rounds.{left_in, parts_in, IsRoundAt}
use Rattle.session_state.specs.Rounds.Going.{kept_in}
use Rattle.session_state.proofs.Rounds.Sizes.{few_clauses}
use Rattle.session_state.proofs.Rounds.SolverAnswers.{found_left}
use Rattle.session_state.proofs.Rounds.SearchedRounds.{novel_more, novel_none, search_alone}
use Rattle.session_state.proofs.Rounds.GoingOn.{answer_over, kept_over, no_chain}
use Rattle.session_state.proofs.search_rounds.going.round_by.Goals as goal

pub go_on-requires-clause-kept : goal.go_on-requires-clause-kept
go_on-requires-clause-kept c =
    let t = c.args.translation.now in
    kept_over t.cnf c.cnf-cnf.result.now (locals_of t c.args.floor.now c.args.blocked.now) c.as_slice.result.now c.args.pool.now c.args.search.now (sym c.cnf-cnf.ensures) (sym (c.as_slice.ensures ∙ c.requires.local)) c.requires.going

pub go_on-requires-clause-base : goal.go_on-requires-clause-base
go_on-requires-clause-base c = subst (λ (f : Formula). IsBase f c.args.base.now) (sym c.cnf-cnf.ensures) c.requires.base

pub go_on-requires-clause-pool : goal.go_on-requires-clause-pool
go_on-requires-clause-pool c = subst (λ (f : Formula). IsAccepted f.clauses c.args.pool.now) (sym c.cnf-cnf.ensures) c.requires.import.accepted

pub go_on-requires-clause-few : goal.go_on-requires-clause-few
go_on-requires-clause-few c =
    let t = c.args.translation.now in
    let floor = c.args.floor.now in
    let blocked = c.args.blocked.now in
    let local : List (List Lit) = c.args.local.now in
    let few = few_clauses t c.problem-problem.ensures.well c.problem-problem.result.now c.problem-problem.ensures.value c.relations.ensures.well.few_cells floor c.numbers.ensures.rising c.requires.floor blocked local c.requires.local in
    let cells : length (cells_of t.problem) ≤ 4096 = subst (λ p. length (cells_of p) ≤ 4096) c.problem-problem.ensures.value c.relations.ensures.well.few_cells in
    let room = c.requires.few in
    let terms = c.problem-problem.ensures.well.translatable.few_terms in
    let clauses = (c.problem-problem.ensures.well.small terms.0 terms.1).clauses in
    let most = terms.2 in
    let given : length c.cnf-cnf.result.now.clauses ≡ length t.cnf.clauses = ap (λ (f : Formula). length f.clauses) c.cnf-cnf.ensures in
    let asked : length c.as_slice.result.now ≡ length local = ap length c.as_slice.ensures in
    let pool_few = c.requires.import.few in
    omega arith

pub part-requires : goal.part-requires
part-requires c =
    let t = c.args.translation.now in
    let floor = c.args.floor.now in
    let blocked = c.args.blocked.now in
    let local : List (List Lit) = c.args.local.now in
    let few = few_clauses t c.problem-problem.ensures.well c.problem-problem.result.now c.problem-problem.ensures.value c.relations.ensures.well.few_cells floor c.numbers.ensures.rising c.requires.floor blocked local c.requires.local in
    let room = c.requires.few in
    let none = ap length (subst TellsNoFound c.in-Found.is c.in_ok-valuation.ensures.silent) in
    omega arith

pub part-requires-in-Refuted : goal.part-requires-in-Refuted
part-requires-in-Refuted c =
    let t = c.args.translation.now in
    let pool = c.args.pool.now in
    let floor = c.args.floor.now in
    let blocked = c.args.blocked.now in
    let local : List (List Lit) = c.args.local.now in
    let few = few_clauses t c.problem-problem.ensures.well c.problem-problem.result.now c.problem-problem.ensures.value c.relations.ensures.well.few_cells floor c.numbers.ensures.rising c.requires.floor blocked local c.requires.local in
    let room = c.requires.few in
    let here = subst (IsAnswerTo c.cnf-cnf.result.now c.as_slice.result.now pool c.args.budget) c.in-Refuted.is c.in_ok-valuation.ensures.answer in
    let short = here.few in
    omega arith

pub part-requires-in-Spent : goal.part-requires-in-Spent
part-requires-in-Spent c =
    let t = c.args.translation.now in
    let pool = c.args.pool.now in
    let floor = c.args.floor.now in
    let blocked = c.args.blocked.now in
    let local : List (List Lit) = c.args.local.now in
    let few = few_clauses t c.problem-problem.ensures.well c.problem-problem.result.now c.problem-problem.ensures.value c.relations.ensures.well.few_cells floor c.numbers.ensures.rising c.requires.floor blocked local c.requires.local in
    let room = c.requires.few in
    let here = subst (IsAnswerTo c.cnf-cnf.result.now c.as_slice.result.now pool c.args.budget) c.in-Spent.is c.in_ok-valuation.ensures.answer in
    let short = here.few in
    omega arith

pub gone_down-requires-clause-going : goal.gone_down-requires-clause-going
gone_down-requires-clause-going c =
    let t = c.args.translation.now in
    kept_over c.cnf-cnf.result.now t.cnf c.as_slice.result.now (locals_of t c.args.floor.now c.args.blocked.now) c.args.pool.now c.go_on.new.self c.cnf-cnf.ensures (c.as_slice.ensures ∙ c.requires.local) c.in_ok-valuation.ensures.kept

pub gone_down-requires-clause-short : goal.gone_down-requires-clause-short
gone_down-requires-clause-short c =
    let t = c.args.translation.now in
    let floor = c.args.floor.now in
    let blocked = c.args.blocked.now in
    let few = few_clauses t c.problem-problem.ensures.well c.problem-problem.result.now c.problem-problem.ensures.value c.relations.ensures.well.few_cells floor c.numbers.ensures.rising c.requires.floor blocked (locals_of t floor blocked) refl in
    let room = c.requires.few in
    omega arith

pub gone_down-requires-clause-start : goal.gone_down-requires-clause-start
gone_down-requires-clause-start c =
    let t = c.args.translation.now in
    let pool = c.args.pool.now in
    let floor = c.args.floor.now in
    let blocked = c.args.blocked.now in
    let v = c.in-Found.valuation in
    let here =
    answer_over c.cnf-cnf.result.now t.cnf c.as_slice.result.now (locals_of t floor blocked) pool c.args.budget c.in_ok-valuation.field-0 (Found v c.in-Found.log) c.cnf-cnf.ensures (c.as_slice.ensures ∙ c.requires.local) c.in-Found.is c.in_ok-valuation.ensures.answer in
    found_left t (c.local_clauses_say_what_is_left.ensures t.problem t c.problem-problem.ensures.well.stands) floor blocked c.requires.floor c.requires.blocked c.cells.result (c.cells.ensures.value ∙ ap (λ p. length (cells_of p)) c.problem-problem.ensures.value)
    (value_of v) c.in_ok-start-in-Found.start c.in_ok-start-in-Found.ensures.cells c.in_ok-start-in-Found.ensures.values c.in_ok-start-in-Found.ensures.rising here.right.0.satisfied

pub gone_down-requires-clause-open : goal.gone_down-requires-clause-open
gone_down-requires-clause-open c =
    let t = c.args.translation.now in
    let pool = c.args.pool.now in
    let floor = c.args.floor.now in
    let blocked = c.args.blocked.now in
    let v = c.in-Found.valuation in
    let here =
    answer_over c.cnf-cnf.result.now t.cnf c.as_slice.result.now (locals_of t floor blocked) pool c.args.budget c.in_ok-valuation.field-0 (Found v c.in-Found.log) c.cnf-cnf.ensures (c.as_slice.ensures ∙ c.requires.local) c.in-Found.is c.in_ok-valuation.ensures.answer in
    no_chain t.cnf.clauses (locals_of t floor blocked) pool (value_of v) c.requires.import.accepted here.right.0.satisfied

pub gone_down-requires-clause-kept : goal.gone_down-requires-clause-kept
gone_down-requires-clause-kept c = c.in_ok-valuation.ensures.most

pub gone_down-requires-clause-part : goal.gone_down-requires-clause-part
gone_down-requires-clause-part c =
    let t = c.args.translation.now in
    let floor = c.args.floor.now in
    let blocked = c.args.blocked.now in
    let none : c.in-Found.log ≡ [] = subst TellsNoFound c.in-Found.is c.in_ok-valuation.ensures.silent in
    c.in_ok-part-in-Found.ensures.part ∙ ap (λ (ls : List (List Lit)). let p : Parted = record { local = ls; log = c.in-Found.log } in p) c.requires.local
    ∙ ap (λ (ss : List LogStep). let p : Parted = record { local = locals_of t floor blocked; log = ss } in p) none

pub returns-in_ok-part-in-Found : goal.returns-in_ok-part-in-Found
returns-in_ok-part-in-Found c =
    let t = c.args.translation.now in
    let pool = c.args.pool.now in
    let floor = c.args.floor.now in
    let blocked = c.args.blocked.now in
    let budget = c.args.budget in
    let k : Kept = c.go_on.new.self in
    let Rounds : RoundEnd → Type 0 = λ end. IsRoundAt t pool floor blocked budget (parts_in end) in
    let Leaves : RoundEnd → Type 0 = λ end. c.gone_down.new.count + length k.steps + left_in end ≤ c.go_on.new.count + budget + kept_in k end in
    let most = c.in_ok-valuation.ensures.most in
    let more = c.in_ok-valuation.ensures.more in
    let learnt = c.in_ok-valuation.ensures.count in
    let so_far = c.gone_down.ensures.spent in
    record {
      trail = c.gone_down.ensures.trail;
      parts = c.gone_down.ensures.parts;
      answer = c.gone_down.ensures.answer;
      stopped = c.gone_down.ensures.stopped;
      going = IfOk-weaker c.gone_down.result Rounds _ (λ end round. kept_over c.cnf-cnf.result.now t.cnf c.as_slice.result.now (locals_of t floor blocked) pool c.go_on.new.self c.cnf-cnf.ensures (c.as_slice.ensures ∙ c.requires.local) c.in_ok-valuation.ensures.kept) c.gone_down.ensures.parts;
      local = IfOk-weaker c.gone_down.result Rounds _ (λ end round. c.in_ok-part-in-Found.ensures.same ∙ c.requires.local) c.gone_down.ensures.parts;
      untold = c.gone_down.ensures.untold;
      most = IfOk-weaker c.gone_down.result Rounds _ (λ end round. most) c.gone_down.ensures.parts;
      spent = omega arith;
      left = IfOk-weaker c.gone_down.result Leaves _ (λ end less. omega arith) c.gone_down.ensures.left;
    }

pub returns-in_ok-part-in-Refuted : goal.returns-in_ok-part-in-Refuted
returns-in_ok-part-in-Refuted c =
    let t = c.args.translation.now in
    let pool = c.args.pool.now in
    let floor = c.args.floor.now in
    let blocked = c.args.blocked.now in
    let budget = c.args.budget in
    let local : List (List Lit) = locals_of t floor blocked in
    let log = c.in-Refuted.log in
    let part : Parted = record { local = local; log = log } in
    let here = answer_over c.cnf-cnf.result.now t.cnf c.as_slice.result.now local pool budget c.in_ok-valuation.field-0 (Refutes log) c.cnf-cnf.ensures (c.as_slice.ensures ∙ c.requires.local) c.in-Refuted.is c.in_ok-valuation.ensures.answer in
    let few : novel_steps (given_to t pool part) part.log ≤ budget = (let n = novel_at_most (given_to t pool part) log in let l = here.few in omega arith) in
    let is : c.in_ok-part-in-Refuted.part ≡ part = c.in_ok-part-in-Refuted.ensures.part ∙ ap (λ (ls : List (List Lit)). let p : Parted = record { local = ls; log = log } in p) c.requires.local in
    record {
      trail = c.requires.trail;
      parts = subst (λ (p : Parted). IsRoundAt t pool floor blocked budget (p ∷ [])) (sym is) (search_alone t pool floor blocked budget part refl here.log few);
      answer = subst (λ (p : Parted). (p.local ≡ locals_of t floor blocked) × EndsEmpty p.log) (sym is) (refl, here.right.0);
      stopped = tt;
      going = kept_over c.cnf-cnf.result.now t.cnf c.as_slice.result.now (locals_of t c.args.floor.now c.args.blocked.now) c.args.pool.now c.go_on.new.self c.cnf-cnf.ensures (c.as_slice.ensures ∙ c.requires.local) c.in_ok-valuation.ensures.kept;
      local = c.in_ok-part-in-Refuted.ensures.same ∙ c.requires.local;
      untold = tt;
      most = c.in_ok-valuation.ensures.most;
      spent = c.in_ok-valuation.ensures.spent;
      left = (let s = c.in_ok-valuation.ensures.spent in omega arith);
    }

pub returns-in_ok-parts-in-Spent : goal.returns-in_ok-parts-in-Spent
returns-in_ok-parts-in-Spent c =
    let t = c.args.translation.now in
    let pool = c.args.pool.now in
    let floor = c.args.floor.now in
    let blocked = c.args.blocked.now in
    let budget = c.args.budget in
    let local : List (List Lit) = locals_of t floor blocked in
    let log = c.in-Spent.log in
    let part : Parted = record { local = local; log = log } in
    let here = answer_over c.cnf-cnf.result.now t.cnf c.as_slice.result.now local pool budget c.in_ok-valuation.field-0 (Stops log) c.cnf-cnf.ensures (c.as_slice.ensures ∙ c.requires.local) c.in-Spent.is c.in_ok-valuation.ensures.answer in
    let all : novel_steps (given_to t pool part) part.log ≡ budget = novel_all (given_to t pool part) log here.right.1 ∙ here.right.0 in
    let units : novel_in t pool (part ∷ []) ≡ budget = (let m = novel_more t pool part [] in let n = novel_none t pool in omega arith) in
    let goes : GoesOn t pool part = record { no_empty = here.right.2; step = here.stopped.0; one_more = here.stopped.1 } in
    let last : LastGoesOn t pool (part ∷ []) = record { before = []; last = part; in_order = refl; goes_on = goes } in
    let is : c.in_ok-part-in-Spent.part ≡ part = c.in_ok-part-in-Spent.ensures.part ∙ ap (λ (ls : List (List Lit)). let p : Parted = record { local = ls; log = log } in p) c.requires.local in
    let are : c.in_ok-parts-in-Spent.parts.items ≡ part ∷ [] = c.in_ok-parts-in-Spent.ensures.items ∙ ap (λ (p : Parted). p ∷ []) is in
    record {
      trail = c.requires.trail;
      parts = subst (IsRoundAt t pool floor blocked budget) (sym are) (search_alone t pool floor blocked budget part refl here.log (omega arith));
      answer = subst (λ (ps : List Parted). novel_in t pool ps ≡ budget) (sym are) units;
      stopped = inl (subst (LastGoesOn t pool) (sym are) last);
      going = kept_over c.cnf-cnf.result.now t.cnf c.as_slice.result.now (locals_of t c.args.floor.now c.args.blocked.now) c.args.pool.now c.go_on.new.self c.cnf-cnf.ensures (c.as_slice.ensures ∙ c.requires.local) c.in_ok-valuation.ensures.kept;
      local = c.in_ok-part-in-Spent.ensures.same ∙ c.requires.local;
      untold = tt;
      most = c.in_ok-valuation.ensures.most;
      spent = c.in_ok-valuation.ensures.spent;
      left = (let s = c.in_ok-valuation.ensures.spent in omega arith);
    }
