use Rattle.std.proofs.Common.{◌≡◌, ◌≤◌, ◌+◌, ◌-◌, ◌∙◌, ◌++◌, ◌∷◌, [], List, All, length, sym, subst, ap, arith}
use Rattle.cnf_core.specs.declared.literal.Lit.{Lit}
use Rattle.cnf_core.specs.Literal.{IsVariable}
use Rattle.cnf_core.specs.Formula.{Formula}
use Rattle.refutation_check.specs.Chain.{EndsEmpty}
use Rattle.refutation_check.specs.Part.{Parted}
use Rattle.refutation_check.specs.SearchLog.{IsAllNovel, HasNoEmpty}
use Rattle.rel_formula.specs.Bounds.{cells_of}
use Rattle.sat_trail.specs.Trailed.{IsBase}
use Rattle.sat_core.specs.declared.search.Answer.{Answer}
use Rattle.sat_core.specs.declared.search.Answer.TheVariants.{Found, Refuted, Spent}
use Rattle.sat_core.specs.Answers.{learnt_in, IsStopped}
use Rattle.sat_core.specs.Count.{raised}
use Rattle.translation_rules.specs.Translation.{var_of}
use Rattle.translation_rules.specs.Locals.{units_of}
use Rattle.translation_rules.specs.Parts.{GoesOn, given_to, novel_in}
use Rattle.translation_rules.proofs.Locals.Cells.{few_cells}
use Rattle.augmenter.specs.Search.{IsSearchFor}
use Rattle.augmenter.proofs.Seeking.{Known, Told, counted, told, told_stopped, variables, as_many, found_part, found_answer, spent_part, spent_goes_on, refuted_part, refuted_answer}
use Rattle.augmenter.proofs.search.seek_from.Goals as goal

pub units_of-requires : goal.units_of-requires
units_of-requires c =
    let t = c.args.translation.now in
    let pool = c.args.pool.now in
    let cells = c.args.cells.now in
    let budget = c.args.budget in
    let count : length (cells_of t.problem) ≤ 4096 = subst (λ p. length (cells_of p) ≤ 4096) c.problem.ensures.value c.relations.ensures.well.few_cells in
    subst (All (λ cell. IsVariable (var_of cell))) (sym c.numbers.ensures.value) (variables t.problem cells c.requires.cells count)

pub solve_from-requires-clause-base : goal.solve_from-requires-clause-base
solve_from-requires-clause-base c = subst (λ (f : Formula). IsBase f c.args.base.now) (sym c.cnf.ensures) c.requires.base

pub solve_from-requires-clause-few : goal.solve_from-requires-clause-few
solve_from-requires-clause-few c =
    let t = c.args.translation.now in
    let pool = c.args.pool.now in
    let cells = c.args.cells.now in
    let budget = c.args.budget in
    let count : length (cells_of t.problem) ≤ 4096 = subst (λ p. length (cells_of p) ≤ 4096) c.problem.ensures.value c.relations.ensures.well.few_cells in
    let items : List (List Lit) = c.in_ok-local.local.items in
    let are : items ≡ units_of cells = c.in_ok-local.ensures ∙ ap units_of c.numbers.ensures.value in
    let long : length items ≡ length cells = ap length are ∙ as_many cells in
    let short : length cells ≤ 4096 = let f = few_cells (length (cells_of t.problem)) cells c.numbers.ensures.rising c.requires.cells in omega arith in
    let terms = c.problem.ensures.well.translatable.few_terms in
    let clauses = (c.problem.ensures.well.small terms.0 terms.1).clauses in
    let most = terms.2 in
    let given : length c.cnf.result.now.clauses ≡ length t.cnf.clauses = ap (λ (f : Formula). length f.clauses) c.cnf.ensures in
    let asked : length c.as_slice.result.now ≡ length items = ap length c.as_slice.ensures.value in
    let pool_few = c.requires.import.few in
    let most_budget = c.requires.budget in
    omega arith

pub of-part-requires : goal.of-part-requires
of-part-requires c =
    let t = c.args.translation.now in
    let pool = c.args.pool.now in
    let cells = c.args.cells.now in
    let budget = c.args.budget in
    let count : length (cells_of t.problem) ≤ 4096 = subst (λ p. length (cells_of p) ≤ 4096) c.problem.ensures.value c.relations.ensures.well.few_cells in
    let items : List (List Lit) = c.in_ok-local.local.items in
    let are : items ≡ units_of cells = c.in_ok-local.ensures ∙ ap units_of c.numbers.ensures.value in
    let long : length items ≡ length cells = ap length are ∙ as_many cells in
    let short : length cells ≤ 4096 = let f = few_cells (length (cells_of t.problem)) cells c.numbers.ensures.rising c.requires.cells in omega arith in
    let a : Answer = c.in_ok-valuation.field-0 in
    let known : Known t pool cells = record {
      says = c.units_say_what_is_possible.ensures t.problem t c.problem.ensures.well.stands;
      named = c.accepted_hints_name_members.ensures.named;
      entailed = c.accepted_is_entailed.ensures.entailed t.cnf.clauses pool c.requires.import.accepted;
      satisfiable = λ s is. (c.problem.ensures.well.stands.instances s is.scenario).0 is;
      cells_in = c.requires.cells;
    } in
    let said : Told t pool cells budget a = told t pool cells budget c.cnf.result.now c.as_slice.result.now a c.cnf.ensures (c.as_slice.ensures.value ∙ are) c.in_ok-valuation.ensures.log c.in_ok-valuation.ensures.budget c.in_ok-valuation.ensures.units c.in_ok-valuation.ensures.last c.in_ok-valuation.ensures.answer in
    let log = c.in-Found.log in
    let here = subst (Told t pool cells budget) c.in-Found.is said in
    let most = here.few in
    let most_budget = c.requires.budget in
    omega arith

pub of-part-requires-in-Refuted : goal.of-part-requires-in-Refuted
of-part-requires-in-Refuted c =
    let t = c.args.translation.now in
    let pool = c.args.pool.now in
    let cells = c.args.cells.now in
    let budget = c.args.budget in
    let count : length (cells_of t.problem) ≤ 4096 = subst (λ p. length (cells_of p) ≤ 4096) c.problem.ensures.value c.relations.ensures.well.few_cells in
    let items : List (List Lit) = c.in_ok-local.local.items in
    let are : items ≡ units_of cells = c.in_ok-local.ensures ∙ ap units_of c.numbers.ensures.value in
    let long : length items ≡ length cells = ap length are ∙ as_many cells in
    let short : length cells ≤ 4096 = let f = few_cells (length (cells_of t.problem)) cells c.numbers.ensures.rising c.requires.cells in omega arith in
    let a : Answer = c.in_ok-valuation.field-0 in
    let known : Known t pool cells = record {
      says = c.units_say_what_is_possible.ensures t.problem t c.problem.ensures.well.stands;
      named = c.accepted_hints_name_members.ensures.named;
      entailed = c.accepted_is_entailed.ensures.entailed t.cnf.clauses pool c.requires.import.accepted;
      satisfiable = λ s is. (c.problem.ensures.well.stands.instances s is.scenario).0 is;
      cells_in = c.requires.cells;
    } in
    let said : Told t pool cells budget a = told t pool cells budget c.cnf.result.now c.as_slice.result.now a c.cnf.ensures (c.as_slice.ensures.value ∙ are) c.in_ok-valuation.ensures.log c.in_ok-valuation.ensures.budget c.in_ok-valuation.ensures.units c.in_ok-valuation.ensures.last c.in_ok-valuation.ensures.answer in
    let log = c.in-Refuted.log in
    let here = subst (Told t pool cells budget) c.in-Refuted.is said in
    let most = here.few in
    let most_budget = c.requires.budget in
    omega arith

pub of-part-requires-in-Spent : goal.of-part-requires-in-Spent
of-part-requires-in-Spent c =
    let t = c.args.translation.now in
    let pool = c.args.pool.now in
    let cells = c.args.cells.now in
    let budget = c.args.budget in
    let count : length (cells_of t.problem) ≤ 4096 = subst (λ p. length (cells_of p) ≤ 4096) c.problem.ensures.value c.relations.ensures.well.few_cells in
    let items : List (List Lit) = c.in_ok-local.local.items in
    let are : items ≡ units_of cells = c.in_ok-local.ensures ∙ ap units_of c.numbers.ensures.value in
    let long : length items ≡ length cells = ap length are ∙ as_many cells in
    let short : length cells ≤ 4096 = let f = few_cells (length (cells_of t.problem)) cells c.numbers.ensures.rising c.requires.cells in omega arith in
    let a : Answer = c.in_ok-valuation.field-0 in
    let known : Known t pool cells = record {
      says = c.units_say_what_is_possible.ensures t.problem t c.problem.ensures.well.stands;
      named = c.accepted_hints_name_members.ensures.named;
      entailed = c.accepted_is_entailed.ensures.entailed t.cnf.clauses pool c.requires.import.accepted;
      satisfiable = λ s is. (c.problem.ensures.well.stands.instances s is.scenario).0 is;
      cells_in = c.requires.cells;
    } in
    let said : Told t pool cells budget a = told t pool cells budget c.cnf.result.now c.as_slice.result.now a c.cnf.ensures (c.as_slice.ensures.value ∙ are) c.in_ok-valuation.ensures.log c.in_ok-valuation.ensures.budget c.in_ok-valuation.ensures.units c.in_ok-valuation.ensures.last c.in_ok-valuation.ensures.answer in
    let log = c.in-Spent.log in
    let here = subst (Told t pool cells budget) c.in-Spent.is said in
    let most = here.few in
    let most_budget = c.requires.budget in
    omega arith

pub returns-in-Found-clause-part : goal.returns-in-Found-clause-part
returns-in-Found-clause-part c =
    let t = c.args.translation.now in
    let pool = c.args.pool.now in
    let cells = c.args.cells.now in
    let budget = c.args.budget in
    let count : length (cells_of t.problem) ≤ 4096 = subst (λ p. length (cells_of p) ≤ 4096) c.problem.ensures.value c.relations.ensures.well.few_cells in
    let items : List (List Lit) = c.in_ok-local.local.items in
    let are : items ≡ units_of cells = c.in_ok-local.ensures ∙ ap units_of c.numbers.ensures.value in
    let long : length items ≡ length cells = ap length are ∙ as_many cells in
    let short : length cells ≤ 4096 = let f = few_cells (length (cells_of t.problem)) cells c.numbers.ensures.rising c.requires.cells in omega arith in
    let a : Answer = c.in_ok-valuation.field-0 in
    let known : Known t pool cells = record {
      says = c.units_say_what_is_possible.ensures t.problem t c.problem.ensures.well.stands;
      named = c.accepted_hints_name_members.ensures.named;
      entailed = c.accepted_is_entailed.ensures.entailed t.cnf.clauses pool c.requires.import.accepted;
      satisfiable = λ s is. (c.problem.ensures.well.stands.instances s is.scenario).0 is;
      cells_in = c.requires.cells;
    } in
    let said : Told t pool cells budget a = told t pool cells budget c.cnf.result.now c.as_slice.result.now a c.cnf.ensures (c.as_slice.ensures.value ∙ are) c.in_ok-valuation.ensures.log c.in_ok-valuation.ensures.budget c.in_ok-valuation.ensures.units c.in_ok-valuation.ensures.last c.in_ok-valuation.ensures.answer in
    let log = c.in-Found.log in
    let here = subst (Told t pool cells budget) c.in-Found.is said in
    let part : Parted = record { local = units_of cells; log = log } in
    let made : c.of-part.result ≡ part = c.of-part.ensures ∙ ap (λ (ls : List (List Lit)). let p : Parted = record { local = ls; log = log } in p) are in
    subst (IsSearchFor t pool cells budget) (sym made) (found_part t pool cells budget known c.in-Found.valuation log here)

pub returns-in-Found-clause-answer : goal.returns-in-Found-clause-answer
returns-in-Found-clause-answer c =
    let t = c.args.translation.now in
    let pool = c.args.pool.now in
    let cells = c.args.cells.now in
    let budget = c.args.budget in
    let count : length (cells_of t.problem) ≤ 4096 = subst (λ p. length (cells_of p) ≤ 4096) c.problem.ensures.value c.relations.ensures.well.few_cells in
    let items : List (List Lit) = c.in_ok-local.local.items in
    let are : items ≡ units_of cells = c.in_ok-local.ensures ∙ ap units_of c.numbers.ensures.value in
    let long : length items ≡ length cells = ap length are ∙ as_many cells in
    let short : length cells ≤ 4096 = let f = few_cells (length (cells_of t.problem)) cells c.numbers.ensures.rising c.requires.cells in omega arith in
    let a : Answer = c.in_ok-valuation.field-0 in
    let known : Known t pool cells = record {
      says = c.units_say_what_is_possible.ensures t.problem t c.problem.ensures.well.stands;
      named = c.accepted_hints_name_members.ensures.named;
      entailed = c.accepted_is_entailed.ensures.entailed t.cnf.clauses pool c.requires.import.accepted;
      satisfiable = λ s is. (c.problem.ensures.well.stands.instances s is.scenario).0 is;
      cells_in = c.requires.cells;
    } in
    let said : Told t pool cells budget a = told t pool cells budget c.cnf.result.now c.as_slice.result.now a c.cnf.ensures (c.as_slice.ensures.value ∙ are) c.in_ok-valuation.ensures.log c.in_ok-valuation.ensures.budget c.in_ok-valuation.ensures.units c.in_ok-valuation.ensures.last c.in_ok-valuation.ensures.answer in
    let log = c.in-Found.log in
    let here = subst (Told t pool cells budget) c.in-Found.is said in
    let part : Parted = record { local = units_of cells; log = log } in
    let made : c.of-part.result ≡ part = c.of-part.ensures ∙ ap (λ (ls : List (List Lit)). let p : Parted = record { local = ls; log = log } in p) are in
    let is = found_answer t pool cells budget known c.in-Found.valuation log here c.problem.ensures.well.cells in
    (is.0, subst (λ (p : Parted). HasNoEmpty p.log) (sym made) is.1)

pub returns-in-Refuted-clause-part : goal.returns-in-Refuted-clause-part
returns-in-Refuted-clause-part c =
    let t = c.args.translation.now in
    let pool = c.args.pool.now in
    let cells = c.args.cells.now in
    let budget = c.args.budget in
    let count : length (cells_of t.problem) ≤ 4096 = subst (λ p. length (cells_of p) ≤ 4096) c.problem.ensures.value c.relations.ensures.well.few_cells in
    let items : List (List Lit) = c.in_ok-local.local.items in
    let are : items ≡ units_of cells = c.in_ok-local.ensures ∙ ap units_of c.numbers.ensures.value in
    let long : length items ≡ length cells = ap length are ∙ as_many cells in
    let short : length cells ≤ 4096 = let f = few_cells (length (cells_of t.problem)) cells c.numbers.ensures.rising c.requires.cells in omega arith in
    let a : Answer = c.in_ok-valuation.field-0 in
    let known : Known t pool cells = record {
      says = c.units_say_what_is_possible.ensures t.problem t c.problem.ensures.well.stands;
      named = c.accepted_hints_name_members.ensures.named;
      entailed = c.accepted_is_entailed.ensures.entailed t.cnf.clauses pool c.requires.import.accepted;
      satisfiable = λ s is. (c.problem.ensures.well.stands.instances s is.scenario).0 is;
      cells_in = c.requires.cells;
    } in
    let said : Told t pool cells budget a = told t pool cells budget c.cnf.result.now c.as_slice.result.now a c.cnf.ensures (c.as_slice.ensures.value ∙ are) c.in_ok-valuation.ensures.log c.in_ok-valuation.ensures.budget c.in_ok-valuation.ensures.units c.in_ok-valuation.ensures.last c.in_ok-valuation.ensures.answer in
    let log = c.in-Refuted.log in
    let here = subst (Told t pool cells budget) c.in-Refuted.is said in
    let part : Parted = record { local = units_of cells; log = log } in
    let made : c.of-part-in-Refuted.result ≡ part = c.of-part-in-Refuted.ensures ∙ ap (λ (ls : List (List Lit)). let p : Parted = record { local = ls; log = log } in p) are in
    subst (IsSearchFor t pool cells budget) (sym made) (refuted_part t pool cells budget known log here)

pub returns-in-Refuted-clause-answer : goal.returns-in-Refuted-clause-answer
returns-in-Refuted-clause-answer c =
    let t = c.args.translation.now in
    let pool = c.args.pool.now in
    let cells = c.args.cells.now in
    let budget = c.args.budget in
    let count : length (cells_of t.problem) ≤ 4096 = subst (λ p. length (cells_of p) ≤ 4096) c.problem.ensures.value c.relations.ensures.well.few_cells in
    let items : List (List Lit) = c.in_ok-local.local.items in
    let are : items ≡ units_of cells = c.in_ok-local.ensures ∙ ap units_of c.numbers.ensures.value in
    let long : length items ≡ length cells = ap length are ∙ as_many cells in
    let short : length cells ≤ 4096 = let f = few_cells (length (cells_of t.problem)) cells c.numbers.ensures.rising c.requires.cells in omega arith in
    let a : Answer = c.in_ok-valuation.field-0 in
    let known : Known t pool cells = record {
      says = c.units_say_what_is_possible.ensures t.problem t c.problem.ensures.well.stands;
      named = c.accepted_hints_name_members.ensures.named;
      entailed = c.accepted_is_entailed.ensures.entailed t.cnf.clauses pool c.requires.import.accepted;
      satisfiable = λ s is. (c.problem.ensures.well.stands.instances s is.scenario).0 is;
      cells_in = c.requires.cells;
    } in
    let said : Told t pool cells budget a = told t pool cells budget c.cnf.result.now c.as_slice.result.now a c.cnf.ensures (c.as_slice.ensures.value ∙ are) c.in_ok-valuation.ensures.log c.in_ok-valuation.ensures.budget c.in_ok-valuation.ensures.units c.in_ok-valuation.ensures.last c.in_ok-valuation.ensures.answer in
    let log = c.in-Refuted.log in
    let here = subst (Told t pool cells budget) c.in-Refuted.is said in
    let part : Parted = record { local = units_of cells; log = log } in
    let made : c.of-part-in-Refuted.result ≡ part = c.of-part-in-Refuted.ensures ∙ ap (λ (ls : List (List Lit)). let p : Parted = record { local = ls; log = log } in p) are in
    let is = refuted_answer t pool cells budget known log here in
    (is.0, subst (λ (p : Parted). EndsEmpty p.log) (sym made) is.1)

pub returns-clause-part : goal.returns-clause-part
returns-clause-part c =
    let t = c.args.translation.now in
    let pool = c.args.pool.now in
    let cells = c.args.cells.now in
    let budget = c.args.budget in
    let count : length (cells_of t.problem) ≤ 4096 = subst (λ p. length (cells_of p) ≤ 4096) c.problem.ensures.value c.relations.ensures.well.few_cells in
    let items : List (List Lit) = c.in_ok-local.local.items in
    let are : items ≡ units_of cells = c.in_ok-local.ensures ∙ ap units_of c.numbers.ensures.value in
    let long : length items ≡ length cells = ap length are ∙ as_many cells in
    let short : length cells ≤ 4096 = let f = few_cells (length (cells_of t.problem)) cells c.numbers.ensures.rising c.requires.cells in omega arith in
    let a : Answer = c.in_ok-valuation.field-0 in
    let known : Known t pool cells = record {
      says = c.units_say_what_is_possible.ensures t.problem t c.problem.ensures.well.stands;
      named = c.accepted_hints_name_members.ensures.named;
      entailed = c.accepted_is_entailed.ensures.entailed t.cnf.clauses pool c.requires.import.accepted;
      satisfiable = λ s is. (c.problem.ensures.well.stands.instances s is.scenario).0 is;
      cells_in = c.requires.cells;
    } in
    let said : Told t pool cells budget a = told t pool cells budget c.cnf.result.now c.as_slice.result.now a c.cnf.ensures (c.as_slice.ensures.value ∙ are) c.in_ok-valuation.ensures.log c.in_ok-valuation.ensures.budget c.in_ok-valuation.ensures.units c.in_ok-valuation.ensures.last c.in_ok-valuation.ensures.answer in
    let log = c.in-Spent.log in
    let here = subst (Told t pool cells budget) c.in-Spent.is said in
    let part : Parted = record { local = units_of cells; log = log } in
    let made : c.of-part-in-Spent.result ≡ part = c.of-part-in-Spent.ensures ∙ ap (λ (ls : List (List Lit)). let p : Parted = record { local = ls; log = log } in p) are in
    subst (IsSearchFor t pool cells budget) (sym made) (spent_part t pool cells budget known log here)

pub returns-clause-answer : goal.returns-clause-answer
returns-clause-answer c =
    let t = c.args.translation.now in
    let pool = c.args.pool.now in
    let cells = c.args.cells.now in
    let budget = c.args.budget in
    let count : length (cells_of t.problem) ≤ 4096 = subst (λ p. length (cells_of p) ≤ 4096) c.problem.ensures.value c.relations.ensures.well.few_cells in
    let items : List (List Lit) = c.in_ok-local.local.items in
    let are : items ≡ units_of cells = c.in_ok-local.ensures ∙ ap units_of c.numbers.ensures.value in
    let long : length items ≡ length cells = ap length are ∙ as_many cells in
    let short : length cells ≤ 4096 = let f = few_cells (length (cells_of t.problem)) cells c.numbers.ensures.rising c.requires.cells in omega arith in
    let a : Answer = c.in_ok-valuation.field-0 in
    let known : Known t pool cells = record {
      says = c.units_say_what_is_possible.ensures t.problem t c.problem.ensures.well.stands;
      named = c.accepted_hints_name_members.ensures.named;
      entailed = c.accepted_is_entailed.ensures.entailed t.cnf.clauses pool c.requires.import.accepted;
      satisfiable = λ s is. (c.problem.ensures.well.stands.instances s is.scenario).0 is;
      cells_in = c.requires.cells;
    } in
    let said : Told t pool cells budget a = told t pool cells budget c.cnf.result.now c.as_slice.result.now a c.cnf.ensures (c.as_slice.ensures.value ∙ are) c.in_ok-valuation.ensures.log c.in_ok-valuation.ensures.budget c.in_ok-valuation.ensures.units c.in_ok-valuation.ensures.last c.in_ok-valuation.ensures.answer in
    let log = c.in-Spent.log in
    let here = subst (Told t pool cells budget) c.in-Spent.is said in
    let part : Parted = record { local = units_of cells; log = log } in
    let made : c.of-part-in-Spent.result ≡ part = c.of-part-in-Spent.ensures ∙ ap (λ (ls : List (List Lit)). let p : Parted = record { local = ls; log = log } in p) are in
    let is = here.answer in
    subst (λ (p : Parted). (length p.log ≡ budget) × IsAllNovel (given_to t pool p) p.log × HasNoEmpty p.log) (sym made) is

pub returns-clause-stopped : goal.returns-clause-stopped
returns-clause-stopped c =
    let t = c.args.translation.now in
    let pool = c.args.pool.now in
    let cells = c.args.cells.now in
    let budget = c.args.budget in
    let items : List (List Lit) = c.in_ok-local.local.items in
    let are : items ≡ units_of cells = c.in_ok-local.ensures ∙ ap units_of c.numbers.ensures.value in
    let a : Answer = c.in_ok-valuation.field-0 in
    let said : Told t pool cells budget a = told t pool cells budget c.cnf.result.now c.as_slice.result.now a c.cnf.ensures (c.as_slice.ensures.value ∙ are) c.in_ok-valuation.ensures.log c.in_ok-valuation.ensures.budget c.in_ok-valuation.ensures.units c.in_ok-valuation.ensures.last c.in_ok-valuation.ensures.answer in
    let log = c.in-Spent.log in
    let here = subst (Told t pool cells budget) c.in-Spent.is said in
    let part : Parted = record { local = units_of cells; log = log } in
    let made : c.of-part-in-Spent.result ≡ part = c.of-part-in-Spent.ensures ∙ ap (λ (ls : List (List Lit)). let p : Parted = record { local = ls; log = log } in p) are in
    let asked = told_stopped t pool cells c.cnf.result.now c.as_slice.result.now a c.cnf.ensures (c.as_slice.ensures.value ∙ are) c.in_ok-valuation.ensures.stopped in
    let stopped = subst (IsStopped (t.cnf.clauses ++ units_of cells) pool) c.in-Spent.is asked in
    subst (GoesOn t pool) (sym made) (spent_goes_on t pool cells budget log here stopped)

pub returns-in-Found-clause-novel : goal.returns-in-Found-clause-novel
returns-in-Found-clause-novel c =
    let t = c.args.translation.now in
    let pool = c.args.pool.now in
    let cells = c.args.cells.now in
    let budget = c.args.budget in
    let items : List (List Lit) = c.in_ok-local.local.items in
    let are : items ≡ units_of cells = c.in_ok-local.ensures ∙ ap units_of c.numbers.ensures.value in
    let a : Answer = c.in_ok-valuation.field-0 in
    let said : Told t pool cells budget a = told t pool cells budget c.cnf.result.now c.as_slice.result.now a c.cnf.ensures (c.as_slice.ensures.value ∙ are) c.in_ok-valuation.ensures.log c.in_ok-valuation.ensures.budget c.in_ok-valuation.ensures.units c.in_ok-valuation.ensures.last c.in_ok-valuation.ensures.answer in
    let log = c.in-Found.log in
    let here = subst (Told t pool cells budget) c.in-Found.is said in
    let part : Parted = record { local = units_of cells; log = log } in
    let made : c.of-part.result ≡ part = c.of-part.ensures ∙ ap (λ (ls : List (List Lit)). let p : Parted = record { local = ls; log = log } in p) are in
    let rose : c.solve_from.new.count ≡ raised c.args.count.now (length log) = c.in_ok-valuation.ensures.count ∙ ap (λ (x : Answer). raised c.args.count.now (learnt_in x)) c.in-Found.is in
    subst (λ (p : Parted). c.solve_from.new.count ≤ c.args.count.now + novel_in t pool (p ∷ [])) (sym made) (counted t pool cells budget (Found c.in-Found.valuation log) c.args.count.now c.solve_from.new.count here rose)

pub returns-in-Refuted-clause-novel : goal.returns-in-Refuted-clause-novel
returns-in-Refuted-clause-novel c =
    let t = c.args.translation.now in
    let pool = c.args.pool.now in
    let cells = c.args.cells.now in
    let budget = c.args.budget in
    let items : List (List Lit) = c.in_ok-local.local.items in
    let are : items ≡ units_of cells = c.in_ok-local.ensures ∙ ap units_of c.numbers.ensures.value in
    let a : Answer = c.in_ok-valuation.field-0 in
    let said : Told t pool cells budget a = told t pool cells budget c.cnf.result.now c.as_slice.result.now a c.cnf.ensures (c.as_slice.ensures.value ∙ are) c.in_ok-valuation.ensures.log c.in_ok-valuation.ensures.budget c.in_ok-valuation.ensures.units c.in_ok-valuation.ensures.last c.in_ok-valuation.ensures.answer in
    let log = c.in-Refuted.log in
    let here = subst (Told t pool cells budget) c.in-Refuted.is said in
    let part : Parted = record { local = units_of cells; log = log } in
    let made : c.of-part-in-Refuted.result ≡ part = c.of-part-in-Refuted.ensures ∙ ap (λ (ls : List (List Lit)). let p : Parted = record { local = ls; log = log } in p) are in
    let rose : c.solve_from.new.count ≡ raised c.args.count.now (length log - 1) = c.in_ok-valuation.ensures.count ∙ ap (λ (x : Answer). raised c.args.count.now (learnt_in x)) c.in-Refuted.is in
    subst (λ (p : Parted). c.solve_from.new.count ≤ c.args.count.now + novel_in t pool (p ∷ [])) (sym made) (counted t pool cells budget (Refuted log) c.args.count.now c.solve_from.new.count here rose)

pub returns-clause-novel : goal.returns-clause-novel
returns-clause-novel c =
    let t = c.args.translation.now in
    let pool = c.args.pool.now in
    let cells = c.args.cells.now in
    let budget = c.args.budget in
    let items : List (List Lit) = c.in_ok-local.local.items in
    let are : items ≡ units_of cells = c.in_ok-local.ensures ∙ ap units_of c.numbers.ensures.value in
    let a : Answer = c.in_ok-valuation.field-0 in
    let said : Told t pool cells budget a = told t pool cells budget c.cnf.result.now c.as_slice.result.now a c.cnf.ensures (c.as_slice.ensures.value ∙ are) c.in_ok-valuation.ensures.log c.in_ok-valuation.ensures.budget c.in_ok-valuation.ensures.units c.in_ok-valuation.ensures.last c.in_ok-valuation.ensures.answer in
    let log = c.in-Spent.log in
    let here = subst (Told t pool cells budget) c.in-Spent.is said in
    let part : Parted = record { local = units_of cells; log = log } in
    let made : c.of-part-in-Spent.result ≡ part = c.of-part-in-Spent.ensures ∙ ap (λ (ls : List (List Lit)). let p : Parted = record { local = ls; log = log } in p) are in
    let rose : c.solve_from.new.count ≡ raised c.args.count.now (length log) = c.in_ok-valuation.ensures.count ∙ ap (λ (x : Answer). raised c.args.count.now (learnt_in x)) c.in-Spent.is in
    subst (λ (p : Parted). c.solve_from.new.count ≤ c.args.count.now + novel_in t pool (p ∷ [])) (sym made) (counted t pool cells budget (Spent log) c.args.count.now c.solve_from.new.count here rose)
