use Rattle.std.proofs.Common.{◌≡◌, ◌≤◌, ◌∙◌, List, [], All, length, sym, subst, ap, arith}
use Rattle.cnf_core.specs.declared.literal.Lit.{Lit}
use Rattle.cnf_core.specs.Literal.{IsVariable}
use Rattle.refutation_check.specs.declared.log.Step.{Step as LogStep}
use Rattle.refutation_check.specs.Part.{Parted}
use Rattle.refutation_check.specs.SearchLog.{HasNoEmpty}
use Rattle.rel_formula.specs.Bounds.{cells_of}
use Rattle.sat_core.specs.declared.search.Answer.TheVariants.{Found}
use Rattle.translation_rules.specs.Translation.{var_of}
use Rattle.translation_rules.specs.Locals.{units_of}
use Rattle.translation_rules.proofs.Locals.Cells.{few_cells}
use Rattle.augmenter.specs.Search.{IsSearchFor}
use Rattle.augmenter.proofs.FirstTries.{found_at_once}
use Rattle.augmenter.proofs.Seeking.{Known, told_of, variables, as_many, found_part, found_answer}
use Rattle.augmenter.proofs.tried.given.Goals as goal

pub units_of-requires : goal.units_of-requires
units_of-requires c =
    let t = c.args.translation.now in
    let cells = c.args.cells.now in
    let count : length (cells_of t.problem) ≤ 4096 = subst (λ p. length (cells_of p) ≤ 4096) c.problem.ensures.value c.relations.ensures.well.few_cells in
    subst (All (λ cell. IsVariable (var_of cell))) (sym c.numbers.ensures.value) (variables t.problem cells c.requires.cells count)

pub of-part-requires : goal.of-part-requires
of-part-requires c =
    let t = c.args.translation.now in
    let cells = c.args.cells.now in
    let count : length (cells_of t.problem) ≤ 4096 = subst (λ p. length (cells_of p) ≤ 4096) c.problem.ensures.value c.relations.ensures.well.few_cells in
    let items : List (List Lit) = c.in_ok-local.local.items in
    let are : items ≡ units_of cells = c.in_ok-local.ensures ∙ ap units_of c.numbers.ensures.value in
    let long : length items ≡ length cells = ap length are ∙ as_many cells in
    let short : length cells ≤ 4096 = let f = few_cells (length (cells_of t.problem)) cells c.numbers.ensures.rising c.requires.cells in omega arith in
    let none = ap length c.new.ensures in
    omega arith

pub returns-clause-part : goal.returns-clause-part
returns-clause-part c =
    let t = c.args.translation.now in
    let pool = c.args.pool.now in
    let cells = c.args.cells.now in
    let budget = c.args.budget in
    let items : List (List Lit) = c.in_ok-local.local.items in
    let are : items ≡ units_of cells = c.in_ok-local.ensures ∙ ap units_of c.numbers.ensures.value in
    let known : Known t pool cells = record {
      says = c.units_say_what_is_possible.ensures t.problem t c.problem.ensures.well.stands;
      named = c.accepted_hints_name_members.ensures.named;
      entailed = c.accepted_is_entailed.ensures.entailed t.cnf.clauses pool c.requires.pool;
      satisfiable = λ s is. (c.problem.ensures.well.stands.instances s is.scenario).0 is;
      cells_in = c.requires.cells;
    } in
    let here = told_of t pool cells budget (Found c.args.valuation []) (found_at_once t pool cells budget c.args.valuation c.requires.found) in
    let part : Parted = record { local = units_of cells; log = [] } in
    let made : c.of-part.result ≡ part = c.of-part.ensures ∙ (ap (λ (ls : List (List Lit)). let p : Parted = record { local = ls; log = c.new.result } in p) are ∙ ap (λ (steps : List LogStep). let p : Parted = record { local = units_of cells; log = steps } in p) c.new.ensures) in
    subst (IsSearchFor t pool cells budget) (sym made) (found_part t pool cells budget known c.args.valuation [] here)

pub returns-clause-answer : goal.returns-clause-answer
returns-clause-answer c =
    let t = c.args.translation.now in
    let pool = c.args.pool.now in
    let cells = c.args.cells.now in
    let budget = c.args.budget in
    let items : List (List Lit) = c.in_ok-local.local.items in
    let are : items ≡ units_of cells = c.in_ok-local.ensures ∙ ap units_of c.numbers.ensures.value in
    let known : Known t pool cells = record {
      says = c.units_say_what_is_possible.ensures t.problem t c.problem.ensures.well.stands;
      named = c.accepted_hints_name_members.ensures.named;
      entailed = c.accepted_is_entailed.ensures.entailed t.cnf.clauses pool c.requires.pool;
      satisfiable = λ s is. (c.problem.ensures.well.stands.instances s is.scenario).0 is;
      cells_in = c.requires.cells;
    } in
    let here = told_of t pool cells budget (Found c.args.valuation []) (found_at_once t pool cells budget c.args.valuation c.requires.found) in
    let part : Parted = record { local = units_of cells; log = [] } in
    let made : c.of-part.result ≡ part = c.of-part.ensures ∙ (ap (λ (ls : List (List Lit)). let p : Parted = record { local = ls; log = c.new.result } in p) are ∙ ap (λ (steps : List LogStep). let p : Parted = record { local = units_of cells; log = steps } in p) c.new.ensures) in
    let is = found_answer t pool cells budget known c.args.valuation [] here c.problem.ensures.well.cells in
    (is.0, subst (λ (p : Parted). HasNoEmpty p.log) (sym made) is.1)
