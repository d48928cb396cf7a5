use Rattle.std.proofs.Common.{◌≡◌, ◌≤◌, ◌∙◌, ◌++◌, ◌∷◌, [], Option, List, IfSome, All, length, length-append, sym, subst, ap, arith}
use Rattle.cnf_core.specs.declared.literal.Lit.{Lit}
use Rattle.cnf_core.specs.Literal.{IsVariable}
use Rattle.refutation_check.specs.declared.log.Step.{Step as LogStep}
use Rattle.refutation_check.specs.Chain.{members_of, IsChain, EndsEmpty}
use Rattle.refutation_check.specs.Part.{Parted}
use Rattle.rel_formula.specs.Bounds.{cells_of}
use Rattle.sat_core.specs.declared.search.Answer.TheVariants.{Refuted, Spent}
use Rattle.translation_rules.specs.Translation.{var_of}
use Rattle.translation_rules.specs.Locals.{units_of}
use Rattle.translation_rules.specs.Parts.{GoesOn}
use Rattle.translation_rules.proofs.Locals.Cells.{few_cells}
use Rattle.augmenter.specs.Search.{IsSearchFor}
use Rattle.augmenter.proofs.FirstTries.{stopped_at_once, refuted_at_once}
use Rattle.augmenter.proofs.Seeking.{Known, told_of, spent_goes_on, variables, as_many, refuted_part, refuted_answer}
use Rattle.augmenter.proofs.tried.refused.Goals as goal

pub units_of-requires : goal.units_of-requires
units_of-requires c =
    let t = c.args.translation.now in
    let cells = c.args.cells.now in
    let count : length (cells_of t.problem) ≤ 4096 = subst (λ p. length (cells_of p) ≤ 4096) c.problem.ensures.value c.relations.ensures.well.few_cells in
    subst (All (λ cell. IsVariable (var_of cell))) (sym c.numbers.ensures.value) (variables t.problem cells c.requires.cells count)

pub empty_step-requires-clause-few : goal.empty_step-requires-clause-few
empty_step-requires-clause-few c =
    let t = c.args.translation.now in
    let cells = c.args.cells.now in
    let count : length (cells_of t.problem) ≤ 4096 = subst (λ p. length (cells_of p) ≤ 4096) c.problem.ensures.value c.relations.ensures.well.few_cells in
    let items : List (List Lit) = c.in_ok-local.local.items in
    let are : items ≡ units_of cells = c.in_ok-local.ensures ∙ ap units_of c.numbers.ensures.value in
    let long : length items ≡ length cells = ap length are ∙ as_many cells in
    let short : length cells ≤ 4096 = let f = few_cells (length (cells_of t.problem)) cells c.numbers.ensures.rising c.requires.cells in omega arith in
    let terms = c.problem.ensures.well.translatable.few_terms in
    let clauses = (c.problem.ensures.well.small terms.0 terms.1).clauses in
    let most = terms.2 in
    let asked : length c.as_slice.result.now ≡ length items = ap length c.as_slice.ensures.value in
    let pool_few = c.requires.import.few in
    omega arith

pub of-part-requires : goal.of-part-requires
of-part-requires c =
    let t = c.args.translation.now in
    let pool = c.args.pool.now in
    let cells = c.args.cells.now in
    let budget = c.args.budget in
    let items : List (List Lit) = c.in_ok-local.local.items in
    let are : items ≡ units_of cells = c.in_ok-local.ensures ∙ ap units_of c.numbers.ensures.value in
    let count : length (cells_of t.problem) ≤ 4096 = subst (λ p. length (cells_of p) ≤ 4096) c.problem.ensures.value c.relations.ensures.well.few_cells in
    let long : length items ≡ length cells = ap length are ∙ as_many cells in
    let short : length cells ≤ 4096 = let f = few_cells (length (cells_of t.problem)) cells c.numbers.ensures.rising c.requires.cells in omega arith in
    let none = ap length c.new-log.ensures in
    omega arith

pub of-part-requires-2 : goal.of-part-requires-2
of-part-requires-2 c =
    let t = c.args.translation.now in
    let pool = c.args.pool.now in
    let cells = c.args.cells.now in
    let budget = c.args.budget in
    let items : List (List Lit) = c.in_ok-local.local.items in
    let are : items ≡ units_of cells = c.in_ok-local.ensures ∙ ap units_of c.numbers.ensures.value in
    let count : length (cells_of t.problem) ≤ 4096 = subst (λ p. length (cells_of p) ≤ 4096) c.problem.ensures.value c.relations.ensures.well.few_cells in
    let long : length items ≡ length cells = ap length are ∙ as_many cells in
    let short : length cells ≤ 4096 = let f = few_cells (length (cells_of t.problem)) cells c.numbers.ensures.rising c.requires.cells in omega arith in
    let none = ap length c.new-log.ensures in
    let one = ap length c.in_ok-push.ensures.ok ∙ length-append c.new-log.result (c.in-Some.step ∷ []) in
    omega arith

pub returns-clause-part : goal.returns-clause-part
returns-clause-part c =
    let t = c.args.translation.now in
    let pool = c.args.pool.now in
    let cells = c.args.cells.now in
    let budget = c.args.budget in
    let items : List (List Lit) = c.in_ok-local.local.items in
    let are : items ≡ units_of cells = c.in_ok-local.ensures ∙ ap units_of c.numbers.ensures.value in
    let known : Known t pool cells = record {
      says = c.units_say_what_is_possible.ensures t.problem t c.problem.ensures.well.stands;
      named = c.accepted_hints_name_members.ensures.named;
      entailed = c.accepted_is_entailed.ensures.entailed t.cnf.clauses pool c.requires.import.accepted;
      satisfiable = λ s is. (c.problem.ensures.well.stands.instances s is.scenario).0 is;
      cells_in = c.requires.cells;
    } in
    let step : LogStep = c.in-Some.step in
    let empty : step.clause ≡ [] = subst (λ (o : Option LogStep). IfSome o (λ s. s.clause ≡ [])) c.in-Some.is c.in_ok-step.ensures.empty in
    let asked = subst (λ (o : Option LogStep). IfSome o (λ s. IsChain (members_of (t.cnf.clauses ++ c.as_slice.result.now) pool) s.clause s.hints)) c.in-Some.is c.in_ok-step.ensures.chain in
    let chain = subst (λ (ls : List (List Lit)). IsChain (members_of (t.cnf.clauses ++ ls) pool) step.clause step.hints) (c.as_slice.ensures.value ∙ are) asked in
    let all : c.push.new.self ≡ step ∷ [] = c.in_ok-push.ensures.ok ∙ ap (λ (l : List LogStep). l ++ step ∷ []) c.new-log.ensures in
    let here = told_of t pool cells budget (Refuted (step ∷ [])) (refuted_at_once t pool cells budget step empty chain c.requires.import.accepted (let b = c.if-budget-eq0.false in omega arith)) in
    let part : Parted = record { local = units_of cells; log = step ∷ [] } in
    let made : c.of-part-2.result ≡ part = c.of-part-2.ensures ∙ (ap (λ (ls : List (List Lit)). let p : Parted = record { local = ls; log = c.push.new.self } in p) are ∙ ap (λ (steps : List LogStep). let p : Parted = record { local = units_of cells; log = steps } in p) all) in
    subst (IsSearchFor t pool cells budget) (sym made) (refuted_part t pool cells budget known (step ∷ []) here)

pub returns-clause-answer : goal.returns-clause-answer
returns-clause-answer c =
    let t = c.args.translation.now in
    let pool = c.args.pool.now in
    let cells = c.args.cells.now in
    let budget = c.args.budget in
    let items : List (List Lit) = c.in_ok-local.local.items in
    let are : items ≡ units_of cells = c.in_ok-local.ensures ∙ ap units_of c.numbers.ensures.value in
    let known : Known t pool cells = record {
      says = c.units_say_what_is_possible.ensures t.problem t c.problem.ensures.well.stands;
      named = c.accepted_hints_name_members.ensures.named;
      entailed = c.accepted_is_entailed.ensures.entailed t.cnf.clauses pool c.requires.import.accepted;
      satisfiable = λ s is. (c.problem.ensures.well.stands.instances s is.scenario).0 is;
      cells_in = c.requires.cells;
    } in
    let step : LogStep = c.in-Some.step in
    let empty : step.clause ≡ [] = subst (λ (o : Option LogStep). IfSome o (λ s. s.clause ≡ [])) c.in-Some.is c.in_ok-step.ensures.empty in
    let asked = subst (λ (o : Option LogStep). IfSome o (λ s. IsChain (members_of (t.cnf.clauses ++ c.as_slice.result.now) pool) s.clause s.hints)) c.in-Some.is c.in_ok-step.ensures.chain in
    let chain = subst (λ (ls : List (List Lit)). IsChain (members_of (t.cnf.clauses ++ ls) pool) step.clause step.hints) (c.as_slice.ensures.value ∙ are) asked in
    let all : c.push.new.self ≡ step ∷ [] = c.in_ok-push.ensures.ok ∙ ap (λ (l : List LogStep). l ++ step ∷ []) c.new-log.ensures in
    let here = told_of t pool cells budget (Refuted (step ∷ [])) (refuted_at_once t pool cells budget step empty chain c.requires.import.accepted (let b = c.if-budget-eq0.false in omega arith)) in
    let part : Parted = record { local = units_of cells; log = step ∷ [] } in
    let made : c.of-part-2.result ≡ part = c.of-part-2.ensures ∙ (ap (λ (ls : List (List Lit)). let p : Parted = record { local = ls; log = c.push.new.self } in p) are ∙ ap (λ (steps : List LogStep). let p : Parted = record { local = units_of cells; log = steps } in p) all) in
    let is = refuted_answer t pool cells budget known (step ∷ []) here in
    (is.0, subst (λ (p : Parted). EndsEmpty p.log) (sym made) is.1)

pub returns-then-budget-eq0-clause-stopped : goal.returns-then-budget-eq0-clause-stopped
returns-then-budget-eq0-clause-stopped c =
    let t = c.args.translation.now in
    let pool = c.args.pool.now in
    let cells = c.args.cells.now in
    let budget = c.args.budget in
    let items : List (List Lit) = c.in_ok-local.local.items in
    let are : items ≡ units_of cells = c.in_ok-local.ensures ∙ ap units_of c.numbers.ensures.value in
    let step : LogStep = c.in-Some.step in
    let empty : step.clause ≡ [] = subst (λ (o : Option LogStep). IfSome o (λ s. s.clause ≡ [])) c.in-Some.is c.in_ok-step.ensures.empty in
    let asked = subst (λ (o : Option LogStep). IfSome o (λ s. IsChain (members_of (t.cnf.clauses ++ c.as_slice.result.now) pool) s.clause s.hints)) c.in-Some.is c.in_ok-step.ensures.chain in
    let chain = subst (λ (ls : List (List Lit)). IsChain (members_of (t.cnf.clauses ++ ls) pool) step.clause step.hints) (c.as_slice.ensures.value ∙ are) asked in
    let is = stopped_at_once t pool cells budget step empty chain (let b = c.if-budget-eq0.true in omega arith) in
    let part : Parted = record { local = units_of cells; log = [] } in
    let made : c.of-part.result ≡ part = c.of-part.ensures ∙ (ap (λ (ls : List (List Lit)). let p : Parted = record { local = ls; log = c.new-log.result } in p) are ∙ ap (λ (steps : List LogStep). let p : Parted = record { local = units_of cells; log = steps } in p) c.new-log.ensures) in
    subst (GoesOn t pool) (sym made) (spent_goes_on t pool cells budget [] (told_of t pool cells budget (Spent []) is) is.stopped)
