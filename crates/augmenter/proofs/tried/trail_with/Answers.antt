use Rattle.std.proofs.Common.{◌≡◌, ◌≤◌, ◌++◌, ◌∙◌, List, All, length, sym, subst, ap, arith}
use Rattle.cnf_core.specs.declared.literal.Lit.{Lit}
use Rattle.cnf_core.specs.Formula.{Formula}
use Rattle.cnf_core.specs.Literal.{IsVariable}
use Rattle.refutation_check.specs.Chain.{members_of}
use Rattle.rel_formula.specs.Bounds.{cells_of}
use Rattle.sat_trail.specs.Trailed.{IsBase}
use Rattle.translation_rules.specs.Translation.{var_of}
use Rattle.translation_rules.specs.Locals.{units_of}
use Rattle.translation_rules.proofs.Locals.Cells.{few_cells}
use Rattle.augmenter.proofs.Seeking.{variables, as_many}
use Rattle.augmenter.proofs.tried.trail_with.Goals as goal

pub units_of-requires : goal.units_of-requires
units_of-requires c =
    let t = c.args.translation.now in
    let cells = c.args.scenario.now in
    let count : length (cells_of t.problem) ≤ 4096 = subst (λ p. length (cells_of p) ≤ 4096) c.problem.ensures.value c.relations.ensures.well.few_cells in
    subst (All (λ cell. IsVariable (var_of cell))) (sym c.numbers.ensures.value) (variables t.problem cells c.requires.scenario count)

pub grown-requires-clause-base : goal.grown-requires-clause-base
grown-requires-clause-base c = subst (λ (f : Formula). IsBase f c.args.base.now) (sym c.cnf.ensures) c.requires.base

pub grown-requires-clause-few : goal.grown-requires-clause-few
grown-requires-clause-few c =
    let t = c.args.translation.now in
    let cells = c.args.scenario.now in
    let count : length (cells_of t.problem) ≤ 4096 = subst (λ p. length (cells_of p) ≤ 4096) c.problem.ensures.value c.relations.ensures.well.few_cells in
    let items : List (List Lit) = c.in_ok-units.units.items in
    let are : items ≡ units_of cells = c.in_ok-units.ensures ∙ ap units_of c.numbers.ensures.value in
    let long : length items ≡ length cells = ap length are ∙ as_many cells in
    let short : length cells ≤ 4096 = let f = few_cells (length (cells_of t.problem)) cells c.numbers.ensures.rising c.requires.scenario in omega arith in
    let terms = c.problem.ensures.well.translatable.few_terms in
    let clauses = (c.problem.ensures.well.small terms.0 terms.1).clauses in
    let most = terms.2 in
    let given : length c.cnf.result.now.clauses ≡ length t.cnf.clauses = ap (λ (f : Formula). length f.clauses) c.cnf.ensures in
    let asked : length c.as_slice.result.now ≡ length items = ap length c.as_slice.ensures.value in
    let pool_few = c.requires.few in
    omega arith

pub returns : goal.returns
returns c =
    let t = c.args.translation.now in
    let pool = c.args.pool.now in
    let are = c.as_slice.ensures.value ∙ (c.in_ok-units.ensures ∙ ap units_of c.numbers.ensures.value) in
    let base = c.requires.base.enough in
    let grown = c.in_ok-trail.ensures.vars.at_least in
    record {
      clauses_are = c.in_ok-trail.ensures.clauses ∙ (ap (λ (ls : List (List Lit)). members_of (c.cnf.result.now.clauses ++ ls) pool) are ∙ ap (λ (f : Formula). members_of (f.clauses ++ units_of c.args.scenario.now) pool) c.cnf.ensures);
      enough = omega arith;
    }
