use Rattle.std.proofs.Common.{◌↔◌, List, [], IsTrue, length, map, reverse, sym, subst}
use Rattle.tuple_core.specs.declared.atom.Atom.{Atom}
use Rattle.tuple_core.proofs.Steps.{then_same}
use Rattle.rel_formula.specs.declared.problem.Relation.{Relation}
use Rattle.rel_formula.specs.Kernel.{FormulaTree}
use Rattle.rel_formula.specs.View.{formula_tree}
use Rattle.rel_formula.specs.Meaning.{Truth}
use Rattle.rel_formula.specs.Shape.{IsProper}
use Rattle.rel_formula.specs.Tables.{tabled}
use Rattle.rel_formula.proofs.ScenarioTruth.{arities_are, holds_is}
use Rattle.rel_formula.proofs.instance.holds.Goals as goal

pub truth-requires : goal.truth-requires
truth-requires c =
    let p = c.args.problem.now in
    let well = c.relations.ensures.well in
    let tables = c.in_ok-tables.tables in
    let ns = map (λ (r : Relation). r.lower.arity) p.relations in
    let depth : IsProper ns (length c.new-env.result.items) p.formula = subst (λ (es : List Atom). IsProper ns (length es) p.formula) (sym c.new-env.ensures.items) well.proper in
    let formula : IsProper ns (length c.new-env.result.items) (formula_tree c.formula.result.now) = subst (IsProper ns (length c.new-env.result.items)) (sym c.formula.ensures) depth in
    record { proper = subst (λ ms. IsProper ms (length c.new-env.result.items) (formula_tree c.formula.result.now)) (sym (arities_are p c.args.scenario.now tables.values well c.in_ok-tables.ensures.values)) formula }

pub returns : goal.returns
returns c =
    let p = c.args.problem.now in
    let well = c.relations.ensures.well in
    let tables = c.in_ok-tables.tables in
    let yes' = IsTrue c.in_ok-truth.field-0 in
    let empty = subst (λ (es : List Atom). yes' ↔ Truth (tabled tables) (reverse es) (formula_tree c.formula.result.now)) c.new-env.ensures.items c.in_ok-truth.ensures.truth in
    let told = subst (λ (f : FormulaTree). yes' ↔ Truth (tabled tables) [] f) c.formula.ensures empty in
    let same = then_same told (holds_is p c.args.scenario.now tables well c.in_ok-tables.ensures) in
    (λ e. record { scenario = record { cells = c.requires; rising = c.numbers.ensures.rising }; holds = same.0 e }, λ h. same.1 h.holds)
