use Rattle.std.proofs.Common.{refl, sym, subst}
use Rattle.std.proofs.lemmas.Result.{err_from_is_err_and}
use Rattle.rel_formula.specs.Bounds.{Bounded}
use Rattle.rel_formula.specs.View.{formula_tree}
use Rattle.named_model.specs.View.{command_view, named_view}
use Rattle.lowering_rules.specs.Formula.{formula_of}
use Rattle.lowering_rules.specs.Problem.{ProblemOf}
use Rattle.rel_lower.specs.Bounding.Bounds.{AreRelations}
use Rattle.rel_lower.proofs.Problems.{not_built}
use Rattle.rel_lower.proofs.whole.bounded.Goals as goal

pub relations-requires-clause-few : goal.relations-requires-clause-few
relations-requires-clause-few c = c.sizes_are_few.ensures (named_view c.args.model.now) c.args.number c.args.sizes.now c.requires.commands.sized

pub relations-requires-clause-typed : goal.relations-requires-clause-typed
relations-requires-clause-typed c = c.typed_fields_have_lists.ensures (named_view c.args.model.now) c.requires.typed

pub of-requires : goal.of-requires
of-requires c =
    let are = subst (AreRelations (named_view c.args.model.now) c.args.sizes.now) (sym c.in_ok-relations.ensures.ok.0) c.in_ok-all.ensures in
    c.typed_problems_are_formed.ensures (named_view c.args.model.now) c.requires.typed c.args.number c.args.facts.now
    (record { relations = c.in_ok-relations.relations.items; tops = c.in_ok-tops.tops.items; formula = formula_tree c.in_ok-formula.formula })
    (record {
      command = command_view c.args.command.now;
      sizes = c.args.sizes.now;
      commands = c.requires.commands;
      relations = are.outlined;
      tops = c.in_ok-tops.ensures;
      formula = c.in_ok-formula.ensures;
    })
    are.sets c.in_ok-relations.ensures.ok.1 are.few are.few_cells

pub returns-in_err-formula : goal.returns-in_err-formula
returns-in_err-formula c =
    let m = named_view c.args.model.now in
    let n = c.args.number in
    let facts = c.args.facts.now in
    let are = subst (AreRelations m c.args.sizes.now) (sym c.in_ok-relations.ensures.ok.0) c.in_ok-all.ensures in
    let p : Bounded = record { relations = c.in_ok-relations.relations.items; tops = c.in_ok-tops.tops.items; formula = formula_of m (command_view c.args.command.now) facts } in
    let of : ProblemOf m n facts p = record {
      command = command_view c.args.command.now;
      sizes = c.args.sizes.now;
      commands = c.requires.commands;
      relations = are.outlined;
      tops = c.in_ok-tops.ensures;
      formula = refl;
    } in
    let is = c.typed_problems_are_formed.ensures m c.requires.typed n facts p of are.sets c.in_ok-relations.ensures.ok.1 are.few are.few_cells in
    let stopped = err_from_is_err_and c.from_residual-in_err-formula.result c.from_residual-in_err-formula.ensures.1 in
    rw (stopped.1) (not_built m n facts p is of c.in_err-formula.field-0.0 stopped.0 stopped.2)
