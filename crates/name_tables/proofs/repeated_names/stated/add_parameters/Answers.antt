use Rattle.std.proofs.Common.{◌++◌, map, sym, subst}
use Rattle.alloy_syntax.specs.View.{declaration_view}
use Rattle.named_model.specs.Declarations.{parameter_names}
use Rattle.named_model.specs.Faults.{stated, parameters}
use Rattle.name_tables.specs.Repeats.Coded.{IsReading}
use Rattle.name_tables.proofs.Repeats.ListsGoneOver.{all_taken}
use Rattle.name_tables.proofs.Repeats.Loops.{parameters_more}
use Rattle.name_tables.proofs.repeated_names.stated.add_parameters.Goals as goal

pub loop-declaration-preserved : goal.loop-declaration-preserved
loop-declaration-preserved c = λ cs before is.
    subst (λ xs. IsReading cs c.add_declaration.new.reading xs) (sym (parameters_more c.args.number before c.args.declarations.now c.loop-declaration.declaration-index c.declaration-item.result c.loop-declaration-test.true c.declaration-item.is))
    (c.in_ok-add_declaration.ensures cs _ (c.loop-declaration.invariant cs before is))

pub returns : goal.returns
returns c = λ cs before is.
    subst (λ xs. IsReading cs c.loop-declaration.reading xs) (all_taken (λ ds. before ++ stated (parameters c.args.number) (parameter_names (map declaration_view ds))) c.args.declarations.now c.loop-declaration.declaration-index c.loop-declaration-test.false)
    (c.loop-declaration.invariant cs before is)
