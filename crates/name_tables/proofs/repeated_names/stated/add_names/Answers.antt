use Rattle.std.proofs.Common.{◌++◌, sym, subst}
use Rattle.alloy_syntax.specs.declared.tree.Name.{Name}
use Rattle.named_model.specs.Faults.{Stated, stated}
use Rattle.name_tables.specs.Repeats.Coded.{IsReading}
use Rattle.name_tables.proofs.Repeats.ListsGoneOver.{taken_more, all_taken}
use Rattle.name_tables.proofs.repeated_names.stated.add_names.Goals as goal

pub loop-name-preserved : goal.loop-name-preserved
loop-name-preserved c = λ s each cs before is.
    subst (λ xs. IsReading cs c.add_name.new.reading xs) (sym (taken_more (λ (n : Name). let x : Stated = record { space = s; name = n } in x) before c.args.names.now c.loop-name.name-index c.name-item.result c.loop-name-test.true c.name-item.is))
    (c.in_ok-add_name.ensures s each cs _ (c.loop-name.invariant s each cs before is))

pub returns : goal.returns
returns c = λ s each cs before is.
    subst (λ xs. IsReading cs c.loop-name.reading xs) (all_taken (λ ns. before ++ stated s ns) c.args.names.now c.loop-name.name-index c.loop-name-test.false) (c.loop-name.invariant s each cs before is)
