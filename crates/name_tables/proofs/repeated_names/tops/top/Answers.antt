use Rattle.std.proofs.Common.{sym, ◌∙◌, ap, arith}
use Rattle.name_tables.proofs.Repeats.Tables.{step_up}
use Rattle.name_tables.proofs.repeated_names.tops.top.Goals as goal

pub loop-step-preserved : goal.loop-step-preserved
loop-step-preserved c =
    step_up c.args.parents.now.table.items c.args.parents.now.count c.loop-step._step c.loop-step.above _ c.loop-step-test.true c.loop-step.invariant c.in-Some.parent (sym (c.parent.ensures ∙ ap (λ t. Rattle.std.specs.List.slice_index_or t c.loop-step.above Rattle.std.proofs.Common.None) c.deref.ensures.value) ∙ c.in-Some.is)
