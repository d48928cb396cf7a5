use Rattle.std.proofs.Common.{◌≡◌, ◌∙◌, List, length, sym, ap, arith}
use Rattle.std.specs.Global.{Vec}
use Rattle.std.proofs.lemmas.List.{take_all}
use Rattle.served_models.specs.declared.commands.ServedCommand.{ServedCommand}
use Rattle.explorer_cli.specs.Keys.{problems_of}
use Rattle.explorer_cli.proofs.KeyedProblems.{count_more, count_few}
use Rattle.explorer_cli.proofs.keys.commands_in.Goals as goal

pub overflow_add-count : goal.overflow_add-count
overflow_add-count c =
    let few = count_few c.args.models.now c.loop-made.made-index c.made-item.result c.loop-made-test.true c.made-item.is in
    omega (arith, few, c.loop-made.invariant, c.len-count.ensures, c.made-item.result.ok, c.requires)

pub loop-made-preserved : goal.loop-made-preserved
loop-made-preserved c =
    let more = count_more c.args.models.now c.loop-made.made-index c.made-item.result c.loop-made-test.true c.made-item.is in
    omega (arith, more, c.loop-made.invariant, c.len-count.ensures, c.made-item.result.ok)

pub returns : goal.returns
returns c = c.loop-made.invariant ∙ ap (λ (vs : List (Vec ServedCommand)). length (problems_of vs)) (take_all c.loop-made.made-index c.args.models.now c.loop-made-test.false)
