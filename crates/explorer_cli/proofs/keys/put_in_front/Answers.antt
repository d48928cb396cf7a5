use Rattle.std.proofs.Common.{◌++◌, ◌∙◌, sym}
use Rattle.std.proofs.lemmas.List.{nil_from_length}
use Rattle.explorer_cli.specs.Keys.{problems_in}
use Rattle.explorer_cli.proofs.KeyedProblems.{front_more, front_all}
use Rattle.explorer_cli.proofs.keys.put_in_front.Goals as goal

pub loop-command-preserved : goal.loop-command-preserved
loop-command-preserved c =
    front_more c.pop.new.self.items c.loop-command.made.items c.in-Some.command c.loop-command.problems.items c.insert.new.self.items (problems_in c.args.made ++ c.args.problems.now.items)
    c.in-Some.ensures.items c.in_ok-insert.ensures.items c.loop-command.invariant

pub returns : goal.returns
returns c =
    front_all c.loop-command.made.items c.loop-command.problems.items (problems_in c.args.made ++ c.args.problems.now.items)
    (nil_from_length c.loop-command.made.items (sym c.loop-command.made.ok.0 ∙ c.in_default.ensures.cases.0)) c.loop-command.invariant
