use Rattle.std.proofs.Common.{◌++◌, ◌∙◌, List, sym, ap, append-nil}
use Rattle.std.proofs.lemmas.List.{nil_from_length}
use Rattle.rel_formula.specs.Bounds.{Bounded}
use Rattle.explorer_cli.specs.Keys.{problems_of}
use Rattle.explorer_cli.proofs.KeyedProblems.{models_more, models_all}
use Rattle.explorer_cli.proofs.keys.problems_of.Goals as goal

pub loop-made-init : goal.loop-made-init
loop-made-init c = ap (λ (ps : List Bounded). problems_of c.args.models.items ++ ps) c.new-problems.ensures.items ∙ append-nil (problems_of c.args.models.items)

pub loop-made-preserved : goal.loop-made-preserved
loop-made-preserved c =
    models_more c.pop.new.self.items c.loop-made.models.items c.in-Some.made c.loop-made.problems.items c.put_in_front.new.problems.items (problems_of c.args.models.items)
    c.in-Some.ensures.items c.in_ok-put_in_front.ensures c.loop-made.invariant

pub returns : goal.returns
returns c =
    models_all c.loop-made.models.items c.loop-made.problems.items (problems_of c.args.models.items)
    (nil_from_length c.loop-made.models.items (sym c.loop-made.models.ok.0 ∙ c.in_default.ensures.cases.0)) c.loop-made.invariant
