use Rattle.named_model.specs.View.{named_view}
use Rattle.lowering_rules.specs.Formula.{all_facts}
use Rattle.lowering_tests.proofs.of_renaming_classes.problem.Goals as goal

pub returns-in-Ok : goal.returns-in-Ok
returns-in-Ok c =
    let m = named_view c.in-Typed.model in
    c.problems_are_symmetric.ensures m 1 (all_facts m) c.in-Ok.problem c.in-Ok.ensures.is
