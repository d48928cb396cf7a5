use Rattle.rel_formula.specs.Bounds.{cells_of}
use Rattle.std.proofs.Common.{length}
use Rattle.work_limits.specs.Variables.{most_variables}
use Rattle.work_limits.proofs.laws.enough_for_the_problem_is_never_spent.Goals as goal

pub returns : goal.returns
returns c t is formula terms has pool vars s reached step enough done answer evidence logs =
    let first = c.translations_have_few_variables.ensures t is formula terms has pool vars in
    let sound = c.a_run_is_sound.ensures t.problem s reached in
    c.enough_is_never_spent.ensures.never (most_variables (length (cells_of t.problem)) terms (length t.swaps)) t pool first s sound step enough done answer evidence logs
