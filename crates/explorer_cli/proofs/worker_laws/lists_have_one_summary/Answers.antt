use Rattle.std.proofs.Common.{ap}
use Rattle.explorer_cli.specs.Load.{sum_over}
use Rattle.explorer_cli.proofs.OneOutput.{one_list_of_runs}
use Rattle.explorer_cli.proofs.RunsTogether.{all_among}
use Rattle.explorer_cli.proofs.worker_laws.lists_have_one_summary.Goals as goal

pub returns : goal.returns
returns c budget other sessions models runs more are others asks is too count =
    let first = all_among are.1 1 budget models are.0 sessions runs are.3 in
    let second = all_among others.1 1 other models others.0 sessions more others.3 in
    let same = one_list_of_runs c.a_run_is_sound.ensures c.an_all_lists_what_is_due.ensures c.models_are_used_one_way.ensures.problem models budget other are.0 others.0 sessions runs more asks first second is too in
    ap (sum_over count) same
