use Rattle.explorer_cli.proofs.Statuses.{one_list_of}
use Rattle.explorer_cli.proofs.Problems.{one_problem_at, one_run_at}
use Rattle.explorer_cli.proofs.laws.a_session_has_one_problem.Goals as goal

pub returns : goal.returns
returns c =
    let law = c.models_are_used_one_way.ensures in
    record {
      models = one_list_of law.models;
      problem = one_problem_at law.problem;
      run = λ budget models over x s p. one_run_at law.problem models x budget over s p;
    }
