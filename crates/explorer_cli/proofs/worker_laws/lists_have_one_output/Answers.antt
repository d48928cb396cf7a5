use Rattle.std.proofs.Common.{◌∙◌, sym}
use Rattle.explorer_cli.proofs.worker_laws.lists_have_one_output.Goals as goal

pub returns : goal.returns
returns c workers others budget other bytes s models status code text words is are asks one two whole too =
    let run = c.each_answer_has_its_cause.ensures.run in
    let first = run workers budget bytes s models status text is are one in
    let second = run others other bytes s models code words is are two in
    let (runs, are_runs, printed, fits) = first.1 in
    let (more, are_more, told, within) = second.1 in (
      first.0 ∙ sym second.0,
      c.lists_are_one_text.ensures budget other s.sessions models runs more are_runs are_more asks (whole runs are_runs printed) (too more are_more told) text words printed told,
    )
