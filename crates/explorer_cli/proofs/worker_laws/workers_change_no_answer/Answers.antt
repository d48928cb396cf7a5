use Rattle.explorer_cli.proofs.worker_laws.workers_change_no_answer.Goals as goal

pub returns : goal.returns
returns c = record {
  run = λ workers others budget bytes status text is. is;
  distinct = λ workers others budget bytes status text is. is;
  load = λ number workers others bytes more status text is. is;
}
