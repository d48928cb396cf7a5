use Rattle.bench_search.proofs.asked.asked.Goals as goal

pub returns : goal.returns
returns c = record { about = c.all_of.ensures }
