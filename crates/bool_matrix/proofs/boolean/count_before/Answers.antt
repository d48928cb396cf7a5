use Rattle.bool_matrix.proofs.Places.{place_counts, gap_counts}
use Rattle.bool_matrix.proofs.boolean.count_before.Goals as goal

pub returns-in-Ok : goal.returns-in-Ok
returns-in-Ok c = place_counts c.args.entries.now c.args.tuple.now c.requires c.in-Ok.place c.in-Ok.ensures.found

pub returns-in-Err : goal.returns-in-Err
returns-in-Err c = gap_counts c.args.entries.now c.args.tuple.now c.requires c.in-Err.place c.in-Err.ensures.absent
