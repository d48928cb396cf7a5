use Rattle.model_types.proofs.part_sorts.tables.+steps_above.Given as goal

abbrev pub decreases-steps_above : goal.decreases-steps_above
decreases-steps_above l = l.steps
