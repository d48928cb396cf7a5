use Rattle.std.proofs.Common.{◌≡◌, true}
use Rattle.sample_problems.proofs.links.between.Goals as goal

pub returns-clause-relation : goal.returns-clause-relation
returns-clause-relation c =
    let within : c.is_subset.result ≡ true = c.if-not-is_subset.false in
    record {
      lower = c.rows.ensures.well;
      upper = c.rows-2.ensures.well;
      arity = c.requires;
      within = c.is_subset.ensures.0 within;
    }
