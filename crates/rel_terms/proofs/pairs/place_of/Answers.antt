use Rattle.std.proofs.Common.{subst}
use Rattle.rel_terms.proofs.Starting.{PlaceIs, place_is}
use Rattle.rel_terms.proofs.pairs.place_of.Goals as goal

pub returns-in-Ok : goal.returns-in-Ok
returns-in-Ok c = subst (PlaceIs c.args.rows.now c.args.tuple.now) c.in-Ok.is (place_is c.args.rows.now c.args.tuple.now c.binary_search.result c.requires c.binary_search.ensures.bound c.binary_search.ensures.ok c.binary_search.ensures.position)

pub returns-in-Err : goal.returns-in-Err
returns-in-Err c = subst (PlaceIs c.args.rows.now c.args.tuple.now) c.in-Err.is (place_is c.args.rows.now c.args.tuple.now c.binary_search.result c.requires c.binary_search.ensures.bound c.binary_search.ensures.ok c.binary_search.ensures.position)
