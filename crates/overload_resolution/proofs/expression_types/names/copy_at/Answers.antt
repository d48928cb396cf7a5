use Rattle.std.proofs.Common.{[], slice_index_or, refl}
use Rattle.std.proofs.lemmas.List.{get_or_read_under}
use Rattle.model_types.proofs.Bounds.SameListsMade.{same}
use Rattle.overload_resolution.proofs.expression_types.names.copy_at.Goals as goal

pub returns : goal.returns
returns c =
    let types = c.args.types.now in
    c.in_ok-copy.ensures [] (slice_index_or types c.args.number [])
    (same c.new-none.result [] c.new-none.ensures)
    (same c.index-types-number.result (slice_index_or types c.args.number []) (get_or_read_under types c.args.number _ c.index-types-number.result [] c.index-types-number.is c.if-number-types.false refl))
