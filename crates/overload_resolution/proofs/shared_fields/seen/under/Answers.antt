use Rattle.std.proofs.Common.{refl, ap, ◌∙◌, arith}
use Rattle.std.proofs.lemmas.List.{take_all}
use Rattle.overload_resolution.specs.Fields.Found.{both, found_by}
use Rattle.overload_resolution.specs.Fields.Seen.{is_under}
use Rattle.overload_resolution.proofs.Fields.Keeping.{none_under, turn}
use Rattle.overload_resolution.proofs.shared_fields.seen.under.Goals as goal

pub loop-top-init : goal.loop-top-init
loop-top-init c = λ rows seen. none_under rows c.args.name

pub loop-top-preserved : goal.loop-top-preserved
loop-top-preserved c = λ rows seen.
    turn rows c.args.seen.now.entries c.args.name c.args.tops.now c.loop-top.top-index _ c.loop-top.found c.and-found.result c.loop-top-test.true refl seen
    (c.loop-top.invariant rows seen) (c.and-found.ensures ∙ ap (both c.loop-top.found) c.at.ensures)

pub returns : goal.returns
returns c = λ rows seen. c.loop-top.invariant rows seen ∙ ap (λ ts. found_by (is_under c.args.name ts) 0 rows) (take_all c.loop-top.top-index c.args.tops.now (omega arith))
