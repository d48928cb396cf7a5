use Rattle.std.proofs.Common.{◌≡◌, ◌*◌, ◌≤◌, ℕ, map, length, sym, subst, arith}
use Rattle.std.proofs.lemmas.Result.{IfOk-weaker}
use Rattle.std.proofs.lemmas.Grind.{div_ceil_times}
use Rattle.translation_rules.specs.Translation.{Translated}
use Rattle.explorer_run.specs.Served.{values_of}
use Rattle.explorer_run.specs.Parts.{Made, AreJoined}
use Rattle.explorer_run.proofs.Joined.{some_in_a_part, all_translated}
use Rattle.explorer_run.proofs.publishing.translate_all.Goals as goal

pub translate_parts-requires-clause-size : goal.translate_parts-requires-clause-size
translate_parts-requires-clause-size g c κs within =
    let most = div_ceil_times (length c.args.problems.now) c.args.workers c.requires.workers in
    let size = c.div_ceil-size.ensures in
    some_in_a_part c.div_ceil-size.result c.args.workers (length c.args.problems.now) (subst (λ (n : ℕ). length c.args.problems.now ≤ n * c.args.workers) (sym size) most.0) (omega arith)

pub returns : goal.returns
returns g c =
    let parts = c.in_ok-parts.parts in
    let problems = c.args.problems.now in
    IfOk-weaker c.put_together.result (λ (all : Made). AreJoined parts.items all) (λ (all : Made). map (λ (t : Translated). t.problem) (values_of all.items) ≡ problems)
    (λ all joined. all_translated c.div_ceil-size.result problems parts.items all c.in_ok-parts.ensures.enough c.in_ok-parts.ensures.each joined) c.put_together.ensures
