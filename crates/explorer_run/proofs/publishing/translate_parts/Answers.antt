use denote.Param.Send.{sendable}
use Rattle.std.proofs.Common.{◌≡◌, ◌+◌, ◌*◌, ◌/◌, ◌%◌, ◌≤◌, ℕ, List, Result, min, length, get_or, vec_len, sym, ◌∙◌, subst}
use Rattle.std.proofs.Crossing
use Rattle.std.specs.Prelude.{Vec}
use Rattle.std.specs.declared.alloc.AllocError.{AllocError}
use Rattle.std.specs.declared.alloc.Global.{Global}
use Rattle.std.proofs.lemmas.Result.{IfOk-weaker}
use Rattle.std.proofs.lemmas.Grind.{div_ceil_times}
use Rattle.rel_formula.specs.Bounds.{Bounded}
use Rattle.explorer_run.specs.Parts.{Made, AreTranslated}
use Rattle.explorer_run.proofs.BetweenThreads.{problem_sync, translations_send}
use Rattle.explorer_run.proofs.Joined.{of_a_part}
use Rattle.explorer_run.proofs.publishing.translate_parts.Goals as goal

pub map_chunks-requires-sync-T : goal.map_chunks-requires-sync-T
map_chunks-requires-sync-T g c κs within = search (problem_sync, Crossing.crosses, sendable) depth 20 fits 20000

pub map_chunks-requires-send-X : goal.map_chunks-requires-send-X
map_chunks-requires-send-X g c κs within = search (translations_send, Crossing.crosses, sendable) depth 20 fits 20000

pub map_chunks-requires-clause-accepts : goal.map_chunks-requires-clause-accepts
map_chunks-requires-clause-accepts g c κs within start part is = of_a_part c.args.size c.args.problems.now start part.now is c.requires.problems

pub returns-clause-enough : goal.returns-clause-enough
returns-clause-enough g c =
    let many = length c.args.problems.now in
    let size = c.args.size in
    IfOk-weaker c.map_chunks.result (λ (parts : Vec (Result Made AllocError) Global). vec_len parts ≡ many / size + min 1 (many % size)) (λ (parts : Vec (Result Made AllocError) Global). many ≤ length parts.items * size)
    (λ parts is. subst (λ (n : ℕ). many ≤ n * size) (sym is ∙ parts.ok.0) (div_ceil_times many size c.requires.size).0) c.map_chunks.ensures.len

pub returns-clause-each : goal.returns-clause-each
returns-clause-each g c =
    IfOk-weaker c.map_chunks.result _ _
    (λ parts given k d lt. let one = (given k d lt).1 in subst (λ (ps : List Bounded). AreTranslated ps (get_or parts.items k d)) one.argument_is.value one.call) c.map_chunks.ensures.each
