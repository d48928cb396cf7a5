use Rattle.std.proofs.Common.{◌≡◌, ◌+◌, arith, ap, length, subst}
use Rattle.sat_core.specs.Search.{IsAnswerTo}
use Rattle.sat_core.specs.declared.search.Answer.{Answer}
use Rattle.sat_core.specs.declared.search.Answer.TheVariants.{Refuted}
use Rattle.sat_core.proofs.TrimmedAnswers.{answer_trimmed, answer_used, can_trim}
use Rattle.sat_core.proofs.kept.trimmed_answer.Goals as goal

pub trimmed-requires-clause-hints : goal.trimmed-requires-clause-hints
trimmed-requires-clause-hints c =
    let f = c.args.f.now in
    let local = c.args.local.now in
    let pool = c.args.pool.now in
    let was : IsAnswerTo f local pool c.args.budget (Refuted c.in-Refuted.log) = subst (λ (a : Answer). IsAnswerTo f local pool c.args.budget a) c.in-Refuted.is c.requires.answer in
    let count : c.len.result + length local + length c.steps.result.now ≡ (length f.clauses + length local) + length pool = omega (arith, c.len.ensures.len, ap length c.steps.ensures.steps) in
    can_trim f local pool c.args.budget c.in-Refuted.log c.in-Refuted.log was (c.len.result + length local + length c.steps.result.now) count

pub returns-in_ok-log-in-Refuted-clause-answer : goal.returns-in_ok-log-in-Refuted-clause-answer
returns-in_ok-log-in-Refuted-clause-answer c =
    let f = c.args.f.now in
    let local = c.args.local.now in
    let pool = c.args.pool.now in
    let was : IsAnswerTo f local pool c.args.budget (Refuted c.in-Refuted.log) = subst (λ (a : Answer). IsAnswerTo f local pool c.args.budget a) c.in-Refuted.is c.requires.answer in
    let count : c.len.result + length local + length c.steps.result.now ≡ (length f.clauses + length local) + length pool = omega (arith, c.len.ensures.len, ap length c.steps.ensures.steps) in
    answer_trimmed f local pool c.args.budget c.in-Refuted.log c.in_ok-log-in-Refuted.log was (c.len.result + length local + length c.steps.result.now) count c.in_ok-log-in-Refuted.ensures

pub returns-in_ok-log-in-Refuted-clause-used : goal.returns-in_ok-log-in-Refuted-clause-used
returns-in_ok-log-in-Refuted-clause-used c =
    let f = c.args.f.now in
    let local = c.args.local.now in
    let pool = c.args.pool.now in
    let was : IsAnswerTo f local pool c.args.budget (Refuted c.in-Refuted.log) = subst (λ (a : Answer). IsAnswerTo f local pool c.args.budget a) c.in-Refuted.is c.requires.answer in
    let count : c.len.result + length local + length c.steps.result.now ≡ (length f.clauses + length local) + length pool = omega (arith, c.len.ensures.len, ap length c.steps.ensures.steps) in
    answer_used f local pool c.args.budget c.in-Refuted.log c.in_ok-log-in-Refuted.log was (c.len.result + length local + length c.steps.result.now) count c.in_ok-log-in-Refuted.ensures
