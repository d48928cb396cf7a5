use Rattle.std.proofs.Common.{◌≡◌, ◌++◌, ◌∷◌, [], List, length, sym, ◌∙◌, ap}
use Rattle.refutation_check.specs.declared.log.Step.{Step}
use Rattle.session_state.proofs.Rounds.NovelSteps.{counted_known, counted_new}
use Rattle.session_state.proofs.search_rounds.novel.novel_steps_of.Goals as goal

pub returns-then-is_known : goal.returns-then-is_known
returns-then-is_known c = λ clauses pool all no_empty novel.
    let part = c.args.part.now in
    let before : List Step = c.in-Some.before.now in
    let last : Step = c.in-Some.last.now in
    let cut : part.log ≡ before ++ last ∷ [] = sym (c.steps-steps.ensures.steps ∙ c.log.ensures.log) ∙ c.in-Some.ensures.cases.0 in
    let known = c.is_known.ensures.0 c.if-is_known.true in
    counted_known clauses part.local pool part.log before last cut novel known.0 known.1

pub returns-else-is_known : goal.returns-else-is_known
returns-else-is_known c = λ clauses pool all no_empty novel.
    let part = c.args.part.now in
    let before : List Step = c.in-Some.before.now in
    let last : Step = c.in-Some.last.now in
    let cut : part.log ≡ before ++ last ∷ [] = sym (c.steps-steps.ensures.steps ∙ c.log.ensures.log) ∙ c.in-Some.ensures.cases.0 in
    let long : length c.steps-steps.result.now ≡ length part.log = ap length (c.steps-steps.ensures.steps ∙ c.log.ensures.log) in
    long ∙ counted_new clauses part.local pool part.log before last cut novel all no_empty (λ empty there. absurd (let t = c.is_known.ensures.1 (empty, there) in let f = c.if-is_known.false in cc))
