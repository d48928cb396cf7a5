use Rattle.std.proofs.Common.{◌∙◌, ◌++◌, ℕ, List, ap, subst, sym}
use Rattle.rel_formula.specs.Bounds.{Bounded}
use Rattle.rel_formula.specs.Renaming.{IsSymmetric}
use Rattle.rel_terms.specs.Terms.{IsTranslatable}
use Rattle.crew_run.specs.Crew.{IsCrewAnswer}
use Rattle.explorer_cli.specs.CrewTexts.{IsAnswerText}
use Rattle.explorer_cli.proofs.crew_texts.block_of.Goals as goal

pub build-requires-clause-translatable : goal.build-requires-clause-translatable
build-requires-clause-translatable g c = subst IsTranslatable (sym c.in_ok-copy.ensures) c.requires.servable.translatable

pub build-requires-clause-symmetric : goal.build-requires-clause-symmetric
build-requires-clause-symmetric g c = subst IsSymmetric (sym c.in_ok-copy.ensures) c.requires.servable.symmetric

pub push_answer-requires : goal.push_answer-requires
push_answer-requires g c =
    let t = c.in_ok-translation.translation in
    (c.args.workers, subst (λ (budget : ℕ). IsCrewAnswer t c.args.workers budget 1000000 c.in_ok-answer.answer) c.from.ensures c.in_ok-answer.ensures)

pub returns : goal.returns
returns g c =
    let t = c.in_ok-translation.translation in
    let (lines, told, pushed) = c.in_ok-push_answer.ensures in
    let same = c.in_ok-translation.ensures ∙ c.in_ok-copy.ensures in
    record {
      text = record {
        translation = t;
        made = c.problem.ensures.well;
        problem = same;
        answer = c.in_ok-answer.answer;
        answered = subst (λ (budget : ℕ). IsCrewAnswer t c.args.workers budget 1000000 c.in_ok-answer.answer) c.from.ensures c.in_ok-answer.ensures;
        lines = lines;
        told = subst (λ (p : Bounded). IsAnswerText p c.args.budget c.in_ok-answer.answer lines) same told;
        text_is = pushed ∙ ap (λ (front : List ℕ). front ++ lines) c.in_ok-text.ensures;
      };
    }
