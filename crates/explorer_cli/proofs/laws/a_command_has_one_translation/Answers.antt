use Rattle.std.proofs.Common.{◌≡◌, ◌∙◌, ℕ, Some, sym, ap, subst}
use Rattle.rel_formula.specs.Bounds.{Bounded}
use Rattle.rel_terms.specs.Terms.{HasTerms}
use Rattle.translation_rules.specs.Translation.{Translated, StandsFor}
use Rattle.script_text.specs.Replies.{PrintedSession}
use Rattle.explorer_cli.proofs.laws.a_command_has_one_translation.Goals as goal

same_translation : (t u : Translated) → Some t ≡ Some u → t ≡ u
same_translation t u e = cc

pub returns : goal.returns
returns c = record {
  stands = λ t budget x s run. subst (λ (p : Bounded). StandsFor p t) (sym (ap (λ (r : PrintedSession). r.problem) run.is)) run.made.stands;
  small = λ t budget x s run terms has. run.made.small terms (subst (λ (p : Bounded). HasTerms p terms) (ap (λ (r : PrintedSession). r.problem) run.is) has);
  one = λ budget models over x y s r run other model number.
      same_translation run.0 other.0 (sym run.1 ∙ ap (λ (k : ℕ). over k x.number) model ∙ ap (over y.model) number ∙ other.1);
}
