-- What is told of the facts of models: one model more.
use Rattle.std.proofs.Common.{◌≡◌, ℕ, ◌+◌, ◌<◌, ◌≤◌, List, ◌++◌, length, take, get_or, length-append, ap, subst, ◌∙◌, arith}
use Rattle.alloy_syntax.specs.declared.tree.CommandKind.TheVariants.{Run}
use Rattle.named_model.specs.View.{named_view}
use Rattle.script_format.specs.declared.entries.ModelEntry.{ModelEntry}
use Rattle.script_text.specs.Limits.{most_output}
use Rattle.decision_reports.specs.declared.taken_models.TakenModel.{TakenModel}
use Rattle.decision_reports.specs.Taken.{numbers_of, IsTaken}
use Rattle.decision_reports.specs.Texts.{AreTexts}
use Rattle.decision_reports.specs.FactReports.{IsFactSetOn, AreFactSetsOn, AreFactSetsOf}
use Rattle.decision_reports.proofs.TextLists.{texts_more}

-- the turn of the loop over models
pub facts_more : (budget : ℕ) (entries : List ModelEntry) (i : ℕ) (x : ModelEntry) (y : TakenModel) (name old new last : List ℕ)
    → i < length entries → x ≡ get_or entries i x → IsTaken Run x y → name ≡ x.name → new ≡ old ++ last
    → AreTexts (IsFactSetOn budget name (named_view y.model)) y.numbers.items last → length old + length last ≤ most_output → AreFactSetsOf budget (take i entries) old → AreFactSetsOf budget (take (i + 1) entries) new
facts_more budget entries i x y name old new last l item taken told added sets fits before =
    let named = subst (λ (n : List ℕ). AreTexts (IsFactSetOn budget n (named_view y.model)) y.numbers.items last) told sets in
    let all = subst (λ (ns : List ℕ). AreTexts (IsFactSetOn budget x.name (named_view y.model)) ns last) taken.1.numbers named in
    let long : length new ≡ length old + length last = ap length added ∙ length-append old last in (
      texts_more (AreFactSetsOn budget) entries i x old new last l item added before.0 (named_view y.model, taken.0, all),
      omega (arith, long, fits),
    )
