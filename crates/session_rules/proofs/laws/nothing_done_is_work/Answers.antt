use Rattle.std.proofs.Common.{◌⊎◌, inl, ℕ, List, [], Contains, refl, arith}
use Rattle.std.proofs.lemmas.List.Elements.{All-nil, All-weaker, All-contains_itself}
use Rattle.refutation_check.specs.SearchLog.{IsSearchLog}
use Rattle.refutation_check.specs.Part.{Parted}
use Rattle.translation_rules.specs.Translation.{Translated}
use Rattle.translation_rules.specs.Parts.{given_to}
use Rattle.session_words.specs.declared.steps.Step.{Step}
use Rattle.session_words.specs.declared.steps.Step.TheVariants.{Next, Offers, Augment, Back, Budget, Proof}
use Rattle.session_rules.specs.States.{State, shown_here, top_floor}
use Rattle.session_rules.specs.Proofs.{IsCopy}
use Rattle.session_rules.specs.Work.{IsWorkFor, TriesFloor}
use Rattle.session_rules.proofs.laws.nothing_done_is_work.Goals as goal

no_work : (t : Translated) (s : State) (step : Step) → IsWorkFor t s step [] []
no_work t s Next = record {
  rounds = [];
  blocked = shown_here s;
  all_parts = refl;
  shown_blocked = All-contains_itself (shown_here s);
  covered = All-weaker (Contains (shown_here s)) (λ (x : List ℕ). Contains (shown_here s) x ⊎ IsCopy t.problem (top_floor s) (shown_here s) x) (λ x h. inl h) (shown_here s) (All-contains_itself (shown_here s));
  are_rounds = refl;
}
no_work t s Offers = (inl refl, refl)
no_work t s (Augment name names) = (record { few = omega arith; each = All-nil (TriesFloor t.problem s name names) }, refl)
no_work t s Back = (refl, refl)
no_work t s (Budget budget) = (refl, refl)
no_work t s Proof = (refl, refl)

pub returns : goal.returns
returns c t pool s step = record {
  searched = All-nil (λ (part : Parted). IsSearchLog (given_to t pool part) part.log);
  work = no_work t s step;
}
