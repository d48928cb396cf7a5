-- What is settled is the model in which no name is shared.
use Rattle.std.proofs.Common.{◌≡◌, ◌≤◌, List, map, length, Result, Ok, sym, ap, ◌∙◌, arith}
use Rattle.std.proofs.lemmas.List.{length-map}
use Rattle.named_model.specs.Model.{CommandTree, NamedTree}
use Rattle.named_model.specs.View.{target_view}
use Rattle.named_model.specs.Answers.{◌>>=◌}
use Rattle.model_types.specs.declared.fault.TypeFault.{TypeFault}
use Rattle.model_types.specs.Models.{target_settled, command_settled, or_same, declared_in, types_checked, settled_in}
use Rattle.alloy_types.specs.declared.outcomes.Outcomes.{Outcomes}
use Rattle.alloy_types.specs.Outcomes.{AreOutcomes, outcome_view, with_outcomes, the_other, with_target}
use Rattle.alloy_types.specs.Typed.{typed}
use Rattle.alloy_types.proofs.WithOutcomes.{with_outcomes_seen, with_own, with_own_same}

-- as many outcomes as there are things
pub as_many : {X Y V W : Type 0} (see : X → Y) (f : V → Y) (view : W → V) (xs : List X) (ws : List W) → map see xs ≡ map f (map view ws) → length xs ≤ length ws
as_many see f view xs ws same =
    let e = sym (length-map xs see) ∙ ap length same ∙ length-map (map view ws) f ∙ length-map ws view in
    omega (arith, e)

-- things that are settled as outcomes say
pub things_settled : {X V : Type 0} (view : X → V) (f : V → Result V TypeFault) (old new : List X) (rs : List (Result X TypeFault)) → new ≡ with_outcomes the_other old rs → map (outcome_view view) rs ≡ map f (map view old)
    → map view new ≡ map (or_same f) (map view old)
things_settled view f old new rs is are = ap (map view) is ∙ with_outcomes_seen view old rs ∙ ap (with_outcomes the_other (map view old)) are ∙ with_own_same f (map view old)

module _ (m : NamedTree) (o : Outcomes) (are : AreOutcomes m (declared_in m) o) where
  pub targets_settled : (new : List CommandTree) → new ≡ with_outcomes with_target m.commands (map (outcome_view target_view) o.targets.items) → new ≡ map (or_same (command_settled m (declared_in m))) m.commands
  targets_settled new is = is ∙ ap (with_outcomes with_target m.commands) are.targets ∙ with_own with_target (λ (c : CommandTree). target_settled m (declared_in m) c.target) m.commands

pub typed_is : (m : NamedTree) → types_checked m ≡ Ok tt → typed m ≡ Ok (settled_in m)
typed_is m fine = ap (λ r. r >>= λ done. Ok (settled_in m)) fine
