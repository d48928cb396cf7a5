-- Commands with what they run or check put into them.
use Rattle.std.proofs.Common.{◌≡◌, ◌<◌, ◌≤◌, ℕ, List, [], ◌∷◌, ◌++◌, map, length, slice_index_or, slice_set, slice_get, Some, Result, Ok, Err, option_map, sym, ap, subst, ◌∙◌, arith}
use Rattle.std.proofs.lemmas.List.{map-set, map_push, length-map}
use Rattle.std.proofs.lemmas.Option.{slice_get-map, slice_get-get_or}
use Rattle.named_model.specs.declared.named.Target.{Target}
use Rattle.named_model.specs.declared.named.Command.{Command}
use Rattle.named_model.specs.Model.{CommandTree}
use Rattle.named_model.specs.View.{target_view, command_view}
use Rattle.model_types.specs.declared.fault.TypeFault.{TypeFault}
use Rattle.alloy_types.specs.Outcomes.{outcome_view, with_target}
use Rattle.alloy_types.proofs.WithOutcomes.{AreSettled, settled_thing, settled_fault, inside_now}

seen_short : (all : List (Result Target TypeFault)) (old : List Command) → length all ≤ length old → length (map (outcome_view target_view) all) ≤ length (map command_view old)
seen_short all old l = let a = length-map all (outcome_view target_view) in let b = length-map old command_view in omega (arith, l)

module _ (old : List Command) (all left rest : List (Result Target TypeFault)) (r : Result Target TypeFault) (now : List Command) (long : length all ≤ length old) (popped : left ≡ rest ++ r ∷ [])
    (are : AreSettled with_target (map command_view old) (map (outcome_view target_view) all) (map (outcome_view target_view) left) (map command_view now)) where
  seen_popped : map (outcome_view target_view) left ≡ map (outcome_view target_view) rest ++ outcome_view target_view r ∷ []
  seen_popped = ap (map (outcome_view target_view)) popped ∙ map_push (outcome_view target_view) rest r

  pub target_inside : length rest < length now
  target_inside =
      let inside = inside_now with_target (map command_view old) (map (outcome_view target_view) all) (seen_short all old long) (map (outcome_view target_view) left) (map (outcome_view target_view) rest) (outcome_view target_view r) seen_popped (map command_view now) are in
      let a = length-map rest (outcome_view target_view) in
      let b = length-map now command_view in
      omega (arith, inside)

  pub target_fault : (e : TypeFault) → r ≡ Err e → AreSettled with_target (map command_view old) (map (outcome_view target_view) all) (map (outcome_view target_view) rest) (map command_view now)
  target_fault e is =
      settled_fault with_target (map command_view old) (map (outcome_view target_view) all) (seen_short all old long) (map (outcome_view target_view) left) (map (outcome_view target_view) rest) (outcome_view target_view r) seen_popped (map command_view now) are
      e (ap (outcome_view target_view) is)

  some_same : (x y : CommandTree) → Some x ≡ Some y → x ≡ y
  some_same x y e = cc

  pub target_put : (n : ℕ) (t : Target) (c : Command) → n ≡ length rest → r ≡ Ok t → c ≡ slice_index_or now n c
      → AreSettled with_target (map command_view old) (map (outcome_view target_view) all) (map (outcome_view target_view) rest) (map command_view (slice_set now n (record { kind = c.kind; target = t; scope = c.scope })))
  target_put n t c at is there =
      let new : Command = record { kind = c.kind; target = t; scope = c.scope } in
      let same : n ≡ length (map (outcome_view target_view) rest) = at ∙ sym (length-map rest (outcome_view target_view)) in
      let inside : n < length now = subst (λ k. k < length now) (sym at) target_inside in
      let found : slice_get (map command_view now) n ≡ Some (command_view c) = slice_get-map command_view now n ∙ ap (option_map command_view) (slice_get-get_or now n c inside ∙ ap Some (sym there)) in
      settled_thing with_target (map command_view old) (map (outcome_view target_view) all) (seen_short all old long) (map (outcome_view target_view) left) (map (outcome_view target_view) rest) (outcome_view target_view r) seen_popped (map command_view now) are
      (target_view t) (command_view new) (map command_view (slice_set now n new)) (ap (outcome_view target_view) is)
      (λ x is_there. ap (λ (y : CommandTree). with_target y (target_view t)) (some_same (command_view c) x (sym found ∙ ap (slice_get (map command_view now)) same ∙ is_there)))
      (map-set command_view now n new ∙ ap (λ k. slice_set (map command_view now) k (command_view new)) same)
