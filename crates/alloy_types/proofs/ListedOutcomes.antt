-- Outcomes of the things of a list, with one more.
use Rattle.std.proofs.Common.{◌≡◌, ◌≢◌, ℕ, ◌+◌, ◌<◌, ◌≤◌, List, [], ◌∷◌, ◌++◌, map, length, take, get_or, Result, Ok, Err, refl, sym, ap, ◌∙◌, inl, inr}
use Rattle.std.proofs.lemmas.List.{map-append, map_push, take_more, take_all}
use Rattle.model_types.specs.declared.fault.TypeFault.{TypeFault}
use Rattle.model_types.specs.declared.fault.TypeFault.TheVariants.{Memory}
use Rattle.overload_resolution.specs.Settling.Told.{Gives}
use Rattle.alloy_types.specs.Outcomes.{outcome_view}

-- an outcome that is no want of memory is the definition's answer
pub outcome_is : {X Y : Type 0} (see : X → Y) (outcome : Result X TypeFault) (read : Result Y TypeFault) → outcome ≢ Err Memory → Gives see outcome read → outcome_view see outcome ≡ read
outcome_is see (Ok x) read none gives = sym gives
outcome_is see (Err e) read none (inl memory) = absurd (none (ap Err memory))
outcome_is see (Err e) read none (inr told) = sym told

same_view : {X : Type 0} (r : Result X TypeFault) → outcome_view (λ x. x) r ≡ r
same_view (Ok x) = refl
same_view (Err e) = refl

pub outcome_same : {X : Type 0} (outcome read : Result X TypeFault) → outcome ≢ Err Memory → Gives (λ x. x) outcome read → outcome ≡ read
outcome_same outcome read none gives = sym (same_view outcome) ∙ outcome_is (λ x. x) outcome read none gives

module _ {X V R : Type 0} (see : X → V) (f : V → R) where
  pub found_more : (all : List X) (i : ℕ) (x : X) (found new : List R) (r : R) → i < length all → x ≡ get_or all i x → found ≡ map f (map see (take i all)) → new ≡ found ++ r ∷ [] → r ≡ f (see x)
      → new ≡ map f (map see (take (i + 1) all))
  found_more all i x found new r l is before pushed one =
      pushed ∙ (λ j. before j ++ one j ∷ [])
      ∙ sym (ap (λ xs. map f (map see xs)) (take_more all i x l ∙ ap (λ (y : X). take i all ++ y ∷ []) (sym is)) ∙ ap (map f) (map-append see (take i all) (x ∷ [])) ∙ map-append f (map see (take i all)) (see x ∷ []))

  -- the same, of outcomes that are seen by `show`
  pub seen_more : {O : Type 0} (show : O → R) (all : List X) (i : ℕ) (x : X) (found new : List O) (r : O) → i < length all → x ≡ get_or all i x → map show found ≡ map f (map see (take i all)) → new ≡ found ++ r ∷ [] → show r ≡ f (see x)
      → map show new ≡ map f (map see (take (i + 1) all))
  seen_more show all i x found new r l is before pushed one = found_more all i x (map show found) (map show new) (show r) l is before (ap (map show) pushed ∙ map_push show found r) one

  pub found_all : (all : List X) (i : ℕ) (found : List R) → length all ≤ i → found ≡ map f (map see (take i all)) → found ≡ map f (map see all)
  found_all all i found l before = before ∙ ap (λ xs. map f (map see xs)) (take_all i all l)
