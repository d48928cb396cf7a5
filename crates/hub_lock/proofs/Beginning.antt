-- The rule holds of a new lock.
use Rattle.std.proofs.Common.{◌≡◌, ℕ, zero, suc, false, List, [], ◌∷◌, Option, Some, refl, sym, subst, arith}
use mathlib.Core.Option.{some, some-injective, some-ne-none}
use lib.ListN.{get_elem?}
use base.Growing.{prefix_refl}
use Rattle.atomic_table.specs.Table.{opening}
use Rattle.hub_lock.specs.declared.view.View.{View}
use Rattle.hub_lock.specs.Passes.{first_view}
use Rattle.hub_lock.specs.Orderly.{turn_at, Fits, IsOrderly}

module _ {T E B : Type 0} (by : E → ℕ) (entries : T → List E) (base : T → B) where
  only : (P : ℕ → View E B → Type 0) (start : B) → P 0 (first_view start) → (seat : ℕ) (v : View E B) → get_elem? (first_view {E = E} start ∷ []) seat ≡ some v → P seat v
  only P start p zero v e = subst (P 0) (some-injective (first_view start) v e) p
  only P start p (suc seat) v e = absurd (some-ne-none v (sym e))

  pub opens : (value : T) (slots : List (Option T)) (start : B) → slots ≡ Some value ∷ [] → base value ≡ start → entries value ≡ []
      → IsOrderly by entries base start (opening (0 ∷ 0 ∷ []) slots (first_view start))
  opens value slots start full its empty =
      subst (λ (xs : List (Option T)). IsOrderly by entries base start (opening (0 ∷ 0 ∷ []) xs (first_view start))) (sym full) (record {
        log = [];
        front = first_view start;
        holder = 0;
        word = 0;
        words = refl;
        front_is = (refl, refl);
        made = refl;
        live = refl;
        each = λ seat v h. only (λ i u. Fits by start [] i u) start (record { number = refl; seen = prefix_refl []; own = refl; own_seen = refl; base_is = refl }) seat v h.0;
        turns = λ seat v h. only (λ i u. u.turn ≡ turn_at 0 0 i []) start refl seat v h.0;
        bit = omega arith;
        held = λ e. absurd (omega arith);
        away = λ e. absurd (omega arith);
        home = λ _. (value, refl, empty, its);
        known = (0, first_view start, (refl, refl), refl);
        numbers = λ k d lt. absurd (omega arith);
        joined = λ seat v e. only (λ i u. false ≡ u.spent) start refl seat v e;
        not_made = λ seat le. refl;
        joined_seen = λ n yes. refl;
        last_join = λ j e. absurd (cc);
      })
