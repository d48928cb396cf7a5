-- What is known of a pass once it is open.
use Rattle.std.proofs.Common.{◌≡◌, List, [], ◌∷◌, Option, Some, None, ap, ◌∙◌}
use Rattle.atomic_table.specs.Table.{Me}
use Rattle.atomic_table.specs.Seated.{TableId}
use Rattle.hub_lock.specs.declared.view.View.{View}
use Rattle.hub_lock.specs.Passes.{PassView}
use Rattle.hub_lock.specs.Orderly.{slots_of}

module _ {E B : Type 0} where
  pub lock_is : (t : TableId) (v : View E B) (p : PassView E B) → record { lock = t; view = v } ≡ p → t ≡ p.lock
  lock_is t v p e = ap (λ (q : PassView E B). q.lock) e

  pub its_view : (t : TableId) (v : View E B) (p : PassView E B) → record { lock = t; view = v } ≡ p → v ≡ p.view
  its_view t v p e = ap (λ (q : PassView E B). q.view) e

  module _ {T : Type 0} where
    -- out of turn it has no slot
    pub no_slot : (m : Me (Option T) (View E B)) (v : View E B) → m.0 ≡ v → v.turn ≡ None → m.1 ≡ slots_of m.0.turn → m.1 ≡ []
    no_slot m v at idle has = has ∙ (ap (λ (x : View E B). slots_of x.turn) at ∙ ap slots_of idle)

    -- in its turn it has the one slot, which is empty
    pub its_slot : (m : Me (Option T) (View E B)) (v : View E B) (es : List E) → m.0 ≡ v → v.turn ≡ Some es → m.1 ≡ slots_of m.0.turn → m.1 ≡ (0, None) ∷ []
    its_slot m v es at turn has = has ∙ (ap (λ (x : View E B). slots_of x.turn) at ∙ ap slots_of turn)
