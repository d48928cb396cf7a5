-- What a function value lowers.
use Rattle.std.specs.Prelude.{◌≡◌, ◌≤◌, ℕ, Result, IfOk, OnOk}
use Rattle.std.specs.Borrow.{Bor, MutBor}
use Rattle.std.specs.Global.{Vec}
use Rattle.std.specs.declared.alloc.Global.{Global}
use Rattle.named_model.specs.declared.named.Named.{Named}
use Rattle.named_model.specs.declared.phrase.Phrase.{Phrase}
use Rattle.named_model.specs.View.{phrase_view, named_view}
use Rattle.lowering_rules.specs.declared.fault.LowerStop.{LowerStop}
use Rattle.lowering_rules.specs.Lowering.{base_within, lowered}
use Rattle.body_lowering.specs.declared.kernel_parts.part.Part.{Part}
use Rattle.body_lowering.specs.declared.locals.Local.{Local}
use Rattle.body_lowering.specs.declared.room.Depth.{Depth}
use Rattle.body_lowering.specs.declared.room.Room.{Room}
use Rattle.body_lowering.specs.Kernel.View.{part_view}
use Rattle.body_lowering.specs.Locals.{locals_view}

-- it may be called where no more levels than these are left, makes of a part what the definition has for it, and leaves the local
-- names as they were
pub record LowersWithin (levels : ℕ)
    (pre : Global → Bor Named → Depth → MutBor (Vec Local) → MutBor Room → Bor Phrase → Type 0)
    (post : Global → Bor Named → Depth → MutBor (Vec Local) → MutBor Room → Bor Phrase → Result Part LowerStop → MutBor (Vec Local) → MutBor Room → Type 0) : Type 0 where
  pub callable : (alloc : Global) (model : Bor Named) (at : Depth) (locals : MutBor (Vec Local)) (room : MutBor Room) (phrase : Bor Phrase) → at.levels ≤ levels → pre alloc model at locals room phrase
  pub value : (alloc : Global) (model : Bor Named) (at : Depth) (locals left : MutBor (Vec Local)) (room over : MutBor Room) (phrase : Bor Phrase) (result : Result Part LowerStop) → post alloc model at locals room phrase result left over
      → IfOk result (λ p. part_view p ≡ lowered (base_within at.calls (named_view model.now)) (locals_view locals.now.items) at.binders (phrase_view phrase.now))
  pub locals : (alloc : Global) (model : Bor Named) (at : Depth) (locals left : MutBor (Vec Local)) (room over : MutBor Room) (phrase : Bor Phrase) (result : Result Part LowerStop) → post alloc model at locals room phrase result left over
      → OnOk result (locals_view left.now.items ≡ locals_view locals.now.items)
