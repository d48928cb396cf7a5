-- Where the passes of a measured lock stand between turns.
use Rattle.std.specs.Prelude.{◌≡◌, ◌≢◌, ℕ, None}
use Rattle.atomic_table.specs.Seated.{TableId}
use Rattle.hub_lock.specs.Passes.{PassView}
use Rattle.bench.specs.declared.turns.Mark.{Mark}
use Rattle.bench.specs.declared.turns.Worker.{Worker}

-- a pass of this lock, out of turn, which is not the first one
pub record IsReady (lock : TableId) (w : Worker) : Type 0 where
  pub lock_is : w.pass.lock ≡ lock
  pub number : w.pass.view.number ≢ 0
  pub idle : w.pass.view.turn ≡ None

-- the first pass, out of turn, with so many passes out
pub record IsRoot (lock : TableId) (out : ℕ) (p : PassView Mark ℕ) : Type 0 where
  pub lock_is : p.lock ≡ lock
  pub number : p.view.number ≡ 0
  pub idle : p.view.turn ≡ None
  pub live : p.view.live ≡ out
