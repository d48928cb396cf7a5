-- What a function value reads.
use Rattle.std.specs.Prelude.{◌<◌, ℕ, true, length, Result, IfOk}
use Rattle.std.specs.declared.alloc.Global.{Global}
use Rattle.alloy_syntax.specs.declared.parse_stop.ParseStop.{ParseStop}
use Rattle.alloy_syntax.specs.declared.parse_stop.Tokens.{Tokens}
use Rattle.alloy_syntax.specs.declared.reading.Around.{Around}
use Rattle.alloy_syntax.specs.declared.reading.Inside.{Inside}
use Rattle.alloy_syntax.specs.declared.tree.Node.{Node}
use Rattle.alloy_syntax.specs.View.{view}
use Rattle.alloy_syntax.specs.Nodes.{within}
use Rattle.alloy_syntax.specs.Gives.{Gives}

-- it may be called for what stands under one construct more, and reads it as the grammar says where so many may nest
pub record ReadsWithin (room : ℕ) (pre : Global → Tokens → ℕ → Around → Inside → Type 0) (post : Global → Tokens → ℕ → Around → Inside → Result (Node × Tokens) ParseStop → Type 0) : Type 0 where
  pub callable : (alloc : Global) (tokens : Tokens) (around : Around) (part : Inside) → pre alloc tokens room around part
  pub reads : (alloc : Global) (tokens : Tokens) (around : Around) (part : Inside) (read : Result (Node × Tokens) ParseStop) → post alloc tokens room around part read
      → Gives (λ x. (view x.0, x.1.left.now)) read (within true room around part tokens.left.now)
  pub shorter : (alloc : Global) (tokens : Tokens) (around : Around) (part : Inside) (read : Result (Node × Tokens) ParseStop) → post alloc tokens room around part read
      → IfOk read (λ x. length x.1.left.now < length tokens.left.now)
