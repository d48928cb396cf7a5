-- Tables that have a number for each signature.
use Rattle.std.specs.Prelude.{◌≡◌, ℕ, ◌<◌, List, length, slice_index_or, Some, None}
use Rattle.named_model.specs.declared.named.Signature.{Signature}
use Rattle.named_model.specs.Signatures.{signature_at, top_within}

-- what a table has for a number; the number itself, where it has nothing for it
abbrev pub entry : List ℕ → ℕ → ℕ
entry table s = slice_index_or table s s

-- the parent of a signature of that number; its own number, where it has none
abbrev pub above : ℕ → Signature → ℕ
above s x = elim x.parent [ None ↦ s | Some p ↦ p.1 ]

-- the table has the parent of each signature
pub record AreParents (xs : List Signature) (table : List ℕ) : Type 0 where
  pub long : length table ≡ length xs
  pub each : (s : ℕ) → s < length xs → entry table s ≡ above s (signature_at xs s)

-- the table has what stands n steps above each signature
pub record AreAbove (xs : List Signature) (n : ℕ) (table : List ℕ) : Type 0 where
  pub long : length table ≡ length xs
  pub each : (s : ℕ) → entry table s ≡ top_within xs n s
