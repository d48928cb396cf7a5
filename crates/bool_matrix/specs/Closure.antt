-- What a closure needs, and how far it has come.
use Rattle.std.specs.Prelude.{◌≡◌, ◌<◌, ◌≤◌, ◌+◌, ◌*◌, ℕ, zero, suc, List, [], ◌∷◌, length, Contains}
use Rattle.tuple_core.specs.declared.atom.Atom.{Atom}
use Rattle.tuple_core.specs.Operators.{Pred, Walk}
use Rattle.bool_matrix.specs.Terms.{Meeting}

-- at most n atoms begin a pair of P
abbrev pub HasFewAtoms : ℕ → Pred → Type 0
HasFewAtoms n P = (atoms : List Atom) × (length atoms ≤ n) × ((x y : Atom) → P (x ∷ y ∷ []) → Contains atoms x)

-- where `used` nodes are there, the limit leaves room for 6 terms for each two tuples of P that join
abbrev pub HasRoom : ℕ → ℕ → Pred → Type 0
HasRoom used limit P = (rows : List (List Atom)) × ((t : List Atom) → Meeting P P t → Contains rows t) × (used + 16 * (6 * length rows) < limit)

-- the pairs with a walk of one to n pairs of P
abbrev pub Short : Pred → ℕ → Pred
Short P n t = (x : Atom) × (ms : List Atom) × (y : Atom) × (t ≡ x ∷ y ∷ []) × Walk P x ms y × (length ms < n)

-- how long the walks are after so many squarings
abbrev pub reach : ℕ → ℕ
reach zero = 1
reach (suc n) = reach n + reach n
