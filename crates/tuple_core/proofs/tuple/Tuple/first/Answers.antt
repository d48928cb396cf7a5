use Rattle.std.proofs.Common.{◌≡◌, ◌≤◌, [], ◌∷◌, length, List, slice_index_or, arith}
use Rattle.tuple_core.specs.declared.atom.Atom.{Atom}
use Rattle.tuple_core.proofs.tuple.Tuple.first.Goals as goal

-- a list that is not empty begins with its element at 0
begins : (xs ys : List Atom) (d : Atom) → ys ≡ xs → 1 ≤ length xs → (rest : List Atom) × (xs ≡ slice_index_or ys 0 d ∷ rest)
begins [] ys d e l = absurd (omega arith)
begins (x ∷ xs) [] d e l = cc
begins (x ∷ xs) (y ∷ ys) d e l = (xs, cc)

pub returns : goal.returns
returns c = begins c.args.self.now c.atoms.result.now _ c.atoms.ensures.value c.atoms.ensures.some
