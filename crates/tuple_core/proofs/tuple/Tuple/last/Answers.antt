use Rattle.std.proofs.Common.{◌≡◌, ◌≤◌, ◌-◌, ◌+◌, [], ◌∷◌, ◌++◌, length, take, List, sym, ap, ◌∙◌, slice_index_or, arith}
use Rattle.std.proofs.lemmas.List.{take_more, take_all}
use Rattle.tuple_core.specs.declared.atom.Atom.{Atom}
use Rattle.tuple_core.proofs.tuple.Tuple.last.Goals as goal

-- a list that is not empty ends with its last element
ends : (xs ys : List Atom) (d : Atom) → ys ≡ xs → 1 ≤ length xs → (before : List Atom) × (xs ≡ before ++ slice_index_or ys (length ys - 1) d ∷ [])
ends xs ys d e l =
    let long : 1 ≤ length ys = (let m = ap length e in omega arith) in
    (take (length ys - 1) ys, sym e ∙ sym (take_all (length ys - 1 + 1) ys (omega arith)) ∙ take_more ys (length ys - 1) d (omega arith))

pub returns : goal.returns
returns c = ends c.args.self.now c.atoms-atoms.result.now _ c.atoms-atoms.ensures.value c.atoms-atoms.ensures.some
