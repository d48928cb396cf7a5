-- The shapes of texts, by their kinds.
use Rattle.std.specs.Prelude.{ℕ, List, bytes_eq, map, Option}
use Rattle.std.specs.Borrow.{Bor}
use Rattle.std.specs.List.{find}
use Rattle.bench_texts.specs.declared.shapes.Shape.{Shape}
use Rattle.bench_texts.specs.declared.shapes.TheConstants.{SHAPES}

-- a shape with each of its parts read so
abbrev pub with_parts : {R : Type 0} → (R → List ℕ) → Shape R → Shape (List ℕ)
with_parts read s = record { kind = read s.kind; head = read s.head; each = read s.each; middle = read s.middle; again = read s.again; tail = read s.tail }

-- what a shape says, wherever its parts lie in memory
abbrev pub said_of : Shape (Bor (List ℕ)) → Shape (List ℕ)
said_of s = with_parts (λ part. part.now) s

-- the first of some shapes that has this kind
abbrev pub shape_in : List (Shape (List ℕ)) → List ℕ → Option (Shape (List ℕ))
shape_in shapes kind = find (λ s. bytes_eq s.kind kind) shapes

-- the shape of this kind
abbrev pub shape_at : List ℕ → Option (Shape (List ℕ))
shape_at kind = shape_in (map (λ s. with_parts (λ part. part.now) s) SHAPES) kind
