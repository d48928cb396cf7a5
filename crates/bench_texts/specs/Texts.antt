-- Texts that are made of parts.
use Rattle.std.specs.Prelude.{ℕ, ◌-◌, ◌==◌, nat_lt, List, ◌++◌, if◌then◌else◌, decimal, chars, encode_utf8, Option, None, option_map}
use Rattle.std.specs.List.{flat_map, range_with_len}
use Rattle.bench_texts.specs.declared.shapes.Shape.{Shape}
use Rattle.bench_texts.specs.Shapes.{shape_at}

-- what a character of a part says for a number: `%` that number, `@` the one before it, and any other itself
abbrev pub spelled : ℕ → ℕ → List ℕ
spelled n c = if c == 37 then decimal n else if c == 64 then decimal (n - 1) else encode_utf8 c

-- a part for a number
abbrev pub filled : ℕ → List ℕ → List ℕ
filled n part = flat_map (λ c. spelled n c) (chars part)

-- a part for each number from 1 up to the count, which isn't among them
abbrev pub repeated : ℕ → List ℕ → List ℕ
repeated count part = flat_map (λ n. filled n part) (range_with_len 1 (count - 1))

-- the text of a shape: what stands once is for the count
abbrev pub text_in : ℕ → Shape (List ℕ) → List ℕ
text_in count s = filled count s.head ++ repeated count s.each ++ filled count s.middle ++ repeated count s.again ++ filled count s.tail

-- the text of a kind and a count; none above a million, and none of a kind that no shape has
abbrev pub text_at : List ℕ → ℕ → Option (List ℕ)
text_at kind count = if nat_lt 1000000 count then None else option_map (λ s. text_in count s) (shape_at kind)
