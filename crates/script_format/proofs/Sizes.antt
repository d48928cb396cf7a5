-- How long the texts of models are.
use Rattle.std.proofs.Common.{◌≡◌, ◌≤◌, ◌<◌, ◌+◌, ◌-◌, ◌==◌, ◌++◌, ℕ, zero, suc, Bool, true, false, cond, if◌then◌else◌, List, [], ◌∷◌, codes, length, take, get_or, refl, arith, length-append, length-take}
use Rattle.std.specs.List.{slice_split, onto_first, flat_map, AllByRecursion}
use Rattle.std.specs.Str.Lines.{lines, lines_of_parts, strip_carriage_return}
use Rattle.std.proofs.lemmas.List.Splits.{length-slice_split}
use Rattle.script_format.specs.declared.entries.ModelEntry.{ModelEntry}
use Rattle.script_format.specs.Reading.{changed, with_text}

-- the text of these lines, each with a line feed
abbrev pub text_of : List (List ℕ) → List ℕ
text_of body = flat_map (λ line. line ++ codes "\n") body

-- a line more
pub more : (x : List ℕ) (xs : List (List ℕ)) → length (text_of (x ∷ xs)) ≡ length x + 1 + length (text_of xs)
more x xs = omega (arith, length-append (x ++ codes "\n") (text_of xs), length-append x (codes "\n"))

-- a byte more in the first of some parts
longer : (x : ℕ) (parts : List (List ℕ)) → 0 < length parts → length (text_of (onto_first x parts)) ≡ length (text_of parts) + 1
longer x [] some = absurd (omega arith)
longer x (y ∷ ys) some = omega (arith, more (x ∷ y) ys, more y ys)

-- the parts between the separators of a text: each of these is a byte, and there is one part more
parts_size : (p : ℕ → Bool) (bs : List ℕ) → length (text_of (slice_split p bs)) ≡ length bs + 1
parts_size p [] = refl
parts_size p (b ∷ bs) =
    let some : 0 < length (slice_split p bs) = omega (arith, length-slice_split p bs) in
    let go : (c : Bool) → length (text_of (cond c ([] ∷ slice_split p bs) (onto_first b (slice_split p bs)))) ≡ length (b ∷ bs) + 1 =
    λ c. elim c as (λ c. length (text_of (cond c ([] ∷ slice_split p bs) (onto_first b (slice_split p bs)))) ≡ length (b ∷ bs) + 1) [
      | true ↦ omega (arith, more [] (slice_split p bs), parts_size p bs)
      | false ↦ omega (arith, longer b (slice_split p bs) some, parts_size p bs)
    ] in
    go (p b)

-- a line is at most as long without its carriage return
stripped : (l : List ℕ) → length (strip_carriage_return l) ≤ length l
stripped l =
    let go : (c : Bool) → length (if c then take (length l - 1) l else l) ≤ length l =
    λ c. elim c as (λ c. length (if c then take (length l - 1) l else l) ≤ length l) [
      | true ↦ omega (arith, length-take (length l - 1) l)
      | false ↦ omega arith
    ] in
    go (get_or l (length l - 1) 0 == 13)

-- the lines in the parts between line feeds
lines_size : (parts : List (List ℕ)) → length (text_of (lines_of_parts parts)) ≤ length (text_of parts)
lines_size [] = omega arith
lines_size (x ∷ []) =
    let go : (c : Bool) → length (text_of (if c then [] else x ∷ [])) ≤ length (text_of (x ∷ [])) =
    λ c. elim c as (λ c. length (text_of (if c then [] else x ∷ [])) ≤ length (text_of (x ∷ []))) [
      | true ↦ omega arith
      | false ↦ omega arith
    ] in
    go (length x == 0)
lines_size (x ∷ y ∷ others) =
    omega (arith, more (strip_carriage_return x) (lines_of_parts (y ∷ others)), more x (y ∷ others), stripped x, lines_size (y ∷ others))

-- the lines of a text are at most one byte longer than it
pub text_size : (bs : List ℕ) → length (text_of (lines bs)) ≤ length bs + 1
text_size bs = omega (arith, lines_size (slice_split (λ b. b == 10) bs), parts_size (λ b. b == 10) bs)

-- there are at most as many lines
pub count_size : (ls : List (List ℕ)) → length ls ≤ length (text_of ls)
count_size [] = omega arith
count_size (x ∷ xs) = omega (arith, more x xs, count_size xs)

-- how long the models' texts are, and one for each model
abbrev pub sizes : List ModelEntry → ℕ
sizes [] = 0
sizes (m ∷ ms) = length m.text + 1 + sizes ms

pub sizes_more : (ms : List ModelEntry) (name : List ℕ) → sizes (ms ++ record { name = name; text = [] } ∷ []) ≡ sizes ms + 1
sizes_more [] name = refl
sizes_more (m ∷ ms) name = omega (arith, sizes_more ms name)

pub sizes_changed : (text : List ℕ) (k : ℕ) (ms : List ModelEntry) → sizes (changed (with_text text) k ms) ≤ sizes ms + length text + 1
sizes_changed text k [] = omega arith
sizes_changed text zero (m ∷ ms) = omega (arith, length-append (m.text ++ text) (codes "\n"), length-append m.text text)
sizes_changed text (suc k) (m ∷ ms) = omega (arith, sizes_changed text k ms)

-- each text is shorter
pub each_size : (n : ℕ) (ms : List ModelEntry) → sizes ms ≤ n → AllByRecursion (λ m. length m.text < n) ms
each_size n [] h = tt
each_size n (m ∷ ms) h = (omega arith, each_size n ms (omega arith))
