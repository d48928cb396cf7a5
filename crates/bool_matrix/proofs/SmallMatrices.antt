-- What small matrices leave room for.
use Rattle.std.proofs.Common.{◌≡◌, ℕ, zero, suc, ◌+◌, ◌*◌, ◌<◌, ◌≤◌, Bool, true, false, List, [], ◌∷◌, ◌++◌, map, length, cond, Contains, sym, subst, arith, length-append}
use Rattle.std.proofs.lemmas.List.{length-map}
use Rattle.std.specs.List.{list_any}
use Rattle.std.proofs.Math.Nat.{mul-le-mul}
use Rattle.std.proofs.lemmas.List.Sums.{sum_by-cons}
use Rattle.std.proofs.lemmas.List.Elements.{Contains-append_left, Contains-append_right}
use Rattle.tuple_core.specs.declared.atom.Atom.{Atom}
use Rattle.tuple_core.specs.Swap.{atom_eq}
use Rattle.tuple_core.specs.Operators.{Pred, Walk, Closed}
use Rattle.bool_circuit.specs.Network.{Network, is_constant, size}
use Rattle.bool_matrix.specs.declared.entry.Entry.{Entry}
use Rattle.bool_matrix.specs.Cells.{Cells, ThereIn}
use Rattle.bool_matrix.specs.Closure.{HasFewAtoms, HasRoom}
use Rattle.bool_matrix.specs.Terms.{joining, joins_of, joins}
use Rattle.bool_matrix.proofs.DistinctLists.{contains_map}
use Rattle.bool_matrix.proofs.JoiningPairs.{all_behind, all_length, meetings_there}

one_or_none : (b : Bool) → cond b 0 1 ≤ 1
one_or_none true = omega arith
one_or_none false = omega arith

-- the two constants may be missing
pub size_le : (w : Network) → size w ≤ length w.shapes + 2
size_le w = omega (arith, one_or_none (list_any (is_constant true) w.shapes), one_or_none (list_any (is_constant false) w.shapes))

one_or_zero : (b : Bool) → cond b 1 0 ≤ 1
one_or_zero true = omega arith
one_or_zero false = omega arith

joining_le : (l r : List Atom) → joining l r ≤ 1
joining_le [] r = omega arith
joining_le (x ∷ []) [] = omega arith
joining_le (x ∷ []) (y ∷ ys) = one_or_zero (atom_eq x y)
joining_le (x ∷ y ∷ l) r = joining_le (y ∷ l) r

joins_of_le : (l : List Atom) (ys : List (List Atom)) → joins_of l ys ≤ length ys
joins_of_le l [] = omega arith
joins_of_le l (y ∷ ys) = omega (arith, sum_by-cons (joining l) y ys, joining_le l y, joins_of_le l ys)

-- no more pairs join than there are
pub joins_le : (xs ys : List (List Atom)) → joins xs ys ≤ length xs * length ys
joins_le [] ys = omega arith
joins_le (x ∷ xs) ys =
    let more : length (x ∷ xs) * length ys ≡ length ys + length xs * length ys = omega arith in
    omega (arith, sum_by-cons (λ l. joins_of l ys) x xs, joins_of_le x ys, joins_le xs ys, more)

-- the first and the last of a tuple's atoms
abbrev first_of : Atom → List Atom → Atom
first_of d [] = d
first_of d (x ∷ xs) = x

abbrev last_of : Atom → List Atom → Atom
last_of d [] = d
last_of d (x ∷ []) = x
last_of d (x ∷ y ∷ ys) = last_of d (y ∷ ys)

abbrev none : Atom
none = record { top = 0; place = 0 }

-- the atoms that begin the tuples, and those that end them
abbrev firsts : Cells → List Atom
firsts m = map (λ (e : Entry). first_of none e.tuple) m.entries

abbrev lasts : Cells → List Atom
lasts m = map (λ (e : Entry). last_of none e.tuple) m.entries

in_firsts : (m : Cells) (x y : Atom) → ThereIn m (x ∷ y ∷ []) → Contains (firsts m) x
in_firsts m x y g = subst (λ t. Contains (firsts m) (first_of none t)) (sym g.2) (contains_map (λ (e : Entry). first_of none e.tuple) m.entries g.0 g.1)

in_lasts : (m : Cells) (x y : Atom) → ThereIn m (x ∷ y ∷ []) → Contains (lasts m) y
in_lasts m x y g = subst (λ t. Contains (lasts m) (last_of none t)) (sym g.2) (contains_map (λ (e : Entry). last_of none e.tuple) m.entries g.0 g.1)

pub few_atoms : (m : Cells) (n : ℕ) → length m.entries ≤ n → HasFewAtoms n (ThereIn m)
few_atoms m n l = (firsts m, (let e = length-map m.entries (λ (e : Entry). first_of none e.tuple) in omega arith), in_firsts m)

-- each of the one beside each of the other
abbrev pairs : List Atom → List Atom → List (List Atom)
pairs [] ys = []
pairs (x ∷ xs) ys = map (λ y. x ∷ y ∷ []) ys ++ pairs xs ys

pairs_length : (xs ys : List Atom) → length (pairs xs ys) ≡ length xs * length ys
pairs_length [] ys = omega arith
pairs_length (x ∷ xs) ys =
    let more : length (x ∷ xs) * length ys ≡ length ys + length xs * length ys = omega arith in
    omega (arith, length-append (map (λ (y : Atom). x ∷ y ∷ []) ys) (pairs xs ys), length-map ys (λ (y : Atom). x ∷ y ∷ []), pairs_length xs ys, more)

in_pairs : (xs ys : List Atom) (x y : Atom) → Contains xs x → Contains ys y → Contains (pairs xs ys) (x ∷ y ∷ [])
in_pairs [] ys x y c d = absurd (let l = c.1 in omega arith)
in_pairs (z ∷ xs) ys x y (zero, l, e) d = Contains-append_left (map (λ y. z ∷ y ∷ []) ys) (pairs xs ys) (x ∷ y ∷ []) (subst (λ w. Contains (map (λ y. z ∷ y ∷ []) ys) (w ∷ y ∷ [])) e (contains_map (λ (y : Atom). z ∷ y ∷ []) ys y d))
in_pairs (z ∷ xs) ys x y (suc k, l, e) d = Contains-append_right (map (λ y. z ∷ y ∷ []) ys) (pairs xs ys) (x ∷ y ∷ []) (in_pairs xs ys x y (k, omega arith, e) d)

walk_first : (P : Pred) (x : Atom) (ms : List Atom) (y : Atom) → Walk P x ms y → (z : Atom) × P (x ∷ z ∷ [])
walk_first P x [] y w = (y, w)
walk_first P x (m ∷ ms) y w = (m, w.0)

walk_last : (P : Pred) (x : Atom) (ms : List Atom) (y : Atom) → Walk P x ms y → (z : Atom) × P (z ∷ y ∷ [])
walk_last P x [] y w = (x, w)
walk_last P x (m ∷ ms) y w = walk_last P m ms y w.1

-- the closure of at most 8 pairs has at most 64, and at most 4,096 of these join
pub small_room : (m : Cells) (used limit : ℕ) → length m.entries ≤ 8 → used + 393216 < limit → HasRoom used limit (Closed (ThereIn m))
small_room m used limit l room =
    let xs = firsts m in
    let ys = lasts m in
    let rows = pairs xs ys in
    let nx : length xs ≤ 8 = (let e = length-map m.entries (λ (e : Entry). first_of none e.tuple) in omega arith) in
    let ny : length ys ≤ 8 = (let e = length-map m.entries (λ (e : Entry). last_of none e.tuple) in omega arith) in
    let n : length rows ≤ 64 = (let e = pairs_length xs ys in let b : length xs * length ys ≤ 8 * 8 = mul-le-mul nx ny in omega arith) in
    let square : length rows * length rows ≤ 64 * 64 = mul-le-mul n n in
    let all : (t : List Atom) → Closed (ThereIn m) t → Contains rows t = λ t c.
    let f = walk_first (ThereIn m) c.0 c.1 c.2 c.4 in
    let g = walk_last (ThereIn m) c.0 c.1 c.2 c.4 in
    subst (Contains rows) (sym c.3) (in_pairs xs ys c.0 c.2 (in_firsts m c.0 f.0 f.1) (in_lasts m g.0 c.2 g.1)) in (
      all_behind rows rows,
      meetings_there (Closed (ThereIn m)) (Closed (ThereIn m)) rows rows all all,
      omega (arith, joins_le rows rows, all_length rows rows, square, room),
    )
