-- A renaming is told by what it makes of the atoms of each signature.
use Rattle.std.proofs.Common.{◌≡◌, ◌≢◌, inl, inr, ◌<◌, ◌≤◌, ◌*◌, [], ◌∷◌, ℕ, zero, suc, true, List, length, get_or, map, filter, flat_map, All, AllPairs, Contains, refl, sym, ap, ◌∙◌, subst, arith}
use Rattle.std.specs.Prelude.{◌==◌}
use Rattle.std.specs.List.{count_by}
use Rattle.std.proofs.lemmas.Bool.{cases_lt}
use Rattle.std.proofs.lemmas.List.{length-map}
use Rattle.std.proofs.lemmas.List.Concat.{length-flat_map}
use Rattle.std.proofs.lemmas.List.Elements.{All-map}
use Rattle.std.proofs.lemmas.List.Kept.{AllPairs-filter}
use Rattle.std.proofs.lemmas.List.Sums.{sum_by-le, length-filter}
use Rattle.std.proofs.Math.Nat.{mul-le-mul_right, mul_comm}
use Rattle.tuple_core.specs.declared.atom.Atom.{Atom}
use Rattle.tuple_core.specs.Rows.{Rows, IsSetOf}
use Rattle.rel_formula.specs.Bounds.{Bounded, InAtoms}
use Rattle.rel_formula.specs.Renaming.{IsRenaming}
use Rattle.rel_formula.proofs.Images.{map_undone}
use Rattle.rel_formula.proofs.Lists.{pairs_map}
use Rattle.rel_formula.proofs.OpenCells.{cons_cases, filter_has, has_filter, has_map}
use Rattle.renaming_classes.specs.Counts.{factorial, is_of, orders}
use Rattle.translation_rules.proofs.Tests.{from_each}
use Rattle.work_limits.proofs.Arrangements.{in_flat, arrangements, few_arrangements, arranged}

-- the images of the atoms, signature by signature
pub code : (Atom → Atom) → List (List Atom) → ℕ → List (List (List Atom))
code f rows zero = []
code f rows (suc top) = map (map f) (filter (is_of top) rows) ∷ code f rows top

-- all that can be such images
pub codes : List (List Atom) → ℕ → List (List (List (List Atom)))
codes rows zero = [] ∷ []
codes rows (suc top) = flat_map (λ ys. map (λ zs. ys ∷ zs) (codes rows top)) (arrangements (count_by (is_of top) rows) (filter (is_of top) rows))

pub few_codes : (rows : List (List Atom)) (n : ℕ) → length (codes rows n) ≤ orders rows n
unfolding codes
few_codes rows zero = omega arith
few_codes rows (suc top) =
    let count = count_by (is_of top) rows in
    let firsts = arrangements count (filter (is_of top) rows) in
    let here = few_arrangements count (filter (is_of top) rows) (length-filter (is_of top) rows) in
    let below = few_codes rows top in
    let each : All (λ (ys : List (List Atom)). length (map (λ (zs : List (List (List Atom))). ys ∷ zs) (codes rows top)) ≤ orders rows top) firsts = λ k d l.
    let long = length-map (codes rows top) (λ (zs : List (List (List Atom))). get_or firsts k d ∷ zs) in omega arith in
    let sum = sum_by-le (λ (ys : List (List Atom)). length (map (λ (zs : List (List (List Atom))). ys ∷ zs) (codes rows top))) (orders rows top) firsts each in
    let flat = length-flat_map (λ (ys : List (List Atom)). map (λ (zs : List (List (List Atom))). ys ∷ zs) (codes rows top)) firsts in
    let most : length firsts * orders rows top ≤ factorial count * orders rows top = mul-le-mul_right (orders rows top) here in
    let turned : factorial count * orders rows top ≡ orders rows top * factorial count = mul_comm (factorial count) (orders rows top) in
    omega arith

module _ (p : Bounded) (f g : Atom → Atom) (renaming : IsRenaming p f g) (atoms : Rows) (all : IsSetOf atoms 1 (InAtoms p)) (differ : AllPairs (λ x y. x ≢ y) atoms.rows) where
  undone : (row : List Atom) → map g (map f row) ≡ row
  undone row = map_undone g f renaming.back row

  stays : (top : ℕ) (row : List Atom) → Contains (filter (is_of top) atoms.rows) row → Contains (filter (is_of top) atoms.rows) (map f row)
  stays top row c =
      let h = filter_has (is_of top) atoms.rows row c in
      let one = (all.just row).0 h.0 in
      let a = one.0 in
      let same : row ≡ a ∷ [] = one.2 in
      let image : map f row ≡ f a ∷ [] = ap (map f) same in
      let there : Contains atoms.rows (map f row) = (all.just (map f row)).1 (f a, renaming.atoms a one.1, image) in
      let of : is_of top (a ∷ []) ≡ true = subst (λ (r : List Atom). is_of top r ≡ true) same h.1 in
      let kept : is_of top (f a ∷ []) ≡ true = subst (λ n. (n == top) ≡ true) (sym (renaming.tops a)) of in
      has_filter (is_of top) atoms.rows (map f row) there (subst (λ (r : List Atom). is_of top r ≡ true) (sym image) kept)

  -- the images that a renaming makes can be some
  pub has_code : (n : ℕ) → Contains (codes atoms.rows n) (code f atoms.rows n)
  unfolding code codes
  has_code zero = (zero, omega arith, refl)
  has_code (suc top) =
      let mine = filter (is_of top) atoms.rows in
      let count = count_by (is_of top) atoms.rows in
      let long : length (map (map f) mine) ≡ count = length-map mine (map f) ∙ length-filter (is_of top) atoms.rows in
      let apart : AllPairs (λ x y. x ≢ y) (map (map f) mine) = pairs_map (λ (x y : List Atom). x ≢ y) (map f) mine (λ i j d less l e.
      AllPairs-filter (λ (x y : List Atom). x ≢ y) (is_of top) atoms.rows differ i j d less l (sym (undone (get_or mine i d)) ∙ ap (map g) e ∙ undone (get_or mine j d))) in
      let among : All (Contains mine) (map (map f) mine) = All-map (Contains mine) (map f) mine (from_each (λ row. Contains mine (map f row)) mine (stays top)) in
      in_flat (λ (ys : List (List Atom)). map (λ (zs : List (List (List Atom))). ys ∷ zs) (codes atoms.rows top)) (arrangements count mine) (map (map f) mine) (code f atoms.rows (suc top))
      (arranged count mine (map (map f) mine) long apart among)
      (has_map (λ (zs : List (List (List Atom))). map (map f) mine ∷ zs) (codes atoms.rows top) (code f atoms.rows top) (has_code top))

-- two functions with equal images of a list agree on its members
same_on : (F G : List Atom → List Atom) (xs : List (List Atom)) → map F xs ≡ map G xs → (x : List Atom) → Contains xs x → F x ≡ G x
same_on F G [] e x c = absurd (let l = c.1 in omega arith)
same_on F G (y ∷ xs) e x c = elim (cons_cases y xs x c) [
  | inl same ↦ let h : F y ≡ G y = cc in subst (λ z. F z ≡ G z) same h
  | inr later ↦ same_on F G xs (let h : map F xs ≡ map G xs = cc in h) x later
]

-- renamings with one code agree on the atoms
pub code_tells : (f h : Atom → Atom) (rows : List (List Atom)) (n : ℕ) → code f rows n ≡ code h rows n → (row : List Atom) → Contains rows row → (top : ℕ) → top < n → is_of top row ≡ true → map f row ≡ map h row
unfolding code
code_tells f h rows zero e row c top l of = absurd (omega arith)
code_tells f h rows (suc n) e row c top l of = elim (cases_lt top n) [
  | inl less ↦ code_tells f h rows n (let k : code f rows n ≡ code h rows n = cc in k) row c top less of
  | inr past ↦
      let same : top ≡ n = omega arith in
      same_on (map f) (map h) (filter (is_of n) rows) (let k : map (map f) (filter (is_of n) rows) ≡ map (map h) (filter (is_of n) rows) = cc in k) row
      (has_filter (is_of n) rows row c (subst (λ k. is_of k row ≡ true) same of))
]
