-- Lists of clauses about cells, made one after the other.
use Rattle.std.proofs.Common.{◌≡◌, ◌↔◌, inl, inr, ◌<◌, ◌≤◌, ◌+◌, ◌^◌, ℕ, zero, suc, Bool, true, false, not, cond, List, [], ◌∷◌, ◌++◌, map, take, filter, length, get_or, All, AllPairs, Contains, refl, sym, ◌∙◌, ap, arith}
use Rattle.std.specs.Prelude.{nat_eq}
use Rattle.std.specs.List.{list_any, range_with_len}
use Rattle.std.proofs.lemmas.Bool.{cases_Bool, cases_lt}
use Rattle.std.proofs.lemmas.List.{map-append, append_assoc, append-nil}
use Rattle.std.proofs.lemmas.List.Elements.{filter-append, All-map, All-filter}
use Rattle.std.proofs.lemmas.List.Kept.{AllPairs-filter}
use Rattle.std.proofs.Math.Seq.{take-suc}
use Rattle.cnf_core.specs.declared.literal.Lit.{Lit}
use Rattle.cnf_core.specs.Literal.{IsClause, IsVariable, negation_of}
use Rattle.rel_formula.specs.Bounds.{Bounded, cells_of}
use Rattle.rel_formula.specs.Instance.{AreCells}
use Rattle.rel_formula.proofs.Lists.{pairs_map}
use Rattle.translation_rules.specs.Translation.{var_of}
use Rattle.translation_rules.specs.Locals.{literal_of, absence_in}
use Rattle.translation_rules.specs.Descents.{outside}
use Rattle.translation_rules.proofs.Tests.{any_number}

-- the first elements, one more of them
one_more : {X : Type 0} (xs : List X) (i : ℕ) (d : X) → i < length xs → take (i + 1) xs ≡ take i xs ++ get_or xs i d ∷ []
one_more xs i d l = ap (λ n. take n xs) (let e : i + 1 ≡ suc i = omega arith in e) ∙ take-suc xs i d l

-- rising numbers below another are at most as many
rising_at : (s : List ℕ) → AllPairs (λ m n. m < n) s → (k : ℕ) (d : ℕ) → k < length s → k ≤ get_or s k d
rising_at s up zero d h = omega arith
rising_at s up (suc k) d h =
    let before = rising_at s up k d (omega arith) in
    let step = up k (suc k) d (omega arith) h in
    omega arith

pub few_cells : (count : ℕ) (s : List ℕ) → AllPairs (λ m n. m < n) s → All (λ n. n < count) s → length s ≤ count
few_cells count s up below = elim (cases_lt count (length s)) [
  | inl more ↦ let high = rising_at s up count 0 more in let low = below count 0 more in absurd (omega arith)
  | inr few ↦ few
]

-- whether a scenario has a cell
tested : (s : List ℕ) (n : ℕ) (b : Bool) → (b ≡ true) ↔ Contains s n → list_any (nat_eq n) s ≡ b
tested s n b has = elim (cases_Bool b) [
  | inl t ↦ (any_number n s).1 (has.0 t) ∙ sym t
  | inr f ↦ elim (cases_Bool (list_any (nat_eq n) s)) [ inl u ↦ absurd (let t = has.1 ((any_number n s).0 u) in cc) | inr v ↦ v ∙ sym f ]
]

module _ (s : List ℕ) (cells : List ℕ) (n : ℕ) (b : Bool) (has : (b ≡ true) ↔ Contains s n) where
  abbrev test : ℕ → Bool
  test cell = not (list_any (nat_eq cell) s)

  -- a cell outside is kept
  kept : b ≡ false → outside s (cells ++ n ∷ []) ≡ outside s cells ++ n ∷ []
  kept f = filter-append test cells (n ∷ []) ∙ ap (λ c. outside s cells ++ cond (not c) (n ∷ []) []) (tested s n b has ∙ f)

  -- one inside is dropped
  dropped : b ≡ true → outside s (cells ++ n ∷ []) ≡ outside s cells
  dropped t = filter-append test cells (n ∷ []) ∙ ap (λ c. outside s cells ++ cond (not c) (n ∷ []) []) (tested s n b has ∙ t) ∙ append-nil (outside s cells)

module _ (s cells : List ℕ) (i d : ℕ) (b : Bool) (l : i < length cells) (has : (b ≡ true) ↔ Contains s (get_or cells i d)) where
  pub kept_of : b ≡ false → outside s (take (i + 1) cells) ≡ outside s (take i cells) ++ get_or cells i d ∷ []
  kept_of f = ap (outside s) (one_more cells i d l) ∙ kept s (take i cells) (get_or cells i d) b has f

  pub dropped_of : b ≡ true → outside s (take (i + 1) cells) ≡ outside s (take i cells)
  dropped_of t = ap (outside s) (one_more cells i d l) ∙ dropped s (take i cells) (get_or cells i d) b has t

range_push : (a n : ℕ) → range_with_len a (suc n) ≡ range_with_len a n ++ (a + n) ∷ []
range_push a zero = ap (λ k. k ∷ []) (let e : a ≡ a + 0 = omega arith in e)
range_push a (suc n) = ap (λ zs. a ∷ zs) (range_push (a + 1) n) ∙ ap (λ k. a ∷ (range_with_len (a + 1) n ++ k ∷ [])) (let e : a + 1 + n ≡ a + suc n = omega arith in e)

range_next : (n : ℕ) → range_with_len 0 (n + 1) ≡ range_with_len 0 n ++ n ∷ []
range_next n =
    ap (range_with_len 0) (let e : n + 1 ≡ suc n = omega arith in e) ∙ range_push 0 n ∙ ap (λ k. range_with_len 0 n ++ k ∷ []) (let e : 0 + n ≡ n = omega arith in e)

module _ (s : List ℕ) (n : ℕ) (b : Bool) (has : (b ≡ true) ↔ Contains s n) where
  range_kept : b ≡ false → outside s (range_with_len 0 (n + 1)) ≡ outside s (range_with_len 0 n) ++ n ∷ []
  range_kept f = ap (outside s) (range_next n) ∙ kept s (range_with_len 0 n) n b has f

  -- one absence more
  pub absence_more : (base now : List (List Lit)) → now ≡ base ++ map (λ cell. negation_of (literal_of cell) ∷ []) (outside s (range_with_len 0 n)) → b ≡ false →
      now ++ (negation_of (literal_of n) ∷ []) ∷ [] ≡ base ++ map (λ cell. negation_of (literal_of cell) ∷ []) (outside s (range_with_len 0 (n + 1)))
  absence_more base now e f =
      let g : ℕ → List Lit = λ cell. negation_of (literal_of cell) ∷ [] in
      ap (λ zs. zs ++ g n ∷ []) e ∙ append_assoc base (map g (outside s (range_with_len 0 n))) (g n ∷ [])
      ∙ sym (ap (λ zs. base ++ zs) (ap (map g) (range_kept f) ∙ map-append g (outside s (range_with_len 0 n)) (n ∷ [])))

  -- and none
  pub absence_same : (base now : List (List Lit)) → now ≡ base ++ map (λ cell. negation_of (literal_of cell) ∷ []) (outside s (range_with_len 0 n)) → b ≡ true →
      now ≡ base ++ map (λ cell. negation_of (literal_of cell) ∷ []) (outside s (range_with_len 0 (n + 1)))
  absence_same base now e t = e ∙ sym (ap (λ cells. base ++ map (λ cell. negation_of (literal_of cell) ∷ []) cells) (ap (outside s) (range_next n) ∙ dropped s (range_with_len 0 n) n b has t))

-- the absences of rising cells are a clause
pub absence_clause : (cells : List ℕ) → All (λ cell. IsVariable (var_of cell)) cells → AllPairs (λ m n. m < n) cells → IsClause (absence_in cells)
absence_clause cells variables rising = record {
  rising = pairs_map (λ (a b : Lit). a.var < b.var) (λ cell. negation_of (literal_of cell)) cells (λ j k d less l. let h = rising j k d less l in omega arith);
  variables = All-map (λ (l : Lit). IsVariable l.var) (λ cell. negation_of (literal_of cell)) cells variables;
}

-- the cells of a problem have variables
pub have_variables : (p : Bounded) (cells : List ℕ) → length (cells_of p) ≤ 4096 → AreCells p cells → All (λ cell. IsVariable (var_of cell)) cells
have_variables p cells few are k d l = let h = are k d l in (omega arith, omega arith)

-- what is true of cells, or of each two of them, is true of those outside
pub all_outside : (P : ℕ → Type 0) (s cells : List ℕ) → All P cells → All P (outside s cells)
all_outside P s cells all = All-filter (λ cell. not (list_any (nat_eq cell) s)) P cells all

pub outside_rises : (s cells : List ℕ) → AllPairs (λ m n. m < n) cells → AllPairs (λ m n. m < n) (outside s cells)
outside_rises s cells up = AllPairs-filter (λ m n. m < n) (λ cell. not (list_any (nat_eq cell) s)) cells up
