-- Formulas of lists, one behind the other, and formulas by their numbers.
use Rattle.std.specs.Prelude.{slice_index_or, flat_map}
use Rattle.std.proofs.Common.{◌≡◌, inl, inr, ℕ, zero, suc, ◌+◌, ◌-◌, ◌<◌, Bool, true, List, [], ◌∷◌, ◌++◌, map, length, slice_get, Some, Contains, append_assoc, refl, sym, ◌∙◌, ap, subst, arith, add-zero}
use Rattle.std.specs.List.{range_with_len}
use Rattle.std.proofs.lemmas.Bool.{cases_Bool}
use Rattle.std.proofs.lemmas.List.{length-append}
use Rattle.std.proofs.lemmas.Option.{get_or_from_slice_get}
use Rattle.rel_formula.proofs.OpenCells.{cons_cases, cons_first, cons_later}
use Rattle.rel_formula.specs.Kernel.{FormulaTree, formulas_of}
use Rattle.rel_formula.specs.Meaning.{Structure, Truth, AllTrue}
use Rattle.named_model.specs.declared.named.Signature.{Signature}
use Rattle.named_model.specs.Signatures.{numbers_where}
use Rattle.named_model.specs.Model.{FieldTree}
use Rattle.lowering_rules.specs.Lowering.{Base}
use Rattle.lowering_rules.specs.Formula.{field_says, fields_say}
use Rattle.lowering_rules.proofs.Arities.{behind}
use Rattle.lowering_laws.proofs.Orderings.Lines.{none_in}

-- ---- truth

module _ (M : Structure) where
  abbrev pub True : List FormulaTree → Type 0
  True fs = AllTrue M [] (formulas_of fs)

  pub true_parts : (xs ys : List FormulaTree) → True (xs ++ ys) → True xs × True ys
  true_parts [] ys h = (tt, h)
  true_parts (x ∷ xs) ys h = let more = true_parts xs ys h.1 in ((h.0, more.0), more.1)

  pub true_joined : (xs ys : List FormulaTree) → True xs → True ys → True (xs ++ ys)
  true_joined [] ys a b = b
  true_joined (x ∷ xs) ys a b = (a.0, true_joined xs ys a.1 b)

  pub true_of : {X : Type 0} (says : X → FormulaTree) (xs : List X) → True (map says xs) → (x : X) → Contains xs x → Truth M [] (says x)
  true_of says [] h x c = absurd (none_in x c)
  true_of says (y ∷ ys) h x c = elim (cons_cases y ys x c) [
    | inl same ↦ subst (λ z. Truth M [] (says z)) same h.0
    | inr later ↦ true_of says ys h.1 x later
  ]

  pub all_true : {X : Type 0} (says : X → FormulaTree) (xs : List X) → ((x : X) → Contains xs x → Truth M [] (says x)) → True (map says xs)
  all_true says [] h = tt
  all_true says (x ∷ xs) h = (h x (cons_first x xs), all_true says xs (λ y c. h y (cons_later x xs y c)))

  pub true_among : {X : Type 0} (says : X → List FormulaTree) (xs : List X) → True (flat_map says xs) → (x : X) → Contains xs x → True (says x)
  true_among says [] h x c = absurd (none_in x c)
  true_among says (y ∷ ys) h x c =
      let both = true_parts (says y) (flat_map says ys) h in
      elim (cons_cases y ys x c) [
        | inl same ↦ subst (λ z. True (says z)) same both.0
        | inr later ↦ true_among says ys both.1 x later
      ]

  pub true_field : (base : Base) (r : ℕ) (fs : List FieldTree) → True (fields_say base r fs) → (i : ℕ) (f : FieldTree) → slice_get fs i ≡ Some f → True (field_says base (r + i) f)
  true_field base r [] h i f e = absurd cc
  true_field base r (x ∷ fs) h zero f e =
      let same : x ≡ f = cc in
      let here = (true_parts (field_says base r x) (fields_say base (r + 1) fs) h).0 in
      subst (λ k. True (field_says base k f)) (sym (add-zero r)) (subst (λ z. True (field_says base r z)) same here)
  true_field base r (x ∷ fs) h (suc i) f e =
      let rest = (true_parts (field_says base r x) (fields_say base (r + 1) fs) h).1 in
      let number : r + 1 + i ≡ r + suc i = omega arith in
      subst (λ k. True (field_says base k f)) number (true_field base (r + 1) fs rest i f e)

-- ---- numbers

pub range_parts : (a n k : ℕ) → range_with_len a (n + k) ≡ range_with_len a n ++ range_with_len (a + n) k
range_parts a zero k = let none : zero + k ≡ k = omega arith in ap (range_with_len a) none ∙ ap (λ b. range_with_len b k) (sym (add-zero a))
range_parts a (suc n) k =
    let count : suc n + k ≡ suc (n + k) = omega arith in
    let next : a + 1 + n ≡ a + suc n = omega arith in
    ap (range_with_len a) count ∙ ap (λ ns. a ∷ ns) (range_parts (a + 1) n k ∙ ap (λ b. range_with_len (a + 1) n ++ range_with_len b k) next)

pub in_range : (a n i : ℕ) → i < n → Contains (range_with_len a n) (a + i)
in_range a zero i l = absurd (omega (arith, l))
in_range a (suc n) zero l = subst (Contains (range_with_len a (suc n))) (sym (add-zero a)) (cons_first a (range_with_len (a + 1) n))
in_range a (suc n) (suc i) l =
    let number : a + 1 + i ≡ a + suc i = omega arith in
    subst (Contains (range_with_len a (suc n))) number (cons_later a (range_with_len (a + 1) n) (a + 1 + i) (in_range (a + 1) n i (omega (arith, l))))

-- what stands behind a list, by numbers from 1 on
pub numbered_behind : {X Y : Type 0} (f : X → Y) (d : X) (xs ys : List X) →
    map (λ n. f (slice_index_or (xs ++ ys) (n - 1) d)) (range_with_len (1 + length xs) (length ys)) ≡ map f ys
numbered_behind f d xs [] = refl
numbered_behind f d xs (y ∷ ys) =
    let at : slice_get (xs ++ y ∷ ys) (length xs) ≡ Some y = ap (slice_get (xs ++ y ∷ ys)) (sym (add-zero (length xs))) ∙ behind xs (y ∷ ys) 0 in
    let less : 1 + length xs - 1 ≡ length xs = omega arith in
    let first : slice_index_or (xs ++ y ∷ ys) (1 + length xs - 1) d ≡ y = ap (λ n. slice_index_or (xs ++ y ∷ ys) n d) less ∙ get_or_from_slice_get (xs ++ y ∷ ys) (length xs) y d at in
    let whole : xs ++ y ∷ ys ≡ xs ++ y ∷ [] ++ ys = sym (append_assoc xs (y ∷ []) ys) in
    let next : 1 + length xs + 1 ≡ 1 + length (xs ++ y ∷ []) = (let long = length-append xs (y ∷ []) in omega (arith, long)) in
    let rest = numbered_behind f d (xs ++ y ∷ []) ys in
    let there : map (λ n. f (slice_index_or (xs ++ y ∷ ys) (n - 1) d)) (range_with_len (1 + length xs + 1) (length ys)) ≡ map f ys =
    (λ i. map (λ n. f (slice_index_or (whole i) (n - 1) d)) (range_with_len (next i) (length ys))) ∙ rest in
    λ i. f (first i) ∷ there i

-- a number is picked where its signature passes the test
pub passing : (test : Signature → Bool) (k : ℕ) (xs : List Signature) (i : ℕ) (x : Signature) → slice_get xs i ≡ Some x → test x ≡ true → Contains (numbers_where test k xs) (k + i)
passing test k [] i x at e = absurd cc
passing test k (y ∷ xs) zero x at e =
    let same : y ≡ x = cc in
    let holds : test y ≡ true = subst (λ z. test z ≡ true) (sym same) e in
    rw holds (subst (Contains (k ∷ numbers_where test (k + 1) xs)) (sym (add-zero k)) (cons_first k (numbers_where test (k + 1) xs)))
passing test k (y ∷ xs) (suc i) x at e =
    let number : k + 1 + i ≡ k + suc i = omega arith in
    let rest : Contains (numbers_where test (k + 1) xs) (k + suc i) = subst (Contains (numbers_where test (k + 1) xs)) number (passing test (k + 1) xs i x at e) in
    elim (cases_Bool (test y)) [
      | inl holds ↦ rw holds (cons_later k (numbers_where test (k + 1) xs) (k + suc i) rest)
      | inr fails ↦ rw fails rest
    ]
