-- Formulas of lists, one behind the other, and those of the numbers that a test keeps.
use Rattle.std.proofs.Common.{◌≡◌, ◌≤◌, ◌+◌, ◌++◌, ◌∷◌, [], ℕ, Bool, true, false, cond, List, map, filter, refl, subst, arith}
use Rattle.tuple_core.specs.declared.atom.Atom.{Atom}
use Rattle.rel_formula.specs.Kernel.{FormulaTree, formulas_of}
use Rattle.rel_formula.specs.Meaning.{Structure, AllTrue}
use Rattle.rel_formula.specs.Shape.{AreProper}
use Rattle.rel_terms.specs.Terms.{FormulasHave}

-- ---- truth

module _ (M : Structure) (env : List Atom) where
  pub true_parts : (xs ys : List FormulaTree) → AllTrue M env (formulas_of (xs ++ ys)) → AllTrue M env (formulas_of xs) × AllTrue M env (formulas_of ys)
  true_parts [] ys h = (tt, h)
  true_parts (x ∷ xs) ys h = let more = true_parts xs ys h.1 in ((h.0, more.0), more.1)

  pub true_joined : (xs ys : List FormulaTree) → AllTrue M env (formulas_of xs) → AllTrue M env (formulas_of ys) → AllTrue M env (formulas_of (xs ++ ys))
  true_joined [] ys a b = b
  true_joined (x ∷ xs) ys a b = (a.0, true_joined xs ys a.1 b)

  pub true_kept : (says : ℕ → FormulaTree) (keep : ℕ → Bool) (ns : List ℕ) → AllTrue M env (formulas_of (map says ns)) → AllTrue M env (formulas_of (map says (filter keep ns)))
  true_kept says keep [] h = tt
  true_kept says keep (n ∷ ns) h =
      let rest = true_kept says keep ns h.1 in
      let go : (b : Bool) → AllTrue M env (formulas_of (map says (cond b (n ∷ filter keep ns) (filter keep ns)))) =
      λ b. elim b as (λ b. AllTrue M env (formulas_of (map says (cond b (n ∷ filter keep ns) (filter keep ns))))) [ true ↦ (h.0, rest) | false ↦ rest ] in
      go (keep n)

-- ---- arities

module _ (arities : List ℕ) (depth : ℕ) where
  pub proper_parts : (xs ys : List FormulaTree) → AreProper arities depth (formulas_of (xs ++ ys)) → AreProper arities depth (formulas_of xs) × AreProper arities depth (formulas_of ys)
  proper_parts [] ys h = (tt, h)
  proper_parts (x ∷ xs) ys h = let more = proper_parts xs ys h.1 in ((h.0, more.0), more.1)

  pub proper_joined : (xs ys : List FormulaTree) → AreProper arities depth (formulas_of xs) → AreProper arities depth (formulas_of ys) → AreProper arities depth (formulas_of (xs ++ ys))
  proper_joined [] ys a b = b
  proper_joined (x ∷ xs) ys a b = (a.0, proper_joined xs ys a.1 b)

  pub proper_kept : (says : ℕ → FormulaTree) (keep : ℕ → Bool) (ns : List ℕ) → AreProper arities depth (formulas_of (map says ns)) → AreProper arities depth (formulas_of (map says (filter keep ns)))
  proper_kept says keep [] h = tt
  proper_kept says keep (n ∷ ns) h =
      let rest = proper_kept says keep ns h.1 in
      let go : (b : Bool) → AreProper arities depth (formulas_of (map says (cond b (n ∷ filter keep ns) (filter keep ns)))) =
      λ b. elim b as (λ b. AreProper arities depth (formulas_of (map says (cond b (n ∷ filter keep ns) (filter keep ns))))) [ true ↦ (h.0, rest) | false ↦ rest ] in
      go (keep n)

-- ---- terms

module _ (M : Structure) (env : List Atom) where
  -- the formulas have at most n terms together
  abbrev pub HasAtMost : List FormulaTree → ℕ → Type 0
  HasAtMost xs n = (j : ℕ) × FormulasHave M env (formulas_of xs) j × (j ≤ n)

  pub terms_parts : (xs ys : List FormulaTree) (n : ℕ) → FormulasHave M env (formulas_of (xs ++ ys)) n → (k l : ℕ) × FormulasHave M env (formulas_of xs) k × FormulasHave M env (formulas_of ys) l × (n ≡ k + l)
  terms_parts [] ys n h = (0, n, refl, h, omega arith)
  terms_parts (x ∷ xs) ys n h =
      let more = terms_parts xs ys h.1 h.3 in
      let all : n ≡ (h.0 + more.0) + more.1 = let e = h.4 in let f = more.4 in omega arith in
      (h.0 + more.0, more.1, (h.0, more.0, h.2, more.2, refl), more.3, all)

  pub terms_joined : (xs ys : List FormulaTree) (k l : ℕ) → FormulasHave M env (formulas_of xs) k → FormulasHave M env (formulas_of ys) l → FormulasHave M env (formulas_of (xs ++ ys)) (k + l)
  terms_joined [] ys k l a b = let e : k ≡ 0 = a in subst (FormulasHave M env (formulas_of ys)) (let s : l ≡ k + l = omega arith in s) b
  terms_joined (x ∷ xs) ys k l a b = (a.0, a.1 + l, a.2, terms_joined xs ys a.1 l a.3 b, (let e = a.4 in omega arith))

  pub terms_kept : (says : ℕ → FormulaTree) (keep : ℕ → Bool) (ns : List ℕ) (n : ℕ) → FormulasHave M env (formulas_of (map says ns)) n → HasAtMost (map says (filter keep ns)) n
  terms_kept says keep [] n h = (n, h, omega arith)
  terms_kept says keep (x ∷ ns) n h =
      let rest = terms_kept says keep ns h.1 h.3 in
      let go : (b : Bool) → HasAtMost (map says (cond b (x ∷ filter keep ns) (filter keep ns))) n =
      λ b. elim b as (λ b. HasAtMost (map says (cond b (x ∷ filter keep ns) (filter keep ns))) n) [
        | true ↦ (h.0 + rest.0, (h.0, rest.0, h.2, rest.1, refl), (let e = h.4 in let l = rest.2 in omega arith))
        | false ↦ (rest.0, rest.1, (let e = h.4 in let l = rest.2 in omega arith))
      ] in
      go (keep x)
