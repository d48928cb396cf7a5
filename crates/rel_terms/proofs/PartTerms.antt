-- The terms of lists of formulas, and of a formula at the atoms of a list, part by part.
use Rattle.std.proofs.Common.{◌≡◌, ℕ, suc, ◌+◌, ◌≤◌, ◌<◌, ◌^◌, List, [], ◌∷◌, ◌++◌, map, take, drop, length, get_or, All, Vec, Global, refl, sym, ◌∙◌, ap, subst, arith}
use Rattle.std.proofs.lemmas.List.{take_more, take_all, take-append-drop}
use Rattle.tuple_core.specs.declared.atom.Atom.{Atom}
use Rattle.tuple_core.specs.Operators.{Pred, BeginsWith}
use Rattle.rel_formula.specs.declared.formula.Formula.{Formula, Junction}
use Rattle.rel_formula.specs.declared.connectives.Connective.{Connective}
use Rattle.rel_formula.specs.Kernel.{FormulaTree, formulas_of}
use Rattle.rel_formula.specs.View.{formula_tree}
use Rattle.rel_formula.specs.Meaning.{Structure}
use Rattle.rel_formula.specs.Sizes.{IsListOf}
use Rattle.rel_formula.proofs.AndOrParts.{Junction-tree}
use Rattle.rel_terms.specs.Numbers.{Number, Is, ◌⊕◌}
use Rattle.rel_terms.specs.Terms.{FormulaHas, FormulasHave, SumsTo, SumsOver}
use Rattle.rel_terms.specs.Counting.{Adds, RowsHave}
use Rattle.rel_terms.proofs.TupleSizes.{list_once}
use Rattle.rel_terms.proofs.Adding.{adds_both, adds_none, adds_above, adds_right, sum_left, sum_right}
use Rattle.rel_terms.proofs.Counted.{Alike, alike_itself, alike_sum, adds_alike}

alike_none : (C : Number) → Alike (Is 0 ⊕ C) C
alike_none C n = (λ h. subst C (let e = h.2 in let s = h.4 in omega arith) h.3, λ c. (0, n, refl, c, omega arith))

alike_then : (C D E : Number) → Alike C D → Alike D E → Alike C E
alike_then C D E p q n = (λ h. (q n).0 ((p n).0 h), λ h. (p n).1 ((q n).1 h))

-- the numbers of two lists are those of both together
more_left : (B C D E : Number) → Alike (C ⊕ D) E → Alike ((B ⊕ C) ⊕ D) (B ⊕ E)
more_left B C D E p = alike_then ((B ⊕ C) ⊕ D) (B ⊕ (C ⊕ D)) (B ⊕ E) (λ n. (sum_right B C D n, sum_left B C D n)) (alike_sum B (C ⊕ D) B E (alike_itself B) p)

module _ (M : Structure) (env : List Atom) where
  -- the terms of these formulas
  abbrev pub PartsHave : List Formula → Number
  PartsHave fs = FormulasHave M env (formulas_of (map formula_tree fs))

  pub parts_append : (fs gs : List Formula) → Alike (PartsHave fs ⊕ PartsHave gs) (PartsHave (fs ++ gs))
  parts_append [] gs = alike_none (PartsHave gs)
  parts_append (f ∷ fs) gs = more_left (FormulaHas M env (formula_tree f)) (PartsHave fs) (PartsHave gs) (PartsHave (fs ++ gs)) (parts_append fs gs)

  pub parts_none : (fs : List Formula) (b a : ℕ) → Adds (Is 1) b a → Adds (Is 1 ⊕ PartsHave (take 0 fs)) b a
  parts_none fs b a h = adds_both (Is 1) (Is 0) b a a h (adds_none a)

  pub parts_more : (fs : List Formula) (i : ℕ) (f : Formula) (b m a : ℕ) → i < length fs → f ≡ get_or fs i f →
      Adds (Is 1 ⊕ PartsHave (take i fs)) b m → Adds (FormulaHas M env (formula_tree f)) m a → Adds (Is 1 ⊕ PartsHave (take (i + 1) fs)) b a
  parts_more fs i f b m a l e h g =
      let xs = take i fs in
      let F = FormulaHas M env (formula_tree f) in
      let one = adds_both F (Is 0) m a a g (adds_none a) in
      let all = adds_right (Is 1) (PartsHave xs) (F ⊕ Is 0) b a (adds_both (Is 1 ⊕ PartsHave xs) (F ⊕ Is 0) b m a h one) in
      let sums = adds_alike (Is 1 ⊕ (PartsHave xs ⊕ (F ⊕ Is 0))) (Is 1 ⊕ PartsHave (xs ++ f ∷ [])) b a (alike_sum (Is 1) (PartsHave xs ⊕ (F ⊕ Is 0)) (Is 1) (PartsHave (xs ++ f ∷ [])) (alike_itself (Is 1)) (parts_append xs (f ∷ []))) all in
      subst (λ ys. Adds (Is 1 ⊕ PartsHave ys) b a) (sym (take_more fs i f l ∙ ap (λ y. xs ++ y ∷ []) (sym e))) sums

  pub parts_all : (fs : List Formula) (i : ℕ) (b a : ℕ) → length fs ≤ i → Adds (Is 1 ⊕ PartsHave (take i fs)) b a → Adds (Is 1 ⊕ PartsHave fs) b a
  parts_all fs i b a l h = subst (λ ys. Adds (Is 1 ⊕ PartsHave ys) b a) (take_all i fs l) h

  -- above the limit the rest doesn't matter
  pub parts_above : (fs : List Formula) (i : ℕ) (b a : ℕ) → 2 ^ 18 < a → Adds (Is 1 ⊕ PartsHave (take i fs)) b a → Adds (Is 1 ⊕ PartsHave fs) b a
  parts_above fs i b a over h =
      let xs = take i fs in
      let ys = drop i fs in
      let all = adds_right (Is 1) (PartsHave xs) (PartsHave ys) b a (adds_both (Is 1 ⊕ PartsHave xs) (PartsHave ys) b a a h (adds_above (PartsHave ys) a over)) in
      let sums = adds_alike (Is 1 ⊕ (PartsHave xs ⊕ PartsHave ys)) (Is 1 ⊕ PartsHave (xs ++ ys)) b a (alike_sum (Is 1) (PartsHave xs ⊕ PartsHave ys) (Is 1) (PartsHave (xs ++ ys)) (alike_itself (Is 1)) (parts_append xs ys)) all in
      subst (λ zs. Adds (Is 1 ⊕ PartsHave zs) b a) (take-append-drop i fs) sums

  pub adds_junction : (c : Connective) (parts : Vec Formula Global) (b a : ℕ) → Adds (Is 1 ⊕ PartsHave parts.items) b a → Adds (FormulaHas M env (formula_tree (Junction c parts))) b a
  adds_junction c parts b a h = subst (λ (g : FormulaTree). Adds (FormulaHas M env g) b a) (sym (Junction-tree c parts)) h

module _ (M : Structure) (env : List Atom) (more : ℕ) (f : FormulaTree) where
  -- what the formula adds at an atom
  abbrev pub AtomHas : Atom → Number
  AtomHas a = Is more ⊕ FormulaHas M (a ∷ env) f

  pub rows_append : (xs ys : List (List Atom)) → Alike (RowsHave M env more f xs ⊕ RowsHave M env more f ys) (RowsHave M env more f (xs ++ ys))
  rows_append [] ys = alike_none (RowsHave M env more f ys)
  rows_append ([] ∷ xs) ys = rows_append xs ys
  rows_append ((x ∷ t) ∷ xs) ys = more_left (AtomHas x) (RowsHave M env more f xs) (RowsHave M env more f ys) (RowsHave M env more f (xs ++ ys)) (rows_append xs ys)

  pub rows_none : (xs : List (List Atom)) (b : ℕ) → Adds (RowsHave M env more f (take 0 xs)) b b
  rows_none xs b = adds_none b

  pub rows_more : (xs : List (List Atom)) (i : ℕ) (row : List Atom) (x : Atom) (b m a : ℕ) → i < length xs → row ≡ get_or xs i row → BeginsWith x row →
      Adds (RowsHave M env more f (take i xs)) b m → Adds (AtomHas x) m a → Adds (RowsHave M env more f (take (i + 1) xs)) b a
  rows_more xs i row x b m a l e begins h g =
      let ys = take i xs in
      let one = adds_both (AtomHas x) (Is 0) m a a g (adds_none a) in
      let here : Adds (RowsHave M env more f (row ∷ [])) m a = subst (λ r. Adds (RowsHave M env more f (r ∷ [])) m a) (sym begins.1) one in
      let both = adds_both (RowsHave M env more f ys) (RowsHave M env more f (row ∷ [])) b m a h here in
      let sums = adds_alike (RowsHave M env more f ys ⊕ RowsHave M env more f (row ∷ [])) (RowsHave M env more f (ys ++ row ∷ [])) b a (rows_append ys (row ∷ [])) both in
      subst (λ zs. Adds (RowsHave M env more f zs) b a) (sym (take_more xs i row l ∙ ap (λ y. ys ++ y ∷ []) (sym e))) sums

  pub rows_all : (xs : List (List Atom)) (i : ℕ) (b a : ℕ) → length xs ≤ i → Adds (RowsHave M env more f (take i xs)) b a → Adds (RowsHave M env more f xs) b a
  rows_all xs i b a l h = subst (λ ys. Adds (RowsHave M env more f ys) b a) (take_all i xs l) h

  pub rows_above : (xs : List (List Atom)) (i : ℕ) (b a : ℕ) → 2 ^ 18 < a → Adds (RowsHave M env more f (take i xs)) b a → Adds (RowsHave M env more f xs) b a
  rows_above xs i b a over h =
      let ys = take i xs in
      let zs = drop i xs in
      let both = adds_both (RowsHave M env more f ys) (RowsHave M env more f zs) b a a h (adds_above (RowsHave M env more f zs) a over) in
      let sums = adds_alike (RowsHave M env more f ys ⊕ RowsHave M env more f zs) (RowsHave M env more f (ys ++ zs)) b a (rows_append ys zs) both in
      subst (λ us. Adds (RowsHave M env more f us) b a) (take-append-drop i xs) sums

  abbrev singles : List Atom → List (List Atom)
  singles atoms = map (λ (a : Atom). a ∷ []) atoms

  row_sums : (atoms : List Atom) → Alike (RowsHave M env more f (singles atoms)) (SumsTo AtomHas atoms)
  row_sums [] = alike_itself (Is 0)
  row_sums (a ∷ atoms) = alike_sum (AtomHas a) (RowsHave M env more f (singles atoms)) (AtomHas a) (SumsTo AtomHas atoms) (alike_itself (AtomHas a)) (row_sums atoms)

  atoms_of : (rows : List (List Atom)) → All (λ t. length t ≡ 1) rows → (atoms : List Atom) × (rows ≡ singles atoms)
  atoms_of [] one = ([], refl)
  atoms_of ([] ∷ rows) one = absurd (let e = one 0 [] (omega arith) in omega arith)
  atoms_of ((a ∷ []) ∷ rows) one =
      let rest = atoms_of rows (λ k d l. one (suc k) d (omega arith)) in
      (a ∷ rest.0, ap (λ rs. (a ∷ []) ∷ rs) rest.1)
  atoms_of ((a ∷ b ∷ t) ∷ rows) one = absurd (let e = one 0 [] (omega arith) in omega arith)

  -- over the rows of a unary set it is the sum over the set
  pub rows_sums : (P : Pred) (rows : List (List Atom)) → All (λ t. length t ≡ 1) rows → IsListOf P rows → Alike (RowsHave M env more f rows) (SumsOver P AtomHas)
  rows_sums P rows one list =
      let at = atoms_of rows one in
      λ n. (
        λ h. (at.0, subst (IsListOf P) at.1 list, (row_sums at.0 n).0 (subst (λ rs. RowsHave M env more f rs n) at.1 h)),
        λ s. subst (λ rs. RowsHave M env more f rs n) (list_once P (singles s.0) rows s.1 list) ((row_sums s.0 n).1 s.2),
      )
