-- One cell and its image.
use Rattle.std.proofs.Common.{◌≡◌, ◌↔◌, inl, inr, ◌<◌, ◌≤◌, ◌+◌, ℕ, Bool, true, false, cond, eqb, Option, Some, None, List, map, length, slice_get, IsTrue, refl, sym, ◌∙◌, ap, subst, arith}
use Rattle.std.proofs.lemmas.Bool.{cases_lt, eq-eqb, ne_eqb}
use Rattle.tuple_core.specs.declared.atom.Atom.{Atom}
use Rattle.tuple_core.specs.Swap.{swap_atoms}
use Rattle.cnf_core.specs.declared.literal.Lit.{Lit}
use Rattle.cnf_core.specs.Valuation.{Satisfies}
use Rattle.refutation_check.specs.SearchLog.{IsVarOf}
use Rattle.rel_formula.specs.Bounds.{Bounded, IsProblem, cell_of, cells_of}
use Rattle.rel_formula.specs.Renaming.{IsCellImage}
use Rattle.rel_formula.proofs.Images.{map_undone, cell_parts}
use Rattle.rel_formula.proofs.Lists.{some_below}
use Rattle.rel_formula.proofs.OpenCells.{cell_once}
use Rattle.rel_formula.proofs.SwapLaws.{swap_back}
use Rattle.swap_symmetry.specs.Swaps.{IsTakenInto}
use Rattle.swap_symmetry.proofs.SwapLemmas.{taken_at, taken_nowhere}
use Rattle.translation_rules.specs.Translation.{var_of}
use Rattle.translation_rules.proofs.Joining.{carried}
use Rattle.translation.specs.SwapChains.Comparison.{image_value, AreCompared, Compares}
use Rattle.translation.specs.SwapChains.Chain.{chosen_by, AreAlikeBelow, ComparesCell}

no_number : (k : ℕ) (o : Option ℕ) → o ≡ None → o ≡ Some k → ⊥
no_number k o none e = cc

same_number : (m k : ℕ) → Some m ≡ Some k → m ≡ k
same_number m k e = cc

-- whether all were alike so far and these two are
abbrev still_alike : Bool → Bool → Bool → Bool
still_alike false x y = false
still_alike true true y = y
still_alike true false true = false
still_alike true false false = true

still_says : (e x y : Bool) → still_alike e x y ≡ true → (e ≡ true) × (x ≡ y)
still_says false x y h = absurd (let k : false ≡ true = h in cc)
still_says true true y h = (refl, sym h)
still_says true false true h = absurd (let k : false ≡ true = h in cc)
still_says true false false h = (refl, refl)

still_made : (e x y : Bool) → e ≡ true → x ≡ y → still_alike e x y ≡ true
still_made false x y h same = absurd (cc)
still_made true true true h same = refl
still_made true true false h same = absurd (cc)
still_made true false true h same = absurd (cc)
still_made true false false h same = refl

same_bool : (x y : Bool) → (IsTrue x ↔ IsTrue y) → x ≡ y
same_bool true y h = sym (h.0 refl)
same_bool false true h = h.1 refl
same_bool false false h = refl

-- a valuation but for one variable
abbrev pub with_value : ℕ → Bool → (ℕ → Bool) → ℕ → Bool
with_value var value v n = cond (eqb n var) value (v n)

pub value_there : (var : ℕ) (value : Bool) (v : ℕ → Bool) → with_value var value v var ≡ value
value_there var value v = ap (λ t. cond t value (v var)) (eq-eqb var var refl)

pub value_elsewhere : (var : ℕ) (value : Bool) (v : ℕ → Bool) (n : ℕ) → (n ≡ var → ⊥) → with_value var value v n ≡ v n
value_elsewhere var value v n other = ap (λ t. cond t value (v n)) (ne_eqb n var other)

module _ (p : Bounded) (a b : Atom) (cell : ℕ) where
  abbrev f : Atom → Atom
  f = swap_atoms a b

  -- these are the numbers of the cell's image
  abbrev Is : Option ℕ → Type 0
  Is image = (n : ℕ) → (image ≡ Some n) ↔ IsCellImage p (swap_atoms a b) cell n

  -- the cell is taken into the chosen ones exactly where the image is chosen
  taken_is : (image : Option ℕ) → Is image → (v : ℕ → Bool) → IsTakenInto p a b (chosen_by v) cell ↔ IsTrue (image_value v image)
  taken_is None is v = (
    λ t. absurd (taken_nowhere p a b cell None is (chosen_by v) refl t),
    λ h. absurd (let x : false ≡ true = h in cc),
  )
  taken_is (Some m) is v = taken_at p a b cell (Some m) is (chosen_by v) m refl

  module _ (well : IsProblem p) (m : ℕ) (is : Is (Some m)) (C : ℕ → Type 0) where
    abbrev i : IsCellImage p (swap_atoms a b) cell m
    i = (is m).0 refl

    into_image : IsTakenInto p a b C cell ↔ C m
    into_image = taken_at p a b cell (Some m) is C m refl

    -- and the image is taken to the cell
    back_row : map f (map f i.1) ≡ i.1
    back_row = map_undone (swap_atoms a b) (swap_atoms a b) (swap_back a b) i.1

    from_image : IsTakenInto p a b C m ↔ C cell
    from_image = (
      λ (r, row, at, (k, c, e)).
          let parts = cell_parts m r i.0 row (map f i.1) (cells_of p) at i.3 in
          let here : slice_get (cells_of p) k ≡ Some (cell_of i.0 i.1) = e ∙ ap (λ q. Some (cell_of q (map f row))) parts.0 ∙ ap (λ u. Some (cell_of i.0 (map f u))) parts.1 ∙ ap (λ u. Some (cell_of i.0 u)) back_row in
          subst C (cell_once p k cell i.0 i.1 well here i.2) c,
      λ c. (i.0, map f i.1, i.3, (cell, c, i.2 ∙ ap (λ u. Some (cell_of i.0 u)) (sym back_row))),
    )

    -- a cell whose image comes no later is alike where those before are
    pub already_alike : m ≤ cell → AreAlikeBelow p a b C cell → IsTakenInto p a b C cell ↔ C cell
    already_alike low alike = elim (cases_lt m cell) [
      | inl less ↦
          let there = alike m less in (
            λ t. from_image.0 (there.1 (into_image.0 t)),
            λ c. into_image.1 (there.0 (from_image.1 c)),
          )
      | inr past ↦
          let same : m ≡ cell = omega arith in (
            λ t. subst C same (into_image.0 t),
            λ c. into_image.1 (subst C (sym same) c),
          )
    ]

  -- such a cell needs no clauses
  pub passed : IsProblem p → (image : Option ℕ) → Is image → (((m : ℕ) → image ≡ Some m → cell < m) → ⊥) → (so_far : ℕ) (old : List (List Lit)) → ComparesCell p a b cell so_far so_far old old
  passed well None is early so_far old = absurd (early (λ m e. absurd (no_number m None refl e)))
  passed well (Some m) is early so_far old =
      let low : m ≤ cell = elim (cases_lt cell m) [
        | inl later ↦ absurd (early (λ k e. subst (λ n. cell < n) (same_number m k e) later))
        | inr past ↦ past
      ] in
      record {
        low = omega arith;
        high = omega arith;
        sound = λ v s. (s, λ yes' alike. (λ t. (already_alike well m is (chosen_by v) low alike).0 t, λ more. yes'));
        complete = λ v s only. (v, λ var l. refl, s, λ yes'. (yes', λ alike. already_alike well m is (chosen_by v) low alike));
        few = omega arith;
        vars = λ var has. inl has;
      }

  module _ (image : Option ℕ) (is : Is image) (so_far : ℕ) (old new : List (List Lit)) (here : cell < length (cells_of p)) (above : length (cells_of p) < so_far)
      (fresh : (var : ℕ) → IsVarOf old var → var ≤ so_far) (compares : Compares so_far cell image old new) where
    compared_sound : (v : ℕ → Bool) → Satisfies v new → Satisfies v old × (IsTrue (v so_far) → AreAlikeBelow p a b (chosen_by v) cell →
        (IsTakenInto p a b (chosen_by v) cell → chosen_by v cell) × (AreAlikeBelow p a b (chosen_by v) (cell + 1) → IsTrue (v (so_far + 1))))
    compared_sound v s =
        let both = (compares.means v).0 s in
        let taken = taken_is image is v in (
          both.0,
          λ yes' alike.
              let says = both.1 yes' in (
                λ t. says.0 (taken.0 t),
                λ more.
                    let at = more cell (omega arith) in
                    says.1 (same_bool (image_value v image) (v (var_of cell)) (λ t. at.0 (taken.1 t), λ c. taken.0 (at.1 c))),
              ),
        )

    -- the image's value is that of a variable before the next one
    image_elsewhere : (value : Bool) (v : ℕ → Bool) → (other : Option ℕ) → ((m : ℕ) → other ≡ Some m → m < length (cells_of p)) → image_value (with_value (so_far + 1) value v) other ≡ image_value v other
    image_elsewhere value v None within = refl
    image_elsewhere value v (Some m) within =
        let l = within m refl in
        value_elsewhere (so_far + 1) value v (var_of m) (λ e. omega arith)

    image_within : (m : ℕ) → image ≡ Some m → m < length (cells_of p)
    image_within m e =
        let i = (is m).0 e in
        some_below (cells_of p) m (cell_of i.0 (map f i.1)) i.3

    module _ (v : ℕ → Bool) (s : Satisfies v old) (only : IsTrue (v so_far) → IsTakenInto p a b (chosen_by v) cell → chosen_by v cell) where
      abbrev value : Bool
      value = still_alike (v so_far) (image_value v image) (v (var_of cell))

      abbrev w : ℕ → Bool
      w = with_value (so_far + 1) value v

      agrees : (var : ℕ) → var ≤ so_far → w var ≡ v var
      agrees var l = value_elsewhere (so_far + 1) value v var (λ e. omega arith)

      w_compared : AreCompared w so_far cell image
      w_compared yes' =
          let was : IsTrue (v so_far) = subst (λ t. IsTrue t) (agrees so_far (omega arith)) yes' in
          let at_cell : w (var_of cell) ≡ v (var_of cell) = agrees (var_of cell) (omega arith) in
          let at_image : image_value w image ≡ image_value v image = image_elsewhere value v image image_within in (
            λ t. subst (λ x. IsTrue x) (sym at_cell) (only was ((taken_is image is v).1 (subst (λ x. IsTrue x) at_image t))),
            λ same. value_there (so_far + 1) value v ∙ still_made (v so_far) (image_value v image) (v (var_of cell)) was (sym at_image ∙ same ∙ at_cell),
          )

      w_satisfies : Satisfies w new
      w_satisfies = (compares.means w).1 (carried w v old (λ var has. agrees var (fresh var has)) s, w_compared)

      w_says : IsTrue (w (so_far + 1)) → IsTrue (v so_far) × (AreAlikeBelow p a b (chosen_by v) cell → IsTakenInto p a b (chosen_by v) cell ↔ chosen_by v cell)
      w_says yes' =
          let says = still_says (v so_far) (image_value v image) (v (var_of cell)) (sym (value_there (so_far + 1) value v) ∙ yes') in
          let taken = taken_is image is v in (
            says.0,
            λ alike. (λ t. subst (λ x. IsTrue x) says.1 (taken.0 t), λ c. taken.1 (subst (λ x. IsTrue x) (sym says.1) c)),
          )

    pub compared : ComparesCell p a b cell so_far (so_far + 1) old new
    compared = record {
      low = omega arith;
      high = omega arith;
      sound = compared_sound;
      complete = λ v s only. (w v s only, agrees v s only, w_satisfies v s only, w_says v s only);
      few = compares.few;
      vars = λ var has. elim (compares.vars var has) [
        | inl before ↦ inl before
        | inr one ↦ elim one [
          | inl e ↦ inr (inr (omega arith, omega arith))
          | inr two ↦ elim two [
            | inl e ↦ inr (inr (omega arith, omega arith))
            | inr three ↦ elim three [
              | inl e ↦ inr (inl (cell, here, e))
              | inr (m, e, k) ↦ inr (inl (m, image_within m e, k))
            ]
          ]
        ]
      ];
    }
