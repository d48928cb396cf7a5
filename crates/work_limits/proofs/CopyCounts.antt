-- How many copies there are, by what was shown and the number of renamings.
use Rattle.std.proofs.Common.{◌≡◌, ◌≢◌, ◌<◌, ◌≤◌, ◌+◌, ◌*◌, [], ◌∷◌, ◌++◌, ℕ, List, Some, length, get_or, map, flat_map, length-append, slice_get, All, AllPairs, Contains, refl, sym, ◌∙◌, subst, arith}
use Rattle.std.proofs.lemmas.Bool.{eq-eqb}
use Rattle.std.proofs.lemmas.List.{length-map}
use Rattle.std.proofs.lemmas.List.Concat.{length-flat_map}
use Rattle.std.proofs.lemmas.List.Elements.{All-head, All-tail, All-append, All-contains, Contains-get_or}
use Rattle.std.proofs.lemmas.List.Sums.{sum_by-le}
use Rattle.tuple_core.specs.declared.atom.Atom.{Atom}
use Rattle.tuple_core.specs.Rows.{Rows, IsSetOf}
use Rattle.rel_formula.specs.declared.problem.Relation.{Relation}
use Rattle.rel_formula.specs.declared.problem.Cell.{Cell}
use Rattle.rel_formula.specs.Bounds.{Bounded, IsProblem, IsAtomOf, InAtoms, relation_at, cell_of, cells_of}
use Rattle.rel_formula.specs.Instance.{HasCell, IsScenario}
use Rattle.rel_formula.specs.Renaming.{IsImage, IsRenaming, IsRenamingOf}
use Rattle.rel_formula.proofs.Counts.{distinct}
use Rattle.rel_formula.proofs.Lists.{get-Some, pairs_append}
use Rattle.rel_formula.proofs.OpenCells.{cell_open, cell_once, has_map}
use Rattle.rel_formula.proofs.SameNumbers.{same_rising}
use Rattle.swap_symmetry.specs.Due.{IsDue}
use Rattle.swap_symmetry.specs.Swaps.{IsSettledBeside}
use Rattle.renaming_classes.specs.Counts.{orders, IsNumberOfRenamings}
use Rattle.session_rules.specs.Proofs.{IsCopy}
use Rattle.translation_rules.proofs.Tests.{from_each}
use Rattle.work_limits.proofs.Arrangements.{in_flat, no_more_than_codes}
use Rattle.work_limits.proofs.RenamingCodes.{code, codes, few_codes, has_code, code_tells}

-- a scenario, and what a renaming makes of the atoms
abbrev Code : Type 0
Code = List ℕ × List (List (List Atom))

abbrev beside : List ℕ → List (List (List Atom)) → Code
beside t images = (t, images)

module _ (p : Bounded) (well : IsProblem p) (atoms : Rows) (all : IsSetOf atoms 1 (InAtoms p)) where
  -- such a renaming takes the scenario to that one
  abbrev Tells : List ℕ → Code → Type 0
  Tells s c = (f : Atom → Atom) × (g : Atom → Atom) × IsRenaming p f g × IsImage p f s c.0 × (code f atoms.rows (length p.tops) ≡ c.1)

  -- renamings with one code agree on each atom
  agree : (f h : Atom → Atom) → code f atoms.rows (length p.tops) ≡ code h atoms.rows (length p.tops) → (a : Atom) → IsAtomOf p a → f a ≡ h a
  agree f h e a is =
      let row = (all.just (a ∷ [])).1 (a, is, refl) in
      let both : f a ∷ [] ≡ h a ∷ [] = code_tells f h atoms.rows (length p.tops) e (a ∷ []) row a.top (well.atoms a is) (eq-eqb a.top a.top refl) in
      cc

  -- and so on the tuples over them
  agree_row : (f h : Atom → Atom) → ((a : Atom) → IsAtomOf p a → f a ≡ h a) → (row : List Atom) → All (IsAtomOf p) row → map f row ≡ map h row
  agree_row f h same [] each = refl
  agree_row f h same (a ∷ row) each =
      let here : f a ≡ h a = same a (All-head (IsAtomOf p) a row each) in
      let rest : map f row ≡ map h row = agree_row f h same row (All-tail (IsAtomOf p) a row each) in
      cc

  -- of two scenarios whose renamings are one, by renamings that agree, the one has each cell of the other
  half : (s u : List ℕ) (t : List ℕ) (f h : Atom → Atom) → IsScenario p s → IsImage p f s t → IsImage p h u t → ((a : Atom) → IsAtomOf p a → f a ≡ h a) → (n : ℕ) → Contains s n → Contains u n
  half s u t f h scenario image other same n there =
      let in_range = All-contains (λ n. n < length (cells_of p)) s n scenario.cells there in
      let cell : Cell = get_or (cells_of p) n (cell_of 0 []) in
      let is : slice_get (cells_of p) n ≡ Some (cell_of cell.relation cell.tuple) = get-Some (cells_of p) n (cell_of 0 []) in_range in
      let open_ = cell_open p n cell.relation cell.tuple is in
      let none : Relation = record { name = []; lower = record { arity = 1; rows = [] }; upper = record { arity = 1; rows = [] } } in
      let relation : Contains p.relations (relation_at p.relations cell.relation) = Contains-get_or p.relations cell.relation none open_.0 in
      let each : All (IsAtomOf p) cell.tuple = from_each (IsAtomOf p) cell.tuple (λ a c. (relation_at p.relations cell.relation, relation, (cell.tuple, open_.1, c))) in
      let taken = (image cell.relation cell.tuple).0 (n, there, is) in
      let back = (other cell.relation cell.tuple).1 (subst (HasCell p (Contains t) cell.relation) (agree_row f h same cell.tuple each) taken) in
      subst (Contains u) (cell_once p back.0 n cell.relation cell.tuple well back.2 is) back.1

  -- a code tells one scenario
  one_scenario : (s u : List ℕ) (c : Code) → IsScenario p s → IsScenario p u → Tells s c → Tells u c → s ≡ u
  one_scenario s u c first second (f, g, renaming, image, e) (h, k, other, picture, d) =
      let same = agree f h (e ∙ sym d) in
      same_rising s u first.rising second.rising (λ n. (half s u c.0 f h first image picture same n, half u s c.0 h f second picture image (λ a is. sym (same a is)) n))

  -- the shown scenarios, each with all codes
  all_codes : List (List ℕ) → List Code
  all_codes shown = flat_map (λ (t : List ℕ). map (beside t) (codes atoms.rows (length p.tops))) shown

  few_of_each : (shown : List (List ℕ)) → length (all_codes shown) ≤ length shown * orders atoms.rows (length p.tops)
  unfolding all_codes
  few_of_each shown =
      let those = codes atoms.rows (length p.tops) in
      let few = few_codes atoms.rows (length p.tops) in
      let each : All (λ (t : List ℕ). length (map (beside t) those) ≤ orders atoms.rows (length p.tops)) shown = λ k d l.
      let long = length-map those (beside (get_or shown k d)) in omega arith in
      let sum = sum_by-le (λ (t : List ℕ). length (map (beside t) those)) (orders atoms.rows (length p.tops)) shown each in
      let flat = length-flat_map (λ (t : List ℕ). map (beside t) those) shown in
      omega arith

  -- a renaming of what was shown has a code
  coded : (differ : AllPairs (λ x y. x ≢ y) atoms.rows) (shown : List (List ℕ)) (s t : List ℕ) → Contains shown t → IsRenamingOf p s t → (c : Code) × Contains (all_codes shown) c × Tells s c
  unfolding all_codes
  coded differ shown s t there is =
      let mine = code is.there atoms.rows (length p.tops) in
      let those = codes atoms.rows (length p.tops) in (
        (t, mine),
        in_flat (λ (t : List ℕ). map (beside t) those) shown t (t, mine) there
            (has_map (beside t) those mine (has_code p is.there is.back is.renaming atoms all differ (length p.tops))),
        (is.there, is.back, is.renaming, is.image, refl),
      )

-- what was shown, and the copies, are renamings of what was shown: of each at most as many as there are renamings
pub few_renamed : (p : Bounded) (n : ℕ) → IsProblem p → IsNumberOfRenamings p n → ((s : List ℕ) → IsRenamingOf p s s) → (floor : List ℕ) (shown copies : List (List ℕ))
    → AllPairs (λ x y. x ≢ y) shown → All (IsDue p floor) shown → AllPairs (λ x y. x ≢ y) copies → All (IsCopy p floor shown) copies → length shown + length copies ≤ length shown * n
few_renamed p n well number itself floor shown copies once due differ are =
    let atoms = number.atoms in
    let codes_of : List Code = all_codes p well atoms number.all shown in
    let rows = distinct atoms.rows number.rows.ascending in
    let apart : AllPairs (λ x y. x ≢ y) (shown ++ copies) = pairs_append (λ (x y : List ℕ). x ≢ y) shown copies once differ
    (λ k d l m e h same. (are m e h).unsettled (subst (IsSettledBeside p floor) same (due k d l).settled)) in
    let scenarios : All (IsScenario p) (shown ++ copies) = All-append (IsScenario p) shown copies
    (λ k d l. (due k d l).minimal.instance_of.scenario) (λ k d l. (are k d l).minimal.instance_of.scenario) in
    let each = All-append (λ (s : List ℕ). (c : Code) × Contains codes_of c × Tells p well atoms number.all s c) shown copies
    (λ k d l. coded p well atoms number.all rows shown (get_or shown k d) (get_or shown k d) (Contains-get_or shown k d l) (itself (get_or shown k d)))
    (λ k d l.
    let renaming = (are k d l).renamed in
    let is = renaming.2 in
    coded p well atoms number.all rows shown (get_or copies k d) renaming.0 renaming.1 (record { there = is.there; back = is.back; renaming = is.renaming; image = is.image })) in
    let count = no_more_than_codes (Tells p well atoms number.all) (shown ++ copies) codes_of apart each
    (λ a b c x y. one_scenario p well atoms number.all a b c (All-contains (IsScenario p) (shown ++ copies) a scenarios x) (All-contains (IsScenario p) (shown ++ copies) b scenarios y)) in
    let long : length (shown ++ copies) ≡ length shown + length copies = length-append shown copies in
    let few = few_of_each p well atoms number.all shown in
    subst (λ m. length shown + length copies ≤ length shown * m) (sym number.number) (omega arith)
