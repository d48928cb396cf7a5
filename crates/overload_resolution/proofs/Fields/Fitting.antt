-- Which fields fit, by what is found.
use Rattle.std.proofs.Common.{◌≡◌, ℕ, ◌+◌, ◌<◌, Bool, true, false, ◌&&◌, ◌==◌, List, [], ◌∷◌, map, length, Option, Some, None, Err, Result, inl, inr, refl, sym, ap, ◌∙◌, if◌then◌else◌, true≢false, bytes_eq, arith}
use Rattle.std.specs.List.{list_any, slice_get, AllByRecursion}
use Rattle.std.specs.Option.{option_map}
use Rattle.std.specs.declared.alloc.Global.{Global}
use Rattle.std.specs.declared.string.String.{String}
use Rattle.std.proofs.lemmas.Bool.{cases_Bool, ne_eqb}
use Rattle.std.proofs.lemmas.Option.{slice_get-map}
use Rattle.alloy_lex.specs.declared.token.Place.{Place}
use Rattle.model_types.specs.declared.fault.TypeFault.{TypeFault}
use Rattle.model_types.specs.declared.fault.TypeFault.TheVariants as fault
use Rattle.model_types.specs.Typing.{Declared, Field, fitting, field_name, the_one, chosen}
use Rattle.overload_resolution.specs.declared.shared_fields.fields.Row.{Row}
use Rattle.overload_resolution.specs.declared.shared_fields.found.Found.{Found}
use Rattle.overload_resolution.specs.declared.shared_fields.found.Found.TheVariants.{Nothing, One, Several}
use Rattle.overload_resolution.specs.Fields.Alike.{AreAlike}
use Rattle.overload_resolution.specs.Fields.Entries.{Entry, entry_of, entry_view, entry_name, entry_fits}
use Rattle.overload_resolution.specs.Fields.Found.{both, the_found, found_by}
use Rattle.overload_resolution.specs.Fields.Seen.{is_under, IsNumberOf}
use Rattle.overload_resolution.proofs.Fields.Founds.{found_by-same, found_by-map}

module _ (tops name : List ℕ) where
  -- a field that fits, and one that doesn't
  takes : (n : ℕ) (f : Field) (fs : List Field) → entry_fits tops name (entry_of f) ≡ true → fitting tops name n (f ∷ fs) ≡ n ∷ fitting tops name (n + 1) fs
  takes n f fs e = go (bytes_eq f.name name) (list_any (λ t. t == f.top) tops) e
    where
      go : (b c : Bool) → (b && c) ≡ true → (if b then (if c then n ∷ fitting tops name (n + 1) fs else fitting tops name (n + 1) fs) else fitting tops name (n + 1) fs) ≡ n ∷ fitting tops name (n + 1) fs
      go true true e = refl
      go true false e = absurd (true≢false (sym e))
      go false c e = absurd (true≢false (sym e))

  passes : (n : ℕ) (f : Field) (fs : List Field) → entry_fits tops name (entry_of f) ≡ false → fitting tops name n (f ∷ fs) ≡ fitting tops name (n + 1) fs
  passes n f fs e = go (bytes_eq f.name name) (list_any (λ t. t == f.top) tops) e
    where
      go : (b c : Bool) → (b && c) ≡ false → (if b then (if c then n ∷ fitting tops name (n + 1) fs else fitting tops name (n + 1) fs) else fitting tops name (n + 1) fs) ≡ fitting tops name (n + 1) fs
      go true true e = absurd (true≢false e)
      go true false e = refl
      go false c e = refl

  module _ (p : Place) where
    -- a field before one that fits
    two : (m n : ℕ) (found : Found) → m < n → the_found p (both (One m) (both (One n) found)) ≡ Err (fault.Ambiguous p)
    two m n found l = go found
      where
        apart : (m == n) ≡ false
        apart = ne_eqb m n (λ e. absurd (omega (arith, l, e)))

        one : (b : Bool) → the_found p (both (One m) (if b then One n else Several)) ≡ Err (fault.Ambiguous p)
        one true = rw apart refl
        one false = refl

        go : (found : Found) → the_found p (both (One m) (both (One n) found)) ≡ Err (fault.Ambiguous p)
        go Nothing = rw apart refl
        go (One k) = one (n == k)
        go Several = refl

    with_one : (m n : ℕ) (fs : List Field) → m < n → the_one p (m ∷ fitting tops name n fs) ≡ the_found p (both (One m) (found_by (λ f. entry_fits tops name (entry_of f)) n fs))
    with_one m n [] l = refl
    with_one m n (f ∷ fs) l =
        elim (cases_Bool (entry_fits tops name (entry_of f))) [
          | inl e ↦ ap (λ ns. the_one p (m ∷ ns)) (takes n f fs e)
              ∙ sym (ap (λ b. the_found p (both (One m) (if b then both (One n) (rest n fs) else rest n fs))) e ∙ two m n (rest n fs) l)
          | inr e ↦ ap (λ ns. the_one p (m ∷ ns)) (passes n f fs e) ∙ with_one m (n + 1) fs (omega (arith, l))
              ∙ sym (ap (λ b. the_found p (both (One m) (if b then both (One n) (rest n fs) else rest n fs))) e)
        ]
      where
        rest : ℕ → List Field → Found
        rest n fs = found_by (λ (g : Field). entry_fits tops name (entry_of g)) (n + 1) fs

    pub the_one_is : (n : ℕ) (fs : List Field) → the_one p (fitting tops name n fs) ≡ the_found p (found_by (λ f. entry_fits tops name (entry_of f)) n fs)
    the_one_is n [] = refl
    the_one_is n (f ∷ fs) =
        elim (cases_Bool (entry_fits tops name (entry_of f))) [
          | inl e ↦ ap (the_one p) (takes n f fs e) ∙ with_one n (n + 1) fs (omega arith)
              ∙ sym (ap (λ b. the_found p (if b then both (One n) (rest n fs) else rest n fs)) e)
          | inr e ↦ ap (the_one p) (passes n f fs e) ∙ the_one_is (n + 1) fs
              ∙ sym (ap (λ b. the_found p (if b then both (One n) (rest n fs) else rest n fs)) e)
        ]
      where
        rest : ℕ → List Field → Found
        rest n fs = found_by (λ (g : Field). entry_fits tops name (entry_of g)) (n + 1) fs

-- ---- the same signatures choose the same field

pub same_fitting : (tops ts name : List ℕ) → AreAlike tops ts → (n : ℕ) (fs : List Field) → fitting tops name n fs ≡ fitting ts name n fs
same_fitting tops ts name h n [] = refl
same_fitting tops ts name h n (f ∷ fs) =
    λ i. if bytes_eq f.name name then (if h (λ t. t == f.top) i then n ∷ same_fitting tops ts name h (n + 1) fs i else same_fitting tops ts name h (n + 1) fs i) else same_fitting tops ts name h (n + 1) fs i

name_same : (fields : List Field) (n : ℕ) → entry_name (slice_get (map entry_of fields) n) ≡ field_name (slice_get fields n)
name_same fields n = ap entry_name (slice_get-map entry_of fields n) ∙ go (slice_get fields n)
  where
    go : (f : Option Field) → entry_name (option_map entry_of f) ≡ field_name f
    go None = refl
    go (Some f) = refl

-- ---- by the numbers of names

-- rows have the name of a number where their entries have the text
under_fits : (names : List (String Global)) (tops text : List ℕ) (name : ℕ) → IsNumberOf names text name
    → (rows : List Row) → AllByRecursion (λ (r : Row). r.key.name < length names) rows
    → AllByRecursion (λ (r : Row). is_under name tops r ≡ entry_fits tops text (entry_view names r)) rows
under_fits names tops text name is [] inside = tt
under_fits names tops text name is (r ∷ rows) inside =
    (ap (λ b. b && list_any (λ t. t == r.key.top) tops) (sym (is r.key.name inside.0)), under_fits names tops text name is rows inside.1)

pub chosen_is : (d : Declared) (tops ts : List ℕ) (p : Place) (number : ℕ) (names : List (String Global)) (rows : List Row) (name : ℕ) (result : Result ℕ TypeFault)
    → map entry_of d.fields ≡ map (entry_view names) rows → AreAlike tops ts
    → AllByRecursion (λ (r : Row). r.key.name < length names) rows
    → IsNumberOf names (entry_name (slice_get (map (entry_view names) rows) number)) name
    → result ≡ the_found p (found_by (is_under name tops) 0 rows) → result ≡ chosen d ts p number
chosen_is d tops ts p number names rows name result same alike inside is told =
    let text : List ℕ = entry_name (slice_get (map (entry_view names) rows) number) in
    told
    ∙ ap (the_found p) (
    found_by-same (is_under name tops) (λ r. entry_fits tops text (entry_view names r)) 0 rows (under_fits names tops text name is rows inside)
    ∙ sym (found_by-map (entry_view names) (entry_fits tops text) 0 rows)
    ∙ ap (found_by (entry_fits tops text) 0) (sym same)
    ∙ found_by-map entry_of (entry_fits tops text) 0 d.fields)
    ∙ sym (the_one_is tops text p 0 d.fields)
    ∙ ap (λ m. the_one p (fitting tops m 0 d.fields)) (ap (λ (es : List Entry). entry_name (slice_get es number)) (sym same) ∙ name_same d.fields number)
    ∙ ap (the_one p) (same_fitting tops ts (field_name (slice_get d.fields number)) alike 0 d.fields)
