-- The numbers of names.
use Rattle.std.proofs.Common.{◌≡◌, ℕ, ◌<◌, ◌≤◌, true, false, List, [], ◌∷◌, ◌++◌, map, length, get_or, Some, inl, inr, refl, sym, ap, subst, ◌∙◌, true≢false, bytes_eq, arith}
use Rattle.std.specs.List.{list_any, slice_get, position, AllByRecursion, IsDistinct}
use Rattle.std.specs.Option.{option_map}
use Rattle.std.specs.String.{string_bytes, string_eq}
use Rattle.std.specs.declared.alloc.Global.{Global}
use Rattle.std.specs.declared.string.String.{String}
use Rattle.std.proofs.lemmas.Bool.{cases_Bool, cases_order, eq-eqb, ne_eqb}
use Rattle.std.proofs.lemmas.Cmp.{nat_list_eq_equiv}
use Rattle.std.proofs.lemmas.List.{get_or-map, get_or_append_left, length-map, length-append, map-append}
use Rattle.std.proofs.lemmas.List.Elements.{All-get_or, All-from_recursion}
use Rattle.std.proofs.lemmas.List.Folds.{list_any_at}
use Rattle.std.proofs.lemmas.List.Quantifiers.{position-Some}
use Rattle.std.proofs.lemmas.Map.Keys.{apart_from_distinct}
use Rattle.std.proofs.lemmas.Option.{get_or_from_slice_get, slice_get-map, slice_get_read, slice_get_past}
use Rattle.std.proofs.lemmas.Slice.Eq.{bytes_eq-Decides}
use Rattle.overload_resolution.specs.declared.shared_fields.fields.Row.{Row}
use Rattle.overload_resolution.specs.Fields.Entries.{entry_view, entry_name, name_at, AreBefore}
use Rattle.overload_resolution.specs.Fields.Seen.{IsNumberOf}

-- the name that stands at a number
pub stands : (names : List (String Global)) (k : String Global) (n : ℕ) → slice_get names n ≡ Some k → name_at names n ≡ string_bytes k
stands names k n e = get_or_from_slice_get (map string_bytes names) n (string_bytes k) [] (slice_get-map string_bytes names n ∙ ap (option_map string_bytes) e)

-- names are apart as their texts are
apart : (names : List (String Global)) → IsDistinct string_eq names → (i j : ℕ) → i < j → j < length names → bytes_eq (name_at names i) (name_at names j) ≡ false
apart [] once i j l m = absurd (omega (arith, m))
apart (k ∷ ks) once i j l m =
    let names : List (String Global) = k ∷ ks in
    (λ e. bytes_eq (get_or-map string_bytes names i k [] (omega (arith, l, m)) e) (get_or-map string_bytes names j k [] m e))
    ∙ apart_from_distinct string_eq names i j k once l m

-- the name of a number is that of no other one
pub own_number : (names : List (String Global)) → IsDistinct string_eq names → (n : ℕ) → n < length names → IsNumberOf names (name_at names n) n
own_number names once n l = λ k m.
    elim (cases_order k n) [
      | inl e ↦ (bytes_eq-Decides (name_at names k) (name_at names n)).1 (ap (name_at names) e) ∙ sym (eq-eqb k n e)
      | inr (inl less) ↦ apart names once k n less l ∙ sym (ne_eqb k n (λ e. absurd (omega (arith, less, e))))
      | inr (inr more) ↦ nat_list_eq_equiv.symm (name_at names k) (name_at names n) ∙ apart names once n k more m ∙ sym (ne_eqb k n (λ e. absurd (omega (arith, more, e))))
    ]

-- a number that a search told
pub found_number : (names : List (String Global)) (text : List ℕ) (n : ℕ) → IsDistinct string_eq names → position (λ k. bytes_eq text (string_bytes k)) names ≡ Some n → n < length names → IsNumberOf names text n
found_number [] text n once e l = absurd (omega (arith, l))
found_number (s ∷ names) text n once e l =
    subst (λ t. IsNumberOf (s ∷ names) t n) (sym is) (own_number (s ∷ names) once n l)
  where
    is : text ≡ name_at (s ∷ names) n
    is = (bytes_eq-Decides text (string_bytes (get_or (s ∷ names) n s))).0 (position-Some (λ k. bytes_eq text (string_bytes k)) (s ∷ names) n s e).1
        ∙ sym (get_or-map string_bytes (s ∷ names) n s [] l)

-- a text that no search found
pub no_number : (names : List (String Global)) (text : List ℕ) → list_any (λ k. bytes_eq text (string_bytes k)) names ≡ false → IsNumberOf names text (length names)
no_number [] text none = λ k l. absurd (omega (arith, l))
no_number (s ∷ names) text none = λ k l.
    elim (cases_Bool (bytes_eq (name_at (s ∷ names) k) text)) [
      | inl holds ↦ absurd (true≢false (sym (there k l holds) ∙ none))
      | inr fails ↦ fails ∙ sym (ne_eqb k (length (s ∷ names)) (λ e. absurd (omega (arith, l, e))))
    ]
  where
    there : (k : ℕ) → k < length (s ∷ names) → bytes_eq (name_at (s ∷ names) k) text ≡ true → list_any (λ n. bytes_eq text (string_bytes n)) (s ∷ names) ≡ true
    there k l holds = list_any_at (λ n. bytes_eq text (string_bytes n)) (s ∷ names) k s l
        (ap (bytes_eq text) (sym (get_or-map string_bytes (s ∷ names) k s [] l)) ∙ nat_list_eq_equiv.symm text (name_at (s ∷ names) k) ∙ holds)

-- ---- names behind others

pub grown_at : (names more : List (String Global)) (n : ℕ) → n < length names → name_at (names ++ more) n ≡ name_at names n
grown_at names more n l =
    ap (λ (ts : List (List ℕ)). get_or ts n []) (map-append string_bytes names more)
    ∙ get_or_append_left (map string_bytes names) (map string_bytes more) [] n (omega (arith, l, length-map names string_bytes))

pub grown_view : (names more : List (String Global)) (rows : List Row) → AllByRecursion (λ (r : Row). r.key.name < length names) rows → map (entry_view (names ++ more)) rows ≡ map (entry_view names) rows
grown_view names more [] inside = refl
grown_view names more (r ∷ rows) inside =
    λ i. record { name = grown_at names more r.key.name inside.0 i; top = r.key.top; arity = r.arity } ∷ grown_view names more rows inside.1 i

pub grown_rows : (names new_names : List (String Global)) (rows new_rows : List Row) → AllByRecursion (λ (r : Row). r.key.name < length names) rows → AreBefore names new_names → new_rows ≡ rows
    → map (entry_view new_names) new_rows ≡ map (entry_view names) rows
grown_rows names new_names rows new_rows inside grown e = (λ i. map (entry_view (grown.1 i)) (e i)) ∙ grown_view names grown.0 rows inside

pub grown_inside : (names more : List (String Global)) (rows : List Row) → AllByRecursion (λ (r : Row). r.key.name < length names) rows → AllByRecursion (λ (r : Row). r.key.name < length (names ++ more)) rows
grown_inside names more [] inside = tt
grown_inside names more (r ∷ rows) inside = (omega (arith, inside.0, length-append names more), grown_inside names more rows inside.1)

pub pushed_inside : (n : ℕ) (rows : List Row) (row : Row) → AllByRecursion (λ (r : Row). r.key.name < n) rows → row.key.name < n → AllByRecursion (λ (r : Row). r.key.name < n) (rows ++ row ∷ [])
pushed_inside n [] row inside l = (l, tt)
pushed_inside n (r ∷ rows) row inside l = (inside.0, pushed_inside n rows row inside.1 l)

-- the row of a number, if there is one
pub row_name : (names : List (String Global)) (rows : List Row) (number : ℕ) (row : Row) → number < length rows → row ≡ get_or rows number row
    → entry_name (slice_get (map (entry_view names) rows) number) ≡ name_at names row.key.name
row_name names rows number row l is =
    ap entry_name (slice_get-map (entry_view names) rows number ∙ ap (option_map (entry_view names)) (slice_get_read rows (length rows) number row refl l is))

pub no_row : (names : List (String Global)) (rows : List Row) (number : ℕ) → length rows ≤ number → entry_name (slice_get (map (entry_view names) rows) number) ≡ []
no_row names rows number l = ap entry_name (slice_get-map (entry_view names) rows number ∙ ap (option_map (entry_view names)) (slice_get_past rows number l))

pub row_inside : (n : ℕ) (rows : List Row) (number : ℕ) (row : Row) → AllByRecursion (λ (r : Row). r.key.name < n) rows → number < length rows → row ≡ get_or rows number row → row.key.name < n
row_inside n rows number row inside l is =
    subst (λ (r : Row). r.key.name < n) (sym is) (All-get_or (λ (r : Row). r.key.name < n) rows number row l (All-from_recursion (λ (r : Row). r.key.name < n) rows inside))
