-- What is kept of each name under each signature, where a field is put behind the others.
use Rattle.std.proofs.Common.{◌≡◌, ℕ, ◌+◌, ◌<◌, Bool, true, false, ◌&&◌, ◌||◌, ◌==◌, List, [], ◌∷◌, ◌++◌, map, take, length, get_or, Result, Ok, Err, refl, sym, ap, subst, ◌∙◌, if◌then◌else◌, true≢false, arith}
use Rattle.std.specs.List.{list_any, AllByRecursion, IsDistinct}
use Rattle.std.specs.Result.{OnErr}
use Rattle.std.specs.String.{string_eq}
use Rattle.std.specs.declared.alloc.Global.{Global}
use Rattle.std.specs.declared.string.String.{String}
use Rattle.std.proofs.lemmas.Bool.{eqb-true}
use Rattle.std.proofs.lemmas.Cmp.{nat_eq_equiv}
use Rattle.std.proofs.lemmas.List.{take_more, map-append}
use Rattle.std.proofs.lemmas.List.Folds.{list_any-append}
use Rattle.overload_resolution.specs.declared.shared_fields.fields.Row.{Row}
use Rattle.overload_resolution.specs.declared.shared_fields.seen.Key.{Key}
use Rattle.overload_resolution.specs.declared.shared_fields.found.Found.{Found}
use Rattle.overload_resolution.specs.declared.shared_fields.found.Found.TheVariants.{Nothing, One}
use Rattle.overload_resolution.specs.Fields.Found.{both, found_by}
use Rattle.overload_resolution.specs.Fields.Entries.{entry_view, name_at, AreBefore}
use Rattle.overload_resolution.specs.Fields.Seen.{same_key, is_under, found_in, AreSeen, AreKept}
use Rattle.overload_resolution.proofs.Fields.Founds.{found_by-same, found_by-or, found_by-push, found_by-none, both_nothing}
use Rattle.overload_resolution.proofs.Fields.Naming.{grown_inside, grown_rows, pushed_inside}

equal_keys : (a b : Key) → same_key a b ≡ true → a ≡ b
equal_keys a b e = λ i. record { name = eqb-true a.name b.name (left (a.name == b.name) (a.top == b.top) e) i; top = eqb-true a.top b.top (right (a.name == b.name) (a.top == b.top) e) i }
  where
    left : (b c : Bool) → (b && c) ≡ true → b ≡ true
    left true c e = refl
    left false c e = e

    right : (b c : Bool) → (b && c) ≡ true → c ≡ true
    right true c e = e
    right false c e = absurd (true≢false (sym e))

pub in_error : {T E P : Type 0} (r : Result T E) → P → OnErr r P
in_error (Ok x) p = tt
in_error (Err e) p = p

-- ---- one field more

pub seen_put : (rows : List Row) (row : Row) (number : ℕ) (old new : List (Key × Found)) → number ≡ length rows → AreSeen rows old
    → ((k : Key) → found_in new k ≡ (if same_key row.key k then both (found_in old row.key) (One number) else found_in old k))
    → AreSeen (rows ++ row ∷ []) new
seen_put rows row number old new is seen put = λ k.
    put k ∙ by k (same_key row.key k) refl ∙ sym (found_by-push (λ (r : Row). same_key r.key k) 0 number rows row (omega (arith, is)))
  where
    by : (k : Key) (b : Bool) → same_key row.key k ≡ b
        → (if b then both (found_in old row.key) (One number) else found_in old k) ≡ both (found_by (λ (r : Row). same_key r.key k) 0 rows) (if b then One number else Nothing)
    by k true e = ap (λ a. both a (One number)) (ap (found_in old) (equal_keys row.key k e) ∙ seen k)
    by k false e = seen k ∙ sym (both_nothing (found_by (λ (r : Row). same_key r.key k) 0 rows))

pub kept_grown : (names new_names : List (String Global)) (rows : List Row) (old new : List (Key × Found)) → AreKept names rows old → AreBefore names new_names → IsDistinct string_eq new_names → new ≡ old → AreKept new_names rows new
kept_grown names new_names rows old new kept grown once e = record {
  have_names = record { once = once; inside = subst (λ ks. AllByRecursion (λ (r : Row). r.key.name < length ks) rows) (sym grown.1) (grown_inside names grown.0 rows kept.have_names.inside) };
  are_seen = subst (AreSeen rows) (sym e) kept.are_seen;
}

pub kept_put : (names new_names : List (String Global)) (rows new_rows : List Row) (row : Row) (number : ℕ) (old new : List (Key × Found)) → AreKept names rows old → AreBefore names new_names → IsDistinct string_eq new_names
    → row.key.name < length new_names → number ≡ length rows → new_rows ≡ rows ++ row ∷ []
    → ((k : Key) → found_in new k ≡ (if same_key row.key k then both (found_in old row.key) (One number) else found_in old k))
    → AreKept new_names new_rows new
kept_put names new_names rows new_rows row number old new kept grown once l is pushed put = subst (λ rs. AreKept new_names rs new) (sym pushed) (record {
  have_names = record { once = once; inside = pushed_inside (length new_names) rows row (kept_grown names new_names rows old old kept grown once refl).have_names.inside l };
  are_seen = seen_put rows row number old new is kept.are_seen put;
})

pub pushed_view : (names new_names : List (String Global)) (rows new_rows : List Row) (row : Row) (text : List ℕ) → AllByRecursion (λ (r : Row). r.key.name < length names) rows → AreBefore names new_names
    → new_rows ≡ rows ++ row ∷ [] → name_at new_names row.key.name ≡ text
    → map (entry_view new_names) new_rows ≡ map (entry_view names) rows ++ record { name = text; top = row.key.top; arity = row.arity } ∷ []
pushed_view names new_names rows new_rows row text inside grown pushed named =
    ap (map (entry_view new_names)) pushed ∙ map-append (entry_view new_names) rows (row ∷ [])
    ∙ (λ i. grown_rows names new_names rows rows inside grown refl i ++ record { name = named i; top = row.key.top; arity = row.arity } ∷ [])

-- ---- a walk over signatures

pub none_under : (rows : List Row) (name : ℕ) → Nothing ≡ found_by (is_under name []) 0 rows
none_under rows name = sym (found_by-none 0 rows (is_under name []) (λ r. never (r.key.name == name)))
  where
    never : (b : Bool) → (b && false) ≡ false
    never true = refl
    never false = refl

pub turn : (rows : List Row) (entries : List (Key × Found)) (name : ℕ) (tops : List ℕ) (i top : ℕ) (found now : Found) → i < length tops → top ≡ get_or tops i 0 → AreSeen rows entries
    → found ≡ found_by (is_under name (take i tops)) 0 rows → now ≡ both found (found_in entries (record { name = name; top = top }))
    → now ≡ found_by (is_under name (take (i + 1) tops)) 0 rows
turn rows entries name tops i top found now l is seen before e =
    e ∙ (λ j. both (before j) (seen key j))
    ∙ sym (found_by-or (is_under name (take i tops)) (λ (r : Row). same_key r.key key) 0 rows)
    ∙ found_by-same _ (is_under name (take (i + 1) tops)) 0 rows (each rows)
  where
    key : Key
    key = record { name = name; top = top }

    by : (b c d : Bool) → ((b && c) || (b && d)) ≡ (b && (c || (d || false)))
    by true true d = refl
    by true false true = refl
    by true false false = refl
    by false c d = refl

    more : (t : ℕ → Bool) → list_any t (take (i + 1) tops) ≡ (list_any t (take i tops) || (t top || false))
    more t = ap (list_any t) (take_more tops i 0 l) ∙ list_any-append t (take i tops) (get_or tops i 0 ∷ []) ∙ ap (λ x. list_any t (take i tops) || (t x || false)) (sym is)

    one : (r : Row) → (is_under name (take i tops) r || same_key r.key key) ≡ is_under name (take (i + 1) tops) r
    one r =
        ap (λ d. ((r.key.name == name) && list_any (λ t. t == r.key.top) (take i tops)) || ((r.key.name == name) && d)) (nat_eq_equiv.symm r.key.top top)
        ∙ by (r.key.name == name) (list_any (λ t. t == r.key.top) (take i tops)) (top == r.key.top)
        ∙ ap (λ c. (r.key.name == name) && c) (sym (more (λ t. t == r.key.top)))

    each : (rs : List Row) → AllByRecursion (λ (r : Row). (is_under name (take i tops) r || same_key r.key key) ≡ is_under name (take (i + 1) tops) r) rs
    each [] = tt
    each (r ∷ rs) = (one r, each rs)
