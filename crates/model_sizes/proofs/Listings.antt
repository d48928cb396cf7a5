-- What is listed, as far as a loop has come.
use Rattle.std.proofs.Common.{◌≡◌, ◌≢◌, ℕ, zero, suc, ◌+◌, ◌<◌, ◌≤◌, ◌==◌, Bool, true, false, List, [], ◌∷◌, ◌++◌, length, take, drop, get_or, set, refl, sym, ap, ◌∙◌, arith, Option, Some, None, Result, Ok, Err, option_map, nat_lt, nat_le, slice_get, if◌then◌else◌, is_some, is_ok, ◌||◌, subst, true≢false}
use Rattle.std.specs.List.{list_any}
use Rattle.std.proofs.lemmas.List.{drop_more, length-set, get_or-set_same, get_or-set_other, get_or-replicate}
use Rattle.std.proofs.lemmas.Option.{slice_get-get_or, slice_get_past, get_or_from_slice_get}
use Rattle.std.proofs.lemmas.Bool.{lt-ltb, ltb-true, eqb-true}
use Rattle.named_model.specs.declared.fault.NameFault.{NameFault}
use Rattle.named_model.specs.declared.fault.NameFault.TheVariants as fault
use Rattle.named_model.specs.declared.named.Listing.{Listing}
use Rattle.named_model.specs.Answers.{◌>>=◌}
use Rattle.model_sizes.specs.declared.tables.Listed.{Listed}
use Rattle.model_sizes.specs.Sizes.{Checked, is_for, listing_checked, listings_checked, listing_for, small}
use Rattle.model_sizes.specs.Tables.{listed, IsListed, unlisted, unlisted_at}
use Rattle.model_sizes.proofs.Numbers.{take_more}

-- whether one is listed is whether it has a listing
is_listed : (ls : List Listing) (s : ℕ) → list_any (is_for s) ls ≡ is_some (listing_for ls s)
is_listed [] s = refl
is_listed (l ∷ ls) s = go (is_for s l) (is_listed ls s)
  where
    go : (b : Bool) → list_any (is_for s) ls ≡ is_some (listing_for ls s) → (b || list_any (is_for s) ls) ≡ is_some (if b then Some l else listing_for ls s)
    go true e = refl
    go false e = e

-- the listing among one more
last_or : Option Listing → Option Listing → Option Listing
last_or (Some l) other = Some l
last_or None other = other

listing_more : (ls : List Listing) (l : Listing) (s : ℕ) → listing_for (ls ++ l ∷ []) s ≡ last_or (listing_for ls s) (if is_for s l then Some l else None)
unfolding last_or
listing_more [] l s = refl
listing_more (k ∷ ls) l s = go (is_for s k) (listing_more ls l s)
  where
    go : (b : Bool) → listing_for (ls ++ l ∷ []) s ≡ last_or (listing_for ls s) (if is_for s l then Some l else None)
        → (if b then Some k else listing_for (ls ++ l ∷ []) s) ≡ last_or (if b then Some k else listing_for ls s) (if is_for s l then Some l else None)
    go true e = refl
    go false e = e

-- done, where there is something
abbrev pub done : Result ℕ NameFault → Checked
done (Ok n) = Ok tt
done (Err e) = Err e

small_if : Bool → Checked
small_if b = if b then Ok tt else Err fault.ScopeTooLarge

-- what a listing's check is, by the table
by_entry : (n : ℕ) (before : List Listing) (l : Listing) (s : ℕ) (table : List (Option Listed)) (o : Option Listing)
    → length table ≡ n → s < n → listing_for before s ≡ o → get_or table s None ≡ option_map listed o
    → (if nat_lt s n then (if list_any (is_for s) before then Err (fault.Twice l.place) else small l.number.value) else Err fault.UnknownScope)
    ≡ done (unlisted_at l s (slice_get table s))
unfolding small_if
by_entry n before l s table None long below has reads =
    let there = slice_get-get_or table s None (omega (arith, long)) ∙ ap Some reads in
    rw (lt-ltb s n below, is_listed before s, has, there) (by_small (nat_le l.number.value 32))
  where
    by_small : (b : Bool) → small_if b ≡ done (small_if b >>= λ few. Ok s)
    by_small true = refl
    by_small false = refl
by_entry n before l s table (Some k) long below has reads =
    let there = slice_get-get_or table s None (omega (arith, long)) ∙ ap Some reads in
    rw (lt-ltb s n below, is_listed before s, has, there) refl

outside : (n : ℕ) (before : List Listing) (l : Listing) (s : ℕ) (table : List (Option Listed)) → length table ≡ n → nat_lt s n ≡ false → n ≤ s
    → (if nat_lt s n then (if list_any (is_for s) before then Err (fault.Twice l.place) else small l.number.value) else Err fault.UnknownScope)
    ≡ done (unlisted_at l s (slice_get table s))
outside n before l s table long past above = let none = slice_get_past table s (omega (arith, long)) in rw (past, none) refl

not_below : (s n : ℕ) → nat_lt s n ≡ false → n ≤ s
not_below s n e = grind (arith, e)

check_of : ℕ → List Listing → Listing → Option ℕ → Checked
check_of n before l o = elim o [
  | None ↦ Err fault.UnknownScope
  | Some s ↦ if nat_lt s n then (if list_any (is_for s) before then Err (fault.Twice l.place) else small l.number.value) else Err fault.UnknownScope
]

checked_at : (n : ℕ) (before : List Listing) (l : Listing) (table : List (Option Listed)) (o : Option ℕ) → IsListed n before table
    → check_of n before l o ≡ done (elim o [ None ↦ Err fault.UnknownScope | Some s ↦ unlisted_at l s (slice_get table s) ])
unfolding check_of
checked_at n before l table None h = refl
checked_at n before l table (Some s) h = go (nat_lt s n) refl
  where
    go : (b : Bool) → nat_lt s n ≡ b
        → (if nat_lt s n then (if list_any (is_for s) before then Err (fault.Twice l.place) else small l.number.value) else Err fault.UnknownScope)
        ≡ done (unlisted_at l s (slice_get table s))
    go true e = by_entry n before l s table (listing_for before s) h.long (ltb-true s n e) refl (h.each s (ltb-true s n e))
    go false e = outside n before l s table h.long e (not_below s n e)

-- the check of a listing is that of the table
pub seen : (n : ℕ) (before : List Listing) (l : Listing) (table : List (Option Listed)) → IsListed n before table → listing_checked n before l ≡ done (unlisted table l)
unfolding check_of
seen n before l table h = checked_at n before l table l.signature h

-- ---- what is listed with one more

or_nothing : (o : Option Listing) → o ≡ last_or o None
unfolding last_or
or_nothing None = refl
or_nothing (Some l) = refl

eqb-same : (s : ℕ) → (s == s) ≡ true
eqb-same s = grind arith

eqb-other : (t s : ℕ) → t ≢ s → (t == s) ≡ false
eqb-other t s differs = grind (arith, differs)

apart : (t s : ℕ) → (t == s) ≡ false → t ≢ s
apart t s e same = grind (arith, e, same)

value_or_zero : Result ℕ NameFault → ℕ
value_or_zero (Ok n) = n
value_or_zero (Err e) = 0

no_value : {A : Type 0} (e : NameFault) (n : ℕ) → Path (Result ℕ NameFault) (Err e) (Ok n) → A
no_value e n h = absurd (true≢false (sym (ap is_ok h)))

small_value : (b : Bool) (t s : ℕ) → (small_if b >>= λ few. Ok t) ≡ Ok s → t ≡ s
unfolding small_if value_or_zero
small_value true t s h = ap value_or_zero h
small_value false t s h = no_value fault.ScopeTooLarge s h

pub record IsUnlisted (table : List (Option Listed)) (l : Listing) (s : ℕ) : Type 0 where
  pub names : l.signature ≡ Some s
  pub free : slice_get table s ≡ Some None

unlisted_entry : (table : List (Option Listed)) (l : Listing) (t s : ℕ) (q : Option (Option Listed)) → l.signature ≡ Some t → slice_get table t ≡ q → unlisted_at l t q ≡ Ok s → IsUnlisted table l s
unfolding small_if
unlisted_entry table l t s None names reads h = no_value fault.UnknownScope s h
unlisted_entry table l t s (Some (Some x)) names reads h = no_value (fault.Twice l.place) s h
unlisted_entry table l t s (Some None) names reads h =
    let same = small_value (nat_le l.number.value 32) t s h in
    record { names = names ∙ ap Some same; free = subst (λ k. slice_get table k ≡ Some None) same reads }

unlisted_name : (table : List (Option Listed)) (l : Listing) (s : ℕ) (o : Option ℕ) → l.signature ≡ o → Path (Result ℕ NameFault) (elim o [ None ↦ Err fault.UnknownScope | Some t ↦ unlisted_at l t (slice_get table t) ]) (Ok s) → IsUnlisted table l s
unlisted_name table l s None names h = no_value fault.UnknownScope s h
unlisted_name table l s (Some t) names h = unlisted_entry table l t s (slice_get table t) names refl h

pub unlisted_ok : (table : List (Option Listed)) (l : Listing) (s : ℕ) → unlisted table l ≡ Ok s → IsUnlisted table l s
unlisted_ok table l s h = unlisted_name table l s l.signature refl h

is_for_same : (l : Listing) (s : ℕ) → l.signature ≡ Some s → is_for s l ≡ true
is_for_same l s names = rw names (eqb-same s)

is_for_other : (l : Listing) (s t : ℕ) → l.signature ≡ Some s → t ≢ s → is_for t l ≡ false
is_for_other l s t names differs = rw names (eqb-other t s differs)

nothing_listed : (o : Option Listing) → option_map listed o ≡ None → o ≡ None
nothing_listed None e = refl
nothing_listed (Some l) e = absurd (true≢false (ap is_some e))

pub listed_more : (n : ℕ) (before : List Listing) (l : Listing) (s : ℕ) (table : List (Option Listed)) → IsListed n before table → s < n → unlisted table l ≡ Ok s
    → IsListed n (before ++ l ∷ []) (set table s (Some (listed l)))
unfolding last_or
listed_more n before l s table h below ok = record {
  long = length-set table s (Some (listed l)) ∙ h.long;
  each = λ t there. go t there (t == s) refl;
}
  where
    free : IsUnlisted table l s
    free = unlisted_ok table l s ok

    none : listing_for before s ≡ None
    none = nothing_listed (listing_for before s) (sym (h.each s below) ∙ get_or_from_slice_get table s None None free.free)

    go : (t : ℕ) → t < n → (b : Bool) → (t == s) ≡ b → get_or (set table s (Some (listed l))) t None ≡ option_map listed (listing_for (before ++ l ∷ []) t)
    go t there true e =
        let same = eqb-true t s e in
        rw (same, listing_more before l s, none, is_for_same l s free.names) (get_or-set_same table s (Some (listed l)) None (omega (arith, h.long)))
    go t there false e =
        let other = is_for_other l s t free.names (apart t s e) in
        rw (listing_more before l t, other) (get_or-set_other table s t (Some (listed l)) None (apart t s e) ∙ h.each t there ∙ ap (option_map listed) (or_nothing (listing_for before t)))

-- ---- the checks of listings

pub checks_fail : (n : ℕ) (ls : List Listing) (i : ℕ) (d l : Listing) (table : List (Option Listed)) (e : NameFault) → i < length ls → get_or ls i d ≡ l
    → IsListed n (take i ls) table → listings_checked n (take i ls) (drop i ls) ≡ listings_checked n [] ls → unlisted table l ≡ Err e → listings_checked n [] ls ≡ Err e
checks_fail n ls i d l table e below is h before bad =
    sym before ∙ ap (listings_checked n (take i ls)) (drop_more ls i d below) ∙ rw (is, seen n (take i ls) l table h, bad) refl

pub checks_more : (n : ℕ) (ls : List Listing) (i : ℕ) (d l : Listing) (table : List (Option Listed)) (s : ℕ) → i < length ls → get_or ls i d ≡ l
    → IsListed n (take i ls) table → listings_checked n (take i ls) (drop i ls) ≡ listings_checked n [] ls → unlisted table l ≡ Ok s
    → listings_checked n (take (i + 1) ls) (drop (i + 1) ls) ≡ listings_checked n [] ls
checks_more n ls i d l table s below is h before good =
    let there : listings_checked n (take i ls) (get_or ls i d ∷ drop (i + 1) ls) ≡ listings_checked n (take i ls ++ get_or ls i d ∷ []) (drop (i + 1) ls)
    = rw (is, seen n (take i ls) l table h, good) refl in
    ap (λ front. listings_checked n front (drop (i + 1) ls)) (take_more ls i d below) ∙ sym there ∙ ap (listings_checked n (take i ls)) (sym (drop_more ls i d below)) ∙ before

-- what a loop reads past the end
abbrev pub no_listing : Listing
no_listing = record { exactly = false; number = record { value = 0; place = record { line = 0; column = 0 } }; place = record { line = 0; column = 0 }; signature = None }
