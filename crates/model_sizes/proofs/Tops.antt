-- The sizes of top-level signatures, as far as a loop has come, and by the tables.
use Rattle.std.proofs.Common.{◌≡◌, ℕ, zero, suc, ◌+◌, ◌<◌, ◌≤◌, Bool, true, false, List, [], ◌∷◌, ◌++◌, map, length, take, drop, get_or, refl, sym, ap, ◌∙◌, arith, Option, Some, None, option_map, is_some, is_none, min, nat_le, Result, Ok, Err, if◌then◌else◌, ◌⊎◌, inl, inr, subst}
use Rattle.std.proofs.lemmas.List.{append-nil}
use Rattle.alloy_syntax.specs.declared.tree.Manner.{Manner}
use Rattle.named_model.specs.declared.fault.NameFault.{NameFault}
use Rattle.named_model.specs.declared.fault.NameFault.TheVariants as fault
use Rattle.named_model.specs.declared.named.Signature.{Signature}
use Rattle.named_model.specs.declared.named.Listing.{Listing}
use Rattle.named_model.specs.Signatures.{signature_at, no_signature, numbers_where, tops, extends_to, extensions}
use Rattle.named_model.specs.Answers.{◌>>=◌}
use Rattle.model_sizes.specs.declared.size.Size.{Size}
use Rattle.model_sizes.specs.declared.tables.Listed.{Listed}
use Rattle.model_sizes.specs.declared.tables.Sum.{Sum}
use Rattle.model_sizes.specs.declared.tables.Sum.TheVariants as sum
use Rattle.model_sizes.specs.Sizes.{default_checked, listings_checked, listing_for, is_alone, is_one, addend, added, sum_of, some_sum, abstract_sum, size, by_default, by_sum, by_listing, size_of, sizes_of, small, places_in, few_places, sizes_under, IsFaultOf}
use Rattle.model_sizes.specs.Tables.{listed, IsListed, AreSums, addend_with, addend_at, plus, sum_behind, sum_or_none, by_sum_with, size_with, sizes_with}
use Rattle.model_sizes.proofs.Numbers.{take_more, numbers_more, numbers_from, AllNumbers, numbers_below}

-- ---- places

places_append : (xs : List Size) (x : Size) → places_in (xs ++ x ∷ []) ≡ places_in xs + x.places
places_append [] x = omega arith
places_append (w ∷ ws) x = let e = places_append ws x in omega (arith, e)

capped : (a b : ℕ) → min (min a 65 + b) 65 ≡ min (a + b) 65
capped a b = omega arith

pub places_more : (sizes : List Size) (i : ℕ) (d : Size) (p r : ℕ) → i < length sizes → p ≡ min (places_in (take i sizes)) 65 → r ≡ min (p + (get_or sizes i d).places) 65
    → r ≡ min (places_in (take (i + 1) sizes)) 65
places_more sizes i d p r l before now =
    now ∙ ap (λ q. min (q + (get_or sizes i d).places) 65) before ∙ capped (places_in (take i sizes)) (get_or sizes i d).places
    ∙ ap (λ n. min n 65) (sym (places_append (take i sizes) (get_or sizes i d))) ∙ ap (λ xs. min (places_in xs) 65) (sym (take_more sizes i d l))

-- ---- the loop over signatures

module _ (xs : List Signature) (table : List (Option Listed)) (sums : List Sum) (default : Option ℕ) where
  both : Result (List Size) NameFault → Result (List Size) NameFault → Result (List Size) NameFault
  both a b = a >>= λ x. b >>= λ y. Ok (x ++ y)

  -- the sizes of some, of one, and of others
  behind : List ℕ → List ℕ → Result Size NameFault → Result (List Size) NameFault
  unfolding both
  behind ss ts r = both (sizes_with xs table sums default ss) (r >>= λ one. sizes_with xs table sums default ts >>= λ more. Ok (one ∷ more))

  size_is : (i : ℕ) (x : Signature) (r : Result Size NameFault) → signature_at xs i ≡ x → size_with i x (get_or table i None) (get_or sums i sum.Empty) default ≡ r
      → size_with i (signature_at xs i) (get_or table i None) (get_or sums i sum.Empty) default ≡ r
  size_is i x r is now = ap (λ (y : Signature). size_with i y (get_or table i None) (get_or sums i sum.Empty) default) is ∙ now

  joins : (a : Result Size NameFault) (b c : Result (List Size) NameFault)
      → (a >>= λ one. both b c >>= λ more. Ok (one ∷ more)) ≡ both (a >>= λ one. b >>= λ more. Ok (one ∷ more)) c
  unfolding both
  joins (Err e) b c = refl
  joins (Ok x) (Err e) c = refl
  joins (Ok x) (Ok ys) (Err e) = refl
  joins (Ok x) (Ok ys) (Ok zs) = refl

  alone : (c : Result (List Size) NameFault) → c ≡ both (Ok []) c
  unfolding both
  alone (Ok zs) = refl
  alone (Err e) = refl

  sizes_append : (ss ts : List ℕ) → sizes_with xs table sums default (ss ++ ts) ≡ both (sizes_with xs table sums default ss) (sizes_with xs table sums default ts)
  sizes_append [] ts = alone (sizes_with xs table sums default ts)
  sizes_append (s ∷ ss) ts =
      ap (λ (r : Result (List Size) NameFault). size_with s (signature_at xs s) (get_or table s None) (get_or sums s sum.Empty) default >>= λ one. r >>= λ more. Ok (one ∷ more)) (sizes_append ss ts)
      ∙ joins (size_with s (signature_at xs s) (get_or table s None) (get_or sums s sum.Empty) default) (sizes_with xs table sums default ss) (sizes_with xs table sums default ts)

  has_none : (o : Option (Manner × ℕ)) (b : Bool) → is_some o ≡ b → is_none o ≡ (if b then false else true)
  has_none None b e = rw (sym e) refl
  has_none (Some p) b e = rw (sym e) refl

  -- a signature that is no top-level one
  pub tops_skip : (i : ℕ) (x : Signature) (sizes : List Size) → i < length xs → signature_at xs i ≡ x → is_some x.parent ≡ true
      → sizes_with xs table sums default (tops (take i xs)) ≡ Ok sizes → sizes_with xs table sums default (tops (take (i + 1) xs)) ≡ Ok sizes
  tops_skip i x sizes l is some before =
      ap (sizes_with xs table sums default)
      (numbers_more (λ x. is_none x.parent) xs i no_signature false l (ap (λ (y : Signature). is_none y.parent) is ∙ has_none x.parent true some)
      ∙ append-nil (tops (take i xs)))
      ∙ before

  -- and one that is
  pub tops_more : (i : ℕ) (x : Signature) (sizes : List Size) (new : Size) → i < length xs → signature_at xs i ≡ x → is_some x.parent ≡ false
      → size_with i x (get_or table i None) (get_or sums i sum.Empty) default ≡ Ok new
      → sizes_with xs table sums default (tops (take i xs)) ≡ Ok sizes → sizes_with xs table sums default (tops (take (i + 1) xs)) ≡ Ok (sizes ++ new ∷ [])
  unfolding both behind
  tops_more i x sizes new l is none now before =
      ap (sizes_with xs table sums default) (numbers_more (λ x. is_none x.parent) xs i no_signature true l (ap (λ (y : Signature). is_none y.parent) is ∙ has_none x.parent false none))
      ∙ sizes_append (tops (take i xs)) (i ∷ []) ∙ ap (λ (r : Result Size NameFault). behind (tops (take i xs)) [] r) (size_is i x (Ok new) is now) ∙ rw before refl

  pub tops_fail : (i : ℕ) (x : Signature) (sizes : List Size) (e : NameFault) → i < length xs → signature_at xs i ≡ x → is_some x.parent ≡ false
      → size_with i x (get_or table i None) (get_or sums i sum.Empty) default ≡ Err e
      → sizes_with xs table sums default (tops (take i xs)) ≡ Ok sizes → sizes_with xs table sums default (tops xs) ≡ Err e
  unfolding both behind
  tops_fail i x sizes e l is none now before =
      ap (sizes_with xs table sums default) (numbers_from (λ x. is_none x.parent) xs i no_signature l (ap (λ (y : Signature). is_none y.parent) is ∙ has_none x.parent false none))
      ∙ sizes_append (tops (take i xs)) (i ∷ numbers_where (λ x. is_none x.parent) (i + 1) (drop (i + 1) xs))
      ∙ ap (λ (r : Result Size NameFault). behind (tops (take i xs)) (numbers_where (λ x. is_none x.parent) (i + 1) (drop (i + 1) xs)) r) (size_is i x (Err e) is now) ∙ rw before refl

-- ---- the tables say what the definition does

some_sum_of : Option ℕ → Option ℕ
some_sum_of o = option_map (λ n. min n 33) o

sum_unknown : (ns : List (Option ℕ)) → sum_or_none (sum_behind sum.Unknown ns) ≡ None
sum_unknown [] = refl
sum_unknown (None ∷ ns) = sum_unknown ns
sum_unknown (Some n ∷ ns) = sum_unknown ns

capped_added : (m n : ℕ) (o : Option ℕ) → some_sum_of (added (Some (min (m + n) 33)) o) ≡ some_sum_of (added (Some m) (added (Some n) o))
unfolding some_sum_of
capped_added m n None = refl
capped_added m n (Some k) = let e : min (min (m + n) 33 + k) 33 ≡ min (m + (n + k)) 33 = omega arith in ap Some e

sum_known : (m : ℕ) (ns : List (Option ℕ)) → m ≤ 33 → sum_or_none (sum_behind (sum.Known m) ns) ≡ some_sum_of (added (Some m) (sum_of ns))
unfolding some_sum_of
sum_known m [] l = let e : m ≡ min (m + 0) 33 = omega arith in ap Some e
sum_known m (None ∷ ns) l = sum_unknown ns
sum_known m (Some n ∷ ns) l = sum_known (min (m + n) 33) ns (omega arith) ∙ capped_added m n (sum_of ns)

sum_of_some : (ns : List (Option ℕ)) → sum_or_none (sum_behind sum.Empty ns) ≡ some_sum_of (some_sum ns)
unfolding some_sum_of
sum_of_some [] = refl
sum_of_some (None ∷ ns) = sum_unknown ns
sum_of_some (Some n ∷ ns) = sum_known (min n 33) ns (omega arith) ∙ first n (sum_of ns)
  where
    first : (n : ℕ) (o : Option ℕ) → some_sum_of (added (Some (min n 33)) o) ≡ some_sum_of (added (Some n) o)
    first n None = refl
    first n (Some k) = let e : min (min n 33 + k) 33 ≡ min (n + k) 33 = omega arith in ap Some e

capped_small : (s n : ℕ) (default : Option ℕ) → by_sum_with s (Some (min n 33)) default ≡ by_sum s (Some n) default
capped_small s n default = go (nat_le n 32) refl
  where
    go : (b : Bool) → nat_le n 32 ≡ b → by_sum_with s (Some (min n 33)) default ≡ by_sum s (Some n) default
    go true e = let same : min n 33 ≡ n = grind (arith, e) in rw same refl
    go false e = let high : nat_le (min n 33) 32 ≡ false = grind (arith, e) in rw (e, high) refl

by_capped : (s : ℕ) (o default : Option ℕ) → by_sum_with s (some_sum_of o) default ≡ by_sum s o default
unfolding some_sum_of
by_capped s None default = refl
by_capped s (Some n) default = capped_small s n default

module _ (xs : List Signature) (ls : List Listing) (table : List (Option Listed)) (is : IsListed (length xs) ls table) where
  addend_seen : (s : ℕ) → s < length xs → addend_at xs table s ≡ addend xs ls s
  addend_seen s l = rw (is.each s l) (go (listing_for ls s))
    where
      go : (o : Option Listing) → addend_with (signature_at xs s) (option_map listed o) ≡ elim o [ Some l ↦ Some l.number.value | None ↦ if is_alone (signature_at xs s).mark then Some 1 else None ]
      go None = refl
      go (Some l) = refl

  addends_seen : (ss : List ℕ) → AllNumbers (λ s. s < length xs) ss → map (addend_at xs table) ss ≡ map (addend xs ls) ss
  addends_seen [] h = refl
  addends_seen (s ∷ ss) h = λ i. addend_seen s h.0 i ∷ addends_seen ss h.1 i

  module _ (sums : List Sum) (are : AreSums xs table sums) where
    sum_seen : (s : ℕ) → s < length xs → sum_or_none (get_or sums s sum.Empty) ≡ some_sum_of (some_sum (map (addend xs ls) (extensions xs s)))
    sum_seen s l =
        ap sum_or_none (are.each s l)
        ∙ ap (λ ns. sum_or_none (sum_behind sum.Empty ns)) (addends_seen (extensions xs s) (numbers_below (λ x. extends_to s x.parent) 0 xs (λ e. e < length xs) (λ e below. omega (arith, below))))
        ∙ sum_of_some (map (addend xs ls) (extensions xs s))

    unlisted_seen : (s : ℕ) (default : Option ℕ) → s < length xs
        → by_sum_with s (if (signature_at xs s).is_abstract then sum_or_none (get_or sums s sum.Empty) else None) default ≡ by_sum s (abstract_sum xs ls s) default
    unlisted_seen s default l = go (signature_at xs s).is_abstract
      where
        go : (b : Bool) → by_sum_with s (if b then sum_or_none (get_or sums s sum.Empty) else None) default
            ≡ by_sum s (if b then some_sum (map (addend xs ls) (extensions xs s)) else None) default
        go true = ap (λ o. by_sum_with s o default) (sum_seen s l) ∙ by_capped s (some_sum (map (addend xs ls) (extensions xs s))) default
        go false = refl

    size_seen : (s : ℕ) (default : Option ℕ) → s < length xs → size_with s (signature_at xs s) (get_or table s None) (get_or sums s sum.Empty) default ≡ size_of xs ls default s
    size_seen s default l = ap (λ o. size_with s (signature_at xs s) o (get_or sums s sum.Empty) default) (is.each s l) ∙ go (is_alone (signature_at xs s).mark) (listing_for ls s)
      where
        go : (b : Bool) (o : Option Listing)
            → Path (Result Size NameFault)
            (if b then Ok (size s 1 (is_one (signature_at xs s).mark))
            else (elim (option_map listed o) [ Some l ↦ Ok (size s l.places l.exact) | None ↦ by_sum_with s (if (signature_at xs s).is_abstract then sum_or_none (get_or sums s sum.Empty) else None) default ]))
            (if b then Ok (size s 1 (is_one (signature_at xs s).mark)) else by_listing xs ls s o default)
        go true o = refl
        go false None = unlisted_seen s default l
        go false (Some l) = refl

    sizes_seen : (default : Option ℕ) (ss : List ℕ) → AllNumbers (λ s. s < length xs) ss → sizes_with xs table sums default ss ≡ sizes_of xs ls default ss
    sizes_seen default [] h = refl
    sizes_seen default (s ∷ ss) h = λ i. size_seen s default h.0 i >>= λ one. sizes_seen default ss h.1 i >>= λ more. Ok (one ∷ more)

    tops_seen : (default : Option ℕ) → sizes_with xs table sums default (tops xs) ≡ sizes_of xs ls default (tops xs)
    tops_seen default = sizes_seen default (tops xs) (numbers_below (λ x. is_none x.parent) 0 xs (λ e. e < length xs) (λ e below. omega (arith, below)))

-- ---- all rules together

module _ (xs : List Signature) (default : Option ℕ) (ls : List Listing) (table : List (Option Listed)) (sums : List Sum)
    (small : Ok (tt {0}) ≡ default_checked default) (checked : listings_checked (length xs) [] ls ≡ Ok (tt {0})) (is : IsListed (length xs) ls table) (are : AreSums xs table sums) where
  -- what is left behind the checks of the scope
  left : (r : Result (List Size) NameFault) → sizes_with xs table sums default (tops xs) ≡ r → sizes_under xs default ls ≡ (r >>= few_places)
  left r found = rw (sym small, checked) (ap (λ (q : Result (List Size) NameFault). q >>= few_places) (sym (tops_seen xs ls table is sums are default) ∙ found))

  pub under_fails : (e : NameFault) → IsFaultOf e (sizes_with xs table sums default (tops xs)) → IsFaultOf e (sizes_under xs default ls)
  under_fails e (inl memory) = inl memory
  under_fails e (inr bad) = inr (left (Err e) bad)

  pub under_gives : (sizes : List Size) → sizes_with xs table sums default (tops xs) ≡ Ok sizes → sizes_under xs default ls ≡ few_places sizes
  under_gives sizes found = left (Ok sizes) found

pub listings_fail : (xs : List Signature) (default : Option ℕ) (ls : List Listing) (e : NameFault) → Ok (tt {0}) ≡ default_checked default → IsFaultOf e (listings_checked (length xs) [] ls)
    → IsFaultOf e (sizes_under xs default ls)
listings_fail xs default ls e small (inl memory) = inl memory
listings_fail xs default ls e small (inr bad) = inr (rw (sym small, bad) refl)

-- the same, where the tables are read through references
module _ (xs : List Signature) (default : Option ℕ) (ls : List Listing) (table read again : List (Option Listed)) (sums seen : List Sum)
    (small : Ok (tt {0}) ≡ default_checked default) (listed_are : (listings_checked (length xs) [] ls ≡ Ok (tt {0})) × IsListed (length xs) ls table)
    (one : read ≡ table) (are : AreSums xs read sums) (two : again ≡ table) (three : seen ≡ sums) where
  pub fault_under : (e : NameFault) → IsFaultOf e (sizes_with xs again seen default (tops xs)) → IsFaultOf e (sizes_under xs default ls)
  fault_under e fault =
      under_fails xs default ls table sums small listed_are.0 listed_are.1 (subst (λ t. AreSums xs t sums) one are) e
      (subst (λ t. IsFaultOf e (sizes_with xs t sums default (tops xs))) two (subst (λ s. IsFaultOf e (sizes_with xs again s default (tops xs))) three fault))

  pub value_under : (sizes : List Size) (r : Result (List Size) NameFault) → sizes_with xs again seen default (tops xs) ≡ Ok sizes → few_places sizes ≡ r → sizes_under xs default ls ≡ r
  value_under sizes r found few =
      under_gives xs default ls table sums small listed_are.0 listed_are.1 (subst (λ t. AreSums xs t sums) one are) sizes
      (subst (λ t. sizes_with xs t sums default (tops xs) ≡ Ok sizes) two (subst (λ s. sizes_with xs again s default (tops xs) ≡ Ok sizes) three found))
      ∙ few
