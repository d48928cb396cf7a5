-- What the code keeps for each signature while it goes through the rules.
use Rattle.std.specs.Prelude.{◌≡◌, ℕ, ◌+◌, ◌<◌, ◌==◌, nat_le, nat_lt, min, List, [], ◌∷◌, length, map, slice_get, slice_index_or, slice_set, Bool, true, false, ◌&&◌, is_none, if◌then◌else◌, Option, Some, None, Result, Ok, Err, option_map}
use Rattle.alloy_syntax.specs.declared.tree.Manner.{Manner}
use Rattle.alloy_syntax.specs.declared.tree.Manner.TheVariants as manner
use Rattle.named_model.specs.declared.fault.NameFault.{NameFault}
use Rattle.named_model.specs.declared.fault.NameFault.TheVariants as fault
use Rattle.named_model.specs.declared.named.Signature.{Signature}
use Rattle.named_model.specs.declared.named.Listing.{Listing}
use Rattle.named_model.specs.Signatures.{signature_at, extensions}
use Rattle.model_sizes.specs.declared.size.Size.{Size}
use Rattle.model_sizes.specs.declared.tables.Listed.{Listed}
use Rattle.model_sizes.specs.declared.tables.Sum.{Sum}
use Rattle.model_sizes.specs.declared.tables.Sum.TheVariants as sum
use Rattle.model_sizes.specs.Sizes.{listing_for, is_alone, is_one, size, by_default, small}
use Rattle.named_model.specs.Answers.{◌>>=◌}

abbrev pub listed : Listing → Listed
listed l = record { places = l.number.value; exact = l.exactly }

-- the table has, for each of n signatures, what these listings say
pub record IsListed (n : ℕ) (ls : List Listing) (table : List (Option Listed)) : Type 0 where
  pub long : length table ≡ n
  pub each : (s : ℕ) → s < n → slice_index_or table s None ≡ option_map listed (listing_for ls s)

-- what an extension adds, by what is listed for it
abbrev pub addend_with : Signature → Option Listed → Option ℕ
addend_with x (Some l) = Some l.places
addend_with x None = if is_alone x.mark then Some 1 else None

-- the sum with one number more; above 32 it is 33
abbrev pub plus : Sum → Option ℕ → Sum
plus s None = sum.Unknown
plus sum.Empty (Some n) = sum.Known (min n 33)
plus (sum.Known m) (Some n) = sum.Known (min (m + n) 33)
plus sum.Unknown (Some n) = sum.Unknown

abbrev pub sum_or_none : Sum → Option ℕ
sum_or_none sum.Empty = None
sum_or_none (sum.Known n) = Some n
sum_or_none sum.Unknown = None

-- a signature's size, by what is listed for it and what its extensions add up to
abbrev pub by_sum_with : ℕ → Option ℕ → Option ℕ → Result Size NameFault
by_sum_with s None default = by_default s default
by_sum_with s (Some sum) default = small sum >>= λ few. Ok (size s sum false)

abbrev pub size_with : ℕ → Signature → Option Listed → Sum → Option ℕ → Result Size NameFault
size_with s x l sum default =
    if is_alone x.mark then Ok (size s 1 (is_one x.mark))
    else (elim l [
      | Some l ↦ Ok (size s l.places l.exact)
      | None ↦ by_sum_with s (if x.is_abstract then sum_or_none sum else None) default
    ])

-- ---- what each step answers

-- the signature of a listing that isn't in the table, and whose size is small
abbrev pub unlisted_at : Listing → ℕ → Option (Option Listed) → Result ℕ NameFault
unlisted_at l s None = Err fault.UnknownScope
unlisted_at l s (Some (Some before)) = Err (fault.Twice l.place)
unlisted_at l s (Some None) = small l.number.value >>= λ few. Ok s

abbrev pub unlisted : List (Option Listed) → Listing → Result ℕ NameFault
unlisted table l = elim l.signature [ None ↦ Err fault.UnknownScope | Some s ↦ unlisted_at l s (slice_get table s) ]

-- the table with a number more for one signature, if it has that signature
abbrev pub added_at : List Sum → ℕ → Option ℕ → List Sum
added_at sums s n = slice_set sums s (plus (slice_index_or sums s sum.Empty) n)

abbrev pub is_extension : Manner → Bool
is_extension manner.Extends = true
is_extension manner.In = false

-- and with a number more for a signature's parent, if it extends it
abbrev pub added_above : List Sum → Option (Manner × ℕ) → Option ℕ → List Sum
added_above sums None n = sums
added_above sums (Some p) n = if is_extension p.0 then added_at sums p.1 n else sums

abbrev pub with_extension : List Sum → Signature → Option Listed → List Sum
with_extension sums x l = added_above sums x.parent (addend_with x l)

-- what an extension of that number adds
abbrev pub addend_at : List Signature → List (Option Listed) → ℕ → Option ℕ
addend_at xs table s = addend_with (signature_at xs s) (slice_index_or table s None)

-- numbers added up, one after the other
abbrev pub sum_behind : Sum → List (Option ℕ) → Sum
sum_behind s [] = s
sum_behind s (n ∷ ns) = sum_behind (plus s n) ns

-- each signature has the sum of its extensions
pub record AreSums (xs : List Signature) (table : List (Option Listed)) (sums : List Sum) : Type 0 where
  pub long : length sums ≡ length xs
  pub each : (s : ℕ) → s < length xs → slice_index_or sums s sum.Empty ≡ sum_behind sum.Empty (map (addend_at xs table) (extensions xs s))

-- the sizes of top-level signatures of these numbers
abbrev pub sizes_with : List Signature → List (Option Listed) → List Sum → Option ℕ → List ℕ → Result (List Size) NameFault
sizes_with xs table sums default [] = Ok []
sizes_with xs table sums default (s ∷ ss) =
    size_with s (signature_at xs s) (slice_index_or table s None) (slice_index_or sums s sum.Empty) default >>= λ one.
    sizes_with xs table sums default ss >>= λ more. Ok (one ∷ more)
