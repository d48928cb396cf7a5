-- How many places each top-level signature has under a command, or the fault that is told.
use Rattle.std.specs.Prelude.{◌≡◌, ◌⊎◌, ℕ, ◌+◌, ◌-◌, ◌==◌, nat_le, nat_lt, length, List, [], ◌∷◌, ◌++◌, map, slice_get, Bool, true, false, if◌then◌else◌, Option, Some, None, option_map, option_and_then, Result, Ok, Err}
use Rattle.std.specs.List.{list_any}
use Rattle.alloy_syntax.specs.declared.tree.Number.{Number}
use Rattle.alloy_syntax.specs.declared.tree.MultiplicityWord.{MultiplicityWord}
use Rattle.alloy_syntax.specs.declared.tree.Multiplicity.TheVariants as multiplicity
use Rattle.named_model.specs.declared.fault.NameFault.{NameFault}
use Rattle.named_model.specs.declared.fault.NameFault.TheVariants as fault
use Rattle.named_model.specs.declared.named.Signature.{Signature}
use Rattle.named_model.specs.declared.named.Listing.{Listing}
use Rattle.named_model.specs.Model.{ScopeTree, CommandTree, NamedTree}
use Rattle.named_model.specs.Signatures.{signature_at, tops, extensions}
use Rattle.named_model.specs.Answers.{◌>>=◌}
use Rattle.model_sizes.specs.declared.size.Size.{Size}

abbrev pub Checked : Type 0
Checked = Result (Unit {0}) NameFault

-- at most 32
abbrev pub small : ℕ → Checked
small n = if nat_le n 32 then Ok tt else Err fault.ScopeTooLarge

-- ---- 1: the default, which is 3 where no scope is given

abbrev pub default_of : Option ScopeTree → Option ℕ
default_of None = Some 3
default_of (Some s) = option_map (λ (n : Number). n.value) s.default

abbrev pub default_checked : Option ℕ → Checked
default_checked None = Ok tt
default_checked (Some n) = small n

-- ---- 2: the sizes that are listed

abbrev pub listings_of : Option ScopeTree → List Listing
listings_of None = []
listings_of (Some s) = s.listings

-- the size is listed for this signature
abbrev pub is_for : ℕ → Listing → Bool
is_for s l = elim l.signature [ None ↦ false | Some t ↦ s == t ]

-- the name is that of one of n signatures, it isn't listed before, and its size is small
abbrev pub listing_checked : ℕ → List Listing → Listing → Checked
listing_checked n before l = elim l.signature [
  | None ↦ Err fault.UnknownScope
  | Some s ↦ if nat_lt s n then (if list_any (is_for s) before then Err (fault.Twice l.place) else small l.number.value) else Err fault.UnknownScope
]

-- the listings, of which these stand before
abbrev pub listings_checked : ℕ → List Listing → List Listing → Checked
listings_checked n before [] = Ok tt
listings_checked n before (l ∷ ls) = listing_checked n before l >>= λ one. listings_checked n (before ++ l ∷ []) ls

-- the listing for a signature, if there is one
abbrev pub listing_for : List Listing → ℕ → Option Listing
listing_for [] s = None
listing_for (l ∷ ls) s = if is_for s l then Some l else listing_for ls s

-- ---- 3: each top-level signature by the first rule that applies

-- with `one` or `lone`
abbrev pub is_alone : Option MultiplicityWord → Bool
is_alone None = false
is_alone (Some mark) = elim mark.multiplicity [ multiplicity.One ↦ true | multiplicity.Lone ↦ true | multiplicity.Some ↦ false | multiplicity.Set ↦ false ]

abbrev pub is_one : Option MultiplicityWord → Bool
is_one None = false
is_one (Some mark) = elim mark.multiplicity [ multiplicity.One ↦ true | multiplicity.Lone ↦ false | multiplicity.Some ↦ false | multiplicity.Set ↦ false ]

-- what an extension adds to its signature: the number that is listed for it, or 1 with `one` or `lone`
abbrev pub addend : List Signature → List Listing → ℕ → Option ℕ
addend xs ls s = elim (listing_for ls s) [
  | Some l ↦ Some l.number.value
  | None ↦ if is_alone (signature_at xs s).mark then Some 1 else None
]

abbrev pub added : Option ℕ → Option ℕ → Option ℕ
added None n = None
added (Some m) None = None
added (Some m) (Some n) = Some (m + n)

abbrev pub sum_of : List (Option ℕ) → Option ℕ
sum_of [] = Some 0
sum_of (n ∷ ns) = added n (sum_of ns)

-- the sum where there are some, and each is a number
abbrev pub some_sum : List (Option ℕ) → Option ℕ
some_sum [] = None
some_sum (n ∷ ns) = sum_of (n ∷ ns)

-- what the extensions of an abstract signature add up to
abbrev pub abstract_sum : List Signature → List Listing → ℕ → Option ℕ
abstract_sum xs ls s = if (signature_at xs s).is_abstract then some_sum (map (addend xs ls) (extensions xs s)) else None

abbrev pub size : ℕ → ℕ → Bool → Size
size s places exact = record { signature = s; places = places; exact = exact }

abbrev pub by_default : ℕ → Option ℕ → Result Size NameFault
by_default s None = Err fault.NoScope
by_default s (Some n) = Ok (size s n false)

abbrev pub by_sum : ℕ → Option ℕ → Option ℕ → Result Size NameFault
by_sum s None default = by_default s default
by_sum s (Some sum) default = small sum >>= λ few. Ok (size s sum false)

abbrev pub by_listing : List Signature → List Listing → ℕ → Option Listing → Option ℕ → Result Size NameFault
by_listing xs ls s None default = by_sum s (abstract_sum xs ls s) default
by_listing xs ls s (Some l) default = Ok (size s l.number.value l.exactly)

abbrev pub size_of : List Signature → List Listing → Option ℕ → ℕ → Result Size NameFault
size_of xs ls default s =
    if is_alone (signature_at xs s).mark then Ok (size s 1 (is_one (signature_at xs s).mark))
    else by_listing xs ls s (listing_for ls s) default

abbrev pub sizes_of : List Signature → List Listing → Option ℕ → List ℕ → Result (List Size) NameFault
sizes_of xs ls default [] = Ok []
sizes_of xs ls default (s ∷ ss) = size_of xs ls default s >>= λ one. sizes_of xs ls default ss >>= λ more. Ok (one ∷ more)

-- ---- 4: at most 64 places in all

abbrev pub places_in : List Size → ℕ
places_in [] = 0
places_in (x ∷ xs) = x.places + places_in xs

abbrev pub few_places : List Size → Result (List Size) NameFault
few_places xs = if nat_le (places_in xs) 64 then Ok xs else Err fault.TooManyAtoms

-- ---- all of them, in order

-- under a default and what is listed
abbrev pub sizes_under : List Signature → Option ℕ → List Listing → Result (List Size) NameFault
sizes_under xs default ls = do
  small ← default_checked default
  listed ← listings_checked (length xs) [] ls
  sizes ← sizes_of xs ls default (tops xs)
  few_places sizes

-- the scope of the command of a number, from 1 on
abbrev pub scope_at : List CommandTree → ℕ → Option ScopeTree
scope_at commands n = option_and_then (λ (c : CommandTree). c.scope) (slice_get commands (n - 1))

-- under a command
abbrev pub sizes_in : NamedTree → ℕ → Result (List Size) NameFault
sizes_in m n = let scope = scope_at m.commands n in sizes_under m.signatures (default_of scope) (listings_of scope)

-- want of memory, or the fault of the answer
abbrev pub IsFaultOf : {A : Type 0} → NameFault → Result A NameFault → Type 0
IsFaultOf f answer = (f ≡ fault.Memory) ⊎ (answer ≡ Err f)
