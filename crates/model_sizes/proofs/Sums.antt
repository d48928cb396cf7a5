-- What extensions add up to, as far as a loop has come.
use Rattle.std.proofs.Common.{◌≡◌, ◌≢◌, ℕ, zero, suc, ◌+◌, ◌<◌, ◌≤◌, ◌==◌, ◌&&◌, Bool, true, false, List, [], ◌∷◌, ◌++◌, map, length, take, get_or, set, refl, sym, ap, ◌∙◌, arith, Option, Some, None, min, if◌then◌else◌, replicate}
use Rattle.std.proofs.lemmas.List.{length-set, get_or-set_same, get_or-set_other, get_or-replicate, length-replicate, append-nil, map-append}
use Rattle.std.proofs.lemmas.Bool.{eqb-true}
use Rattle.alloy_syntax.specs.declared.tree.Manner.{Manner}
use Rattle.alloy_syntax.specs.declared.tree.Manner.TheVariants as manner
use Rattle.named_model.specs.declared.named.Signature.{Signature}
use Rattle.named_model.specs.Signatures.{signature_at, no_signature, numbers_where, extends_to, extensions}
use Rattle.model_sizes.specs.declared.tables.Listed.{Listed}
use Rattle.model_sizes.specs.declared.tables.Sum.{Sum}
use Rattle.model_sizes.specs.declared.tables.Sum.TheVariants as sum
use Rattle.model_sizes.specs.Tables.{AreSums, plus, sum_behind, addend_at, addend_with, with_extension, added_above}
use Rattle.model_sizes.proofs.Numbers.{numbers_more}

-- the sums of the extensions among these signatures, which begin the model's
pub record AreSumsOf (xs : List Signature) (table : List (Option Listed)) (front : List Signature) (sums : List Sum) : Type 0 where
  pub long : length sums ≡ length xs
  pub each : (s : ℕ) → s < length xs → get_or sums s sum.Empty ≡ sum_behind sum.Empty (map (addend_at xs table) (extensions front s))

pub sums_start : (xs : List Signature) (table : List (Option Listed)) → AreSumsOf xs table [] (replicate (length xs) sum.Empty)
sums_start xs table = record { long = length-replicate (length xs) sum.Empty; each = λ s l. get_or-replicate (length xs) s sum.Empty sum.Empty l }

sum_more : (a : Sum) (ns : List (Option ℕ)) (n : Option ℕ) → sum_behind a (ns ++ n ∷ []) ≡ plus (sum_behind a ns) n
sum_more a [] n = refl
sum_more a (m ∷ ns) n = sum_more (plus a m) ns n

-- what the signature of a number adds to the sum of s, if it adds to it
after : Bool → Sum → Option ℕ → Sum
after true a n = plus a n
after false a n = a

extensions_more : (xs : List Signature) (table : List (Option Listed)) (i s : ℕ) (b : Bool) → i < length xs → extends_to s (signature_at xs i).parent ≡ b
    → sum_behind sum.Empty (map (addend_at xs table) (extensions (take (i + 1) xs) s)) ≡ after b (sum_behind sum.Empty (map (addend_at xs table) (extensions (take i xs) s))) (addend_at xs table i)
unfolding after
extensions_more xs table i s true l e =
    ap (λ ns. sum_behind sum.Empty (map (addend_at xs table) ns)) (numbers_more (λ x. extends_to s x.parent) xs i no_signature true l e)
    ∙ ap (sum_behind sum.Empty) (map-append (addend_at xs table) (extensions (take i xs) s) (i ∷ []))
    ∙ sum_more sum.Empty (map (addend_at xs table) (extensions (take i xs) s)) (addend_at xs table i)
extensions_more xs table i s false l e =
    ap (λ ns. sum_behind sum.Empty (map (addend_at xs table) ns)) (numbers_more (λ x. extends_to s x.parent) xs i no_signature false l e ∙ append-nil (extensions (take i xs) s))

length_summed : (sums : List Sum) (o : Option (Manner × ℕ)) (n : Option ℕ) → length (added_above sums o n) ≡ length sums
length_summed sums None n = refl
length_summed sums (Some (manner.In, p)) n = refl
length_summed sums (Some (manner.Extends, p)) n = length-set sums p (plus (get_or sums p sum.Empty) n)

summed_at : (sums : List Sum) (o : Option (Manner × ℕ)) (n : Option ℕ) (s : ℕ) → s < length sums → get_or (added_above sums o n) s sum.Empty ≡ after (extends_to s o) (get_or sums s sum.Empty) n
unfolding after
summed_at sums None n s l = refl
summed_at sums (Some (manner.In, p)) n s l = refl
summed_at sums (Some (manner.Extends, p)) n s l = go (p == s) refl
  where
    go : (b : Bool) → (p == s) ≡ b → get_or (set sums p (plus (get_or sums p sum.Empty) n)) s sum.Empty ≡ after b (get_or sums s sum.Empty) n
    go true e = let same = eqb-true p s e in rw same (get_or-set_same sums s (plus (get_or sums s sum.Empty) n) sum.Empty l)
    go false e = get_or-set_other sums p s (plus (get_or sums p sum.Empty) n) sum.Empty (differs e)
      where
        differs : (p == s) ≡ false → s ≢ p
        differs e same = grind (arith, e, same)

pub sums_more : (xs : List Signature) (table : List (Option Listed)) (i : ℕ) (sums : List Sum) → i < length xs → AreSumsOf xs table (take i xs) sums
    → AreSumsOf xs table (take (i + 1) xs) (with_extension sums (signature_at xs i) (get_or table i None))
sums_more xs table i sums l h = record {
  long = length_summed sums (signature_at xs i).parent (addend_at xs table i) ∙ h.long;
  each = λ s below.
      summed_at sums (signature_at xs i).parent (addend_at xs table i) s (omega (arith, h.long))
      ∙ ap (λ a. after (extends_to s (signature_at xs i).parent) a (addend_at xs table i)) (h.each s below)
      ∙ sym (extensions_more xs table i s (extends_to s (signature_at xs i).parent) l refl);
}
