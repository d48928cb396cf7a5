-- There are at most as many pairs of neighbours as atoms.
use Rattle.std.proofs.Common.{◌≡◌, ◌≢◌, ◌<◌, ◌≤◌, ℕ, List, map, length, get_or, AllPairs, Contains, refl, sym, ap, subst, arith}
use Rattle.std.specs.declared.cmp.Ordering.{Ordering}
use Rattle.std.specs.declared.cmp.Ordering.TheVariants.{Less, Equal, Greater}
use Rattle.std.specs.Ordering.{nat_cmp, ordering_then}
use Rattle.std.proofs.lemmas.Bool.Decides.{nat_tests}
use Rattle.std.proofs.lemmas.List.{length-map}
use Rattle.tuple_core.specs.declared.atom.Atom.{Atom}
use Rattle.tuple_core.specs.Order.{atom_cmp}
use Rattle.rel_formula.specs.Bounds.{Bounded, IsAtomOf, HasFewAtoms}
use Rattle.rel_formula.proofs.Counts.{no_longer}
use Rattle.rel_formula.proofs.Lists.{pairs_map}
use Rattle.rel_formula.proofs.OpenCells.{map_has}
use Rattle.translation.specs.Kept.{AreAllSwaps}

number_not_less : (m : ℕ) → nat_cmp m m ≡ Less → ⊥
number_not_less m e = grind (arith, nat_tests)

then_not_less : (o p : Ordering) → (o ≡ Less → ⊥) → (p ≡ Less → ⊥) → ordering_then o p ≡ Less → ⊥
then_not_less Less p f g e = f refl
then_not_less Equal p f g e = g e
then_not_less Greater p f g e = cc

-- an atom isn't less than itself
not_less : (a b : Atom) → atom_cmp a b ≡ Less → a ≢ b
not_less a b e same = then_not_less (nat_cmp a.top a.top) (nat_cmp a.place a.place) (number_not_less a.top) (number_not_less a.place) (subst (λ x. atom_cmp a x ≡ Less) (sym same) e)

abbrev first_of : Atom × Atom → Atom
first_of pair = pair.0

mapped : (pairs : List (Atom × Atom)) (a : Atom) → Contains (map first_of pairs) a → (b : Atom) × Contains pairs (a, b)
mapped pairs a c =
    let h = map_has first_of pairs a c in
    (h.0.1, subst (Contains pairs) (sym (ap (λ x. (x, h.0.1)) h.2)) h.1)

pub few_pairs : (p : Bounded) (pairs : List (Atom × Atom)) → HasFewAtoms p → AreAllSwaps p pairs → length pairs ≤ 64
few_pairs p pairs few all =
    let firsts = map first_of pairs in
    let long : length firsts ≡ length pairs = length-map pairs first_of in
    let distinct : AllPairs (λ a b. a ≢ b) firsts = pairs_map (λ a b. a ≢ b) first_of pairs (λ j k d less l. not_less (get_or pairs j d).0 (get_or pairs k d).0 (all.rising j k d less l)) in
    let most = no_longer firsts few.0 distinct (λ a c. let (b, d) = mapped pairs a c in few.2 a ((all.exactly a b).0 d).first) in
    let m = few.1 in
    omega arith
