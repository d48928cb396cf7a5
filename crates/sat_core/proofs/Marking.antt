-- What the marks of clauses tell.
use Rattle.std.proofs.Common.{◌≡◌, ◌∙◌, ◌<◌, ◌∷◌, [], ℕ, zero, suc, List, All, Contains, ap, arith, get_or, length, subst, sym}
use Rattle.std.specs.Prelude.{bit_or}
use Rattle.std.specs.Int.Bits.{or_self, or_zero_r}
use Rattle.std.proofs.lemmas.List.Elements.{All-head, All-tail}
use Rattle.std.proofs.lemmas.Nat.{or_comm}
use Rattle.std.proofs.lemmas.Nat.Bits.{bit_at_or, same_from_bits}
use Rattle.cnf_core.specs.declared.literal.Lit.{Lit}
use Rattle.refutation_check.specs.Chain.{Subsumes}
use Rattle.sat_core.specs.Marked.{bit_of, mark_of, marked}

or_assoc : (a b c : ℕ) → bit_or (bit_or a b) c ≡ bit_or a (bit_or b c)
or_assoc a b c = same_from_bits _ _ (λ i. omega (arith, bit_at_or (bit_or a b) c i, bit_at_or a b i, bit_at_or a (bit_or b c) i, bit_at_or b c i))

-- further bits take none away
still_has : (mark : ℕ) (ls : List Lit) (l : Lit) → bit_or mark (bit_of l) ≡ mark → bit_or (marked mark ls) (bit_of l) ≡ marked mark ls
still_has mark [] l has = has
still_has mark (x ∷ ls) l has =
    still_has (bit_or mark (bit_of x)) ls l
    (or_assoc mark (bit_of x) (bit_of l) ∙ ap (bit_or mark) (or_comm (bit_of x) (bit_of l)) ∙ sym (or_assoc mark (bit_of l) (bit_of x)) ∙ ap (λ m. bit_or m (bit_of x)) has)

-- the mark of a clause has the bit of each of its literals
has_its_own : (mark : ℕ) (ls : List Lit) (l : Lit) (i : ℕ) → i < length ls → get_or ls i l ≡ l → bit_or (marked mark ls) (bit_of l) ≡ marked mark ls
has_its_own mark [] l i within is = absurd (omega arith)
has_its_own mark (x ∷ ls) l zero within is =
    still_has (bit_or mark (bit_of x)) ls l (subst (λ (y : Lit). bit_or (bit_or mark (bit_of y)) (bit_of l) ≡ bit_or mark (bit_of y)) (sym is) (or_assoc mark (bit_of l) (bit_of l) ∙ ap (bit_or mark) (or_self (bit_of l))))
has_its_own mark (x ∷ ls) l (suc i) within is = has_its_own (bit_or mark (bit_of x)) ls l i (omega arith) is

-- bits that a mark has, one by one, it has together
has_together : (mark some : ℕ) (ls : List Lit) → All (λ l. bit_or mark (bit_of l) ≡ mark) ls → bit_or mark some ≡ mark → bit_or mark (marked some ls) ≡ mark
has_together mark some [] each has = has
has_together mark some (x ∷ ls) each has =
    let at = λ (l : Lit). bit_or mark (bit_of l) ≡ mark in
    has_together mark (bit_or some (bit_of x)) ls (All-tail at x ls each) (sym (or_assoc mark some (bit_of x)) ∙ ap (λ m. bit_or m (bit_of x)) has ∙ All-head at x ls each)

-- where each literal of a clause is among those of another, that one's mark has all its bits
pub mark_has : (clause other : List Lit) → Subsumes clause other → bit_or (mark_of other) (mark_of clause) ≡ mark_of other
mark_has clause other there =
    has_together (mark_of other) 0 clause (λ i d within. let w : Contains other (get_or clause i d) = there i d within in has_its_own 0 other (get_or clause i d) w.0 w.1 w.2) (or_zero_r (mark_of other))
