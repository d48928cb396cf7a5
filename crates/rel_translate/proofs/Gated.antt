-- What gates say of the facts that their operands say.
use Rattle.std.proofs.Common.{ℕ, ◌+◌, ◌<◌, ◌≤◌, ◌⊎◌, inl, inr, Bool, not, ◌&&◌, ◌||◌, IsTrue, length, arith}
use Rattle.bool_circuit.specs.Network.{Network, size}
use Rattle.bool_circuit.specs.Value.{value_at, Extends, Stands}
use Rattle.bool_circuit.proofs.CallerLemmas.{Extends-trans}
use Rattle.bool_matrix.specs.Cells.{Says}
use Rattle.bool_matrix.proofs.Edits.{or_says}
use Rattle.bool_matrix.proofs.Nodes.{and_says, not_true, says_kept, from_stands, within_says}
use Rattle.bool_matrix.proofs.ComparedEntries.{says_same, says_itself, says_both}

-- a node is there in a circuit that has grown
pub there_later : (old new : Network) (n : ℕ) → Extends old new → n < length old.shapes → n < length new.shapes
there_later old new n extends l = let m = extends.longer in omega arith

-- the room for so many gates is room for the first
pub room_for_one : (a : Network) (k : ℕ) {most : ℕ} → size a + k < most → length a.shapes < most
room_for_one a k room = omega arith

-- the room for so many gates is room for one behind the first of them
pub room_behind : (a b : Network) (j k : ℕ) {most : ℕ} → size b ≤ size a + j → size a + (j + k) < most → length b.shapes < most
room_behind a b j k made room = omega arith

-- one gate more
pub size_more : (a b c : Network) (j : ℕ) → size b ≤ size a + j → size c ≤ size b + 1 → size c ≤ size a + (j + 1)
size_more a b c j made one = omega arith

-- so many gates are no more than that and some
pub size_less : (a b : Network) (j k : ℕ) → size b ≤ size a + j → size b ≤ size a + (j + k)
size_less a b j k made = omega arith

-- a node says the same in a circuit that has grown
pub says_later : {old new : Network} {n : ℕ} {F : (ℕ → Bool) → Type 0} → Extends old new → Says old n F → Says new n F
says_later {old} {new} {n} extends f = record {
  there = let l = f.there in let m = extends.longer in omega arith;
  value = λ s. let kept = says_kept old new extends n f.there s in (λ h. (f.value s).0 (kept.1 h), λ g. kept.0 ((f.value s).1 g));
}

pub gate_and : (old new : Network) (a b n : ℕ) → Stands new n (λ s. value_at old a s && value_at old b s) → Says new n (λ s. IsTrue (value_at old a s) × IsTrue (value_at old b s))
gate_and old new a b n stands = from_stands new n (λ s. value_at old a s && value_at old b s) (λ s. IsTrue (value_at old a s) × IsTrue (value_at old b s)) stands (λ s. and_says (value_at old a s) (value_at old b s))

pub gate_or : (old new : Network) (a b n : ℕ) → Stands new n (λ s. value_at old a s || value_at old b s) → Says new n (λ s. IsTrue (value_at old a s) ⊎ IsTrue (value_at old b s))
gate_or old new a b n stands = from_stands new n (λ s. value_at old a s || value_at old b s) (λ s. IsTrue (value_at old a s) ⊎ IsTrue (value_at old b s)) stands (λ s. or_says (value_at old a s) (value_at old b s))

pub gate_not : (old new : Network) (a n : ℕ) → Stands new n (λ s. not (value_at old a s)) → Says new n (λ s. IsTrue (value_at old a s) → ⊥)
gate_not old new a n stands = from_stands new n (λ s. not (value_at old a s)) (λ s. IsTrue (value_at old a s) → ⊥) stands (λ s. not_true (value_at old a s))

-- the disjunction of two nodes, the first in a circuit that has grown
pub says_either : (a b c : Network) (m n k : ℕ) (F G : (ℕ → Bool) → Type 0) → Extends a b → Says a m F → Says b n G → Stands c k (λ s. value_at b m s || value_at b n s) → Says c k (λ s. F s ⊎ G s)
says_either a b c m n k F G extends f g either =
    says_same (λ s.
    let kept = says_kept a b extends m f.there s in (
      λ h. elim h [ inl l ↦ inl ((f.value s).0 (kept.1 l)) | inr r ↦ inr ((g.value s).0 r) ],
      λ h. elim h [ inl l ↦ inl (kept.0 ((f.value s).1 l)) | inr r ↦ inr ((g.value s).1 r) ],
    )) (gate_or b c m n k either)

-- the negation of a node
pub says_no : (a b : Network) (m n : ℕ) (F : (ℕ → Bool) → Type 0) → Says a m F → Stands b n (λ s. not (value_at a m s)) → Says b n (λ s. F s → ⊥)
says_no a b m n F f stands = says_same (λ s. (λ h g. h ((f.value s).1 g), λ h g. h ((f.value s).0 g))) (gate_not a b m n stands)

pub implied_says : (a b c d : Network) (all guard body absent implied n : ℕ) → Extends a b → Extends b c → all < length a.shapes → body < length a.shapes
    → Stands b absent (λ s. not (value_at a guard s)) → Stands c implied (λ s. value_at b absent s || value_at b body s) → Stands d n (λ s. value_at c all s && value_at c implied s)
    → Says d n (λ s. IsTrue (value_at a all s) × (IsTrue (value_at a guard s) → IsTrue (value_at a body s)))
implied_says a b c d all guard body absent implied n ab bc la lb is_not is_or is_both =
    says_both a c d all implied n (λ s. IsTrue (value_at a all s)) (λ s. IsTrue (value_at a guard s) → IsTrue (value_at a body s)) (Extends-trans a b c ab bc) (says_itself a all la)
    (within_says a b c ab guard body absent implied (λ s. IsTrue (value_at a body s)) lb is_not is_or (λ s. (λ h. h, λ h. h))) is_both

pub met_says : (a b c : Network) (any guard body met n : ℕ) → Extends a b → any < length a.shapes
    → Stands b met (λ s. value_at a guard s && value_at a body s) → Stands c n (λ s. value_at b any s || value_at b met s)
    → Says c n (λ s. IsTrue (value_at a any s) ⊎ (IsTrue (value_at a guard s) × IsTrue (value_at a body s)))
met_says a b c any guard body met n ab l both either =
    says_either a b c any met n (λ s. IsTrue (value_at a any s)) (λ s. IsTrue (value_at a guard s) × IsTrue (value_at a body s)) ab (says_itself a any l) (gate_and a b guard body met both) either

pub lone_says : (a b c d e : Network) (lone found guard body met again first n : ℕ) → Extends a b → Extends b c → Extends c d → lone < length a.shapes → found < length a.shapes
    → Stands b met (λ s. value_at a guard s && value_at a body s) → Stands c again (λ s. value_at b found s && value_at b met s)
    → Stands d first (λ s. not (value_at c again s)) → Stands e n (λ s. value_at d lone s && value_at d first s)
    → Says e n (λ s. IsTrue (value_at a lone s) × (IsTrue (value_at a found s) → IsTrue (value_at a guard s) → IsTrue (value_at a body s) → ⊥))
lone_says a b c d e lone found guard body met again first n ab bc cd ll lf is_met is_again is_first both =
    let Met : (ℕ → Bool) → Type 0 = λ s. IsTrue (value_at a guard s) × IsTrue (value_at a body s) in
    let Found : (ℕ → Bool) → Type 0 = λ s. IsTrue (value_at a found s) in
    let twice = says_both a b c found met again Found Met ab (says_itself a found lf) (gate_and a b guard body met is_met) is_again in
    let once = says_no c d again first (λ s. Found s × Met s) twice is_first in
    let ad = Extends-trans a c d (Extends-trans a b c ab bc) cd in
    says_same (λ s. (λ h. (h.0, λ f g i. h.1 (f, (g, i))), λ h. (h.0, λ t. h.1 t.0 t.1.0 t.1.1)))
    (says_both a d e lone first n (λ s. IsTrue (value_at a lone s)) (λ s. (Found s × Met s) → ⊥) ad (says_itself a lone ll) once both)
