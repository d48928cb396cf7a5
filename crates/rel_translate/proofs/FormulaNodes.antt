-- The nodes of formulas over expressions, of negations, and of lists of formulas.
use Rattle.std.proofs.Common.{◌≡◌, ℕ, zero, suc, ◌+◌, ◌*◌, ◌==◌, ◌≤◌, ◌<◌, ◌↔◌, inl, inr, Bool, true, false, IsTrue, List, [], ◌∷◌, length, get_or, refl, sym, ◌∙◌, ap, subst, arith}
use Rattle.std.proofs.Math.Nat.{mul-add}
use Rattle.std.proofs.lemmas.Bool.{eqb-true, eq-eqb}
use Rattle.tuple_core.specs.declared.atom.Atom.{Atom}
use Rattle.tuple_core.specs.Operators.{Pred}
use Rattle.bool_circuit.specs.Network.{Network, size}
use Rattle.bool_circuit.specs.Value.{value_at, Extends}
use Rattle.bool_circuit.specs.Folding.{IsConstant}
use Rattle.bool_circuit.proofs.CallerLemmas.{Extends-trans}
use Rattle.bool_matrix.specs.Cells.{Cells, TrueIn, IsWithin, Says}
use Rattle.bool_matrix.specs.Counter.{HasAtLeast}
use Rattle.bool_matrix.proofs.ComparedEntries.{says_same}
use Rattle.rel_formula.specs.Bounds.{Bounded}
use Rattle.rel_formula.specs.Kernel.{ExpressionTree, FormulaTree, within, equal, at_least, negation}
use Rattle.rel_formula.specs.Meaning.{InValue}
use Rattle.rel_terms.specs.Numbers.{Number, Is, ◌⊕◌, ◌⊗◌}
use Rattle.rel_translate.specs.Tables.{structure_at}
use Rattle.rel_translate.specs.Makes.{HasRoomFor, Spends, TermsOf, FormulaTermsOf, IsMade, AreMade, Tells, IsTold}
use Rattle.rel_translate.proofs.Operators.{SizeOf, there_size, left_most, sum_size}
use Rattle.rel_translate.proofs.Spending.{IsAtMost, spends_own, spends_same, room_left, room_own}

-- without tuples that are there none is true
no_tuple : (network : Network) (m : Cells) (s : ℕ → Bool) (t : List Atom) → length m.entries ≡ 0 → TrueIn network m s t → ⊥
no_tuple network m s t none g = let l = g.1.1 in omega arith

-- a node that takes fewer than 16 nodes for each of its own terms
tells_own : {start mid new : Network} {C D : Number} {node : ℕ} (F : (ℕ → Bool) → Type 0) (own : ℕ) → Spends start mid C → Extends mid new → Says new node F → size new < size mid + 16 * own → IsAtMost own D → Tells start new node F (C ⊕ D)
tells_own {D = D} F own f extends says most bound = record {
  spends = spends_own D own f extends (omega arith) bound;
  says = says;
  spare = λ n h. inr (let l = f.most h.0 h.2 in let r = bound h.1 h.3 in let e = h.4 in omega arith);
}

-- a constant
tells_constant : {start mid new : Network} {C D : Number} {node : ℕ} (F : (ℕ → Bool) → Type 0) → Spends start mid C → Extends mid new → Says new node F → size new ≤ size mid → IsConstant new node → Tells start new node F (C ⊕ D)
tells_constant {D = D} F f extends says most constant = record {
  spends = spends_own D 0 f extends (omega arith) (λ n h. omega arith);
  says = says;
  spare = λ n h. inl constant;
}

pub tells_same : {old new : Network} {node : ℕ} {F : (ℕ → Bool) → Type 0} {C : Number} (G : (ℕ → Bool) → Type 0) (D : Number) → ((s : ℕ → Bool) → F s ↔ G s) → ((n : ℕ) → D n → C n) → Tells old new node F C → Tells old new node G D
tells_same G D same to t = record {
  spends = spends_same to t.spends;
  says = says_same same t.says;
  spare = λ n d. t.spare n (to n d);
}

module _ (p : Bounded) (env : List Atom) where
  abbrev ValueAt : (ℕ → Bool) → ExpressionTree → Pred
  ValueAt s e = InValue (structure_at p s) env e

  module _ {start mid : Network} {a b : ExpressionTree} {l r : Cells} (both : AreMade start mid p env a b l r) where
    within_same : (s : ℕ → Bool) → IsWithin (TrueIn mid l s) (TrueIn mid r s) ↔ IsWithin (ValueAt s a) (ValueAt s b)
    within_same s =
        let f = both.left.is.value s in
        let g = both.right.is.value s in
        (λ h t v. g.to t (h t (f.back t v)), λ h t v. g.back t (h t (f.to t v)))

    around_same : (s : ℕ → Bool) → IsWithin (TrueIn mid r s) (TrueIn mid l s) ↔ IsWithin (ValueAt s b) (ValueAt s a)
    around_same s =
        let f = both.left.is.value s in
        let g = both.right.is.value s in
        (λ h t v. f.to t (h t (g.back t v)), λ h t v. f.back t (h t (g.to t v)))

    pub within_room : HasRoomFor (size start) (FormulaTermsOf p env (within a b)) → size mid + 16 * length l.entries < 1073741823
    within_room h = room_own (SizeOf p env a) (length l.entries) h both.spends (left_most p env both)

    pub equal_room : HasRoomFor (size start) (FormulaTermsOf p env (equal a b)) → size mid + 16 * (length l.entries + length r.entries) < 1073741823
    equal_room h = room_own (SizeOf p env a ⊕ SizeOf p env b) (length l.entries + length r.entries) h both.spends (sum_size p env both)

    pub constant_room : {C : Number} → HasRoomFor (size start) ((TermsOf p env a ⊕ TermsOf p env b) ⊕ C) → size mid < 1073741823
    constant_room {C} h = let l = room_own C 0 h both.spends (λ n c. omega arith) in omega arith

    module _ {new : Network} {node : ℕ} (extends : Extends mid new) where
      pub within_told : Says new node (λ s. IsWithin (TrueIn mid l s) (TrueIn mid r s)) → size new ≤ size mid + 3 * length l.entries → (length l.entries ≡ 0 → ⊥) → IsTold start new p env (within a b) node
      within_told says most some =
          tells_own {D = SizeOf p env a} (λ s. IsWithin (ValueAt s a) (ValueAt s b)) (length l.entries) both.spends extends (says_same within_same says) (less (length l.entries) most some) (left_most p env both)
        where
          less : (k : ℕ) → size new ≤ size mid + 3 * k → (k ≡ 0 → ⊥) → size new < size mid + 16 * k
          less zero m n = absurd (n refl)
          less (suc k) m n = omega arith

      pub within_none : Says new node (λ s. IsTrue true) → size new ≤ size mid → IsConstant new node → length l.entries ≡ 0 → IsTold start new p env (within a b) node
      within_none says most constant none =
          tells_constant {D = SizeOf p env a} (λ s. IsWithin (ValueAt s a) (ValueAt s b)) both.spends extends
          (says_same (λ s. (λ h t v. absurd (no_tuple mid l s t none ((both.left.is.value s).back t v)), λ h. refl)) says) most constant

      pub equal_told : Says new node (λ s. IsWithin (TrueIn mid l s) (TrueIn mid r s) × IsWithin (TrueIn mid r s) (TrueIn mid l s)) → size new ≤ size mid + 3 * (length l.entries + length r.entries)
          → (length l.entries + length r.entries ≡ 0 → ⊥) → IsTold start new p env (equal a b) node
      equal_told says most some =
          tells_own {D = SizeOf p env a ⊕ SizeOf p env b} (λ s. IsWithin (ValueAt s a) (ValueAt s b) × IsWithin (ValueAt s b) (ValueAt s a)) (length l.entries + length r.entries) both.spends extends
          (says_same (λ s. (λ h. ((within_same s).0 h.0, (around_same s).0 h.1), λ h. ((within_same s).1 h.0, (around_same s).1 h.1))) says)
          (less (length l.entries + length r.entries) most some) (sum_size p env both)
        where
          less : (k : ℕ) → size new ≤ size mid + 3 * k → (k ≡ 0 → ⊥) → size new < size mid + 16 * k
          less zero m n = absurd (n refl)
          less (suc k) m n = omega arith

      pub equal_none : Says new node (λ s. IsTrue true) → size new ≤ size mid → IsConstant new node → length l.entries ≡ 0 → length r.entries ≡ 0 → IsTold start new p env (equal a b) node
      equal_none says most constant left right =
          tells_constant {D = SizeOf p env a ⊕ SizeOf p env b} (λ s. IsWithin (ValueAt s a) (ValueAt s b) × IsWithin (ValueAt s b) (ValueAt s a)) both.spends extends
          (says_same (λ s. (
            λ h. (λ t v. absurd (no_tuple mid l s t left ((both.left.is.value s).back t v)), λ t v. absurd (no_tuple mid r s t right ((both.right.is.value s).back t v))),
            λ h. refl,
          )) says) most constant

  module _ {start mid : Network} {e : ExpressionTree} {m : Cells} (n : ℕ) (one : IsMade start mid p env e m) where
    count_same : (s : ℕ → Bool) → HasAtLeast n (TrueIn mid m s) ↔ HasAtLeast n (ValueAt s e)
    count_same s =
        let f = one.is.is.value s in
        (λ h. (h.0, h.1, h.2, λ k d l. f.to _ (h.3 k d l)), λ h. (h.0, h.1, h.2, λ k d l. f.back _ (h.3 k d l)))

    count_most : IsAtMost (length m.entries * (n + 1)) (SizeOf p env e ⊗ Is (n + 1))
    count_most k h =
        let f : length m.entries * (n + 1) ≡ k = ap (λ x. x * (n + 1)) (there_size p env e m one.is h.0 h.2) ∙ ap (λ x. h.0 * x) (sym h.3) ∙ sym h.4 in
        omega arith

    pub count_room : HasRoomFor (size start) (FormulaTermsOf p env (at_least n e)) → size mid + 16 * (length m.entries * (n + 1)) < 1073741823
    count_room h = room_own (SizeOf p env e ⊗ Is (n + 1)) (length m.entries * (n + 1)) h one.spends count_most

    module _ {new : Network} {node : ℕ} (extends : Extends mid new) where
      pub count_told : Says new node (λ s. HasAtLeast n (TrueIn mid m s)) → size new ≤ size mid + 2 * (length m.entries * n) → (length m.entries ≡ 0 → ⊥) → IsTold start new p env (at_least n e) node
      count_told says most some =
          tells_own {D = SizeOf p env e ⊗ Is (n + 1)} (λ s. HasAtLeast n (ValueAt s e)) (length m.entries * (n + 1)) one.spends extends (says_same count_same says) (less (length m.entries) most some) count_most
        where
          less : (k : ℕ) → size new ≤ size mid + 2 * (k * n) → (k ≡ 0 → ⊥) → size new < size mid + 16 * (k * (n + 1))
          less zero q none = absurd (none refl)
          less (suc k) q none = let d = mul-add (suc k) n 1 in omega arith

      pub count_none : (b : Bool) → IsTrue b ↔ (n ≡ 0) → Says new node (λ s. IsTrue b) → size new ≤ size mid → IsConstant new node → length m.entries ≡ 0 → IsTold start new p env (at_least n e) node
      count_none b test says most constant none =
          tells_constant {D = SizeOf p env e ⊗ Is (n + 1)} (λ s. HasAtLeast n (ValueAt s e)) one.spends extends
          (says_same (λ s. (
            λ h. subst (λ k. HasAtLeast k (ValueAt s e)) (sym (test.0 h)) ([], refl, λ i j d l q. absurd (omega arith), λ k d l. absurd (omega arith)),
            λ h. test.1 (zero_of n h.0 h.1 (λ k d l. no_tuple mid m s (get_or h.0 k d) none ((one.is.is.value s).back (get_or h.0 k d) (h.3 k d l)))),
          )) says) most constant
        where
          zero_of : (n : ℕ) (ts : List (List Atom)) → length ts ≡ n → ((k : ℕ) (d : List Atom) → k < length ts → ⊥) → n ≡ 0
          zero_of n [] l f = sym l
          zero_of n (t ∷ ts) l f = absurd (f 0 t (omega arith))

  pub negation_room : {start mid : Network} {inner : ℕ} (f : FormulaTree) → IsTold start mid p env f inner → HasRoomFor (size start) (FormulaTermsOf p env (negation f)) → size mid < 1073741823
  negation_room f t h = let m = t.spends.most h.1.1 h.1.3 in let o = h.1.2 in let e = h.1.4 in let l = h.2 in omega arith

  pub negation_told : {start mid new : Network} {inner node : ℕ} (f : FormulaTree) → IsTold start mid p env f inner → Extends mid new → Says new node (λ s. IsTrue (value_at mid inner s) → ⊥) → size new ≤ size mid + 1 → IsTold start new p env (negation f) node
  negation_told {start} {mid} {new} f t extends says most = record {
    spends = record {
      extends = Extends-trans start mid new t.spends.extends extends;
      most = λ n h. let l = t.spends.most h.1 h.3 in let o = h.2 in let e = h.4 in omega arith;
    };
    says = says_same (λ s. (λ h g. h ((t.says.value s).1 g), λ h g. h ((t.says.value s).0 g))) says;
    spare = λ n h. inr (let l = t.spends.most h.1 h.3 in let o = h.2 in let e = h.4 in omega arith);
  }

  -- the room for the operands
  module _ (used : ℕ) (a b : ExpressionTree) where
    pub within_parts : HasRoomFor used (FormulaTermsOf p env (within a b)) → HasRoomFor used (TermsOf p env a ⊕ TermsOf p env b)
    within_parts h = room_left used (TermsOf p env a ⊕ TermsOf p env b) (SizeOf p env a) h

    pub equal_parts : HasRoomFor used (FormulaTermsOf p env (equal a b)) → HasRoomFor used (TermsOf p env a ⊕ TermsOf p env b)
    equal_parts h = room_left used (TermsOf p env a ⊕ TermsOf p env b) (SizeOf p env a ⊕ SizeOf p env b) h

  pub count_parts : (used n : ℕ) (e : ExpressionTree) → HasRoomFor used (FormulaTermsOf p env (at_least n e)) → HasRoomFor used (TermsOf p env e)
  count_parts used n e h = room_left used (TermsOf p env e) (SizeOf p env e ⊗ Is (n + 1)) h

  pub count_room_none : {start mid : Network} {e : ExpressionTree} {m : Cells} (n : ℕ) → IsMade start mid p env e m → HasRoomFor (size start) (FormulaTermsOf p env (at_least n e)) → size mid < 1073741823
  count_room_none {e = e} n one h = let l = room_own (SizeOf p env e ⊗ Is (n + 1)) 0 h one.spends (λ k c. omega arith) in omega arith

  pub constant_room_both : {start mid : Network} {a b : ExpressionTree} {l r : Cells} → AreMade start mid p env a b l r → HasRoomFor (size start) (FormulaTermsOf p env (equal a b)) → size mid < 1073741823
  constant_room_both {a = a} {b = b} both h = let k = room_own (SizeOf p env a ⊕ SizeOf p env b) 0 h both.spends (λ n c. omega arith) in omega arith

-- what a test says where it is false
pub truth_not : (b : Bool) {P : Type 0} → IsTrue b ↔ P → b ≡ false → P → ⊥
truth_not b says no' p = let yes' = says.1 p in absurd (cc)

pub zero_says : (n : ℕ) → IsTrue (n == 0) ↔ (n ≡ 0)
zero_says n = (eqb-true n 0, eq-eqb n 0)
