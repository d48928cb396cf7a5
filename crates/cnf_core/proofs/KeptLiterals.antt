-- What the pass over the sorted literals keeps.
use Rattle.std.proofs.Common.{◌≡◌, ◌<◌, ◌≤◌, ◌+◌, ◌-◌, ◌++◌, [], ◌∷◌, ℕ, List, length, get_or, All, arith, sym, ◌∙◌, ap, inl, inr, below_more, subst}
use Rattle.std.proofs.lemmas.List.{get_or_default}
use Rattle.std.proofs.lemmas.List.Quantifiers.{all_pairs_push}
use Rattle.std.proofs.lemmas.List.Elements.{All-push, All-contains, Contains-push, Contains-append_left, Contains-get_or}
use Rattle.std.proofs.lemmas.Bool.{cases_lt}
use Rattle.std.proofs.lemmas.Grind.{common_steps, elements}
use Rattle.std.specs.List.{AllPairs, Contains}
use Rattle.std.specs.List.Sorted.{IsNonDecreasingBy, IsPermutation}
use Rattle.std.proofs.lemmas.List.Sorted.{Contains-permutation, IsPermutation-sym}
use Rattle.cnf_core.specs.declared.literal.Lit.{Lit}
use Rattle.cnf_core.specs.Literal.{negation_of, IsVariable, IsTautology}
use Rattle.cnf_core.proofs.Literals.{not_both}

-- of the first n of the items, sorted by variable, each is kept, and once
pub record Keeps (items : List Lit) (n : ℕ) (kept : List Lit) : Type 0 where
  pub rising : AllPairs (λ a b. a.var < b.var) kept
  pub from_items : All (Contains items) kept
  pub below : (k j : ℕ) (d e : Lit) → k < length kept → n ≤ j → j < length items → (get_or kept k d).var ≤ (get_or items j e).var
  pub each : (j : ℕ) (d : Lit) → j < n → j < length items → Contains kept (get_or items j d)

below_pushed : (kept : List Lit) (x : Lit) (k : ℕ) (d : Lit) (m : ℕ) → k < length (kept ++ x ∷ []) → (k < length kept → (get_or kept k d).var ≤ m) → x.var ≤ m → (get_or (kept ++ x ∷ []) k d).var ≤ m
below_pushed kept x k d m h old new =
    elim (cases_lt k (length kept)) [
      | inl lt ↦ let e : get_or (kept ++ x ∷ []) k d ≡ get_or kept k d = grind (arith, common_steps) in rw e (old lt)
      | inr ge ↦ let e : get_or (kept ++ x ∷ []) k d ≡ x = grind (arith, common_steps, elements) in rw e new
    ]

module _ (items : List Lit) (n : ℕ) (kept : List Lit) (in' : n < length items) (was : Keeps items n kept) where
  -- the item is there already
  pub keeps_again : (d last : Lit) → Contains kept last → last ≡ get_or items n d → Keeps items (n + 1) kept
  keeps_again d last has is =
      let here : (e : Lit) → n < length items → Contains kept (get_or items n e) = λ e h. subst (Contains kept) (is ∙ get_or_default items n d e in') has in
      record {
        rising = was.rising;
        from_items = was.from_items;
        below = λ k j d' e h l m. was.below k j d' e h (omega arith) m;
        each = λ j e h. below_more (λ (j : ℕ). (e : Lit) → j < length items → Contains kept (get_or items j e)) n (λ k l e'. was.each k e' l) here j h e;
      }

  -- the item comes to the end
  pub keeps_push : (d : Lit) → IsNonDecreasingBy (λ l. l.var) items → ((k : ℕ) (e : Lit) → k < length kept → (get_or kept k e).var < (get_or items n d).var) → Keeps items (n + 1) (kept ++ get_or items n d ∷ [])
  keeps_push d sorted fresh =
      let x : Lit = get_or items n d in
      let after : (j : ℕ) (e : Lit) → n ≤ j → j < length items → x.var ≤ (get_or items j e).var =
      λ j e l m. let up : (get_or items n e).var ≤ (get_or items j e).var = sorted n j e l m in
      let same : x.var ≡ (get_or items n e).var = ap (λ (l : Lit). l.var) (get_or_default items n d e in') in omega arith in
      let here : (e : Lit) → n < length items → Contains (kept ++ x ∷ []) (get_or items n e) = λ e h. subst (Contains (kept ++ x ∷ [])) (get_or_default items n d e in') (Contains-push kept x) in
      record {
        rising = all_pairs_push (λ a b. a.var < b.var) kept x was.rising fresh;
        from_items = All-push (Contains items) kept x was.from_items (Contains-get_or items n d in');
        below = λ k j d' e h l m. below_pushed kept x k d' (get_or items j e).var h (λ lt. was.below k j d' e lt (omega arith) m) (after j e (omega arith) m);
        each = λ j e h. below_more (λ (j : ℕ). (e : Lit) → j < length items → Contains (kept ++ x ∷ []) (get_or items j e)) n (λ k l e' m. Contains-append_left kept (x ∷ []) _ (was.each k e' l m)) here j h e;
      }

-- at the end the clause has the items, and is none where a variable has both signs
pub keeps_same : (items kept : List Lit) (n : ℕ) → length items ≤ n → Keeps items n kept → (l : Lit) → Contains items l → Contains kept l
keeps_same items kept n all was l (i, h, is) = subst (Contains kept) is (was.each i l (omega arith) h)

pub keeps_no_tautology : (items kept : List Lit) (n : ℕ) → length items ≤ n → Keeps items n kept → IsTautology items → ⊥
keeps_no_tautology items kept n all was (l, here, there) =
    not_both kept was.rising l (keeps_same items kept n all was l here) (keeps_same items kept n all was (negation_of l) there)

-- what `last` gives is kept
pub last_kept : (ys kept : List Lit) (last : Lit) → ys ≡ kept → 0 < length ys → ((d : Lit) → last ≡ get_or ys (length ys - 1) d) → Contains kept last
last_kept ys kept last same some is = subst (λ (zs : List Lit). Contains zs last) same (length ys - 1, omega arith, sym (is last))

-- where the last one has another variable, the item is above each that is kept
pub last_below : (items : List Lit) (n : ℕ) (kept : List Lit) → n < length items → Keeps items n kept → (d : Lit) (ys : List Lit) (last : Lit) → ys ≡ kept → 0 < length ys → ((d : Lit) → last ≡ get_or ys (length ys - 1) d) → (last.var ≡ (get_or items n d).var → ⊥) → (k : ℕ) (e : Lit) → k < length kept → (get_or kept k e).var < (get_or items n d).var
last_below items n kept in' was d ys last same some is differ k e h =
    let lens : length ys ≡ length kept = ap length same in
    let last' : last ≡ get_or kept (length kept - 1) e = is e ∙ (ap (λ (m : ℕ). get_or ys (m - 1) e) lens ∙ ap (λ (zs : List Lit). get_or zs (length kept - 1) e) same) in
    let var' : last.var ≡ (get_or kept (length kept - 1) e).var = ap (λ (l : Lit). l.var) last' in
    let up : (get_or kept (length kept - 1) e).var ≤ (get_or items n d).var = was.below (length kept - 1) n e d (omega arith) (omega arith) in' in
    elim (cases_lt k (length kept - 1)) [
      | inl lt ↦ let r : (get_or kept k e).var < (get_or kept (length kept - 1) e).var = was.rising k (length kept - 1) e lt (omega arith) in omega arith
      | inr ge ↦ let same_k : k ≡ length kept - 1 = omega arith in
          let v : (get_or kept k e).var ≡ (get_or kept (length kept - 1) e).var = ap (λ (m : ℕ). (get_or kept m e).var) same_k in
          omega (arith, differ)
    ]

-- the sorted copy has the literals
pub moved : (lits a b items : List Lit) → a ≡ lits → IsPermutation a b → items ≡ b → (l : Lit) → Contains lits l → Contains items l
moved lits a b items e p f l h = subst (λ (zs : List Lit). Contains zs l) (sym f) (Contains-permutation a b l p (subst (λ (zs : List Lit). Contains zs l) (sym e) h))

pub moved_back : (lits a b items : List Lit) → a ≡ lits → IsPermutation a b → items ≡ b → (l : Lit) → Contains items l → Contains lits l
moved_back lits a b items e p f l h = subst (λ (zs : List Lit). Contains zs l) e (Contains-permutation b a l (IsPermutation-sym a b p) (subst (λ (zs : List Lit). Contains zs l) f h))

pub keeps_variables : (lits items kept : List Lit) → ((l : Lit) → Contains items l → Contains lits l) → All (λ l. IsVariable l.var) lits → All (Contains items) kept → All (λ l. IsVariable l.var) kept
keeps_variables lits items kept back variables from' k d h = All-contains (λ (l : Lit). IsVariable l.var) lits (get_or kept k d) variables (back _ (from' k d h))
