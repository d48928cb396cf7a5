-- Steps from a signature to its parent, by tables.
use Rattle.std.proofs.Common.{◌≡◌, ℕ, zero, suc, ◌+◌, ◌<◌, ◌≤◌, Bool, true, false, List, [], ◌∷◌, ◌++◌, map, length, get_or, refl, sym, ap, subst, ◌∙◌, arith, Option, Some, None, nat_lt}
use Rattle.std.proofs.lemmas.List.{get_or-map, get_or_past, length-map, length-append, get_or_append_left, get_or_push}
use Rattle.std.proofs.lemmas.Option.{slice_get_read, get_or_from_slice_get}
use Rattle.std.proofs.lemmas.Bool.{ltb-true}
use Rattle.alloy_syntax.specs.declared.tree.Manner.{Manner}
use Rattle.named_model.specs.declared.named.Signature.{Signature}
use Rattle.named_model.specs.Signatures.{signature_at, no_signature, top_within}
use Rattle.model_types.specs.Parts.Tables.{entry, above, AreParents, AreAbove}

-- ---- steps

module _ (xs : List Signature) where
  next : ℕ → ℕ
  next s = above s (signature_at xs s)

  stays : (n s : ℕ) → (signature_at xs s).parent ≡ None → top_within xs n s ≡ s
  stays zero s e = refl
  stays (suc n) s e = rw (e, top_within) refl

  one_step : (n s : ℕ) → top_within xs (suc n) s ≡ top_within xs n (next s)
  unfolding next
  one_step n s = go (signature_at xs s).parent refl
    where
      go : (o : Option (Manner × ℕ)) → (signature_at xs s).parent ≡ o → top_within xs (suc n) s ≡ top_within xs n (above s (signature_at xs s))
      go None e = let same : above s (signature_at xs s) ≡ s = rw (e, above) refl in stays (suc n) s e ∙ sym (ap (top_within xs n) same ∙ stays n s e)
      go (Some p) e =
          let same : above s (signature_at xs s) ≡ p.1 = rw (e, above) refl in
          let up : top_within xs (suc n) s ≡ top_within xs n p.1 = rw (e, top_within) refl in
          up ∙ sym (ap (top_within xs n) same)

  steps_add : (m n s : ℕ) → top_within xs (m + n) s ≡ top_within xs m (top_within xs n s)
  steps_add m zero s = ap (λ k. top_within xs k s) (omega arith)
  steps_add m (suc n) s =
      ap (λ k. top_within xs k s) (add_suc m n) ∙ one_step (m + n) s ∙ steps_add m n (next s) ∙ ap (top_within xs m) (sym (one_step n s))
    where
      add_suc : (m n : ℕ) → m + suc n ≡ suc (m + n)
      add_suc m n = omega arith

-- ---- tables

-- an item that is read is that of its number
item_is : {X : Type 0} (xs : List X) (i : ℕ) (d x : X) → i < length xs → x ≡ get_or xs i x → get_or xs i d ≡ x
item_is xs i d x l is = get_or_from_slice_get xs i x d (slice_get_read xs (length xs) i x refl l is)

inside : (s n : ℕ) → nat_lt s n ≡ true → s < n
inside s n e = ltb-true s n e

outside : (s n : ℕ) → nat_lt s n ≡ false → n ≤ s
outside s n e = grind (arith, e)

-- one table behind another
entry_followed : (first second : List ℕ) (s : ℕ) → length first ≡ length second → entry (map (entry second) first) s ≡ entry second (entry first s)
entry_followed first second s long = go (nat_lt s (length first)) refl
  where
    go : (b : Bool) → nat_lt s (length first) ≡ b → entry (map (entry second) first) s ≡ entry second (entry first s)
    go true e = get_or-map (entry second) first s s s (inside s (length first) e)
    go false e =
        let past = outside s (length first) e in
        get_or_past (map (entry second) first) s s (omega (arith, length-map first (entry second)))
        ∙ sym (ap (entry second) (get_or_past first s s past) ∙ get_or_past second s s (omega (arith, long, past)))

parent_entry : (xs : List Signature) (parents : List ℕ) (s : ℕ) → AreParents xs parents → entry parents s ≡ next xs s
unfolding next
parent_entry xs parents s h = go (nat_lt s (length xs)) refl
  where
    go : (b : Bool) → nat_lt s (length xs) ≡ b → entry parents s ≡ above s (signature_at xs s)
    go true e = h.each s (inside s (length xs) e)
    go false e =
        let past = outside s (length xs) e in
        get_or_past parents s s (omega (arith, h.long, past)) ∙ sym (ap (above s) (get_or_past xs s no_signature past))

-- twice as many steps
pub twice : (xs : List Signature) (n : ℕ) (half : List ℕ) → AreAbove xs n half → AreAbove xs (n + n) (map (entry half) half)
twice xs n half h = record {
  long = length-map half (entry half) ∙ h.long;
  each = λ s. entry_followed half half s refl ∙ h.each (entry half s) ∙ ap (top_within xs n) (h.each s) ∙ sym (steps_add xs n n s);
}

-- and one step more
pub one_above : (xs : List Signature) (n : ℕ) (table parents : List ℕ) → AreParents xs parents → AreAbove xs n table → AreAbove xs (1 + n) (map (entry parents) table)
unfolding next
one_above xs n table parents p h = record {
  long = length-map table (entry parents) ∙ h.long;
  each = λ s.
      entry_followed table parents s (h.long ∙ sym p.long) ∙ parent_entry xs parents (entry table s) p
      ∙ ap (λ k. next xs k) (h.each s) ∙ sym (steps_add xs 1 n s ∙ one_step xs zero (top_within xs n s));
}

-- what the tables are made of, under other names
pub even_above : (xs : List Signature) (k n : ℕ) (half first second table : List ℕ) → k + k ≡ n → first ≡ half → second ≡ half → table ≡ map (entry second) first
    → AreAbove xs k half → AreAbove xs n table
even_above xs k n half first second table e f s is h =
    subst (λ m. AreAbove xs m table) e (subst (AreAbove xs (k + k)) (sym (is ∙ ap (λ t. map (entry t) first) s ∙ ap (map (entry half)) f)) (twice xs k half h))

pub odd_above : (xs : List Signature) (k n : ℕ) (below first parents table : List ℕ) → 1 + k ≡ n → first ≡ below → table ≡ map (entry parents) first → AreParents xs parents
    → AreAbove xs k below → AreAbove xs n table
odd_above xs k n below first parents table e f is p h =
    subst (λ m. AreAbove xs m table) e (subst (AreAbove xs (1 + k)) (sym (is ∙ ap (map (entry parents)) f)) (one_above xs k below parents p h))

-- ---- tables as far as a loop has come

-- the table has the parents of the first signatures
pub record AreParentsOf (xs : List Signature) (i : ℕ) (table : List ℕ) : Type 0 where
  pub long : length table ≡ i
  pub each : (s : ℕ) → s < i → entry table s ≡ above s (signature_at xs s)

one_more : (f : ℕ → ℕ) (i : ℕ) (table : List ℕ) (x : ℕ) → length table ≡ i → ((s : ℕ) → s < i → entry table s ≡ f s) → x ≡ f i
    → (s : ℕ) → s < i + 1 → entry (table ++ x ∷ []) s ≡ f s
one_more f i table x long each is s below = go (nat_lt s i) refl
  where
    go : (b : Bool) → nat_lt s i ≡ b → entry (table ++ x ∷ []) s ≡ f s
    go true e = let l = inside s i e in get_or_append_left table (x ∷ []) s s (omega (arith, long, l)) ∙ each s l
    go false e =
        let last : s ≡ length table = (let past = outside s i e in omega (arith, long, past, below)) in
        get_or_push table x s s (sym last) ∙ is ∙ ap f (sym long ∙ sym last)

one_longer : (i : ℕ) (table : List ℕ) (x : ℕ) → length table ≡ i → length (table ++ x ∷ []) ≡ i + 1
one_longer i table x long = length-append table (x ∷ []) ∙ ap (λ n. n + 1) long

pub parents_more : (xs : List Signature) (i : ℕ) (table : List ℕ) (y : Signature) (x : ℕ) → i < length xs → y ≡ get_or xs i y → x ≡ above i y
    → AreParentsOf xs i table → AreParentsOf xs (i + 1) (table ++ x ∷ [])
parents_more xs i table y x l at is h = record {
  long = one_longer i table x h.long;
  each = one_more (λ s. above s (signature_at xs s)) i table x h.long h.each (is ∙ ap (above i) (sym (item_is xs i no_signature y l at)));
}

pub all_parents : (xs : List Signature) (i : ℕ) (table : List ℕ) → i ≡ length xs → AreParentsOf xs i table → AreParents xs table
all_parents xs i table e h = record { long = h.long ∙ e; each = λ s l. h.each s (omega (arith, e, l)) }

-- the table has the first numbers
pub record AreThemselves (i : ℕ) (table : List ℕ) : Type 0 where
  pub long : length table ≡ i
  pub each : (s : ℕ) → s < i → entry table s ≡ s

pub themselves_more : (i : ℕ) (table : List ℕ) → AreThemselves i table → AreThemselves (i + 1) (table ++ i ∷ [])
themselves_more i table h = record {
  long = one_longer i table i h.long;
  each = one_more (λ s. s) i table i h.long h.each refl;
}

pub themselves : (i : ℕ) (table : List ℕ) → AreThemselves i table → (s : ℕ) → entry table s ≡ s
themselves i table h s = go (nat_lt s i) refl
  where
    go : (b : Bool) → nat_lt s i ≡ b → entry table s ≡ s
    go true e = h.each s (inside s i e)
    go false e = get_or_past table s s (let past = outside s i e in omega (arith, h.long, past))
