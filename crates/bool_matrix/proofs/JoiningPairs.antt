-- The pairs of tuples that join, put behind each other: as many as there are, each once.
use Rattle.std.proofs.Common.{◌≡◌, ℕ, zero, suc, ◌+◌, ◌≤◌, ◌⊎◌, inl, inr, Bool, true, false, List, [], ◌∷◌, ◌++◌, length, cond, Contains, refl, sym, ◌∙◌, ap, subst, arith, length-append}
use Rattle.std.proofs.lemmas.List.Sums.{sum_by-cons}
use Rattle.std.proofs.lemmas.List.Elements.{Contains-append_left, Contains-append_right}
use Rattle.tuple_core.specs.declared.atom.Atom.{Atom}
use Rattle.tuple_core.specs.Swap.{atom_eq}
use Rattle.tuple_core.specs.Operators.{Pred}
use Rattle.tuple_core.proofs.Atoms.{atom_eq-decides}
use Rattle.bool_matrix.specs.Terms.{Meeting, joining, joins_of, joins}
use Rattle.bool_matrix.proofs.DistinctLists.{In, Distinct, length_within}

-- whether the last atom of the first tuple is the first of the second
abbrev joins_to : List Atom → List Atom → Bool
joins_to [] r = false
joins_to (x ∷ []) [] = false
joins_to (x ∷ []) (y ∷ ys) = atom_eq x y
joins_to (x ∷ y ∷ l) r = joins_to (y ∷ l) r

joining_is : (l r : List Atom) → joining l r ≡ cond (joins_to l r) 1 0
joining_is [] r = refl
joining_is (x ∷ []) [] = refl
joining_is (x ∷ []) (y ∷ ys) = refl
joining_is (x ∷ y ∷ l) r = joining_is (y ∷ l) r

-- the inner atom
splits : (l r : List Atom) → joins_to l r ≡ true → (x : List Atom) × (m : Atom) × (y : List Atom) × (l ≡ x ++ m ∷ []) × (r ≡ m ∷ y)
splits [] r e = absurd (cc)
splits (x ∷ []) [] e = absurd (cc)
splits (x ∷ []) (y ∷ ys) e = let same = (atom_eq-decides x y).0 e in ([], x, ys, refl, ap (λ a. a ∷ ys) (sym same))
splits (x ∷ y ∷ l) r e = let s = splits (y ∷ l) r e in (x ∷ s.0, s.1, s.2, ap (λ k. x ∷ k) s.3, s.4)

-- the tuple followed by each that it joins with
abbrev put_behind : List Atom → List (List Atom) → List (List Atom)
put_behind l [] = []
put_behind l (y ∷ ys) = cond (joins_to l y) ((l ++ y) ∷ put_behind l ys) (put_behind l ys)

abbrev pub all_behind : List (List Atom) → List (List Atom) → List (List Atom)
all_behind [] ys = []
all_behind (x ∷ xs) ys = put_behind x ys ++ all_behind xs ys

length_cond : (b : Bool) (z : List Atom) (zs : List (List Atom)) → length (cond b (z ∷ zs) zs) ≡ cond b 1 0 + length zs
length_cond true z zs = omega arith
length_cond false z zs = omega arith

behind_length : (l : List Atom) (ys : List (List Atom)) → length (put_behind l ys) ≡ joins_of l ys
behind_length l [] = refl
behind_length l (y ∷ ys) = omega (arith, length_cond (joins_to l y) (l ++ y) (put_behind l ys), joining_is l y, behind_length l ys, sum_by-cons (joining l) y ys)

pub all_length : (xs ys : List (List Atom)) → length (all_behind xs ys) ≡ joins xs ys
all_length [] ys = refl
all_length (x ∷ xs) ys = omega (arith, length-append (put_behind x ys) (all_behind xs ys), behind_length x ys, all_length xs ys, sum_by-cons (λ l. joins_of l ys) x xs)

in_cond : (b : Bool) (z y : List Atom) (zs : List (List Atom)) → In z (cond b (y ∷ zs) zs) → ((z ≡ y) × (b ≡ true)) ⊎ In z zs
in_cond true z y zs i = elim i [ inl e ↦ inl (e, refl) | inr j ↦ inr j ]
in_cond false z y zs i = inr i

in_behind : (l : List Atom) (ys : List (List Atom)) (z : List Atom) → In z (put_behind l ys) → (y : List Atom) × In y ys × (z ≡ l ++ y) × (joins_to l y ≡ true)
in_behind l [] z i = absurd i
in_behind l (y ∷ ys) z i = elim (in_cond (joins_to l y) z (l ++ y) (put_behind l ys) i) [
  | inl h ↦ (y, inl refl, h.0, h.1)
  | inr j ↦ let r = in_behind l ys z j in (r.0, inr r.1, r.2, r.3)
]

in_append : {X : Type 0} (z : X) (xs ys : List X) → In z (xs ++ ys) → In z xs ⊎ In z ys
in_append z [] ys i = inr i
in_append z (x ∷ xs) ys i = elim i [ inl e ↦ inl (inl e) | inr j ↦ elim (in_append z xs ys j) [ inl k ↦ inl (inr k) | inr k ↦ inr k ] ]

in_all : (xs ys : List (List Atom)) (z : List Atom) → In z (all_behind xs ys) → (l : List Atom) × (y : List Atom) × In l xs × In y ys × (z ≡ l ++ y) × (joins_to l y ≡ true)
in_all [] ys z i = absurd i
in_all (x ∷ xs) ys z i = elim (in_append z (put_behind x ys) (all_behind xs ys) i) [
  | inl a ↦ let r = in_behind x ys z a in (x, r.0, inl refl, r.1, r.2, r.3)
  | inr b ↦ let r = in_all xs ys z b in (r.0, r.1, inr r.2, r.3, r.4, r.5)
]

-- lists that are cut at the same place
cut_alike : (a b c d : List Atom) → length a ≡ length b → a ++ c ≡ b ++ d → (a ≡ b) × (c ≡ d)
cut_alike [] [] c d l e = (refl, e)
cut_alike [] (y ∷ b) c d l e = absurd (omega arith)
cut_alike (x ∷ a) [] c d l e = absurd (omega arith)
cut_alike (x ∷ a) (y ∷ b) c d l e =
    let first : x ≡ y = cc in
    let rest : a ++ c ≡ b ++ d = cc in
    let r = cut_alike a b c d (omega arith) rest in
    (ap (λ k. k ∷ a) first ∙ ap (λ k. y ∷ k) r.0, r.1)

distinct_cond : (b : Bool) (z : List Atom) (zs : List (List Atom)) → (In z zs → ⊥) → Distinct zs → Distinct (cond b (z ∷ zs) zs)
distinct_cond true z zs none d = (none, d)
distinct_cond false z zs none d = d

behind_distinct : (l : List Atom) (ys : List (List Atom)) → Distinct ys → Distinct (put_behind l ys)
behind_distinct l [] d = tt
behind_distinct l (y ∷ ys) d = distinct_cond (joins_to l y) (l ++ y) (put_behind l ys) (λ i.
    let r = in_behind l ys (l ++ y) i in
    let same = (cut_alike l l y r.0 refl r.2).1 in
    d.0 (subst (λ u. In u ys) (sym same) r.1)) (behind_distinct l ys d.1)

distinct_append : (xs ys : List (List Atom)) → Distinct xs → Distinct ys → ((z : List Atom) → In z xs → In z ys → ⊥) → Distinct (xs ++ ys)
distinct_append [] ys a b apart = b
distinct_append (x ∷ xs) ys a b apart = (
  λ i. elim (in_append x xs ys i) [ inl j ↦ a.0 j | inr j ↦ apart x (inl refl) j ],
  distinct_append xs ys a.1 b (λ z i. apart z (inr i)),
)

all_distinct : (k : ℕ) (xs ys : List (List Atom)) → ((l : List Atom) → In l xs → length l ≡ k) → Distinct xs → Distinct ys → Distinct (all_behind xs ys)
all_distinct k [] ys long a b = tt
all_distinct k (x ∷ xs) ys long a b = distinct_append (put_behind x ys) (all_behind xs ys) (behind_distinct x ys b) (all_distinct k xs ys (λ l i. long l (inr i)) a.1 b) (λ z i j.
    let r = in_behind x ys z i in
    let s = in_all xs ys z j in
    let same = (cut_alike x s.0 r.0 s.1 (long x (inl refl) ∙ sym (long s.0 (inr s.2))) (sym r.2 ∙ s.4)).0 in
    a.0 (subst (λ u. In u xs) (sym same) s.2))

-- the tuples that are put behind each other meet
meets : (P Q : Pred) (xs ys : List (List Atom)) → ((t : List Atom) → In t xs → P t) → ((t : List Atom) → In t ys → Q t) → (z : List Atom) → In z (all_behind xs ys) → Meeting P Q z
meets P Q xs ys left right z i =
    let r = in_all xs ys z i in
    let s = splits r.0 r.1 r.5 in
    (s.0, s.1, s.2, subst P s.3 (left r.0 r.2), subst Q s.4 (right r.1 r.3), r.4 ∙ ap (λ l. l ++ r.1) s.3 ∙ ap (λ k. (s.0 ++ s.1 ∷ []) ++ k) s.4)

-- no more pairs of tuples join than there are meetings
pub joins_bounded : (P Q : Pred) (k : ℕ) (xs ys rows : List (List Atom)) → ((t : List Atom) → In t xs → P t) → ((t : List Atom) → In t ys → Q t) → ((t : List Atom) → In t xs → length t ≡ k)
    → Distinct xs → Distinct ys → ((t : List Atom) → Meeting P Q t → Contains rows t) → joins xs ys ≤ length rows
joins_bounded P Q k xs ys rows left right long dx dy has =
    let most = length_within (all_behind xs ys) rows (all_distinct k xs ys long dx dy) (λ z i. has z (meets P Q xs ys left right z i)) in
    omega (arith, most, all_length xs ys)

-- two tuples that join are put behind each other
cond_first : (b : Bool) (z : List Atom) (zs : List (List Atom)) → b ≡ true → Contains (cond b (z ∷ zs) zs) z
cond_first true z zs e = (zero, omega arith, refl)
cond_first false z zs e = absurd (cc)

cond_later : (b : Bool) (z y : List Atom) (zs : List (List Atom)) → Contains zs z → Contains (cond b (y ∷ zs) zs) z
cond_later true z y zs c = (suc c.0, (let l = c.1 in omega arith), c.2)
cond_later false z y zs c = c

behind_has : (l r : List Atom) (ys : List (List Atom)) → Contains ys r → joins_to l r ≡ true → Contains (put_behind l ys) (l ++ r)
behind_has l r [] c e = absurd (let h = c.1 in omega arith)
behind_has l r (y ∷ ys) (zero, h, same) e = subst (λ q. Contains (put_behind l (y ∷ ys)) (l ++ q)) same (cond_first (joins_to l y) (l ++ y) (put_behind l ys) (subst (λ q. joins_to l q ≡ true) (sym same) e))
behind_has l r (y ∷ ys) (suc k, h, same) e = cond_later (joins_to l y) (l ++ r) (l ++ y) (put_behind l ys) (behind_has l r ys (k, omega arith, same) e)

all_have : (l r : List Atom) (xs ys : List (List Atom)) → Contains xs l → Contains ys r → joins_to l r ≡ true → Contains (all_behind xs ys) (l ++ r)
all_have l r [] ys c d e = absurd (let h = c.1 in omega arith)
all_have l r (x ∷ xs) ys (zero, h, same) d e = subst (λ q. Contains (all_behind (x ∷ xs) ys) (q ++ r)) same (Contains-append_left (put_behind x ys) (all_behind xs ys) (x ++ r) (behind_has x r ys d (subst (λ q. joins_to q r ≡ true) (sym same) e)))
all_have l r (x ∷ xs) ys (suc k, h, same) d e = Contains-append_right (put_behind x ys) (all_behind xs ys) (l ++ r) (all_have l r xs ys (k, omega arith, same) d e)

joins_at : (x : List Atom) (m : Atom) (y : List Atom) → joins_to (x ++ m ∷ []) (m ∷ y) ≡ true
joins_at [] m y = (atom_eq-decides m m).1 refl
joins_at (a ∷ []) m y = joins_at [] m y
joins_at (a ∷ b ∷ x) m y = joins_at (b ∷ x) m y

-- all that meet are there, where all tuples are
pub meetings_there : (P Q : Pred) (xs ys : List (List Atom)) → ((t : List Atom) → P t → Contains xs t) → ((t : List Atom) → Q t → Contains ys t) → (t : List Atom) → Meeting P Q t → Contains (all_behind xs ys) t
meetings_there P Q xs ys left right t g = subst (Contains (all_behind xs ys)) (sym g.5) (all_have (g.0 ++ g.1 ∷ []) (g.1 ∷ g.2) xs ys (left (g.0 ++ g.1 ∷ []) g.3) (right (g.1 ∷ g.2) g.4) (joins_at g.0 g.1 g.2))
