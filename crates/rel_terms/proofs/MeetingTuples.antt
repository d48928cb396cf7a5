-- Pairs of tuples that meet, counted tuple by tuple of the first set.
use Rattle.std.proofs.Common.{◌≡◌, ℕ, zero, suc, ◌+◌, ◌*◌, ◌≤◌, ◌<◌, ◌^◌, ◌↔◌, ◌⊎◌, inl, inr, List, [], ◌∷◌, ◌++◌, map, length, get_or, take, drop, All, Contains, refl, sym, ◌∙◌, ap, subst, arith}
use Rattle.std.proofs.Math.Nat.{mul-add}
use Rattle.std.proofs.lemmas.List.{take_more, take_all, take-append-drop, length-take-le, get_or-take, get_or_default, length-append, length-map}
use Rattle.std.proofs.lemmas.List.Elements.{All-contains, Contains-push, Contains-push_cases, Contains-append_left, Contains-get_or}
use Rattle.std.specs.declared.cmp.Ordering.{Ordering}
use Rattle.std.specs.declared.cmp.Ordering.TheVariants.{Less, Equal, Greater}
use Rattle.std.specs.Ordering.{ordering_then}
use Rattle.std.proofs.lemmas.Cmp.{tied_itself}
use Rattle.tuple_core.specs.declared.atom.Atom.{Atom}
use Rattle.tuple_core.specs.Operators.{Pred, BeginsWith, EndsWith}
use Rattle.tuple_core.specs.Gains.{Same}
use Rattle.tuple_core.specs.Order.{atom_cmp, tuple_cmp, IsAscending}
use Rattle.tuple_core.specs.Rows.{Rows, IsRows}
use Rattle.tuple_core.proofs.Ascending.{tuple_order}
use Rattle.tuple_core.proofs.Atoms.{same_last}
use Rattle.rel_formula.specs.Sizes.{IsListOf, HasSize}
use Rattle.rel_formula.specs.Meaning.{HasAtLeast}
use Rattle.rel_formula.proofs.Counts.{distinct}
use Rattle.rel_formula.proofs.Lists.{pairs_map}
use Rattle.rel_terms.specs.Numbers.{Is, ◌⊕◌}
use Rattle.rel_terms.specs.Counting.{Adds, AddsForEach}
use Rattle.rel_terms.specs.Terms.{Meeting}
use Rattle.rel_terms.proofs.TupleSizes.{list_append, list_same}
use Rattle.rel_terms.proofs.Adding.{adds_both, adds_same}

-- tuples of one length go before each other whatever follows them
pub cmp_before : (s t u v : List Atom) → length s ≡ length t → tuple_cmp s t ≡ Less → tuple_cmp (s ++ u) (t ++ v) ≡ Less
cmp_before [] [] u v e l = absurd (cc)
cmp_before [] (y ∷ ys) u v e l = absurd (omega arith)
cmp_before (x ∷ xs) [] u v e l = absurd (omega arith)
cmp_before (x ∷ xs) (y ∷ ys) u v e l = go (atom_cmp x y) (cmp_before xs ys u v (omega arith)) l
  where
    go : (o : Ordering) → (tuple_cmp xs ys ≡ Less → tuple_cmp (xs ++ u) (ys ++ v) ≡ Less) → ordering_then o (tuple_cmp xs ys) ≡ Less → ordering_then o (tuple_cmp (xs ++ u) (ys ++ v)) ≡ Less
    go Less rest h = refl
    go Equal rest h = rest h
    go Greater rest h = absurd (cc)

atom_tied : (x : Atom) → atom_cmp x x ≡ Equal
atom_tied x = first (atom_cmp x x) (tied_itself tuple_order (x ∷ []))
  where
    first : (o : Ordering) → ordering_then o Equal ≡ Equal → o ≡ Equal
    first Less h = cc
    first Equal h = refl
    first Greater h = cc

-- and behind one tuple they go as they do alone
pub cmp_behind : (s u v : List Atom) → tuple_cmp (s ++ u) (s ++ v) ≡ tuple_cmp u v
cmp_behind [] u v = refl
cmp_behind (x ∷ xs) u v = ap (λ o. ordering_then o (tuple_cmp (xs ++ u) (xs ++ v))) (atom_tied x) ∙ cmp_behind xs u v

-- l followed by each of the tuples
abbrev Followed : List Atom → List (List Atom) → Pred
Followed l ss t = (s : List Atom) × Contains ss s × (t ≡ l ++ s)

contains_map : (l : List Atom) (ss : List (List Atom)) (t : List Atom) → Contains (map (λ s. l ++ s) ss) t ↔ Followed l ss t
contains_map l [] t = (λ c. absurd (let h = c.1 in omega arith), λ f. absurd (let h = f.1.1 in omega arith))
contains_map l (s ∷ ss) t = (
  λ c. down (contains_map l ss t).0 c.0 c.1 c.2,
  λ f. up (contains_map l ss t).1 f.0 f.1.0 f.1.1 f.1.2 f.2,
)
  where
    down : (Contains (map (λ s. l ++ s) ss) t → Followed l ss t) → (k : ℕ) → k < length (map (λ s. l ++ s) (s ∷ ss)) → get_or (map (λ s. l ++ s) (s ∷ ss)) k t ≡ t → Followed l (s ∷ ss) t
    down rest zero h e = (s, (zero, omega arith, refl), sym e)
    down rest (suc k) h e =
        let f = rest (k, omega arith, e) in
        (f.0, (suc f.1.0, (let i = f.1.1 in omega arith), f.1.2), f.2)

    up : (Followed l ss t → Contains (map (λ s. l ++ s) ss) t) → (u : List Atom) (k : ℕ) → k < length (s ∷ ss) → get_or (s ∷ ss) k u ≡ u → t ≡ l ++ u → Contains (map (λ s. l ++ s) (s ∷ ss)) t
    up rest u zero h e is = (zero, omega arith, sym (is ∙ ap (λ v. l ++ v) (sym e)))
    up rest u (suc k) h e is =
        let c = rest (u, (k, omega arith, e), is) in
        (suc c.0, (let i = c.1 in omega arith), c.2)

followed_list : (l : List Atom) (ss : List (List Atom)) → IsAscending ss → IsListOf (Followed l ss) (map (λ s. l ++ s) ss)
followed_list l ss up = record {
  ascending = pairs_map (λ s t. tuple_cmp s t ≡ Less) (λ s. l ++ s) ss (λ i j d p q. cmp_behind l (get_or ss i d) (get_or ss j d) ∙ up i j d p q);
  just = contains_map l ss;
}

module _ (ls : List (List Atom)) (l : List Atom) (rs ss : List (List Atom)) (m : Atom) (ends : EndsWith m l)
    (just : (t : List Atom) → Contains ss t ↔ (Contains rs t × BeginsWith m t)) where
  meeting_same : Same (λ t. Meeting (Contains ls) (Contains rs) t ⊎ Followed l ss t) (Meeting (Contains (ls ++ l ∷ [])) (Contains rs))
  meeting_same = record {
    to = λ t h. elim h [
      | inl p ↦ (p.0, p.1, p.2, Contains-append_left ls (l ∷ []) (p.0 ++ p.1 ∷ []) p.3, p.4, p.5)
      | inr f ↦
          let there = (just f.0).0 f.1 in (
            ends.0,
            m,
            there.1.0,
            subst (Contains (ls ++ l ∷ [])) ends.1 (Contains-push ls l),
            subst (Contains rs) there.1.1 there.0,
            f.2 ∙ ap (λ x. x ++ f.0) ends.1 ∙ ap (λ s. (ends.0 ++ m ∷ []) ++ s) there.1.1,
          )
    ];
    back = λ t p. elim (Contains-push_cases ls l (p.0 ++ p.1 ∷ []) p.3) [
      | inl old ↦ inl (p.0, p.1, p.2, old, p.4, p.5)
      | inr e ↦
          let same : m ≡ p.1 = same_last ends.0 p.0 m p.1 (sym ends.1 ∙ e) in
          inr (p.1 ∷ p.2, (just (p.1 ∷ p.2)).1 (p.4, (p.2, ap (λ a. a ∷ p.2) (sym same))), p.5 ∙ ap (λ x. x ++ p.1 ∷ p.2) (sym e))
    ];
  }

  -- one tuple more: as many more as begin with its last atom
  pub meeting_push : (n : ℕ) → IsAscending ss → All (λ x. length x ≡ length l) ls → All (λ x. tuple_cmp x l ≡ Less) ls →
      HasSize (Meeting (Contains ls) (Contains rs)) n → HasSize (Meeting (Contains (ls ++ l ∷ [])) (Contains rs)) (n + length ss)
  meeting_push n up long less h =
      let M = Meeting (Contains ls) (Contains rs) in
      let news = map (λ s. l ++ s) ss in
      let before : All (λ t. All (λ u. tuple_cmp t u ≡ Less) news) h.0 = λ i d p j e q.
      let t = get_or h.0 i d in
      let met = (h.1.just t).0 (i, p, at h.0 i d p) in
      let new = (contains_map l ss (get_or news j e)).0 (j, q, at news j e q) in
      let x = met.0 ++ met.1 ∷ [] in
      let same : length x ≡ length l = All-contains (λ y. length y ≡ length l) ls x long met.3 in
      let lower : tuple_cmp x l ≡ Less = All-contains (λ y. tuple_cmp y l ≡ Less) ls x less met.3 in
      subst (λ u. tuple_cmp t u ≡ Less) (sym new.2) (subst (λ u. tuple_cmp u (l ++ new.0) ≡ Less) (sym met.5) (cmp_before x l (met.1 ∷ met.2) new.0 same lower)) in
      let both = list_append M (Followed l ss) h.0 news h.1 (followed_list l ss up) before in (
        h.0 ++ news,
        list_same (λ t. M t ⊎ Followed l ss t) (Meeting (Contains (ls ++ l ∷ [])) (Contains rs)) (h.0 ++ news) meeting_same both,
        (let a = length-append h.0 news in let b = length-map ss (λ s. l ++ s) in let c = h.2 in omega arith),
      )
    where
      at : (xs : List (List Atom)) (k : ℕ) (d : List Atom) → k < length xs → get_or xs k (get_or xs k d) ≡ get_or xs k d
      at [] k d q = absurd (omega arith)
      at (x ∷ xs) zero d q = refl
      at (x ∷ xs) (suc k) d q = at xs k d (omega arith)

-- the loop's state: the pairs of the tuples so far
abbrev pub Met : List (List Atom) → List (List Atom) → ℕ → ℕ → ℕ → Type 0
Met ls rs times b a = (n : ℕ) × HasSize (Meeting (Contains ls) (Contains rs)) n × Adds (Is (times * n)) b a

-- a tuple comes behind those before it, and is as long
earlier : (v : Rows) (xs : List (List Atom)) (i : ℕ) (x : List Atom) → xs ≡ v.rows → IsRows v → i < length xs → x ≡ get_or xs i x →
    All (λ y. length y ≡ length x) (take i xs) × All (λ y. tuple_cmp y x ≡ Less) (take i xs)
earlier v xs i x e well l is =
    let up : IsAscending xs = subst IsAscending (sym e) well.ascending in
    let long : All (λ y. length y ≡ v.arity) xs = subst (All (λ y. length y ≡ v.arity)) (sym e) well.arities in
    let short = length-take-le i xs (omega arith) in
    let here : length x ≡ v.arity = ap length is ∙ long i x l in (
      λ k d h. ap length (get_or-take i xs k d (omega arith)) ∙ long k d (omega arith) ∙ sym here,
      λ k d h. subst (λ y. tuple_cmp y x ≡ Less) (sym (get_or-take i xs k d (omega arith))) (subst (λ y. tuple_cmp (get_or xs k d) y ≡ Less) (get_or_default xs i d x l ∙ sym is) (up k i d (omega arith) l)),
    )

pub meetings_more : (v : Rows) (rights rs xs : List (List Atom)) (i : ℕ) (x : List Atom) (m : Atom) (ss : List (List Atom)) (times b y a : ℕ) →
    xs ≡ v.rows → rs ≡ rights → IsRows v → i < length xs → x ≡ get_or xs i x → EndsWith m x → IsAscending ss → ((t : List Atom) → Contains ss t ↔ (Contains rs t × BeginsWith m t)) →
    Met (take i xs) rights times b y → Adds (Is (times * length ss)) y a → Met (take (i + 1) xs) rights times b a
meetings_more v rights rs xs i x m ss times b y a e f well l is ends up just h adds =
    let before = earlier v xs i x e well l is in
    let just' : (t : List Atom) → Contains ss t ↔ (Contains rights t × BeginsWith m t) = subst (λ (zs : List (List Atom)). (t : List Atom) → Contains ss t ↔ (Contains zs t × BeginsWith m t)) f just in
    let size = meeting_push (take i xs) x rights ss m ends just' h.0 up before.0 before.1 h.1 in
    let n = h.0 + length ss in
    let sum = adds_both (Is (times * h.0)) (Is (times * length ss)) b y a h.2 adds in
    let all = adds_same (Is (times * h.0) ⊕ Is (times * length ss)) (Is (times * n)) b a
    (λ k s. let p = s.2 in let q = s.3 in let t = s.4 in let d = mul-add times h.0 (length ss) in omega arith)
    (λ k s. (times * h.0, times * length ss, refl, refl, s ∙ mul-add times h.0 (length ss))) sum in
    subst (λ zs. Met zs rights times b a) (sym (take_more xs i x l ∙ ap (λ z. take i xs ++ z ∷ []) (sym is))) (n, size, all)

-- a set of a known size has at least so many
at_least_all : (P : Pred) (n : ℕ) → HasSize P n → HasAtLeast n P
at_least_all P n h = (h.0, h.2, distinct h.0 h.1.ascending, λ k d l. (h.1.just (get_or h.0 k d)).0 (Contains-get_or h.0 k d l))

pub meetings_all : (ls rights xs : List (List Atom)) (i times b a : ℕ) → xs ≡ ls → length xs ≤ i → Met (take i xs) rights times b a → AddsForEach times (Meeting (Contains ls) (Contains rights)) b a
meetings_all ls rights xs i times b a e l h =
    let M = Meeting (Contains ls) (Contains rights) in
    let all : Met ls rights times b a = subst (λ zs. Met zs rights times b a) (take_all i xs l ∙ e) h in
    record { part = all.0; there = at_least_all M all.0 all.1; adds = all.2; all = λ below. all.1 }

pub meetings_above : (ls rights xs : List (List Atom)) (i times b a : ℕ) → xs ≡ ls → Met (take i xs) rights times b a → 2 ^ 18 < a → AddsForEach times (Meeting (Contains ls) (Contains rights)) b a
meetings_above ls rights xs i times b a e h over =
    let M = Meeting (Contains ls) (Contains rights) in
    let some = at_least_all (Meeting (Contains (take i xs)) (Contains rights)) h.0 h.1 in
    let there : HasAtLeast h.0 M = (
      some.0,
      some.1,
      some.2,
      λ k d l. let p = some.3 k d l in
          (p.0, p.1, p.2, subst (λ zs. Contains zs (p.0 ++ p.1 ∷ [])) (take-append-drop i xs ∙ e) (Contains-append_left (take i xs) (drop i xs) (p.0 ++ p.1 ∷ []) p.3), p.4, p.5),
    ) in
    record { part = h.0; there = there; adds = h.2; all = λ below. absurd (omega arith) }
