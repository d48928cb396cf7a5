-- First atoms and neighbours that the formulas describe are those of a list of all atoms, each once; and the other way round.
use Rattle.std.proofs.Common.{◌≡◌, ◌≢◌, ◌⊎◌, ◌↔◌, inl, inr, ℕ, zero, suc, ◌+◌, ◌<◌, ◌≤◌, List, [], ◌∷◌, length, slice_index_or, Contains, AllPairs, refl, sym, ◌∙◌, ap, subst, arith}
use Rattle.std.proofs.lemmas.Bool.{cases_lt}
use Rattle.std.proofs.lemmas.List.Elements.{Contains-get_or, at_from_Contains}
use Rattle.std.proofs.lemmas.List.Kept.{AllPairs-cons}
use Rattle.tuple_core.specs.declared.atom.Atom.{Atom}
use Rattle.rel_formula.proofs.OpenCells.{cons_first, cons_later, cons_cases}
use Rattle.lowering_laws.specs.Orders.{IsHead, Follows}

-- ---- elements

pub nothing_in : (a : Atom) (xs : List Atom) → xs ≡ [] → Contains xs a → ⊥
nothing_in a xs e c = let h = subst (λ (ys : List Atom). Contains ys a) e c in let l = h.1 in omega arith

pub none_in : {X : Type 0} (x : X) → Contains [] x → ⊥
none_in x c = let l = c.1 in omega arith

pub here_is : {X : Type 0} (x y : X) (xs : List X) → x ≡ y → Contains (x ∷ xs) y
here_is x y xs e = subst (λ z. Contains (x ∷ xs) z) e (cons_first x xs)

pub apart : (a b : Atom) (xs : List Atom) → AllPairs (λ (x y : Atom). x ≢ y) (a ∷ xs) → Contains xs b → a ≡ b → ⊥
apart a b xs once c e =
    let at = at_from_Contains xs b c in
    let differ : a ≢ slice_index_or xs at.0 b = once 0 (suc at.0) b (omega arith) (let l = at.1 in omega arith) in
    differ (e ∙ sym (at.2 b))

pub rest_once : (a : Atom) (xs : List Atom) → AllPairs (λ (x y : Atom). x ≢ y) (a ∷ xs) → AllPairs (λ (x y : Atom). x ≢ y) xs
rest_once a xs once = λ i j d less high. once (suc i) (suc j) d (omega (arith, less)) (omega (arith, high))

-- ---- atoms by the number of steps from the first one

abbrev pub Reach : (Atom → Type 0) → (Atom → Atom → Type 0) → ℕ → Atom → Type 0
Reach F N zero b = F b
Reach F N (suc k) b = (a : Atom) × Reach F N k a × N a b

abbrev pub Ranked : (Atom → Type 0) → (Atom → Atom → Type 0) → ℕ → List Atom → Type 0
Ranked F N k [] = Unit {0}
Ranked F N k (a ∷ more) = Reach F N k a × Ranked F N (suc k) more

-- what the formulas say of a set, of the first atoms in it, and of the pairs of neighbours
pub record Describe (S F : Atom → Type 0) (N : Atom → Atom → Type 0) : Type 0 where
  pub first_in : (a : Atom) → F a → S a
  pub first_lone : (a b : Atom) → F a → F b → a ≡ b
  pub next_in : (a b : Atom) → N a b → S a × S b
  pub none_before : (a b : Atom) → N a b → F b → ⊥
  pub lone_behind : (a b c : Atom) → N a b → N a c → b ≡ c
  pub lone_before : (a b c : Atom) → N a c → N b c → a ≡ b
  pub reached : (b : Atom) → S b → (k : ℕ) × Reach F N k b

-- the set, the first atoms and the neighbours are those of a list
pub record IsLine (S F : Atom → Type 0) (N : Atom → Atom → Type 0) (atoms : List Atom) : Type 0 where
  pub each : (a : Atom) → Contains atoms a ↔ S a
  pub once : AllPairs (λ (a b : Atom). a ≢ b) atoms
  pub first : (a : Atom) → F a ↔ IsHead atoms a
  pub next : (a b : Atom) → N a b ↔ Follows atoms a b

module _ (S F : Atom → Type 0) (N : Atom → Atom → Type 0) (is : Describe S F N) where
  one_at : (k : ℕ) (a b : Atom) → Reach F N k a → Reach F N k b → a ≡ b
  one_at zero a b x y = is.first_lone a b x y
  one_at (suc k) a b (c, x, n) (d, y, m) =
      let same : c ≡ d = one_at k c d x y in
      is.lone_behind d a b (subst (λ (e : Atom). N e a) same n) m

  one_rank : (j k : ℕ) (a : Atom) → Reach F N j a → Reach F N k a → j ≡ k
  one_rank zero zero a x y = refl
  one_rank zero (suc k) a x (d, y, m) = absurd (is.none_before d a m x)
  one_rank (suc j) zero a (c, x, n) y = absurd (is.none_before c a n y)
  one_rank (suc j) (suc k) a (c, x, n) (d, y, m) =
      let same : c ≡ d = is.lone_before c d a n m in
      ap (λ i. suc i) (one_rank j k d (subst (λ (e : Atom). Reach F N j e) same x) y)

  same_rank : (j k : ℕ) (a b : Atom) → a ≡ b → Reach F N j a → Reach F N k b → j ≡ k
  same_rank j k a b e x y = one_rank j k b (subst (λ (c : Atom). Reach F N j c) e x) y

  at_rank : (i k : ℕ) (a b : Atom) → i ≡ k → Reach F N i a → Reach F N k b → a ≡ b
  at_rank i k a b e x y = one_at k a b (subst (λ (n : ℕ). Reach F N n a) e x) y

  reached_in : (k : ℕ) (b : Atom) → Reach F N k b → S b
  reached_in zero b x = is.first_in b x
  reached_in (suc k) b (a, x, n) = (is.next_in a b n).1

  -- from an atom back to the first one
  front : (k : ℕ) (c : Atom) (more : List Atom) (n : ℕ) → n ≡ length more → Reach F N k c → Ranked F N (suc k) more → (ps : List Atom) × Ranked F N zero ps × (length ps ≡ k + n + 1)
  front zero c more n e x r = (c ∷ more, (x, r), omega (arith, e))
  front (suc k) c more n e (d, x, m) r =
      let longer = front k d (c ∷ more) (n + 1) (omega (arith, e)) x ((d, x, m), r) in
      (longer.0, longer.1, let l = longer.2 in omega (arith, l))

  -- the atom of the highest rank
  abbrev Highest : List Atom → Type 0
  Highest xs = (m : ℕ) × (c : Atom) × Reach F N m c × ((b : Atom) → Contains xs b → (k : ℕ) × (k ≤ m) × Reach F N k b)

  one_more : (x : Atom) (xs : List Atom) (k m : ℕ) → Reach F N k x → k ≤ m → ((b : Atom) → Contains xs b → (j : ℕ) × (j ≤ m) × Reach F N j b) → (b : Atom) → Contains (x ∷ xs) b → (j : ℕ) × (j ≤ m) × Reach F N j b
  one_more x xs k m at few below b c = elim (cons_cases x xs b c) [
    | inl same ↦ (k, few, subst (λ (a : Atom). Reach F N k a) same at)
    | inr later ↦ below b later
  ]

  higher : (xs : List Atom) (m k : ℕ) → m ≤ k → ((b : Atom) → Contains xs b → (j : ℕ) × (j ≤ m) × Reach F N j b) → (b : Atom) → Contains xs b → (j : ℕ) × (j ≤ k) × Reach F N j b
  higher xs m k l below b c = let under = below b c in (under.0, (let h = under.1 in omega (arith, h, l)), under.2)

  highest : (xs : List Atom) → ((b : Atom) → Contains xs b → S b) → (xs ≡ []) ⊎ Highest xs
  highest [] all = inl refl
  highest (x ∷ xs) all =
      let r = is.reached x (all x (cons_first x xs)) in
      elim (highest xs (λ b c. all b (cons_later x xs b c))) [
        | inl none ↦ inr (r.0, x, r.1, one_more x xs r.0 r.0 r.1 (omega arith) (λ b c. absurd (nothing_in b xs none c)))
        | inr (m, c, at, below) ↦ elim (cases_lt m r.0) [
          | inl less ↦ inr (r.0, x, r.1, one_more x xs r.0 r.0 r.1 (omega arith) (higher xs m r.0 (omega (arith, less)) below))
          | inr more ↦ inr (m, c, at, one_more x xs r.0 m r.1 (omega (arith, more)) below)
        ]
      ]

  -- ---- atoms that stand at their ranks

  ranked_in : (i : ℕ) (ps : List Atom) → Ranked F N i ps → (a : Atom) → Contains ps a → (k : ℕ) × (i ≤ k) × Reach F N k a
  ranked_in i [] r a c = absurd (nothing_in a [] refl c)
  ranked_in i (p ∷ ps) r a c = elim (cons_cases p ps a c) [
    | inl same ↦ (i, omega arith, subst (λ (b : Atom). Reach F N i b) same r.0)
    | inr later ↦ let more = ranked_in (suc i) ps r.1 a later in (more.0, (let l = more.1 in omega (arith, l)), more.2)
  ]

  stands_at : (i k n : ℕ) (ps : List Atom) → Ranked F N i ps → n ≡ length ps → (a : Atom) → Reach F N k a → i ≤ k → k < i + n → Contains ps a
  stands_at i k n [] r e a x low high = absurd (omega (arith, e, low, high))
  stands_at i k n (p ∷ ps) r e a x low high = elim (cases_lt i k) [
    | inl less ↦ cons_later p ps a (stands_at (suc i) k (length ps) ps r.1 refl a x (omega (arith, less)) (omega (arith, e, high)))
    | inr more ↦ here_is p a ps (at_rank i k p a (omega (arith, low, more)) r.0 x)
  ]

  ranked_once : (i : ℕ) (ps : List Atom) → Ranked F N i ps → AllPairs (λ (a b : Atom). a ≢ b) ps
  ranked_once i [] r = λ j k d less high. absurd (omega (arith, high))
  ranked_once i (p ∷ ps) r = AllPairs-cons (λ (a b : Atom). a ≢ b) p ps (
      λ k d l same.
      let later = ranked_in (suc i) ps r.1 (slice_index_or ps k d) (Contains-get_or ps k d l) in
      let e = same_rank i later.0 p (slice_index_or ps k d) same r.0 later.2 in
      let h = later.1 in omega (arith, e, h)) (ranked_once (suc i) ps r.1)

  follow : (i k n : ℕ) (ps : List Atom) → Ranked F N i ps → n ≡ length ps → (a b : Atom) → Reach F N k a → Reach F N (suc k) b → i ≤ k → k + 1 < i + n → Follows ps a b
  follow i k n [] r e a b x y low high = absurd (omega (arith, e, low, high))
  follow i k n (p ∷ []) r e a b x y low high = absurd (omega (arith, e, low, high))
  follow i k n (p ∷ q ∷ ps) r e a b x y low high = elim (cases_lt i k) [
    | inl less ↦ inr (follow (suc i) k (length (q ∷ ps)) (q ∷ ps) r.1 refl a b x y (omega (arith, less)) (omega (arith, e, high)))
    | inr more ↦
        let same : i ≡ k = omega (arith, low, more) in
        inl (at_rank i k p a same r.0 x, at_rank (suc i) (suc k) q b (ap (λ j. suc j) same) r.1.0 y)
  ]

  neighbours_are : (i : ℕ) (ps : List Atom) → Ranked F N i ps → (a b : Atom) → Follows ps a b → N a b
  neighbours_are i [] r a b f = absurd f
  neighbours_are i (p ∷ []) r a b f = absurd f
  neighbours_are i (p ∷ q ∷ ps) r a b (inl (e, f)) =
      let (c, x, n) = r.1.0 in
      let same : c ≡ p = one_at i c p x r.0 in
      subst (λ (z : Atom). N z b) (same ∙ e) (subst (λ (z : Atom). N c z) f n)
  neighbours_are i (p ∷ q ∷ ps) r a b (inr f) = neighbours_are (suc i) (q ∷ ps) r.1 a b f

  head_is : (ps : List Atom) → Ranked F N zero ps → ((b : Atom) → S b → Contains ps b) → (a : Atom) → F a → IsHead ps a
  head_is [] r all a x = nothing_in a [] refl (all a (is.first_in a x))
  head_is (p ∷ ps) r all a x = is.first_lone p a r.0 x

  is_head : (ps : List Atom) → Ranked F N zero ps → (a : Atom) → IsHead ps a → F a
  is_head [] r a h = absurd h
  is_head (p ∷ ps) r a h = subst F h r.0

  -- where each atom of the set has a rank below the length
  line_of : (ps : List Atom) (n : ℕ) → n ≡ length ps → Ranked F N zero ps → ((b : Atom) → S b → (k : ℕ) × (k < n) × Reach F N k b) → IsLine S F N ps
  line_of ps n e r low =
      let all : (b : Atom) → S b → Contains ps b = λ b s. let at = low b s in stands_at zero at.0 n ps r e b at.2 (omega arith) (let l = at.1 in omega (arith, l)) in
      record {
        each = λ a. (λ c. let at = ranked_in zero ps r a c in reached_in at.0 a at.2, all a);
        once = ranked_once zero ps r;
        first = λ a. (head_is ps r all a, is_head ps r a);
        next = λ a b. (
          λ n'.
              let at = low a (is.next_in a b n').0 in
              let behind = low b (is.next_in a b n').1 in
              let rank = one_rank behind.0 (suc at.0) b behind.2 (a, at.2, n') in
              follow zero at.0 n ps r e a b at.2 (a, at.2, n') (omega arith) (let l = behind.1 in omega (arith, l, rank)),
          neighbours_are zero ps r a b,
        );
      }

  pub to_line : (xs : List Atom) → ((a : Atom) → Contains xs a ↔ S a) → (atoms : List Atom) × IsLine S F N atoms
  to_line xs listed = elim (highest xs (λ b c. (listed b).0 c)) [
    | inl none ↦ ([], line_of [] 0 refl tt (λ b s. absurd (nothing_in b xs none ((listed b).1 s))))
    | inr (m, c, at, below) ↦
        let whole = front m c [] 0 refl at tt in
        (whole.0, line_of whole.0 (m + 1) (let l = whole.2 in omega (arith, l)) whole.1 (λ b s. let under = below b ((listed b).1 s) in (under.0, (let h = under.1 in omega (arith, h)), under.2)))
  ]

-- ---- the other way round

pub first_there : (xs : List Atom) (a b : Atom) → Follows xs a b → Contains xs a
first_there [] a b f = absurd f
first_there (x ∷ []) a b f = absurd f
first_there (x ∷ y ∷ more) a b (inl (e, f)) = here_is x a (y ∷ more) e
first_there (x ∷ y ∷ more) a b (inr f) = cons_later x (y ∷ more) a (first_there (y ∷ more) a b f)

pub second_there : (x : Atom) (xs : List Atom) (a b : Atom) → Follows (x ∷ xs) a b → Contains xs b
second_there x [] a b f = absurd f
second_there x (y ∷ more) a b (inl (e, f)) = here_is y b more f
second_there x (y ∷ more) a b (inr f) = cons_later y more b (second_there y more a b f)

pub either_there : (xs : List Atom) (a b : Atom) → Follows xs a b → Contains xs b
either_there [] a b f = absurd f
either_there (x ∷ xs) a b f = cons_later x xs b (second_there x xs a b f)

head_there : (xs : List Atom) (a : Atom) → IsHead xs a → Contains xs a
head_there [] a h = absurd h
head_there (x ∷ xs) a h = here_is x a xs h

one_head : (xs : List Atom) (a b : Atom) → IsHead xs a → IsHead xs b → a ≡ b
one_head [] a b g h = absurd g
one_head (x ∷ xs) a b g h = sym g ∙ h

none_before_head : (xs : List Atom) → AllPairs (λ (a b : Atom). a ≢ b) xs → (a b : Atom) → Follows xs a b → IsHead xs b → ⊥
none_before_head [] once a b f h = h
none_before_head (x ∷ xs) once a b f h = apart x b xs once (second_there x xs a b f) h

one_behind : (xs : List Atom) → AllPairs (λ (a b : Atom). a ≢ b) xs → (a b c : Atom) → Follows xs a b → Follows xs a c → b ≡ c
one_behind [] once a b c f g = absurd f
one_behind (x ∷ []) once a b c f g = absurd f
one_behind (x ∷ y ∷ more) once a b c (inl (e, f)) (inl (g, h)) = sym f ∙ h
one_behind (x ∷ y ∷ more) once a b c (inl (e, f)) (inr g) = absurd (apart x a (y ∷ more) once (first_there (y ∷ more) a c g) e)
one_behind (x ∷ y ∷ more) once a b c (inr f) (inl (g, h)) = absurd (apart x a (y ∷ more) once (first_there (y ∷ more) a b f) g)
one_behind (x ∷ y ∷ more) once a b c (inr f) (inr g) = one_behind (y ∷ more) (rest_once x (y ∷ more) once) a b c f g

one_before : (xs : List Atom) → AllPairs (λ (a b : Atom). a ≢ b) xs → (a b c : Atom) → Follows xs a c → Follows xs b c → a ≡ b
one_before [] once a b c f g = absurd f
one_before (x ∷ []) once a b c f g = absurd f
one_before (x ∷ y ∷ more) once a b c (inl (e, f)) (inl (g, h)) = sym e ∙ g
one_before (x ∷ y ∷ more) once a b c (inl (e, f)) (inr g) = absurd (apart y c more (rest_once x (y ∷ more) once) (second_there y more b c g) f)
one_before (x ∷ y ∷ more) once a b c (inr f) (inl (g, h)) = absurd (apart y c more (rest_once x (y ∷ more) once) (second_there y more a c f) h)
one_before (x ∷ y ∷ more) once a b c (inr f) (inr g) = one_before (y ∷ more) (rest_once x (y ∷ more) once) a b c f g

-- ---- one list

same_behind : (x : Atom) (xs ys : List Atom) → AllPairs (λ (a b : Atom). a ≢ b) (x ∷ xs) → AllPairs (λ (a b : Atom). a ≢ b) (x ∷ ys) →
    ((a b : Atom) → Follows (x ∷ xs) a b ↔ Follows (x ∷ ys) a b) → xs ≡ ys
same_behind x [] [] once twice pairs = refl
same_behind x [] (y ∷ ys) once twice pairs = absurd ((pairs x y).1 (inl (refl, refl)))
same_behind x (y ∷ xs) [] once twice pairs = absurd ((pairs x y).0 (inl (refl, refl)))
same_behind x (y ∷ xs) (z ∷ ys) once twice pairs =
    let same : y ≡ z = one_behind (x ∷ z ∷ ys) twice x y z ((pairs x y).0 (inl (refl, refl))) (inl (refl, refl)) in
    let rest : (a b : Atom) → Follows (y ∷ xs) a b ↔ Follows (z ∷ ys) a b = λ a b. (
      λ f. elim ((pairs a b).0 (inr f)) [ inl first ↦ absurd (apart x a (y ∷ xs) once (first_there (y ∷ xs) a b f) first.0) | inr later ↦ later ],
      λ f. elim ((pairs a b).1 (inr f)) [ inl first ↦ absurd (apart x a (z ∷ ys) twice (first_there (z ∷ ys) a b f) first.0) | inr later ↦ later ],
    ) in
    let tails = same_behind y xs ys (rest_once x (y ∷ xs) once) (subst (λ (w : Atom). AllPairs (λ (a b : Atom). a ≢ b) (w ∷ ys)) (sym same) (rest_once x (z ∷ ys) twice))
    (subst (λ (w : Atom). (a b : Atom) → Follows (y ∷ xs) a b ↔ Follows (w ∷ ys) a b) (sym same) rest) in
    λ i. same i ∷ tails i

pub one_line : (S F : Atom → Type 0) (N : Atom → Atom → Type 0) (xs ys : List Atom) → IsLine S F N xs → IsLine S F N ys → xs ≡ ys
one_line S F N [] [] l k = refl
one_line S F N [] (y ∷ ys) l k = absurd ((l.first y).0 ((k.first y).1 refl))
one_line S F N (x ∷ xs) [] l k = absurd ((k.first x).0 ((l.first x).1 refl))
one_line S F N (x ∷ xs) (y ∷ ys) l k =
    let same : y ≡ x = (k.first x).0 ((l.first x).1 refl) in
    let pairs : (a b : Atom) → Follows (x ∷ xs) a b ↔ Follows (y ∷ ys) a b = λ a b. (λ f. (k.next a b).0 ((l.next a b).1 f), λ f. (l.next a b).0 ((k.next a b).1 f)) in
    let tails = same_behind x xs ys l.once (subst (λ (w : Atom). AllPairs (λ (a b : Atom). a ≢ b) (w ∷ ys)) same k.once)
    (subst (λ (w : Atom). (a b : Atom) → Follows (x ∷ xs) a b ↔ Follows (w ∷ ys) a b) same pairs) in
    λ i. sym same i ∷ tails i

-- ---- from a list to what the formulas describe

ranks : (F : Atom → Type 0) (N : Atom → Atom → Type 0) (i : ℕ) (p : Atom) (ps : List Atom) → Reach F N i p → ((a b : Atom) → Follows (p ∷ ps) a b → N a b) → (b : Atom) → Contains (p ∷ ps) b → (k : ℕ) × Reach F N k b
ranks F N i p [] x pairs b c = elim (cons_cases p [] b c) [
  | inl same ↦ (i, subst (λ (a : Atom). Reach F N i a) same x)
  | inr later ↦ absurd (nothing_in b [] refl later)
]
ranks F N i p (q ∷ qs) x pairs b c = elim (cons_cases p (q ∷ qs) b c) [
  | inl same ↦ (i, subst (λ (a : Atom). Reach F N i a) same x)
  | inr later ↦ ranks F N (suc i) q qs (p, x, pairs p q (inl (refl, refl))) (λ a b f. pairs a b (inr f)) b later
]

reached_from : (F : Atom → Type 0) (N : Atom → Atom → Type 0) (ps : List Atom) → ((a : Atom) → IsHead ps a → F a) → ((a b : Atom) → Follows ps a b → N a b) → (b : Atom) → Contains ps b → (k : ℕ) × Reach F N k b
reached_from F N [] heads pairs b c = absurd (nothing_in b [] refl c)
reached_from F N (p ∷ ps) heads pairs b c = ranks F N zero p ps (heads p refl) pairs b c

pub from_line : (S F : Atom → Type 0) (N : Atom → Atom → Type 0) (atoms : List Atom) → IsLine S F N atoms → Describe S F N
from_line S F N atoms line = record {
  first_in = λ a x. (line.each a).0 (head_there atoms a ((line.first a).0 x));
  first_lone = λ a b x y. one_head atoms a b ((line.first a).0 x) ((line.first b).0 y);
  next_in = λ a b n. ((line.each a).0 (first_there atoms a b ((line.next a b).0 n)), (line.each b).0 (either_there atoms a b ((line.next a b).0 n)));
  none_before = λ a b n x. none_before_head atoms line.once a b ((line.next a b).0 n) ((line.first b).0 x);
  lone_behind = λ a b c n m. one_behind atoms line.once a b c ((line.next a b).0 n) ((line.next a c).0 m);
  lone_before = λ a b c n m. one_before atoms line.once a b c ((line.next a c).0 n) ((line.next b c).0 m);
  reached = λ b s. reached_from F N atoms (λ a h. (line.first a).1 h) (λ a c f. (line.next a c).1 f) b ((line.each b).1 s);
}
