-- The steps of a loop that puts tuples into a set.
use Rattle.std.proofs.Common.{◌≡◌, ℕ, ◌+◌, ◌<◌, ◌≤◌, List, [], ◌∷◌, ◌++◌, length, take, get_or, refl, sym, ◌∙◌, ap, subst, inl, inr, ◌⊎◌, ◌↔◌, Contains, IsTrue, All, Bool, true, false, not, cond, arith}
use Rattle.std.proofs.lemmas.List.{take_more, take_all}
use Rattle.std.proofs.lemmas.List.Elements.{All-more, Contains-push, Contains-push_cases, Contains-append_left}
use Rattle.tuple_core.specs.declared.atom.Atom.{Atom}
use Rattle.tuple_core.specs.Operators.{Pred, JoinsTo, United, Joined, Multiplied, Transposed, BeginsWith, EndsWith, IsFirstIn}
use Rattle.tuple_core.specs.Gains.{Same, Gains, SomeGives}
use Rattle.tuple_core.specs.Rows.{Rows, IsRows, IsSetOf, SetGains}
use Rattle.tuple_core.proofs.Atoms.{same_first, same_last}

-- nothing comes from no element
pub no_gives : {X : Type 0} (R : X → Pred) (t : List Atom) → SomeGives [] R t → ⊥
no_gives R t g = absurd (let h = g.1.1 in omega arith)

pub push_gives : {X : Type 0} (xs : List X) (x : X) (R : X → Pred) (t : List Atom) → SomeGives (xs ++ x ∷ []) R t ↔ (SomeGives xs R t ⊎ R x t)
push_gives xs x R t = (
  λ g. elim (Contains-push_cases xs x g.0 g.1) [ inl h ↦ inl (g.0, h, g.2) | inr e ↦ inr (subst (λ y. R y t) (sym e) g.2) ],
  λ s. elim s [ inl g ↦ (g.0, Contains-append_left xs (x ∷ []) g.0 g.1, g.2) | inr r ↦ (x, Contains-push xs x, r) ],
)

-- one more element
pub more_gives : {X : Type 0} (xs : List X) (i : ℕ) (x : X) (R : X → Pred) (t : List Atom) → i < length xs → x ≡ get_or xs i x → SomeGives (take (i + 1) xs) R t ↔ (SomeGives (take i xs) R t ⊎ R x t)
more_gives xs i x R t l e =
    let more : take (i + 1) xs ≡ take i xs ++ x ∷ [] = take_more xs i x l ∙ ap (λ y. take i xs ++ y ∷ []) (sym e) in
    subst (λ zs. SomeGives zs R t ↔ (SomeGives (take i xs) R t ⊎ R x t)) (sym more) (push_gives (take i xs) x R t)

-- two facts that agree at the list's elements
pub gives_same : {X : Type 0} (xs : List X) (R S : X → Pred) → ((x : X) → Contains xs x → Same (R x) (S x)) → Same (SomeGives xs R) (SomeGives xs S)
gives_same xs R S same = record { to = λ t g. (g.0, g.1, (same g.0 g.1).to t g.2); back = λ t g. (g.0, g.1, (same g.0 g.1).back t g.2) }

pub same_gives : (xs : List (List Atom)) → Same (SomeGives xs (λ x u. u ≡ x)) (Contains xs)
same_gives xs = record { to = λ t g. subst (λ u. Contains xs u) (sym g.2) g.1; back = λ t h. (t, h, refl) }

pub gains_nothing : (a P : Pred) → ((t : List Atom) → P t → ⊥) → Gains a a P
gains_nothing a P none = record { tuples = λ t. (λ h. inl h, λ s. elim s [ inl h ↦ h | inr p ↦ absurd (none t p) ]) }

pub gains_none : {X : Type 0} (xs : List X) (R : X → Pred) (a : Pred) → Gains a a (SomeGives (take 0 xs) R)
gains_none xs R a = gains_nothing a (SomeGives (take 0 xs) R) (no_gives R)

pub gains_more : {X : Type 0} (xs : List X) (i : ℕ) (x : X) (R : X → Pred) (a b c : Pred) → i < length xs → x ≡ get_or xs i x → Gains a b (SomeGives (take i xs) R) → Gains b c (R x) → Gains a c (SomeGives (take (i + 1) xs) R)
gains_more xs i x R a b c l e g h = record {
  tuples = λ t. (
    λ there. elim ((h.tuples t).0 there) [
      | inl before ↦ elim ((g.tuples t).0 before) [ inl old ↦ inl old | inr from ↦ inr ((more_gives xs i x R t l e).1 (inl from)) ]
      | inr new ↦ inr ((more_gives xs i x R t l e).1 (inr new))
    ],
    λ s. elim s [
      | inl old ↦ (h.tuples t).1 (inl ((g.tuples t).1 (inl old)))
      | inr from ↦ elim ((more_gives xs i x R t l e).0 from) [ inl f ↦ (h.tuples t).1 (inl ((g.tuples t).1 (inr f))) | inr r ↦ (h.tuples t).1 (inr r) ]
    ],
  );
}

-- an element from which nothing comes
pub gains_skip : {X : Type 0} (xs : List X) (i : ℕ) (x : X) (R : X → Pred) (a b : Pred) → i < length xs → x ≡ get_or xs i x → Gains a b (SomeGives (take i xs) R) → ((t : List Atom) → R x t → ⊥) → Gains a b (SomeGives (take (i + 1) xs) R)
gains_skip xs i x R a b l e g none = gains_more xs i x R a b b l e g (gains_nothing b (R x) none)

pub gains_same : (a b P Q : Pred) → Same P Q → Gains a b P → Gains a b Q
gains_same a b P Q same g = record {
  tuples = λ t. (λ h. elim ((g.tuples t).0 h) [ inl o ↦ inl o | inr p ↦ inr (same.to t p) ], λ s. elim s [ inl o ↦ (g.tuples t).1 (inl o) | inr q ↦ (g.tuples t).1 (inr (same.back t q)) ]);
}

pub gains_all : {X : Type 0} (xs : List X) (i : ℕ) (R : X → Pred) (a b : Pred) → length xs ≤ i → Gains a b (SomeGives (take i xs) R) → Gains a b (SomeGives xs R)
gains_all xs i R a b l g = subst (λ zs. Gains a b (SomeGives zs R)) (take_all i xs l) g

-- the same steps on sets with their arity
pub set_none : {X : Type 0} (xs : List X) (R : X → Pred) (a : Rows) → SetGains a a (SomeGives (take 0 xs) R)
set_none xs R a = record { arity = refl; rows = gains_none xs R (Contains a.rows) }

pub set_more : {X : Type 0} (xs : List X) (i : ℕ) (x : X) (R : X → Pred) (a b c : Rows) → i < length xs → x ≡ get_or xs i x → SetGains a b (SomeGives (take i xs) R) → SetGains b c (R x) → SetGains a c (SomeGives (take (i + 1) xs) R)
set_more xs i x R a b c l e g h = record { arity = h.arity ∙ g.arity; rows = gains_more xs i x R (Contains a.rows) (Contains b.rows) (Contains c.rows) l e g.rows h.rows }

pub set_skip : {X : Type 0} (xs : List X) (i : ℕ) (x : X) (R : X → Pred) (a b : Rows) → i < length xs → x ≡ get_or xs i x → SetGains a b (SomeGives (take i xs) R) → ((t : List Atom) → R x t → ⊥) → SetGains a b (SomeGives (take (i + 1) xs) R)
set_skip xs i x R a b l e g none = record { arity = g.arity; rows = gains_skip xs i x R (Contains a.rows) (Contains b.rows) l e g.rows none }

pub set_same : (a b : Rows) (P Q : Pred) → Same P Q → SetGains a b P → SetGains a b Q
set_same a b P Q same g = record { arity = g.arity; rows = gains_same (Contains a.rows) (Contains b.rows) P Q same g.rows }

pub set_all : {X : Type 0} (xs : List X) (i : ℕ) (R : X → Pred) (a b : Rows) → length xs ≤ i → SetGains a b (SomeGives (take i xs) R) → SetGains a b (SomeGives xs R)
set_all xs i R a b l g = record { arity = g.arity; rows = gains_all xs i R (Contains a.rows) (Contains b.rows) l g.rows }

-- a set that began empty
pub set_from_gains : (a b : Rows) (n : ℕ) (P Q : Pred) → a.rows ≡ [] → a.arity ≡ n → SetGains a b P → Same P Q → IsSetOf b n Q
set_from_gains a b n P Q e m g same = record {
  arity_is = g.arity ∙ m;
  just = λ t. (λ h. elim ((g.rows.tuples t).0 h) [ inl o ↦ absurd (nothing t (subst (λ zs. Contains zs t) e o)) | inr p ↦ same.to t p ], λ q. (g.rows.tuples t).1 (inr (same.back t q)));
}
  where
    nothing : (t : List Atom) → Contains [] t → ⊥
    nothing t c = absurd (let l = c.1 in omega arith)

-- a loop that keeps the tuples of a list that have the fact K
abbrev pub Kept : List (List Atom) → Pred → Pred
Kept xs K = SomeGives xs (λ x t. (t ≡ x) × K x)

pub kept_more : (xs : List (List Atom)) (i : ℕ) (x : List Atom) (K : Pred) (keep : Bool) (a b c : Rows) → i < length xs → x ≡ get_or xs i x → IsTrue keep ↔ K x
    → SetGains a b (Kept (take i xs) K) → SetGains b c (λ t. (t ≡ x) × IsTrue keep) → SetGains a c (Kept (take (i + 1) xs) K)
kept_more xs i x K keep a b c l e says g h =
    set_more xs i x (λ y t. (t ≡ y) × K y) a b c l e g
    (set_same b c (λ t. (t ≡ x) × IsTrue keep) (λ t. (t ≡ x) × K x) (record { to = λ t p. (p.0, says.0 p.1); back = λ t p. (p.0, says.1 p.1) }) h)

pub kept_same : (xs ys : List (List Atom)) (K : Pred) → xs ≡ ys → Same (Kept xs K) (λ t. Contains ys t × K t)
kept_same xs ys K e = record {
  to = λ t g. (subst (λ zs. Contains zs t) e (subst (λ u. Contains xs u) (sym g.2.0) g.1), subst K (sym g.2.0) g.2.1);
  back = λ t p. (t, subst (λ zs. Contains zs t) (sym e) p.0, (refl, p.1));
}

-- all have been looked at
pub kept_set : (xs ys : List (List Atom)) (i : ℕ) (K : Pred) (a b : Rows) (n : ℕ) → length xs ≤ i → xs ≡ ys → a.rows ≡ [] → a.arity ≡ n → SetGains a b (Kept (take i xs) K) → IsSetOf b n (λ t. Contains ys t × K t)
kept_set xs ys i K a b n l e empty m g =
    set_from_gains a b n (Kept xs K) (λ t. Contains ys t × K t) empty m (set_all xs i (λ x t. (t ≡ x) × K x) a b l g) (kept_same xs ys K e)

-- what was there, and what came to it
pub set_gained : (a b : Rows) (n : ℕ) (P : Pred) → a.arity ≡ n → SetGains a b P → IsSetOf b n (United (Contains a.rows) P)
set_gained a b n P m g = record { arity_is = g.arity ∙ m; just = g.rows.tuples }

-- each tuple of a set has its arity
pub row_arity : (xs : List (List Atom)) (v : Rows) (i : ℕ) (x : List Atom) → xs ≡ v.rows → IsRows v → i < length xs → x ≡ get_or xs i x → length x ≡ v.arity
row_arity xs v i x e is l at = ap length at ∙ subst (λ zs. All (λ t. length t ≡ v.arity) zs) (sym e) is.arities i x l

pub not_says : (b : Bool) (P : Type 0) → IsTrue b ↔ P → IsTrue (not b) ↔ (P → ⊥)
not_says true P says = (λ e. cc, λ none. absurd (none (says.0 refl)))
not_says false P says = (λ e p. let yes = says.1 p in cc, λ none. refl)

-- from the loops' facts to those of the operators
pub join_gives : (xs ys zs : List (List Atom)) → xs ≡ zs → Same (SomeGives xs (λ x u. SomeGives ys (λ r v. JoinsTo x r v) u)) (Joined (Contains zs) (Contains ys))
join_gives xs ys zs e =
    subst (λ ws. Same (SomeGives xs (λ x u. SomeGives ys (λ r v. JoinsTo x r v) u)) (Joined (Contains ws) (Contains ys))) e
    (record { to = λ t g. (g.0, g.2.0, g.1, g.2.1, g.2.2); back = λ t j. (j.0, j.2, (j.1, j.3, j.4)) })

pub product_gives : (xs ys zs : List (List Atom)) → xs ≡ zs → Same (SomeGives xs (λ x u. SomeGives ys (λ r v. v ≡ x ++ r) u)) (Multiplied (Contains zs) (Contains ys))
product_gives xs ys zs e =
    subst (λ ws. Same (SomeGives xs (λ x u. SomeGives ys (λ r v. v ≡ x ++ r) u)) (Multiplied (Contains ws) (Contains ys))) e
    (record { to = λ t g. (g.0, g.2.0, g.1, g.2.1, g.2.2); back = λ t j. (j.0, j.2, (j.1, j.3, j.4)) })

pub then_same : {P Q S : Type 0} → (P ↔ Q) → (Q ↔ S) → P ↔ S
then_same f g = (λ p. g.0 (f.0 p), λ s. f.1 (g.1 s))

-- a set of tuples after one more try
pub grown : (b : Bool) (old mid new : Rows) → length old.rows ≤ length mid.rows → length new.rows ≡ cond b (length mid.rows + 1) (length mid.rows) → length old.rows ≤ length new.rows
grown true old mid new h e = omega arith
grown false old mid new h e = omega arith

pub unchanged : (b : Bool) (old mid new : Rows) → length old.rows ≤ length mid.rows → length new.rows ≡ cond b (length mid.rows + 1) (length mid.rows) → (length mid.rows ≡ length old.rows → mid ≡ old) → (b ≡ false → new ≡ mid) → length new.rows ≡ length old.rows → new ≡ old
unchanged true old mid new h e before now l = absurd (omega arith)
unchanged false old mid new h e before now l = now refl ∙ before (sym e ∙ l)

-- what holds of each element holds of the loop's
pub all_at : {X : Type 0} (P : X → Type 0) (xs : List X) (i : ℕ) (x : X) → All P xs → i < length xs → x ≡ get_or xs i x → P x
all_at P xs i x all l e = subst P (sym e) (all i x l)

-- a loop that tests each element
pub all_no : {X : Type 0} (P : X → Type 0) (xs : List X) (i : ℕ) (x : X) → i < length xs → x ≡ get_or xs i x → (P x → ⊥) → All P xs → ⊥
all_no P xs i x l e isnt all = isnt (subst P (sym e) (all i x l))

pub all_step : {X : Type 0} (P : X → Type 0) (xs : List X) (i : ℕ) (x : X) → i < length xs → x ≡ get_or xs i x → All P (take i xs) → P x → All P (take (i + 1) xs)
all_step P xs i x l e all p = All-more P xs i x l all (subst P e p)

pub all_done : {X : Type 0} (P : X → Type 0) (xs : List X) (i : ℕ) → length xs ≤ i → All P (take i xs) → All P xs
all_done P xs i l all = subst (All P) (take_all i xs l) all

-- the tests of a tuple's first or last atom
pub over_says : (b : Bool) (Q : Pred) (f : Atom) (t : List Atom) → BeginsWith f t → IsTrue b ↔ IsFirstIn Q f → IsTrue (not b) ↔ ((x : Atom) → BeginsWith x t → IsFirstIn Q x → ⊥)
over_says b Q f t begins says =
    let no = not_says b (IsFirstIn Q f) says in
    (λ e x other i. no.0 e (subst (IsFirstIn Q) (same_first x f other.0 begins.0 (sym other.1 ∙ begins.1)) i), λ none. no.1 (none f begins))

pub dom_says : (b : Bool) (S : Pred) (f : Atom) (t one : List Atom) → BeginsWith f t → one ≡ f ∷ [] → IsTrue b ↔ S one → IsTrue b ↔ ((x : Atom) × BeginsWith x t × S (x ∷ []))
dom_says b S f t one begins e says = (
  λ h. (f, begins, subst S e (says.0 h)),
  λ d. says.1 (subst S (sym e) (subst (λ x. S (x ∷ [])) (same_first d.0 f d.1.0 begins.0 (sym d.1.1 ∙ begins.1)) d.2)),
)

pub ran_says : (b : Bool) (S : Pred) (f : Atom) (t one : List Atom) → EndsWith f t → one ≡ f ∷ [] → IsTrue b ↔ S one → IsTrue b ↔ ((x : Atom) × EndsWith x t × S (x ∷ []))
ran_says b S f t one ends e says = (
  λ h. (f, ends, subst S e (says.0 h)),
  λ d. says.1 (subst S (sym e) (subst (λ x. S (x ∷ [])) (same_last d.1.0 ends.0 d.0 f (sym d.1.1 ∙ ends.1)) d.2)),
)

-- t is the pair x turned round
abbrev pub TurnsTo : List Atom → Pred
TurnsTo p t = (x : Atom) × (y : Atom) × (p ≡ x ∷ y ∷ []) × (t ≡ y ∷ x ∷ [])

pub turned_once : (p q : List Atom) → length p ≡ 2 → ((x : Atom) → (y : Atom) → p ≡ x ∷ y ∷ [] → q ≡ y ∷ x ∷ []) → ((t : List Atom) → t ≡ q → TurnsTo p t) × ((t : List Atom) → TurnsTo p t → t ≡ q) × (length q ≡ 2)
turned_once [] q l turn = absurd (omega arith)
turned_once (x ∷ []) q l turn = absurd (omega arith)
turned_once (x ∷ y ∷ []) q l turn = (λ t e. (x, y, refl, e ∙ turn x y refl), λ t p. p.3 ∙ sym (turn p.0 p.1 p.2), ap length (turn x y refl))
turned_once (x ∷ y ∷ z ∷ zs) q l turn = absurd (omega arith)

pub turned_gives : (xs ys : List (List Atom)) → xs ≡ ys → Same (SomeGives xs TurnsTo) (Transposed (Contains ys))
turned_gives xs ys e =
    subst (λ zs. Same (SomeGives xs TurnsTo) (Transposed (Contains zs))) e
    (record { to = λ t g. (g.2.0, g.2.1, subst (λ p. Contains xs p) g.2.2 g.1, g.2.3); back = λ t p. (p.0 ∷ p.1 ∷ [], p.2, (p.0, p.1, refl, p.3)) })
