-- Walks by the pairs of a set.
use Rattle.std.proofs.Common.{inl, inr, All, Contains, ◌≡◌, ℕ, List, [], ◌∷◌, ◌++◌, length, refl, sym, ◌∙◌, ap, subst, arith}
use Rattle.std.proofs.lemmas.List.{same_from_push}
use Rattle.std.proofs.lemmas.List.Elements.{All-contains}
use Rattle.tuple_core.specs.declared.atom.Atom.{Atom}
use Rattle.tuple_core.specs.Operators.{Pred, JoinsTo, Joined, Walk, Closed}
use Rattle.tuple_core.specs.Gains.{SomeGives}
use Rattle.tuple_core.specs.Rows.{Rows, IsSetOf, SetGains}
use Rattle.tuple_core.proofs.Steps.{same_gives}

pub walk_push : (P : Pred) (x : Atom) (ms : List Atom) (m y : Atom) → Walk P x ms m → P (m ∷ y ∷ []) → Walk P x (ms ++ m ∷ []) y
walk_push P x [] m y w p = (w, p)
walk_push P x (n ∷ ns) m y w p = (w.0, walk_push P n ns m y w.1 p)

only_one : (ys : List Atom) → length ys ≡ 1 → (y : Atom) × (ys ≡ y ∷ [])
only_one [] e = absurd (omega arith)
only_one (y ∷ []) e = (y, refl)
only_one (y ∷ z ∷ zs) e = absurd (omega arith)

-- what a pair joins to with a pair
pub joined_pairs : (x m : Atom) (r t : List Atom) → length r ≡ 2 → JoinsTo (x ∷ m ∷ []) r t → (y : Atom) × (r ≡ m ∷ y ∷ []) × (t ≡ x ∷ y ∷ [])
joined_pairs x m r t l j =
    let ends = same_from_push (x ∷ []) j.0 m j.1 j.3 in
    let one = only_one j.2 (let e = ap length j.4 in omega arith) in
    (one.0, j.4 ∙ ap (λ a. a ∷ j.2) (sym ends.1) ∙ ap (λ ys. m ∷ ys) one.1, j.5 ∙ ap (λ xs. xs ++ j.2) (sym ends.0) ∙ ap (λ ys. x ∷ ys) one.1)

pub joins_pair : (x m y : Atom) → JoinsTo (x ∷ m ∷ []) (m ∷ y ∷ []) (x ∷ y ∷ [])
joins_pair x m y = (x ∷ [], m, y ∷ [], refl, refl, refl)

pub closed_more : (P : Pred) (l r t : List Atom) → ((u : List Atom) → P u → length u ≡ 2) → Closed P l → P r → JoinsTo l r t → Closed P t
closed_more P l r t pairs c p j =
    let e = joined_pairs c.0 c.2 r t (pairs r p) (subst (λ k. JoinsTo k r t) c.3 j) in
    (c.0, c.1 ++ c.2 ∷ [], e.0, e.2, walk_push P c.0 c.1 c.2 e.0 c.4 (subst P e.1 p))

walks_on : (W P : Pred) → ((t : List Atom) → Joined W P t → W t) → (x m : Atom) (ms : List Atom) (y : Atom) → W (x ∷ m ∷ []) → Walk P m ms y → W (x ∷ y ∷ [])
walks_on W P more x m [] y w p = more (x ∷ y ∷ []) (x ∷ m ∷ [], m ∷ y ∷ [], w, p, joins_pair x m y)
walks_on W P more x m (n ∷ ns) y w p = walks_on W P more x n ns y (more (x ∷ n ∷ []) (x ∷ m ∷ [], m ∷ n ∷ [], w, p.0, joins_pair x m n)) p.1

walks : (W P : Pred) → ((t : List Atom) → P t → W t) → ((t : List Atom) → Joined W P t → W t) → (x : Atom) (ms : List Atom) (y : Atom) → Walk P x ms y → W (x ∷ y ∷ [])
walks W P base more x [] y p = base (x ∷ y ∷ []) p
walks W P base more x (n ∷ ns) y p = walks_on W P more x n ns y (base (x ∷ n ∷ []) p.0) p.1

-- a set that has each pair and goes on by each pair has each walk
pub has_walks : (W P : Pred) → ((t : List Atom) → P t → W t) → ((t : List Atom) → Joined W P t → W t) → (t : List Atom) → Closed P t → W t
has_walks W P base more t c = subst W (sym c.3) (walks W P base more c.0 c.1 c.2 c.4)

pub closed_pair : (P : Pred) (t : List Atom) → length t ≡ 2 → P t → Closed P t
closed_pair P [] l p = absurd (omega arith)
closed_pair P (x ∷ []) l p = absurd (omega arith)
closed_pair P (x ∷ y ∷ []) l p = (x, [], y, refl, p)
closed_pair P (x ∷ y ∷ z ∷ zs) l p = absurd (omega arith)

module _ (base old longer new : Rows) (pairs : All (λ t. length t ≡ 2) base.rows) (n : ℕ) (xs : List (List Atom)) (same : xs ≡ longer.rows)
    (g : SetGains old new (SomeGives xs (λ x t. t ≡ x))) (is : IsSetOf longer n (Joined (Contains old.rows) (Contains base.rows))) where
  pub from_longer : (t : List Atom) → SomeGives xs (λ x u. u ≡ x) t → Joined (Contains old.rows) (Contains base.rows) t
  from_longer t h = (is.just t).0 (subst (λ zs. Contains zs t) same ((same_gives xs).to t h))

  pub to_longer : (t : List Atom) → Joined (Contains old.rows) (Contains base.rows) t → SomeGives xs (λ x u. u ≡ x) t
  to_longer t j = (same_gives xs).back t (subst (λ zs. Contains zs t) (sym same) ((is.just t).1 j))

  pub sound_more : ((t : List Atom) → Contains old.rows t → Closed (Contains base.rows) t) → (t : List Atom) → Contains new.rows t → Closed (Contains base.rows) t
  sound_more sound t h = elim ((g.rows.tuples t).0 h) [
    | inl o ↦ sound t o
    | inr m ↦ let j = from_longer t m in closed_more (Contains base.rows) j.0 j.1 t (λ u c. All-contains (λ v. length v ≡ 2) base.rows u pairs c) (sound j.0 j.2) j.3 j.4
  ]

  pub closed_now : (new ≡ old) → (old.arity ≡ 2) → ((t : List Atom) → Contains base.rows t → Contains old.rows t) → ((t : List Atom) → Contains old.rows t → Closed (Contains base.rows) t) → IsSetOf new 2 (Closed (Contains base.rows))
  closed_now e a has sound = record {
    arity_is = g.arity ∙ a;
    just = λ t. (
      sound_more sound t,
      λ c. subst (λ r. Contains r.rows t) (sym e) (has_walks (Contains old.rows) (Contains base.rows) has (λ u j. subst (λ r. Contains r.rows u) e ((g.rows.tuples u).1 (inr (to_longer u j)))) t c),
    );
  }
