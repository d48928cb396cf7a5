-- Products of places, one signature after the other.
use Rattle.std.proofs.Common.{◌≡◌, inl, inr, ℕ, ◌+◌, ◌-◌, ◌<◌, List, [], ◌∷◌, ◌++◌, length, take, drop, take-append-drop, get_or, Contains, refl, sym, ◌∙◌, ap, subst, arith, add-one}
use Rattle.std.specs.Prelude.{Vec}
use Rattle.std.specs.declared.alloc.Global.{Global}
use Rattle.std.proofs.lemmas.List.{take_more, take_all}
use Rattle.std.proofs.lemmas.List.Elements.{All-weaker, Contains-append_left, Contains-get_or}
use Rattle.tuple_core.specs.declared.atom.Atom.{Atom}
use Rattle.tuple_core.specs.Operators.{Pred, Multiplied, United}
use Rattle.tuple_core.specs.Gains.{Same, SomeGives}
use Rattle.tuple_core.specs.Rows.{Rows, IsRows, IsSetOf, SetGains}
use Rattle.tuple_core.proofs.Congruence.{set_of_same, same_then, rows_same, Multiplied-same}
use Rattle.tuple_core.proofs.Steps.{set_gained}
use Rattle.rel_formula.specs.Meaning.{HasAtLeast}
use Rattle.rel_formula.proofs.Counts.{distinct, at_least}
use Rattle.rel_formula.proofs.OpenCells.{map_has, has_map}
use Rattle.model_sizes.specs.declared.size.Size.{Size}
use Rattle.lowering_rules.specs.declared.fault.LowerFault.{LowerFault}
use Rattle.lowering_rules.specs.declared.fault.LowerFault.TheVariants as fault
use Rattle.lowering_rules.specs.Relations.{InProduct, InProducts}
use Rattle.model_types.specs.Bounds.Same.{lists_of}
use Rattle.rel_lower.specs.Bounding.Bounds.{IsTooLarge}

-- ---- one signature more

module _ (sizes : List Size) where
  joined : (xs ys : List ℕ) (l r : List Atom) → InProduct sizes xs l → InProduct sizes ys r → InProduct sizes (xs ++ ys) (l ++ r)
  joined [] ys [] r h g = g
  joined [] ys (a ∷ l) r h g = absurd h
  joined (x ∷ xs) ys [] r h g = absurd h
  joined (x ∷ xs) ys (a ∷ l) r h g = (h.0, joined xs ys l r h.1 g)

  parted : (xs ys : List ℕ) (t : List Atom) → InProduct sizes (xs ++ ys) t → Multiplied (InProduct sizes xs) (InProduct sizes ys) t
  parted [] ys t h = ([], t, tt, h, refl)
  parted (x ∷ xs) ys [] h = absurd h
  parted (x ∷ xs) ys (a ∷ t) h = let p = parted xs ys t h.1 in (a ∷ p.0, p.1, (h.0, p.2), p.3, ap (λ u. a ∷ u) p.4)

  multiplied : (xs ys : List ℕ) → Same (Multiplied (InProduct sizes xs) (InProduct sizes ys)) (InProduct sizes (xs ++ ys))
  multiplied xs ys = record {
    to = λ t m. subst (InProduct sizes (xs ++ ys)) (sym m.4) (joined xs ys m.0 m.1 m.2 m.3);
    back = λ t h. parted xs ys t h;
  }

  first_of : (tops : List ℕ) (x : ℕ) (v : Rows) → 0 < length tops → x ≡ get_or tops 0 x → IsSetOf v 1 (InProduct sizes (x ∷ [])) → IsSetOf v 1 (InProduct sizes (take 1 tops))
  first_of [] x v l e h = absurd (omega arith)
  first_of (y ∷ tops) x v l e h = subst (λ z. IsSetOf v 1 (InProduct sizes (z ∷ []))) e h

  -- the places of the next signature behind those of the signatures before it
  pub one_more : (tops : List ℕ) (i x : ℕ) (v w u : Rows) → i + 1 < length tops → x ≡ get_or tops (i + 1) x → IsSetOf v (i + 1) (InProduct sizes (take (i + 1) tops))
      → IsSetOf w 1 (InProduct sizes (x ∷ [])) → IsSetOf u (v.arity + w.arity) (Multiplied (Contains v.rows) (Contains w.rows)) → IsSetOf u (i + 1 + 1) (InProduct sizes (take (i + 1 + 1) tops))
  one_more tops i x v w u l e iv iw iu =
      let more : take (i + 1 + 1) tops ≡ take (i + 1) tops ++ x ∷ [] = take_more tops (i + 1) x l ∙ ap (λ y. take (i + 1) tops ++ y ∷ []) (sym e) in
      let n : v.arity + w.arity ≡ i + 1 + 1 = let a = iv.arity_is in let b = iw.arity_is in omega arith in
      subst (λ ts. IsSetOf u (i + 1 + 1) (InProduct sizes ts)) (sym more)
      (set_of_same n (same_then (Multiplied-same (rows_same iv) (rows_same iw)) (multiplied (take (i + 1) tops) (x ∷ []))) iu)

  pub all_of_them : (tops : List ℕ) (i : ℕ) (v : Rows) → i + 1 ≡ length tops → IsSetOf v (i + 1) (InProduct sizes (take (i + 1) tops)) → IsSetOf v (length tops) (InProduct sizes tops)
  all_of_them tops i v e h =
      let all : take (i + 1) tops ≡ tops = take_all (i + 1) tops (omega arith) in
      subst (λ n. IsSetOf v n (InProduct sizes tops)) e (subst (λ ts. IsSetOf v (i + 1) (InProduct sizes ts)) all h)

-- what stands behind the first signature
pub rest_at : (tops : List ℕ) (i : ℕ) → i < length (take (length tops - 1) (drop 1 tops)) → (i + 1 < length tops) × (get_or (take (length tops - 1) (drop 1 tops)) i 0 ≡ get_or tops (i + 1) 0)
rest_at [] i l = absurd (omega arith)
rest_at (y ∷ ys) i l =
    let n : length (y ∷ ys) - 1 ≡ length ys = omega arith in
    let all : take (length (y ∷ ys) - 1) ys ≡ ys = ap (λ k. take k ys) n ∙ take_all (length ys) ys (omega arith) in
    let below : i < length ys = subst (λ zs. i < length zs) all l in
    let next : get_or (y ∷ ys) (i + 1) 0 ≡ get_or ys i 0 = ap (λ k. get_or (y ∷ ys) k 0) (add-one i) in
    (omega arith, ap (λ zs. get_or zs i 0) all ∙ sym next)

-- ---- too many

pub weaker_at_least : (n : ℕ) (P Q : Pred) → ((t : List Atom) → P t → Q t) → HasAtLeast n P → HasAtLeast n Q
weaker_at_least n P Q f h = (h.0, h.1, h.2, All-weaker P Q f h.0 h.3)

pub weaker_too_large : (room : ℕ) (P Q : Pred) (f : LowerFault) → ((t : List Atom) → P t → Q t) → IsTooLarge room P f → IsTooLarge room Q f
weaker_too_large room P Q fault.NoCommand g h = absurd h
weaker_too_large room P Q (fault.Scope e) g h = absurd h
weaker_too_large room P Q fault.TooManyRelations g h = absurd h
weaker_too_large room P Q fault.TooManyCells g h = weaker_at_least (room + 1) P Q g h
weaker_too_large room P Q fault.TooManyTerms g h = absurd h
weaker_too_large room P Q fault.TooLarge g h = absurd h
weaker_too_large room P Q fault.Memory g h = tt

pub more_than : (room n : ℕ) (v : Rows) (P : Pred) → IsRows v → room < length v.rows → IsSetOf v n P → HasAtLeast (room + 1) P
more_than room n v P well l is = (at_least (room + 1) (distinct v.rows well.ascending) is).0 (omega arith)

-- a product that is too large, and one that makes a set too large
pub product_large : (room n : ℕ) (old : Pred) (v : Rows) (P : Pred) → IsRows v → room < length v.rows → IsSetOf v n P → HasAtLeast (room + 1) (United old P)
product_large room n old v P well l is = weaker_at_least (room + 1) P (United old P) (λ t p. inr p) (more_than room n v P well l is)

pub grown_large : (room n : ℕ) (old new product : Rows) (P : Pred) → IsRows new → room < length new.rows → old.arity ≡ n → SetGains old new (Contains product.rows) → IsSetOf product n P
    → HasAtLeast (room + 1) (United (Contains old.rows) P)
grown_large room n old new product P well l e g is =
    weaker_at_least (room + 1) (United (Contains old.rows) (Contains product.rows)) (United (Contains old.rows) P) (λ t u. elim u [ inl o ↦ inl o | inr p ↦ inr ((is.just t).0 p) ])
    (more_than room n new (United (Contains old.rows) (Contains product.rows)) well l (set_gained old new n (Contains product.rows) e g))

-- ---- one list after the other

abbrev pub InProductOf : List Size → Vec ℕ Global → Pred
InProductOf sizes v = InProduct sizes v.items

pub some_products : (sizes : List Size) (lists : List (Vec ℕ Global)) → Same (SomeGives lists (InProductOf sizes)) (InProducts sizes (lists_of lists))
some_products sizes lists = record {
  to = λ t g. (g.0.items, has_map (λ (v : Vec ℕ Global). v.items) lists g.0 g.1, g.2);
  back = λ t h.
      let p = map_has (λ (v : Vec ℕ Global). v.items) lists h.0 h.1 in
      (p.0, p.1, subst (λ l. InProduct sizes l t) p.2 h.2);
}

front_has : {X : Type 0} (xs : List X) (i : ℕ) (x : X) → Contains (take i xs) x → Contains xs x
front_has xs i x c = subst (λ ys. Contains ys x) (take-append-drop i xs) (Contains-append_left (take i xs) (drop i xs) x c)

-- what a set has when the next list comes, and what that one gives
pub comes_from : (sizes : List Size) (lists : List (Vec ℕ Global)) (i : ℕ) (v : Vec ℕ Global) (tops : List ℕ) (empty before : Rows) (t : List Atom) → i < length lists → v ≡ get_or lists i v
    → tops ≡ v.items → empty.rows ≡ [] → SetGains empty before (SomeGives (take i lists) (InProductOf sizes)) → United (Contains before.rows) (InProduct sizes tops) t → InProducts sizes (lists_of lists) t
comes_from sizes lists i v tops empty before t l e is none g u = (some_products sizes lists).to t (elim u [
  | inl old ↦ elim ((g.rows.tuples t).0 old) [
    | inl first ↦ absurd (let c = subst (λ rows. Contains rows t) none first in let low = c.1 in omega arith)
    | inr some ↦ (some.0, front_has lists i some.0 some.1, some.2)
  ]
  | inr here ↦ (v, subst (Contains lists) (sym e) (Contains-get_or lists i v l), subst (λ ts. InProduct sizes ts t) is here)
])
