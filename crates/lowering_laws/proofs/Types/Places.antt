-- What operators make of tuples that are places of the signatures of lists.
use Rattle.std.proofs.Common.{◌≡◌, inl, inr, ℕ, zero, ◌-◌, List, [], ◌∷◌, ◌++◌, length, take, drop, map, flat_map, reverse, Contains, bytes_eq, true, if◌then◌else◌, refl, sym, ◌∙◌, ap, subst, arith}
use Rattle.std.proofs.lemmas.Cmp.{nat_list_eq_equiv}
use Rattle.std.proofs.lemmas.Map.Views.{list_any-from_Contains}
use Rattle.std.proofs.lemmas.List.{length-append}
use Rattle.std.proofs.lemmas.List.Concat.{flat_map-cons}
use Rattle.std.proofs.lemmas.List.Elements.{Contains-append_left, Contains-append_right}
use Rattle.std.proofs.lemmas.Slice.Eq.{bytes_eq-Decides}
use Rattle.std.proofs.Math.Seq.{drop-append_seam, take-append_seam}
use Rattle.tuple_core.specs.declared.atom.Atom.{Atom}
use Rattle.tuple_core.specs.Operators.{Pred, JoinsTo, BeginsWith, EndsWith}
use Rattle.rel_formula.proofs.OpenCells.{cons_cases, has_map, map_has, has_filter}
use Rattle.model_sizes.specs.declared.size.Size.{Size}
use Rattle.model_types.specs.Bounding.{Lists, has, end_of, start_of, products, joined, joins, meet, starting_in, ending_in, singles, doubles}
use Rattle.lowering_rules.specs.Relations.{IsPlaceOf, InProduct, InProducts}
use Rattle.lowering_rules.proofs.Outlined.{same_some}

-- ---- lists

pub flat_has : {X Y : Type 0} (f : X → List Y) (xs : List X) (x : X) (y : Y) → Contains xs x → Contains (f x) y → Contains (flat_map f xs) y
flat_has f [] x y c h = absurd (let l = c.1 in omega arith)
flat_has f (z ∷ xs) x y c h = subst (λ ys. Contains ys y) (sym (flat_map-cons f z xs)) (elim (cons_cases z xs x c) [
  | inl same ↦ Contains-append_left (f z) (flat_map f xs) y (subst (λ w. Contains (f w) y) (sym same) h)
  | inr later ↦ Contains-append_right (f z) (flat_map f xs) y (flat_has f xs x y later h)
])

pub is_had : (a : Lists) (l : List ℕ) → Contains a l → has a l ≡ true
is_had a l c = list_any-from_Contains nat_list_eq_equiv l a c

end_at : (xs : List ℕ) (s : ℕ) → end_of (xs ++ s ∷ []) ≡ s ∷ []
end_at xs s =
    let e : length (xs ++ s ∷ []) - 1 ≡ length xs = let h = length-append xs (s ∷ []) in omega arith in
    ap (λ n. drop n (xs ++ s ∷ [])) e ∙ drop-append_seam xs (s ∷ [])

front_at : (xs : List ℕ) (s : ℕ) → take (length (xs ++ s ∷ []) - 1) (xs ++ s ∷ []) ≡ xs
front_at xs s =
    let e : length (xs ++ s ∷ []) - 1 ≡ length xs = let h = length-append xs (s ∷ []) in omega arith in
    ap (λ n. take n (xs ++ s ∷ [])) e ∙ take-append_seam xs (s ∷ [])

pub joined_at : (xs : List ℕ) (s : ℕ) (ys : List ℕ) → joined (xs ++ s ∷ []) (s ∷ ys) ≡ (xs ++ ys) ∷ []
joined_at xs s ys =
    let l = xs ++ s ∷ [] in
    let test : bytes_eq (end_of l) (s ∷ []) ≡ true = (bytes_eq-Decides (end_of l) (s ∷ [])).1 (end_at xs s) in
    ap (λ b. if b then (take (length l - 1) l ++ ys) ∷ [] else []) test ∙ ap (λ zs. (zs ++ ys) ∷ []) (front_at xs s)

-- ---- places

-- each tuple of the set has a place of each signature of some list
abbrev pub LieIn : List Size → Lists → Pred → Type 0
LieIn sizes type P = (t : List Atom) → P t → InProducts sizes type t

module _ (sizes : List Size) where
  pub place_once : (s u : ℕ) (a : Atom) → IsPlaceOf sizes s a → IsPlaceOf sizes u a → s ≡ u
  place_once s u a h g =
      let e = same_some h.size g.size (sym h.sized ∙ g.sized) in
      sym h.of ∙ ap (λ (z : Size). z.signature) e ∙ g.of

  -- a tuple has one list of signatures
  pub product_once : (xs ys : List ℕ) (t : List Atom) → InProduct sizes xs t → InProduct sizes ys t → xs ≡ ys
  product_once [] [] t h g = refl
  product_once [] (y ∷ ys) [] h g = absurd g
  product_once [] (y ∷ ys) (a ∷ t) h g = absurd h
  product_once (x ∷ xs) [] [] h g = absurd h
  product_once (x ∷ xs) [] (a ∷ t) h g = absurd g
  product_once (x ∷ xs) (y ∷ ys) [] h g = absurd h
  product_once (x ∷ xs) (y ∷ ys) (a ∷ t) h g = let e = place_once x y a h.0 g.0 in let f = product_once xs ys t h.1 g.1 in λ i. e i ∷ f i

  pub both : (xs ys : List ℕ) (l r : List Atom) → InProduct sizes xs l → InProduct sizes ys r → InProduct sizes (xs ++ ys) (l ++ r)
  both [] ys [] r h g = g
  both [] ys (a ∷ l) r h g = absurd h
  both (x ∷ xs) ys [] r h g = absurd h
  both (x ∷ xs) ys (a ∷ l) r h g = (h.0, both xs ys l r h.1 g)

  -- a tuple of one atom more
  pub record BeginsAt (xs : List ℕ) (a : Atom) (t : List Atom) : Type 0 where
    pub first : ℕ
    pub later : List ℕ
    pub parts : xs ≡ first ∷ later
    pub place : IsPlaceOf sizes first a
    pub rest : InProduct sizes later t

  pub begins_at : (xs : List ℕ) (a : Atom) (t : List Atom) → InProduct sizes xs (a ∷ t) → BeginsAt xs a t
  begins_at [] a t h = absurd h
  begins_at (x ∷ xs) a t h = record { first = x; later = xs; parts = refl; place = h.0; rest = h.1 }

  pub record EndsAt (xs : List ℕ) (t : List Atom) (a : Atom) : Type 0 where
    pub before : List ℕ
    pub last : ℕ
    pub parts : xs ≡ before ++ last ∷ []
    pub rest : InProduct sizes before t
    pub place : IsPlaceOf sizes last a

  nothing_left : (xs : List ℕ) → InProduct sizes xs [] → xs ≡ []
  nothing_left [] h = refl
  nothing_left (x ∷ xs) h = absurd h

  pub ends_at : (xs : List ℕ) (t : List Atom) (a : Atom) → InProduct sizes xs (t ++ a ∷ []) → EndsAt xs t a
  ends_at [] [] a h = absurd h
  ends_at [] (b ∷ t) a h = absurd h
  ends_at (x ∷ xs) [] a h = record { before = []; last = x; parts = ap (λ ys. x ∷ ys) (nothing_left xs h.1); rest = tt; place = h.0 }
  ends_at (x ∷ xs) (b ∷ t) a h =
      let e = ends_at xs t a h.1 in
      record { before = x ∷ e.before; last = e.last; parts = ap (λ ys. x ∷ ys) e.parts; rest = (h.0, e.rest); place = e.place }

  -- a pair
  pub record IsPair (xs : List ℕ) (a b : Atom) : Type 0 where
    pub left : ℕ
    pub right : ℕ
    pub parts : xs ≡ left ∷ right ∷ []
    pub first : IsPlaceOf sizes left a
    pub second : IsPlaceOf sizes right b

  pub is_pair : (xs : List ℕ) (a b : Atom) → InProduct sizes xs (a ∷ b ∷ []) → IsPair xs a b
  is_pair xs a b h =
      let one = begins_at xs a (b ∷ []) h in
      let two = begins_at one.later b [] one.rest in
      record {
        left = one.first;
        right = two.first;
        parts = one.parts ∙ ap (λ ys. one.first ∷ ys) (two.parts ∙ ap (λ ys. two.first ∷ ys) (nothing_left two.later two.rest));
        first = one.place;
        second = two.place;
      }

  -- ---- operators

  module _ (a b : Lists) where
    pub in_left : (t : List Atom) → InProducts sizes a t → InProducts sizes (a ++ b) t
    in_left t h = (h.0, Contains-append_left a b h.0 h.1, h.2)

    pub in_right : (t : List Atom) → InProducts sizes b t → InProducts sizes (a ++ b) t
    in_right t h = (h.0, Contains-append_right a b h.0 h.1, h.2)

    pub in_meet : (t : List Atom) → InProducts sizes a t → InProducts sizes b t → InProducts sizes (meet a b) t
    in_meet t h g =
        let e = product_once g.0 h.0 t g.2 h.2 in
        (h.0, has_filter (has b) a h.0 h.1 (is_had b h.0 (subst (Contains b) e g.1)), h.2)

    pub in_products : (l r : List Atom) → InProducts sizes a l → InProducts sizes b r → InProducts sizes (products a b) (l ++ r)
    in_products l r h g = (
      h.0 ++ g.0,
      flat_has (λ x. map (λ y. x ++ y) b) a h.0 (h.0 ++ g.0) h.1 (has_map (λ y. h.0 ++ y) b g.0 g.1),
      both h.0 g.0 l r h.2 g.2,
    )

    pub in_joins : (l r t : List Atom) → InProducts sizes a l → InProducts sizes b r → JoinsTo l r t → InProducts sizes (joins a b) t
    in_joins l r t h g j =
        let e = ends_at h.0 j.0 j.1 (subst (InProduct sizes h.0) j.3 h.2) in
        let f = begins_at g.0 j.1 j.2 (subst (InProduct sizes g.0) j.4 g.2) in
        let same : f.first ≡ e.last = place_once f.first e.last j.1 f.place e.place in
        let right : g.0 ≡ e.last ∷ f.later = f.parts ∙ ap (λ s. s ∷ f.later) same in
        let made : joined h.0 g.0 ≡ (e.before ++ f.later) ∷ [] = (λ i. joined (e.parts i) (right i)) ∙ joined_at e.before e.last f.later in
        let whole : List ℕ = e.before ++ f.later in (
          whole,
          flat_has (λ x. flat_map (joined x) b) a h.0 whole h.1 (flat_has (joined h.0) b g.0 whole g.1 (subst (λ ys. Contains ys whole) (sym made) (zero, omega arith, refl))),
          subst (InProduct sizes whole) (sym j.5) (both e.before f.later j.0 j.2 e.rest f.rest),
        )

    pub in_starting : (x : Atom) (t : List Atom) → BeginsWith x t → InProducts sizes a (x ∷ []) → InProducts sizes b t → InProducts sizes (starting_in a b) t
    in_starting x t begins s h =
        let f = begins_at h.0 x begins.0 (subst (InProduct sizes h.0) begins.1 h.2) in
        let one = begins_at s.0 x [] s.2 in
        let same : f.first ≡ one.first = place_once f.first one.first x f.place one.place in
        let only : s.0 ≡ f.first ∷ [] = one.parts ∙ (λ i. sym same i ∷ nothing_left one.later one.rest i) in
        let start : f.first ∷ [] ≡ start_of h.0 = ap start_of (sym f.parts) in
        (h.0, has_filter (λ l. has a (start_of l)) b h.0 h.1 (is_had a (start_of h.0) (subst (Contains a) (only ∙ start) s.1)), h.2)

    pub in_ending : (x : Atom) (t : List Atom) → EndsWith x t → InProducts sizes a t → InProducts sizes b (x ∷ []) → InProducts sizes (ending_in a b) t
    in_ending x t ends h s =
        let e = ends_at h.0 ends.0 x (subst (InProduct sizes h.0) ends.1 h.2) in
        let one = begins_at s.0 x [] s.2 in
        let same : one.first ≡ e.last = place_once one.first e.last x one.place e.place in
        let only : s.0 ≡ e.last ∷ [] = one.parts ∙ (λ i. same i ∷ nothing_left one.later one.rest i) in
        let end : e.last ∷ [] ≡ end_of h.0 = sym (ap end_of e.parts ∙ end_at e.before e.last) in
        (h.0, has_filter (λ l. has b (end_of l)) a h.0 h.1 (is_had b (end_of h.0) (subst (Contains b) (only ∙ end) s.1)), h.2)

  pub in_reversed : (a : Lists) (x y : Atom) → InProducts sizes a (x ∷ y ∷ []) → InProducts sizes (map reverse a) (y ∷ x ∷ [])
  in_reversed a x y h =
      let p = is_pair h.0 x y h.2 in
      let turned : reverse h.0 ≡ p.right ∷ p.left ∷ [] = ap reverse p.parts in
      (reverse h.0, has_map reverse a h.0 h.1, subst (λ l. InProduct sizes l (y ∷ x ∷ [])) (sym turned) (p.second, (p.first, tt)))

  pub in_singles : (ts : List ℕ) (s : ℕ) (a : Atom) → Contains ts s → IsPlaceOf sizes s a → InProducts sizes (singles ts) (a ∷ [])
  in_singles ts s a c h = (s ∷ [], has_map (λ x. x ∷ []) ts s c, (h, tt))

  pub in_doubles : (ts : List ℕ) (a : Atom) → InProducts sizes (singles ts) (a ∷ []) → InProducts sizes (doubles ts) (a ∷ a ∷ [])
  in_doubles ts a h =
      let s = map_has (λ x. x ∷ []) ts h.0 h.1 in
      let one = subst (λ l. InProduct sizes l (a ∷ [])) s.2 h.2 in
      (s.0 ∷ s.0 ∷ [], has_map (λ x. x ∷ x ∷ []) ts s.0 s.1, (one.0, (one.0, tt)))
