-- Neighbouring atoms stand one after the other in the sorted list of atoms.
use Rattle.std.proofs.Common.{◌≡◌, ℕ, ◌+◌, ◌<◌, ◌≤◌, ◌↔◌, ◌⊎◌, inl, inr, List, [], ◌∷◌, length, get_or, Contains, refl, sym, ◌∙◌, ap, subst, arith}
use Rattle.std.specs.declared.cmp.Ordering.{Ordering}
use Rattle.std.specs.declared.cmp.Ordering.TheVariants.{Less, Equal, Greater}
use Rattle.std.specs.Ordering.{nat_cmp, ordering_then}
use Rattle.std.proofs.lemmas.Bool.{cases_lt}
use Rattle.std.proofs.lemmas.Bool.Decides.{nat_tests}
use Rattle.std.proofs.lemmas.List.{get_or_default}
use Rattle.std.proofs.lemmas.List.Elements.{Contains-get_or}
use Rattle.tuple_core.specs.declared.atom.Atom.{Atom}
use Rattle.tuple_core.specs.Order.{atom_cmp, tuple_cmp, IsAscending}
use Rattle.rel_formula.specs.Bounds.{Bounded, IsAtomOf, InAtoms}
use Rattle.swap_symmetry.specs.Swaps.{AreNeighbours}

first_is : (x y : Atom) → x ∷ [] ≡ y ∷ [] → x ≡ y
first_is x y e = cc

nat_is : (m n : ℕ) → nat_cmp m n ≡ Less → m < n
nat_is m n e = grind (arith, nat_tests)

nat_less : (m n : ℕ) → m < n → nat_cmp m n ≡ Less
nat_less m n l = grind (arith, nat_tests)

nat_tie : (m n : ℕ) → nat_cmp m n ≡ Equal → m ≡ n
nat_tie m n e = grind (arith, nat_tests)

nat_same : (m : ℕ) → nat_cmp m m ≡ Equal
nat_same m = grind (arith, nat_tests)

-- what comes first of two atoms
record Before (a b : Atom) : Type 0 where
  pub tops : a.top ≤ b.top
  pub places : a.top ≡ b.top → a.place < b.place

then_less : (o p : Ordering) → ordering_then o p ≡ Less → (o ≡ Less) ⊎ ((o ≡ Equal) × (p ≡ Less))
then_less Less p e = inl refl
then_less Equal p e = inr (refl, e)
then_less Greater p e = absurd (cc)

before_is : (a b : Atom) → tuple_cmp (a ∷ []) (b ∷ []) ≡ Less → Before a b
before_is a b e = elim (then_less (atom_cmp a b) (tuple_cmp [] []) e) [
  | inl f ↦ elim (then_less (nat_cmp a.top b.top) (nat_cmp a.place b.place) f) [
    | inl t ↦ let l = nat_is a.top b.top t in record { tops = omega arith; places = λ same. absurd (omega arith) }
    | inr t ↦ let same = nat_tie a.top b.top t.0 in record { tops = omega arith; places = λ s. nat_is a.place b.place t.1 }
  ]
  | inr f ↦ absurd (let g : tuple_cmp [] [] ≡ Less = f.1 in cc)
]

first_less : (a b : Atom) → tuple_cmp (a ∷ []) (b ∷ []) ≡ Less → atom_cmp a b ≡ Less
first_less a b e = elim (then_less (atom_cmp a b) (tuple_cmp [] []) e) [
  | inl f ↦ f
  | inr f ↦ absurd (let g : tuple_cmp [] [] ≡ Less = f.1 in cc)
]

module _ (p : Bounded) (rows : List (List Atom)) (up : IsAscending rows) (just : (t : List Atom) → Contains rows t ↔ InAtoms p t) where
  -- the row of a place is that of an atom
  row_atom : (k : ℕ) (d : List Atom) → k < length rows → (a : Atom) × IsAtomOf p a × (get_or rows k d ≡ a ∷ [])
  row_atom k d l = (just (get_or rows k d)).0 (Contains-get_or rows k d l)

  place_of : (a : Atom) → IsAtomOf p a → Contains rows (a ∷ [])
  place_of a is = (just (a ∷ [])).1 (a, is, refl)

  atom_of : (k : ℕ) (a : Atom) → k < length rows → get_or rows k (a ∷ []) ≡ a ∷ [] → IsAtomOf p a
  atom_of k a l e =
      let h = (just (a ∷ [])).0 (k, l, e) in
      subst (IsAtomOf p) (first_is h.0 a (sym h.2)) h.1

  ordered : (j k : ℕ) (a b : Atom) → j < k → k < length rows → get_or rows j (a ∷ []) ≡ a ∷ [] → get_or rows k (b ∷ []) ≡ b ∷ [] → Before a b
  ordered j k a b less l e f =
      let h = up j k (a ∷ []) less l in
      let g = subst (λ s. tuple_cmp s (get_or rows k (a ∷ [])) ≡ Less) e h in
      before_is a b (subst (λ t. tuple_cmp (a ∷ []) t ≡ Less) (get_or_default rows k (a ∷ []) (b ∷ []) l ∙ f) g)

  -- the first of two rows is that of the lesser atom
  pub first_before : (j k : ℕ) (a b : Atom) → j < k → k < length rows → get_or rows j (a ∷ []) ≡ a ∷ [] → get_or rows k (b ∷ []) ≡ b ∷ [] → atom_cmp a b ≡ Less
  first_before j k a b less l e f =
      let h = up j k (a ∷ []) less l in
      let g = subst (λ s. tuple_cmp s (get_or rows k (a ∷ [])) ≡ Less) e h in
      first_less a b (subst (λ t. tuple_cmp (a ∷ []) t ≡ Less) (get_or_default rows k (a ∷ []) (b ∷ []) l ∙ f) g)

  pub record Pair (a b : Atom) : Type 0 where
    pub at : ℕ
    pub within : at + 1 < length rows
    pub first : get_or rows at (a ∷ []) ≡ a ∷ []
    pub second : get_or rows (at + 1) (b ∷ []) ≡ b ∷ []

  pub pair_from : (a b : Atom) → AreNeighbours p a b → Pair a b
  pair_from a b next =
      let i = place_of a next.first in
      let j = place_of b next.second in
      let tops = next.one_top in
      let rising = next.rising in
      let order : i.0 < j.0 = elim (cases_lt i.0 j.0) [
        | inl less ↦ less
        | inr past ↦ elim (cases_lt j.0 i.0) [
          | inl more ↦ absurd (let w = ordered j.0 i.0 b a more i.1 j.2 i.2 in let l = w.places (sym tops) in omega arith)
          | inr back ↦ absurd (let same : i.0 ≡ j.0 = omega arith in
              let e : a ∷ [] ≡ b ∷ [] = sym i.2 ∙ ap (λ k. get_or rows k (a ∷ [])) same ∙ get_or_default rows j.0 (a ∷ []) (b ∷ []) j.1 ∙ j.2 in
              let f = ap (λ (x : Atom). x.place) (first_is a b e) in omega arith)
        ]
      ] in
      elim (cases_lt (i.0 + 1) j.0) [
        | inr past ↦ let same : j.0 ≡ i.0 + 1 = omega arith in record {
          at = i.0;
          within = let l = j.1 in omega arith;
          first = i.2;
          second = subst (λ k. get_or rows k (b ∷ []) ≡ b ∷ []) same j.2;
        }
        | inl between ↦
            let l : i.0 + 1 < length rows = let h = j.1 in omega arith in
            let c = row_atom (i.0 + 1) [] l in
            let at : get_or rows (i.0 + 1) (c.0 ∷ []) ≡ c.0 ∷ [] = get_or_default rows (i.0 + 1) (c.0 ∷ []) [] l ∙ c.2 in
            let low = ordered i.0 (i.0 + 1) a c.0 (omega arith) l i.2 at in
            let high = ordered (i.0 + 1) j.0 c.0 b between j.1 at j.2 in
            let t1 = low.tops in
            let t2 = high.tops in
            let top : c.0.top ≡ a.top = omega arith in
            absurd (next.next c.0 c.1 top (low.places (sym top)) (high.places (top ∙ tops)))
      ]

  pub neighbours_from : (k : ℕ) (a b : Atom) → k + 1 < length rows → get_or rows k (a ∷ []) ≡ a ∷ [] → get_or rows (k + 1) (b ∷ []) ≡ b ∷ [] → a.top ≡ b.top → AreNeighbours p a b
  neighbours_from k a b l e f tops =
      let k_in : k < length rows = omega arith in
      let next_to = ordered k (k + 1) a b (omega arith) l e f in
      record {
        first = atom_of k a k_in e;
        second = atom_of (k + 1) b l f;
        one_top = tops;
        rising = next_to.places tops;
        next = λ c is top low high.
            let i = place_of c is in
            elim (cases_lt i.0 k) [
              | inl less ↦ let w = ordered i.0 k c a less k_in i.2 e in let h = w.places top in omega arith
              | inr past ↦ elim (cases_lt k i.0) [
                | inr back ↦ let same : i.0 ≡ k = omega arith in
                    let g : c ∷ [] ≡ a ∷ [] = sym i.2 ∙ ap (λ n. get_or rows n (c ∷ [])) same ∙ get_or_default rows k (c ∷ []) (a ∷ []) k_in ∙ e in
                    let h = ap (λ (x : Atom). x.place) (first_is c a g) in omega arith
                | inl more ↦ elim (cases_lt (k + 1) i.0) [
                  | inl above ↦ let w = ordered (k + 1) i.0 b c above i.1 f i.2 in let h = w.places (sym tops ∙ sym top) in omega arith
                  | inr at ↦ let same : i.0 ≡ k + 1 = omega arith in
                      let g : c ∷ [] ≡ b ∷ [] = sym i.2 ∙ ap (λ n. get_or rows n (c ∷ [])) same ∙ get_or_default rows (k + 1) (c ∷ []) (b ∷ []) l ∙ f in
                      let h = ap (λ (x : Atom). x.place) (first_is c b g) in omega arith
                ]
              ]
            ];
      }

  -- a row that begins with an atom is the row of that atom
  pub row_is : (k : ℕ) (d : List Atom) (x : Atom) (row rest : List Atom) → k < length rows → row ≡ get_or rows k d → row ≡ x ∷ rest → get_or rows k (x ∷ []) ≡ x ∷ []
  row_is k d x row rest l e f =
      let a = row_atom k d l in
      let same : x ∷ rest ≡ a.0 ∷ [] = sym f ∙ e ∙ a.2 in
      let is : x ≡ a.0 = cc in
      get_or_default rows k (x ∷ []) d l ∙ a.2 ∙ ap (λ (y : Atom). y ∷ []) (sym is)

pub one_row_atom : (rows : List (List Atom)) (k : ℕ) (a x : Atom) → k < length rows → get_or rows k (a ∷ []) ≡ a ∷ [] → get_or rows k (x ∷ []) ≡ x ∷ [] → a ≡ x
one_row_atom rows k a x l e f = first_is a x (sym e ∙ get_or_default rows k (a ∷ []) (x ∷ []) l ∙ f)
