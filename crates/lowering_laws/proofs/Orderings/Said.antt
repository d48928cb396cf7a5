-- What the formulas of an ordering say of its relations.
use Rattle.std.proofs.Common.{◌≡◌, ◌≢◌, ◌⊎◌, ◌↔◌, inl, inr, ℕ, zero, suc, Bool, true, false, List, [], ◌∷◌, ◌++◌, slice_index_or, Contains, refl, sym, ◌∙◌, ap, subst, arith}
use Rattle.std.specs.Cmp.Lexicographic.{pointwise}
use Rattle.std.proofs.lemmas.List.{same_from_push, append-nil}
use Rattle.std.proofs.lemmas.List.Elements.{All-nil, All-cons}
use Rattle.std.proofs.lemmas.List.Kept.{AllPairs-cons}
use Rattle.tuple_core.specs.declared.atom.Atom.{Atom}
use Rattle.tuple_core.specs.Swap.{atom_eq}
use Rattle.tuple_core.specs.Operators.{Pred, Joined, Multiplied, Walk, Closed, United}
use Rattle.tuple_core.proofs.Atoms.{tuple_eq-decides}
use Rattle.tuple_core.proofs.Walks.{walk_push}
use Rattle.rel_formula.specs.Kernel.{iden, var}
use Rattle.rel_formula.specs.Bounds.{Bounded}
use Rattle.rel_formula.specs.Meaning.{HasAtLeast, InValue}
use Rattle.rel_formula.specs.Instance.{InRelation, structure_of}
use Rattle.rel_formula.proofs.OneSetOfAtoms.{one_pair}
use Rattle.lowering_laws.specs.Orders.{Ordering, IsHead, Follows, IsOrderable, SaysOrder, IsOrdered}
use Rattle.lowering_laws.proofs.Orderings.Lines.{Reach, Describe, IsLine, to_line, from_line, one_line}
use Rattle.lowering_laws.proofs.Orderings.Listed.{atoms_listed}

-- ---- joins with one atom

pub same_atoms : (a b : Atom) → a ∷ [] ≡ b ∷ [] → a ≡ b
same_atoms a b e = cc

pub same_seconds : (a b c d : Atom) → a ∷ b ∷ [] ≡ c ∷ d ∷ [] → b ≡ d
same_seconds a b c d e = cc

pub same_firsts : (a b c d : Atom) → a ∷ b ∷ [] ≡ c ∷ d ∷ [] → a ≡ c
same_firsts a b c d e = cc

pub same_tails : (a b : Atom) (s t : List Atom) → a ∷ s ≡ b ∷ t → s ≡ t
same_tails a b s t e = cc

pub single_joined : (P Q : Pred) (a : Atom) → ((t : List Atom) → P t → t ≡ a ∷ []) → (t : List Atom) → Joined P Q t → Q (a ∷ t)
single_joined P Q a one t (l, r, x, y, (xs, m, ys, before, behind, whole)) =
    let ends = same_from_push [] xs a m (sym (one l x) ∙ before) in
    let rest : t ≡ ys = whole ∙ ap (λ (zs : List Atom). zs ++ ys) (sym ends.0) in
    let right : r ≡ a ∷ t = behind ∙ ap (λ (z : Atom). z ∷ ys) (sym ends.1) ∙ ap (λ (zs : List Atom). a ∷ zs) (sym rest) in
    subst Q right y

pub single_joins : (P Q : Pred) (a : Atom) → P (a ∷ []) → (t : List Atom) → Q (a ∷ t) → Joined P Q t
single_joins P Q a x t y = (a ∷ [], a ∷ t, x, y, ([], a, t, refl, refl, refl))

joined_single : (P Q : Pred) (a : Atom) → ((t : List Atom) → Q t → t ≡ a ∷ []) → (t : List Atom) → Joined P Q t → P (t ++ a ∷ [])
joined_single P Q a one t (l, r, x, y, (xs, m, ys, before, behind, whole)) =
    let both : a ∷ [] ≡ m ∷ ys = sym (one r y) ∙ behind in
    let same : m ≡ a = cc in
    let none : ys ≡ [] = sym (same_tails a m [] ys both) in
    let front : t ≡ xs = whole ∙ ap (λ (zs : List Atom). xs ++ zs) none ∙ append-nil xs in
    let left : l ≡ t ++ a ∷ [] = before ∙ ap (λ (z : Atom). xs ++ z ∷ []) same ∙ ap (λ (zs : List Atom). zs ++ a ∷ []) (sym front) in
    subst P left x

joins_single : (P Q : Pred) (a : Atom) → Q (a ∷ []) → (t : List Atom) → P (t ++ a ∷ []) → Joined P Q t
joins_single P Q a y t x = (t ++ a ∷ [], a ∷ [], x, y, (t, a, [], refl, refl, sym (append-nil t)))

-- ---- counts

pub some_is : (P : Pred) → HasAtLeast 1 P → (t : List Atom) × P t
some_is P ([], e, apart, all) = absurd (omega (arith, e))
some_is P (t ∷ ts, e, apart, all) = (t, all 0 t (omega arith))

is_some : (P : Pred) (t : List Atom) → P t → HasAtLeast 1 P
is_some P t x = (t ∷ [], refl, one_pair (λ (u v : List Atom). u ≢ v) t, All-cons P t [] x (All-nil P))

two_of : (P : Pred) (s t : List Atom) → s ≢ t → P s → P t → HasAtLeast 2 P
two_of P s t differ x y = (
  s ∷ t ∷ [],
  refl,
  AllPairs-cons (λ (u v : List Atom). u ≢ v) s (t ∷ []) (All-cons (λ (v : List Atom). s ≢ v) t [] differ (All-nil (λ (v : List Atom). s ≢ v))) (one_pair (λ (u v : List Atom). u ≢ v) t),
  All-cons P s (t ∷ []) x (All-cons P t [] y (All-nil P)),
)

pub lone_is : (P : Pred) → (HasAtLeast 2 P → ⊥) → (s t : List Atom) → P s → P t → s ≡ t
lone_is P few s t x y =
    let go : (b : Bool) → pointwise atom_eq s t ≡ b → s ≡ t = λ b. elim b as (λ b. pointwise atom_eq s t ≡ b → s ≡ t) [
      | true ↦ λ e. (tuple_eq-decides s t).0 e
      | false ↦ λ e. absurd (few (two_of P s t (λ same. let k : false ≡ true = sym e ∙ (tuple_eq-decides s t).1 same in cc) x y))
    ] in
    go (pointwise atom_eq s t) refl

is_lone : (P : Pred) → ((s t : List Atom) → P s → P t → s ≡ t) → HasAtLeast 2 P → ⊥
is_lone P one (ts, e, apart, all) =
    let differ : slice_index_or ts 0 [] ≢ slice_index_or ts 1 [] = apart 0 1 [] (omega arith) (omega (arith, e)) in
    differ (one (slice_index_or ts 0 []) (slice_index_or ts 1 []) (all 0 [] (omega (arith, e))) (all 1 [] (omega (arith, e))))

module _ (p : Bounded) (s : List ℕ) (o : Ordering) (own : Atom) where
  abbrev Holds : ℕ → Pred
  Holds r t = InRelation p (Contains s) r t

  abbrev IsLineOf : List Atom → Type 0
  IsLineOf = IsLine (λ a. Holds o.signature (a ∷ [])) (λ a. Holds o.first (own ∷ a ∷ [])) (λ a b. Holds o.next (own ∷ a ∷ b ∷ []))

  line_is : (ordering : IsOrdered p s o own) → IsLineOf ordering.atoms
  line_is ordering = record {
    each = ordering.each;
    once = ordering.once;
    first = λ a. (
      λ x. let (b, e, head) = (ordering.first (own ∷ a ∷ [])).0 x in subst (IsHead ordering.atoms) (sym (same_seconds own a own b e)) head,
      λ head. (ordering.first (own ∷ a ∷ [])).1 (a, refl, head),
    );
    next = λ a b. (
      λ x.
          let (c, d, e, f) = (ordering.next (own ∷ a ∷ b ∷ [])).0 x in
          let pair : a ∷ b ∷ [] ≡ c ∷ d ∷ [] = same_tails own own (a ∷ b ∷ []) (c ∷ d ∷ []) e in
          subst (λ (k : Atom). Follows ordering.atoms k b) (sym (same_firsts a b c d pair)) (subst (λ (k : Atom). Follows ordering.atoms c k) (sym (same_seconds a b c d pair)) f),
      λ f. (ordering.next (own ∷ a ∷ b ∷ [])).1 (a, b, refl, f),
    );
  }

  pub one_order : (a b : IsOrdered p s o own) → a.atoms ≡ b.atoms
  one_order a b = one_line (λ x. Holds o.signature (x ∷ [])) (λ x. Holds o.first (own ∷ x ∷ [])) (λ x y. Holds o.next (own ∷ x ∷ y ∷ [])) a.atoms b.atoms (line_is a) (line_is b)

module _ (p : Bounded) (s : List ℕ) (o : Ordering) (own : Atom) (is : IsOrderable p s o own) where
  abbrev In : ℕ → Pred
  In r t = InRelation p (Contains s) r t

  abbrev S : Atom → Type 0
  S a = In o.signature (a ∷ [])

  abbrev F : Atom → Type 0
  F a = In o.first (own ∷ a ∷ [])

  abbrev N : Atom → Atom → Type 0
  N a b = In o.next (own ∷ a ∷ b ∷ [])

  abbrev Firsts : Pred
  Firsts t = Joined (In o.own) (In o.first) t

  abbrev Nexts : Pred
  Nexts t = Joined (In o.own) (In o.next) t

  abbrev Only : Atom → Pred
  Only a t = InValue (structure_of p (Contains s)) (a ∷ []) (var 0) t

  own_one : (t : List Atom) → In o.own t → t ≡ own ∷ []
  own_one t x = (is.alone t).0 x

  own_in : In o.own (own ∷ [])
  own_in = (is.alone (own ∷ [])).1 refl

  firsts_are : (t : List Atom) → Firsts t → In o.first (own ∷ t)
  firsts_are = single_joined (In o.own) (In o.first) own own_one

  are_firsts : (t : List Atom) → In o.first (own ∷ t) → Firsts t
  are_firsts = single_joins (In o.own) (In o.first) own own_in

  nexts_are : (t : List Atom) → Nexts t → In o.next (own ∷ t)
  nexts_are = single_joined (In o.own) (In o.next) own own_one

  are_nexts : (t : List Atom) → In o.next (own ∷ t) → Nexts t
  are_nexts = single_joins (In o.own) (In o.next) own own_in

  only_one : (a : Atom) (t : List Atom) → Only a t → t ≡ a ∷ []
  only_one a t (b, e, is') = let same : b ≡ a = cc in is' ∙ ap (λ (c : Atom). c ∷ []) same

  only : (a : Atom) → Only a (a ∷ [])
  only a = (a, refl, refl)

  -- ---- from the formulas to what they describe

  abbrev Firsts_lie : Type 0
  Firsts_lie = (t : List Atom) → In o.first t → Multiplied (In o.own) (In o.signature) t

  abbrev Nexts_lie : Type 0
  Nexts_lie = (t : List Atom) → In o.next t → Multiplied (In o.own) (Multiplied (In o.signature) (In o.signature)) t

  first_shape : Firsts_lie → (t : List Atom) → In o.first t → (a : Atom) × (t ≡ own ∷ a ∷ []) × S a
  first_shape lie t x =
      let (l, r, y, z, e) = lie t x in
      let one = is.atoms r z in
      (one.0, e ∙ ap (λ (u : List Atom). u ++ r) (own_one l y) ∙ ap (λ (u : List Atom). own ∷ u) one.1, subst (In o.signature) one.1 z)

  next_shape : Nexts_lie → (t : List Atom) → In o.next t → (a : Atom) × (b : Atom) × (t ≡ own ∷ a ∷ b ∷ []) × S a × S b
  next_shape lie t x =
      let (l, r, y, (u, v, z, w, f), e) = lie t x in
      let left = is.atoms u z in
      let right = is.atoms v w in (
        left.0,
        right.0,
        e ∙ ap (λ (k : List Atom). k ++ r) (own_one l y) ∙ ap (λ (k : List Atom). own ∷ k) (f ∙ ap (λ (k : List Atom). k ++ v) left.1 ∙ ap (λ (k : List Atom). left.0 ∷ k) right.1),
        subst (In o.signature) left.1 z,
        subst (In o.signature) right.1 w,
      )

  walk_reaches : (k : ℕ) (x : Atom) (ms : List Atom) (y : Atom) → Reach F N k x → Walk Nexts x ms y → (j : ℕ) × Reach F N j y
  walk_reaches k x [] y r n = (suc k, (x, r, nexts_are (x ∷ y ∷ []) n))
  walk_reaches k x (m ∷ ms) y r w = walk_reaches (suc k) m ms y (x, r, nexts_are (x ∷ m ∷ []) w.0) w.1

  closed_reaches : (a b : Atom) → F a → Closed Nexts (a ∷ b ∷ []) → (k : ℕ) × Reach F N k b
  closed_reaches a b x (c, ms, d, e, w) =
      let walked = walk_reaches zero c ms d (subst F (same_firsts a b c d e) x) w in
      (walked.0, subst (λ (z : Atom). Reach F N walked.0 z) (sym (same_seconds a b c d e)) walked.1)

  abbrev Steps : Pred
  Steps t = United (Closed Nexts) (InValue (structure_of p (Contains s)) [] iden) t

  steps_reach : (a b : Atom) → F a → Steps (a ∷ b ∷ []) → (k : ℕ) × Reach F N k b
  steps_reach a b x (inl c) = closed_reaches a b x c
  steps_reach a b x (inr (c, u, e)) = (zero, subst F (same_firsts a b c c e ∙ sym (same_seconds a b c c e)) x)

  pub describe : SaysOrder p s o → Describe S F N
  describe (first_lies, (first_alone, (next_lies, (none, (behind, (before, (all, end))))))) =
      let lone : (a b : Atom) → F a → F b → a ≡ b
      = λ a b x y. same_atoms a b (lone_is (λ t. Joined (Only own) (In o.first) t) (first_alone own own_in) (a ∷ []) (b ∷ [])
      (single_joins (Only own) (In o.first) own (only own) (a ∷ []) x) (single_joins (Only own) (In o.first) own (only own) (b ∷ []) y)) in
      record {
        first_in = λ a x. let (b, e, y) = first_shape first_lies (own ∷ a ∷ []) x in subst S (sym (same_seconds own a own b e)) y;
        first_lone = lone;
        next_in = λ a b n.
            let (c, d, e, x, y) = next_shape next_lies (own ∷ a ∷ b ∷ []) n in
            let pair : a ∷ b ∷ [] ≡ c ∷ d ∷ [] = same_tails own own (a ∷ b ∷ []) (c ∷ d ∷ []) e in
            (subst S (sym (same_firsts a b c d pair)) x, subst S (sym (same_seconds a b c d pair)) y);
        none_before = λ a b n x. none (is_some (λ t. Joined Nexts Firsts t) (a ∷ []) (a ∷ b ∷ [], b ∷ [], are_nexts (a ∷ b ∷ []) n, are_firsts (b ∷ []) x, (a ∷ [], b, [], refl, refl, refl)));
        lone_behind = λ a b c n m.
            let (d, f, e, x, y) = next_shape next_lies (own ∷ a ∷ b ∷ []) n in
            let there : S a = subst S (sym (same_firsts a b d f (same_tails own own (a ∷ b ∷ []) (d ∷ f ∷ []) e))) x in
            same_atoms b c (lone_is (λ t. Joined (Only a) Nexts t) (behind a there) (b ∷ []) (c ∷ [])
            (single_joins (Only a) Nexts a (only a) (b ∷ []) (are_nexts (a ∷ b ∷ []) n)) (single_joins (Only a) Nexts a (only a) (c ∷ []) (are_nexts (a ∷ c ∷ []) m)));
        lone_before = λ a b c n m.
            let (d, f, e, x, y) = next_shape next_lies (own ∷ a ∷ c ∷ []) n in
            let there : S c = subst S (sym (same_seconds a c d f (same_tails own own (a ∷ c ∷ []) (d ∷ f ∷ []) e))) y in
            same_atoms a b (lone_is (λ t. Joined Nexts (Only c) t) (before c there) (a ∷ []) (b ∷ [])
            (joins_single Nexts (Only c) c (only c) (a ∷ []) (are_nexts (a ∷ c ∷ []) n)) (joins_single Nexts (Only c) c (only c) (b ∷ []) (are_nexts (b ∷ c ∷ []) m)));
        reached = λ b x.
            let (l, r, f, u, j) = all (b ∷ []) x in
            let (a, e, y) = first_shape first_lies (own ∷ l) (firsts_are l f) in
            let here : F a = subst (In o.first) e (firsts_are l f) in
            let alone : (t : List Atom) → Firsts t → t ≡ a ∷ [] = λ t g.
            let (c, d, z) = first_shape first_lies (own ∷ t) (firsts_are t g) in
            same_tails own own t (c ∷ []) d ∙ ap (λ (k : Atom). k ∷ []) (lone c a (subst (In o.first) d (firsts_are t g)) here) in
            steps_reach a b here (single_joined Firsts Steps a alone (b ∷ []) (l, r, f, u, j));
      }

  pub ordered : SaysOrder p s o → IsOrdered p s o own
  ordered said =
      let listed = atoms_listed p s o.signature in
      let made = to_line S F N (describe said) listed.0 listed.1 in
      let line : IsLine S F N made.0 = made.1 in
      let (first_lies, (first_alone, (next_lies, rest))) = said in
      record {
        atoms = made.0;
        each = line.each;
        once = line.once;
        first = λ t. (
          λ x. let (a, e, y) = first_shape first_lies t x in (a, e, (line.first a).0 (subst (In o.first) e x)),
          λ h. let (a, e, head) = h in subst (In o.first) (sym e) ((line.first a).1 head),
        );
        next = λ t. (
          λ x. let (a, b, e, y, z) = next_shape next_lies t x in (a, b, e, (line.next a b).0 (subst (In o.next) e x)),
          λ h. let (a, b, e, f) = h in subst (In o.next) (sym e) ((line.next a b).1 f),
        );
      }

  -- ---- and back

  reach_walks : (k : ℕ) (b : Atom) → Reach F N k b → (a : Atom) × F a × ((a ≡ b) ⊎ ((ms : List Atom) × Walk Nexts a ms b))
  reach_walks zero b x = (b, x, inl refl)
  reach_walks (suc k) b (c, r, n) =
      let (a, x, way) = reach_walks k c r in (
        a,
        x,
        elim way [
          | inl same ↦ inr ([], are_nexts (a ∷ b ∷ []) (subst (λ (z : Atom). N z b) (sym same) n))
          | inr (ms, w) ↦ inr (ms ++ c ∷ [], walk_push Nexts a ms c b w (are_nexts (c ∷ b ∷ []) n))
        ],
      )

  way_steps : (a b : Atom) → S a → (a ≡ b) ⊎ ((ms : List Atom) × Walk Nexts a ms b) → Steps (a ∷ b ∷ [])
  way_steps a b x (inl same) = inr (a, (o.signature, is.top, x), ap (λ (c : Atom). a ∷ c ∷ []) (sym same))
  way_steps a b x (inr (ms, w)) = inl (a, ms, b, refl, w)

  one_first : Describe S F N → IsOrdered p s o own → (t u : List Atom) → In o.first (own ∷ t) → In o.first (own ∷ u) → t ≡ u
  one_first d ordering t u x y =
      let (a, e, h) = (ordering.first (own ∷ t)).0 x in
      let (b, f, k) = (ordering.first (own ∷ u)).0 y in
      same_tails own own t (a ∷ []) e
      ∙ ap (λ (z : Atom). z ∷ []) (d.first_lone a b (subst (In o.first) e x) (subst (In o.first) f y))
      ∙ sym (same_tails own own u (b ∷ []) f)

  pair_of : IsOrdered p s o own → (t : List Atom) → Nexts t → (a : Atom) × (b : Atom) × (t ≡ a ∷ b ∷ []) × N a b
  pair_of ordering t n =
      let (a, b, e, f) = (ordering.next (own ∷ t)).0 (nexts_are t n) in
      (a, b, same_tails own own t (a ∷ b ∷ []) e, subst (In o.next) e (nexts_are t n))

  -- what a pair is whose first atom, or second one, is known
  behind_is : IsOrdered p s o own → (a : Atom) (t : List Atom) → Joined (Only a) Nexts t → (b : Atom) × (t ≡ b ∷ []) × N a b
  behind_is ordering a t j =
      let (c, b, e, n) = pair_of ordering (a ∷ t) (single_joined (Only a) Nexts a (only_one a) t j) in
      let same : a ≡ c = cc in
      (b, same_tails a c t (b ∷ []) e, subst (λ (z : Atom). N z b) (sym same) n)

  before_is : IsOrdered p s o own → (b : Atom) (t : List Atom) → Joined Nexts (Only b) t → (a : Atom) × (t ≡ a ∷ []) × N a b
  before_is ordering b t j =
      let (a, c, e, n) = pair_of ordering (t ++ b ∷ []) (joined_single Nexts (Only b) b (only_one b) t j) in
      let ends = same_from_push t (a ∷ []) b c e in
      (a, ends.0, subst (λ (z : Atom). N a z) (sym ends.1) n)

  none_says : Describe S F N → IsOrdered p s o own → (t : List Atom) → Joined Nexts Firsts t → ⊥
  none_says d ordering t (l, r, n, f, (xs, m, ys, before, behind, whole)) =
      let (a, b, e, pair) = pair_of ordering l n in
      let (c, g, h) = (ordering.first (own ∷ r)).0 (firsts_are r f) in
      let ends = same_from_push (a ∷ []) xs b m (sym e ∙ before) in
      let tail : r ≡ c ∷ [] = same_tails own own r (c ∷ []) g in
      let both : m ∷ ys ≡ c ∷ [] = sym behind ∙ tail in
      let same : b ≡ c = ends.1 ∙ (let k : m ≡ c = cc in k) in
      d.none_before a b pair (subst F (sym same) (subst (In o.first) g (firsts_are r f)))

  first_alone : Describe S F N → IsOrdered p s o own → (a : Atom) → In o.own (a ∷ []) → HasAtLeast 2 (λ t. Joined (Only a) (In o.first) t) → ⊥
  first_alone d ordering a x =
      let same : own ≡ a = sym (same_atoms a own (own_one (a ∷ []) x)) in
      is_lone (λ t. Joined (Only a) (In o.first) t) (
      λ t u y z. one_first d ordering t u
      (subst (λ (k : Atom). In o.first (k ∷ t)) (sym same) (single_joined (Only a) (In o.first) a (only_one a) t y))
      (subst (λ (k : Atom). In o.first (k ∷ u)) (sym same) (single_joined (Only a) (In o.first) a (only_one a) u z)))

  none_at_all : Describe S F N → IsOrdered p s o own → HasAtLeast 1 (λ t. Joined Nexts Firsts t) → ⊥
  none_at_all d ordering some = let (t, j) = some_is (λ t. Joined Nexts Firsts t) some in none_says d ordering t j

  lone_behind_says : Describe S F N → IsOrdered p s o own → (a : Atom) → S a → HasAtLeast 2 (λ t. Joined (Only a) Nexts t) → ⊥
  lone_behind_says d ordering a x = is_lone (λ t. Joined (Only a) Nexts t) (
      λ t u y z.
      let (b, e, n) = behind_is ordering a t y in
      let (c, f, m) = behind_is ordering a u z in
      e ∙ ap (λ (k : Atom). k ∷ []) (d.lone_behind a b c n m) ∙ sym f)

  lone_before_says : Describe S F N → IsOrdered p s o own → (b : Atom) → S b → HasAtLeast 2 (λ t. Joined Nexts (Only b) t) → ⊥
  lone_before_says d ordering b x = is_lone (λ t. Joined Nexts (Only b) t) (
      λ t u y z.
      let (a, e, n) = before_is ordering b t y in
      let (c, f, m) = before_is ordering b u z in
      e ∙ ap (λ (k : Atom). k ∷ []) (d.lone_before a c b n m) ∙ sym f)

  all_says : Describe S F N → (t : List Atom) → In o.signature t → Joined Firsts Steps t
  all_says d t x =
      let (b, e) = is.atoms t x in
      let r = d.reached b (subst (In o.signature) e x) in
      let (a, f, way) = reach_walks r.0 b r.1 in
      subst (λ (u : List Atom). Joined Firsts Steps u) (sym e) (single_joins Firsts Steps a (are_firsts (a ∷ []) f) (b ∷ []) (way_steps a b (d.first_in a f) way))

  pub says : IsOrdered p s o own → SaysOrder p s o
  says ordering =
      let d : Describe S F N = from_line S F N ordering.atoms (line_is p s o own ordering) in
      let first_lies : Firsts_lie = λ t x. let (a, e, h) = (ordering.first t).0 x in (own ∷ [], a ∷ [], own_in, d.first_in a (subst (In o.first) e x), e) in
      let next_lies : Nexts_lie = λ t x.
      let (a, b, e, f) = (ordering.next t).0 x in
      let both = d.next_in a b (subst (In o.next) e x) in
      (own ∷ [], a ∷ b ∷ [], own_in, (a ∷ [], b ∷ [], both.0, both.1, refl), e) in
      (first_lies, (first_alone d ordering, (next_lies, (none_at_all d ordering, (lone_behind_says d ordering, (lone_before_says d ordering, (all_says d, tt)))))))

pub describes : (p : Bounded) (s : List ℕ) (o : Ordering) (own : Atom) → IsOrderable p s o own → SaysOrder p s o ↔ IsOrdered p s o own
describes p s o own is = (ordered p s o own is, says p s o own is)
