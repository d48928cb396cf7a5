-- What the marks and the trail of the literals that are taken for false keep.
use Rattle.std.proofs.Common.{◌≡◌, ◌<◌, ◌≤◌, ◌+◌, ◌-◌, [], ◌∷◌, ℕ, suc, Bool, true, false, not, cond, Option, Some, None, List, length, get_or, set, take, All, arith, sym, ◌∙◌, ap, inl, inr, refl, length-take, length-set, get_or-set_other, get_or-set_same}
use Rattle.std.proofs.lemmas.Bool.{cases_lt, cases_eq}
use Rattle.std.proofs.lemmas.List.{get_or_default, get_or-take, get_or_past}
use Rattle.std.proofs.lemmas.List.Sums.{sum_by-set, sum_by-cons}
use Rattle.std.specs.List.{AllPairs, Contains, sum_by, count_by}
use Rattle.std.specs.Option.{is_none}
use Rattle.cnf_core.specs.declared.literal.Lit.{Lit}
use Rattle.cnf_core.specs.Literal.{negation_of}
use Rattle.refutation_check.specs.Marks.{Marks, IsWithin}
use Rattle.refutation_check.specs.Assumed.{IsOpen}
use Rattle.refutation_check.proofs.Sights.{not_not}

no_mark : (o : Option Bool) (p : Bool) → (o ≡ Some (not p) → ⊥) → (o ≡ Some p → ⊥) → o ≡ None
no_mark None p f t = refl
no_mark (Some true) true f t = absurd (t refl)
no_mark (Some true) false f t = absurd (f refl)
no_mark (Some false) true f t = absurd (f refl)
no_mark (Some false) false f t = absurd (t refl)

-- an open literal has no mark
pub open_unmarked : (marks : List (Option Bool)) (falses : List Lit) (l : Lit) → Marks marks falses → IsOpen falses l → l.var < length marks → get_or marks l.var None ≡ None
open_unmarked marks falses l marked is_open in' =
    no_mark (get_or marks l.var None) l.positive (λ f. is_open.0 ((marked l in').0 f)) (λ t. is_open.1 ((marked (negation_of l) in').0 (t ∙ ap Some (sym (not_not l.positive)))))

-- a mark takes the place of none
pub count_marked : (marks : List (Option Bool)) (i : ℕ) (value : Bool) → i < length marks → get_or marks i None ≡ None → count_by is_none (set marks i (Some value)) + 1 ≡ count_by is_none marks
count_marked marks i value in' is =
    let f : Option Bool → ℕ = λ o. cond (is_none o) 1 0 in
    let e : sum_by f (set marks i (Some value)) + f (get_or marks i None) ≡ sum_by f marks + f (Some value) = sum_by-set f marks i (Some value) None in' in
    let g : f (get_or marks i None) ≡ 1 = ap f is in
    omega (arith, e, g)

-- an open literal leaves room for one more
pub room_left : (marks : List (Option Bool)) (falses : List Lit) (l : Lit) (value : Bool) (n : ℕ) → Marks marks falses → IsOpen falses l → l.var < length marks → n + count_by is_none marks ≡ length marks →
    (n < length marks) × (n + 1 + count_by is_none (set marks l.var (Some value)) ≡ length marks)
room_left marks falses l value n marked is_open in' count =
    let e : count_by is_none (set marks l.var (Some value)) + 1 ≡ count_by is_none marks = count_marked marks l.var value in' (open_unmarked marks falses l marked is_open in') in
    (omega arith, omega arith)

-- only marks of literals from the n-th on are left
abbrev pub Unmarked : List (Option Bool) → List Lit → ℕ → Type 0
Unmarked marks trail n = (k : ℕ) (value : Bool) → get_or marks k None ≡ Some value → (j : ℕ) × (n ≤ j) × (j < length trail) × ((d : Lit) → (get_or trail j d).var ≡ k)

any_mark : (marks : List (Option Bool)) (k : ℕ) (value : Bool) → get_or marks k None ≡ Some value → k < length marks
any_mark marks k value is =
    elim (cases_lt k (length marks)) [
      | inl lt ↦ lt
      | inr ge ↦ let e : None ≡ Some value = sym (get_or_past marks k None ge) ∙ is in absurd cc
    ]

pub Unmarked-first : (marks : List (Option Bool)) (trail : List Lit) → Marks marks trail → Unmarked marks trail 0
Unmarked-first marks trail marked k value is =
    let l : Lit = record { var = k; positive = not value } in
    let has : Contains trail l = (marked l (any_mark marks k value is)).0 (is ∙ ap Some (sym (not_not value))) in
    (has.0, omega arith, has.1, λ d. ap (λ (x : Lit). x.var) (get_or_default trail has.0 d l has.1 ∙ has.2))

pub Unmarked-next : (marks : List (Option Bool)) (trail : List Lit) (n : ℕ) (d : Lit) → n < length trail → Unmarked marks trail n → Unmarked (set marks (get_or trail n d).var None) trail (n + 1)
Unmarked-next marks trail n d in' was k value is =
    let var : ℕ = (get_or trail n d).var in
    elim (cases_eq k var) [
      | inl same ↦
          let here : k < length marks = rw length-set at (any_mark (set marks var None) k value is) in
          let none : get_or (set marks var None) k None ≡ None = ap (λ (i : ℕ). get_or (set marks var None) i None) same ∙ get_or-set_same marks var None None (omega arith) in
          let e : None ≡ Some value = sym none ∙ is in absurd cc
      | inr other ↦
          let old = was k value (sym (get_or-set_other marks var k None None other) ∙ is) in
          let later : n + 1 ≤ old.0 = elim (cases_eq old.0 n) [
            | inl at ↦ absurd (other (sym (old.3 d) ∙ ap (λ (i : ℕ). (get_or trail i d).var) at))
            | inr past ↦ omega (arith, past, old.1)
          ] in
          (old.0, later, old.2, old.3)
    ]

pub Unmarked-last : (marks : List (Option Bool)) (trail : List Lit) (n : ℕ) → length trail ≤ n → Unmarked marks trail n → (k : ℕ) → get_or marks k None ≡ None
Unmarked-last marks trail n all was k = none_left (get_or marks k None) refl
  where
    none_left : (o : Option Bool) → get_or marks k None ≡ o → o ≡ None
    none_left None is = refl
    none_left (Some value) is = let left = was k value is in absurd (omega (arith, left.1, left.2))

pub count_none : (marks : List (Option Bool)) → ((k : ℕ) → get_or marks k None ≡ None) → count_by is_none marks ≡ length marks
count_none [] none = refl
count_none (m ∷ ms) none =
    let f : Option Bool → ℕ = λ o. cond (is_none o) 1 0 in
    let here : f m ≡ 1 = ap f (none 0) in
    let rest : count_by is_none ms ≡ length ms = count_none ms (λ k. none (suc k)) in
    let e : count_by is_none (m ∷ ms) ≡ f m + count_by is_none ms = sum_by-cons f m ms in
    omega (arith, e, here, rest)

-- the literals of a clause have marks
pub within_marks : (n vars : ℕ) (lits : List Lit) → vars ≡ n - 1 → 0 < n → All (λ l. l.var ≤ vars) lits → IsWithin n lits
within_marks n vars lits is some all k d h = let low : (get_or lits k d).var ≤ vars = all k d h in omega arith

-- each literal of a clause is open where the earlier ones are false
pub next_open : (lits : List Lit) (i : ℕ) (d : Lit) → i < length lits → AllPairs (λ a b. a.var < b.var) lits → IsOpen (take i lits) (get_or lits i d)
next_open lits i d in' rising =
    (λ h. fresh (get_or lits i d) h refl, λ h. fresh (negation_of (get_or lits i d)) h refl)
  where
    fresh : (k : Lit) → Contains (take i lits) k → k.var ≡ (get_or lits i d).var → ⊥
    fresh k (j, in_j, is_j) same =
        let below : j < i = omega (arith, length-take i lits) in
        let read : get_or (take i lits) j k ≡ get_or lits j k = get_or-take i lits j k below in
        let up : (get_or lits j k).var < (get_or lits i k).var = rising j i k below in' in
        let v : (get_or lits j k).var ≡ k.var = ap (λ (x : Lit). x.var) (sym read ∙ is_j) in
        let w : (get_or lits i k).var ≡ (get_or lits i d).var = ap (λ (x : Lit). x.var) (get_or_default lits i k d in') in
        omega arith
