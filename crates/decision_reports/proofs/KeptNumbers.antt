-- Numbers that a test keeps, and rising numbers without one of them.
use Rattle.std.proofs.Common.{◌≡◌, ◌<◌, ◌++◌, ◌∷◌, ◌==◌, [], ℕ, suc, Bool, true, false, not, cond, List, filter, get_or, Contains, AllPairs, refl, sym, ◌∙◌, ap, subst, arith}
use Rattle.std.proofs.lemmas.List.Elements.{filter_agree}
use Rattle.rel_formula.proofs.OpenCells.{cons_first, cons_later}
use Rattle.decision_reports.specs.SomeFacts.{AreSomeOf, without}

-- ---- tests

-- a test behind a test
pub filter_twice : (p q : ℕ → Bool) (xs : List ℕ) → filter p (filter q xs) ≡ filter (λ x. cond (q x) (p x) false) xs
filter_twice p q [] = refl
filter_twice p q (x ∷ xs) =
    let rest = filter_twice p q xs in
    let go : (b : Bool) → filter p (cond b (x ∷ filter q xs) (filter q xs)) ≡ cond (cond b (p x) false) (x ∷ filter (λ y. cond (q y) (p y) false) xs) (filter (λ y. cond (q y) (p y) false) xs) =
    λ b. elim b as (λ b. filter p (cond b (x ∷ filter q xs) (filter q xs)) ≡ cond (cond b (p x) false) (x ∷ filter (λ y. cond (q y) (p y) false) xs) (filter (λ y. cond (q y) (p y) false) xs)) [
      | true ↦ ap (λ zs. cond (p x) (x ∷ zs) zs) rest
      | false ↦ rest
    ] in
    go (q x)

-- what a test keeps of some facts are some of them
pub some_kept : (facts some : List ℕ) (keep : ℕ → Bool) → AreSomeOf facts some → AreSomeOf facts (filter keep some)
some_kept facts some keep is = (λ n. cond (is.0 n) (keep n) false, ap (filter keep) is.1 ∙ filter_twice keep is.0 facts)

-- and so are others that are these
pub kept_some : (facts some read others : List ℕ) (keep : ℕ → Bool) → AreSomeOf facts some → read ≡ some → others ≡ filter keep read → AreSomeOf facts others
kept_some facts some read others keep is same kept = subst (AreSomeOf facts) (sym (kept ∙ ap (filter keep) same)) (some_kept facts some keep is)

all_kept : (xs : List ℕ) → xs ≡ filter (λ n. true) xs
all_kept [] = refl
all_kept (x ∷ xs) = ap (λ ys. x ∷ ys) (all_kept xs)

-- all of them are some of them
pub all_are_some : (facts : List ℕ) → AreSomeOf facts facts
all_are_some facts = (λ n. true, all_kept facts)

both : (a b : Bool) → cond b a false ≡ cond a b false
both true true = refl
both true false = refl
both false true = refl
both false false = refl

-- two tests, in either order
pub either_first : (p q : ℕ → Bool) (xs : List ℕ) → filter p (filter q xs) ≡ filter q (filter p xs)
either_first p q xs =
    let same : (x : ℕ) → cond (q x) (p x) false ≡ cond (p x) (q x) false = λ x. both (p x) (q x) in
    filter_twice p q xs ∙ filter_agree (λ x. cond (q x) (p x) false) (λ x. cond (p x) (q x) false) same xs ∙ sym (filter_twice q p xs)

-- ---- rising numbers

rises_behind : (x : ℕ) (xs : List ℕ) → AllPairs (λ m n. m < n) (x ∷ xs) → AllPairs (λ m n. m < n) xs
rises_behind x xs up i j d less l = up (suc i) (suc j) d (omega arith) (omega arith)

first_is_below : (x y : ℕ) (xs : List ℕ) → AllPairs (λ m n. m < n) (x ∷ xs) → Contains xs y → x < y
first_is_below x y xs up c =
    let l = c.1 in
    let e = c.2 in
    let h : x < get_or xs c.0 y = up 0 (suc c.0) y (omega arith) (omega arith) in
    omega arith

same_number : (x y : ℕ) → (x == y) ≡ true → x ≡ y
same_number x y e = grind arith

own_number : (x : ℕ) → (x == x) ≡ true
own_number x = grind arith

absent : (fact : ℕ) (xs : List ℕ) → ((y : ℕ) → Contains xs y → y ≡ fact → ⊥) → without fact xs ≡ xs
absent fact [] none = refl
absent fact (x ∷ xs) none =
    let rest = absent fact xs (λ y c. none y (cons_later x xs y c)) in
    let go : (b : Bool) → (x == fact) ≡ b → cond (not b) (x ∷ without fact xs) (without fact xs) ≡ x ∷ xs =
    λ b. elim b as (λ b. (x == fact) ≡ b → cond (not b) (x ∷ without fact xs) (without fact xs) ≡ x ∷ xs) [
      | true ↦ λ e. absurd (none x (cons_first x xs) (same_number x fact e))
      | false ↦ λ e. ap (λ ys. x ∷ ys) rest
    ] in
    go (x == fact) refl

pub in_middle : (fact : ℕ) (needed rest : List ℕ) → Contains (needed ++ fact ∷ rest) fact
in_middle fact [] rest = cons_first fact rest
in_middle fact (x ∷ needed) rest = cons_later x (needed ++ fact ∷ rest) fact (in_middle fact needed rest)

pub taken_out : (fact : ℕ) (needed rest : List ℕ) → AllPairs (λ m n. m < n) (needed ++ fact ∷ rest) → without fact (needed ++ fact ∷ rest) ≡ needed ++ rest
taken_out fact [] rest up =
    let others = absent fact rest (λ y c e. let l = first_is_below fact y rest up c in absurd (omega arith)) in
    let go : (b : Bool) → (fact == fact) ≡ b → cond (not b) (fact ∷ without fact rest) (without fact rest) ≡ rest =
    λ b. elim b as (λ b. (fact == fact) ≡ b → cond (not b) (fact ∷ without fact rest) (without fact rest) ≡ rest) [
      | true ↦ λ e. others
      | false ↦ λ e. absurd (let t = own_number fact in cc)
    ] in
    go (fact == fact) refl
taken_out fact (x ∷ needed) rest up =
    let less = first_is_below x fact (needed ++ fact ∷ rest) up (in_middle fact needed rest) in
    let others = taken_out fact needed rest (rises_behind x (needed ++ fact ∷ rest) up) in
    let go : (b : Bool) → (x == fact) ≡ b → cond (not b) (x ∷ without fact (needed ++ fact ∷ rest)) (without fact (needed ++ fact ∷ rest)) ≡ x ∷ needed ++ rest =
    λ b. elim b as (λ b. (x == fact) ≡ b → cond (not b) (x ∷ without fact (needed ++ fact ∷ rest)) (without fact (needed ++ fact ∷ rest)) ≡ x ∷ needed ++ rest) [
      | true ↦ λ e. absurd (let s = same_number x fact e in omega arith)
      | false ↦ λ e. ap (λ ys. x ∷ ys) others
    ] in
    go (x == fact) refl
