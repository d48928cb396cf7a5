-- Extensions and listings, one more.
use Rattle.std.proofs.Common.{◌≡◌, ℕ, zero, suc, ◌+◌, ◌<◌, ◌≤◌, nat_lt, List, [], ◌∷◌, ◌++◌, map, filter, flat_map, length, take, get_or, Bool, true, false, if◌then◌else◌, Option, Some, None, option_map, refl, sym, ◌∙◌, ap, subst, append_assoc, add-one, arith}
use Rattle.std.specs.List.{range_with_len}
use Rattle.std.proofs.lemmas.List.{append-nil, map-append}
use Rattle.std.proofs.lemmas.Bool.Decides.{nat_tests}
use Rattle.rel_formula.specs.declared.formula.Expression.{Expression}
use Rattle.rel_formula.specs.declared.formula.Formula.{Formula}
use Rattle.rel_formula.specs.Kernel.{ExpressionTree, rel, union, FormulaTree, within}
use Rattle.rel_formula.specs.View.{expression_tree, formula_tree}
use Rattle.named_model.specs.declared.named.Signature.{Signature}
use Rattle.named_model.specs.Signatures.{numbers_where, extends_to, extensions}
use Rattle.lowering_rules.specs.Formula.{union_from, extensions_say}
use Rattle.rel_lower.specs.Signatures.Said.{Says}
use Rattle.rel_lower.specs.Signatures.Extending.{apart, united, union_of}
use Rattle.rel_lower.proofs.Signatures.FormulaLists.{says_nothing, says_one, says_both}

-- ---- extensions

by_test : (b : Bool) (n : ℕ) (more few last : List ℕ) → more ≡ few ++ last → (if b then n ∷ more else more) ≡ (if b then n ∷ few else few) ++ last
by_test true n more few last e = ap (λ ns. n ∷ ns) e
by_test false n more few last e = e

-- the numbers for which the test is true, with those of one signature more
pub numbers_step : (test : Signature → Bool) (n : ℕ) (xs : List Signature) (i : ℕ) (d : Signature) → i < length xs →
    numbers_where test n (take (suc i) xs) ≡ numbers_where test n (take i xs) ++ (if test (get_or xs i d) then (n + i) ∷ [] else [])
numbers_step test n [] i d l = absurd (omega arith)
numbers_step test n (x ∷ xs) zero d l = let e : n + 0 ≡ n = omega arith in ap (λ k. if test x then k ∷ [] else []) (sym e)
numbers_step test n (x ∷ xs) (suc i) d l =
    let e : n + 1 + i ≡ n + suc i = omega arith in
    let rest = numbers_step test (n + 1) xs i d (omega arith) ∙ ap (λ k. numbers_where test (n + 1) (take i xs) ++ (if test (get_or xs i d) then k ∷ [] else [])) e in
    by_test (test x) n (numbers_where test (n + 1) (take (suc i) xs)) (numbers_where test (n + 1) (take i xs)) (if test (get_or xs i d) then (n + suc i) ∷ [] else []) rest

pub numbers_more : (test : Signature → Bool) (xs : List Signature) (i : ℕ) (d : Signature) → i < length xs →
    numbers_where test 0 (take (i + 1) xs) ≡ numbers_where test 0 (take i xs) ++ (if test (get_or xs i d) then i ∷ [] else [])
numbers_more test xs i d l =
    let e : 0 + i ≡ i = omega arith in
    ap (λ k. numbers_where test 0 (take k xs)) (add-one i) ∙ numbers_step test 0 xs i d l ∙ ap (λ k. numbers_where test 0 (take i xs) ++ (if test (get_or xs i d) then k ∷ [] else [])) e

lt_true : (m n : ℕ) → m < n → nat_lt m n ≡ true
lt_true m n l = grind (arith, nat_tests)

lt_false : (m n : ℕ) → n ≤ m → nat_lt m n ≡ false
lt_false m n l = grind (arith, nat_tests)

-- a number that isn't below another, and one that is
kept_no : (b : Bool) (n s : ℕ) (ns : List ℕ) → nat_lt n s ≡ false → filter (λ q. nat_lt q s) ns ≡ [] → filter (λ q. nat_lt q s) (if b then n ∷ ns else ns) ≡ []
kept_no true n s ns high rest = ap (λ c. if c then n ∷ filter (λ q. nat_lt q s) ns else filter (λ q. nat_lt q s) ns) high ∙ rest
kept_no false n s ns high rest = rest

kept_yes : (b : Bool) (n s : ℕ) (ns ms : List ℕ) → nat_lt n s ≡ true → filter (λ q. nat_lt q s) ns ≡ ms → filter (λ q. nat_lt q s) (if b then n ∷ ns else ns) ≡ (if b then n ∷ ms else ms)
kept_yes true n s ns ms low rest = ap (λ c. if c then n ∷ filter (λ q. nat_lt q s) ns else filter (λ q. nat_lt q s) ns) low ∙ ap (λ ks. n ∷ ks) rest
kept_yes false n s ns ms low rest = rest

none_of_none : (test : Signature → Bool) (n k : ℕ) → [] ≡ numbers_where test n (take k [])
none_of_none test n zero = refl
none_of_none test n (suc k) = refl

none_below : (test : Signature → Bool) (n s : ℕ) (xs : List Signature) → s ≤ n → filter (λ q. nat_lt q s) (numbers_where test n xs) ≡ []
none_below test n s [] l = refl
none_below test n s (x ∷ xs) l =
    kept_no (test x) n s (numbers_where test (n + 1) xs) (lt_false n s l) (none_below test (n + 1) s xs (omega arith))

below_from : (test : Signature → Bool) (n k : ℕ) (xs : List Signature) → filter (λ q. nat_lt q (n + k)) (numbers_where test n xs) ≡ numbers_where test n (take k xs)
below_from test n k [] = none_of_none test n k
below_from test n zero (x ∷ xs) = none_below test n (n + 0) (x ∷ xs) (omega arith)
below_from test n (suc k) (x ∷ xs) =
    let e : n + 1 + k ≡ n + suc k = omega arith in
    let low : nat_lt n (n + suc k) ≡ true = lt_true n (n + suc k) (omega arith) in
    let rest : filter (λ q. nat_lt q (n + suc k)) (numbers_where test (n + 1) xs) ≡ numbers_where test (n + 1) (take k xs) =
    subst (λ s. filter (λ q. nat_lt q s) (numbers_where test (n + 1) xs) ≡ numbers_where test (n + 1) (take k xs)) e (below_from test (n + 1) k xs) in
    kept_yes (test x) n (n + suc k) (numbers_where test (n + 1) xs) (numbers_where test (n + 1) (take k xs)) low rest

-- those below a number are those among the first signatures
pub below_first : (test : Signature → Bool) (k : ℕ) (xs : List Signature) → filter (λ q. nat_lt q k) (numbers_where test 0 xs) ≡ numbers_where test 0 (take k xs)
below_first test k xs = let e : 0 + k ≡ k = omega arith in subst (λ s. filter (λ q. nat_lt q s) (numbers_where test 0 xs) ≡ numbers_where test 0 (take k xs)) e (below_from test 0 k xs)

-- a list with one number more, of what a function makes of it
pub map_if : {X Y : Type 0} (f : X → Y) (b : Bool) (x : X) → map f (if b then x ∷ [] else []) ≡ (if b then f x ∷ [] else [])
map_if f true x = refl
map_if f false x = refl

-- one signature more that may extend the same one
pub apart_next : (s p : ℕ) (xs : List Signature) (i : ℕ) (x : Signature) (fs gs hs : List Formula) → i < length xs → x ≡ get_or xs i x
    → Says fs gs (map (apart s) (numbers_where (λ (y : Signature). extends_to p y.parent) 0 (take i xs)))
    → Says gs hs (if extends_to p x.parent then apart s i ∷ [] else [])
    → Says fs hs (map (apart s) (numbers_where (λ (y : Signature). extends_to p y.parent) 0 (take (i + 1) xs)))
apart_next s p xs i x fs gs hs l is before new =
    let test : Signature → Bool = λ y. extends_to p y.parent in
    let old = numbers_where test 0 (take i xs) in
    let more : numbers_where test 0 (take (i + 1) xs) ≡ old ++ (if test x then i ∷ [] else []) =
    numbers_more test xs i x l ∙ ap (λ y. old ++ (if test y then i ∷ [] else [])) (sym is) in
    says_both fs gs hs (map (apart s) old) (if test x then apart s i ∷ [] else []) before new
    ∙ ap (λ ys. map formula_tree fs ++ ys) (sym (ap (map (apart s)) more ∙ map-append (apart s) old (if test x then i ∷ [] else []) ∙ ap (λ ys. map (apart s) old ++ ys) (map_if (apart s) (test x) i)))

pub apart_end : (s p : ℕ) (xs : List Signature) (i : ℕ) (fs gs : List Formula) → i ≡ s → Says fs gs (map (apart s) (numbers_where (λ (y : Signature). extends_to p y.parent) 0 (take i xs)))
    → Says fs gs (map (apart s) (filter (λ q. nat_lt q s) (extensions xs p)))
apart_end s p xs i fs gs e h =
    let test : Signature → Bool = λ y. extends_to p y.parent in
    h ∙ ap (λ k. map formula_tree fs ++ map (apart s) (numbers_where test 0 (take k xs))) e ∙ ap (λ ns. map formula_tree fs ++ map (apart s) ns) (sym (below_first test s xs))

from_last : (e : ExpressionTree) (ss : List ℕ) (q : ℕ) → union_from e (ss ++ q ∷ []) ≡ union (union_from e ss) (rel q)
from_last e [] q = refl
from_last e (s ∷ ss) q = from_last (union e (rel s)) ss q

pub union_last : (ss : List ℕ) (q : ℕ) → union_of (ss ++ q ∷ []) ≡ Some (united (union_of ss) q)
union_last [] q = refl
union_last (s ∷ ss) q = ap (λ e. Some e) (from_last (rel s) ss q)

union_if : (b : Bool) (ns : List ℕ) (i : ℕ) → (if b then Some (united (union_of ns) i) else union_of ns) ≡ union_of (ns ++ (if b then i ∷ [] else []))
union_if true ns i = sym (union_last ns i)
union_if false ns i = ap union_of (sym (append-nil ns))

-- what the union of the extensions says
abbrev union_says : ℕ → Option ExpressionTree → List FormulaTree
union_says s None = []
union_says s (Some e) = within (rel s) e ∷ []

said_by_union : (s : ℕ) (ss : List ℕ) → extensions_say s ss ≡ union_says s (union_of ss)
said_by_union s [] = refl
said_by_union s (q ∷ qs) = refl

pub extensions_said : (s : ℕ) (ss : List ℕ) (u : Option Expression) (e : Expression) (fs gs : List Formula) (f : Formula) → u ≡ Some e → option_map expression_tree u ≡ union_of ss
    → gs ≡ fs ++ f ∷ [] → formula_tree f ≡ within (rel s) (expression_tree e) → Says fs gs (extensions_say s ss)
extensions_said s ss u e fs gs f some is added tree =
    says_one fs gs f (within (rel s) (expression_tree e)) added tree
    ∙ ap (λ ts. map formula_tree fs ++ ts) (sym (said_by_union s ss ∙ ap (union_says s) (sym is ∙ ap (option_map expression_tree) some)))

pub nothing_said : (s : ℕ) (ss : List ℕ) (u : Option Expression) (fs : List Formula) → u ≡ None → option_map expression_tree u ≡ union_of ss → Says fs fs (extensions_say s ss)
nothing_said s ss u fs none is =
    says_nothing fs ∙ ap (λ ts. map formula_tree fs ++ ts) (sym (said_by_union s ss ∙ ap (union_says s) (sym is ∙ ap (option_map expression_tree) none)))

-- the union with one signature more that may extend this one
pub union_next : (p : ℕ) (xs : List Signature) (i : ℕ) (x : Signature) (before after : Option ExpressionTree) → i < length xs → x ≡ get_or xs i x
    → before ≡ union_of (numbers_where (λ (y : Signature). extends_to p y.parent) 0 (take i xs)) → after ≡ (if extends_to p x.parent then Some (united before i) else before)
    → after ≡ union_of (numbers_where (λ (y : Signature). extends_to p y.parent) 0 (take (i + 1) xs))
union_next p xs i x before after l is was now =
    let test : Signature → Bool = λ y. extends_to p y.parent in
    let ns = numbers_where test 0 (take i xs) in
    now ∙ ap (λ u. if test x then Some (united u i) else u) was ∙ union_if (test x) ns i
    ∙ sym (ap union_of (numbers_more test xs i x l ∙ ap (λ y. ns ++ (if test y then i ∷ [] else [])) (sym is)))

-- ---- signature by signature

pub flat_more : (f : ℕ → List FormulaTree) (a n : ℕ) → flat_map f (range_with_len a (suc n)) ≡ flat_map f (range_with_len a n) ++ f (a + n)
flat_more f a zero = let e : a ≡ a + 0 = omega arith in append-nil (f a) ∙ ap f e
flat_more f a (suc n) =
    let e : a + 1 + n ≡ a + suc n = omega arith in
    ap (λ ys. f a ++ ys) (flat_more f (a + 1) n ∙ ap (λ k. flat_map f (range_with_len (a + 1) n) ++ f k) e) ∙ sym (append_assoc (f a) (flat_map f (range_with_len (a + 1) n)) (f (a + suc n)))

pub says_next : (f : ℕ → List FormulaTree) (n : ℕ) (fs gs hs : List Formula) → Says fs gs (flat_map f (range_with_len 0 n)) → Says gs hs (f n) → Says fs hs (flat_map f (range_with_len 0 (n + 1)))
says_next f n fs gs hs a b =
    let z : 0 + n ≡ n = omega arith in
    says_both fs gs hs (flat_map f (range_with_len 0 n)) (f n) a b
    ∙ ap (λ ys. map formula_tree fs ++ ys) (sym (ap (λ k. flat_map f (range_with_len 0 k)) (add-one n) ∙ flat_more f 0 n ∙ ap (λ k. flat_map f (range_with_len 0 n) ++ f k) z))
