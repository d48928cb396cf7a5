use Rattle.std.proofs.Common.{◌≡◌, ◌≢◌, ◌*◌, ◌≤◌, ◌∷◌, [], ℕ, List, All, AllPairs, get_or, sym, ◌∙◌, ap, subst, arith, length}
use Rattle.std.proofs.lemmas.List.Elements.{All-cons, All-nil}
use Rattle.std.proofs.lemmas.List.Kept.{AllPairs-cons}
use Rattle.tuple_core.specs.Rows.{Rows, IsRows}
use Rattle.rel_formula.specs.declared.problem.Relation.{Relation}
use Rattle.rel_formula.specs.Kernel.{at_least, rel}
use Rattle.rel_formula.specs.Bounds.{IsProblem}
use Rattle.rel_formula.specs.Renaming.{IsSymmetric}
use Rattle.rel_formula.proofs.Lists.{pairs_nil}
use Rattle.rel_formula.proofs.Unary.{IsSetOver, any_set, whole_set, sets_problem, sets_symmetric}
use Rattle.sample_problems.proofs.sets.two_sets.Goals as goal

-- three names
apart : (a b c : Relation) → a.name ≢ b.name → a.name ≢ c.name → b.name ≢ c.name → AllPairs (λ (r s : Relation). r.name ≢ s.name) (a ∷ b ∷ c ∷ [])
apart a b c one two three =
    let Differ : Relation → Relation → Type 0 = λ r s. r.name ≢ s.name in
    AllPairs-cons Differ a (b ∷ c ∷ []) (All-cons (Differ a) b (c ∷ []) one (All-cons (Differ a) c [] two (All-nil (Differ a))))
    (AllPairs-cons Differ b (c ∷ []) (All-cons (Differ b) c [] three (All-nil (Differ b)))
    (AllPairs-cons Differ c [] (All-nil (Differ c)) (pairs_nil Differ)))

first_differs : (xs ys : List ℕ) → (get_or xs 0 0 ≡ get_or ys 0 0 → ⊥) → xs ≢ ys
first_differs xs ys h e = h (ap (λ zs. get_or zs 0 0) e)

three_sets : (all : Rows) → IsRows all → all.arity ≡ 1 → (a b c : Relation) → a.lower ≡ all → a.upper ≡ all → b.lower.arity ≡ 1 → b.lower.rows ≡ [] → b.upper ≡ all →
    c.lower.arity ≡ 1 → c.lower.rows ≡ [] → c.upper ≡ all → All (IsSetOver all) (a ∷ b ∷ c ∷ [])
three_sets all rows one a b c low high b_one b_none b_all c_one c_none c_all =
    All-cons (IsSetOver all) a (b ∷ c ∷ []) (whole_set all a rows one low high)
    (All-cons (IsSetOver all) b (c ∷ []) (any_set all b b_one b_none b_all)
    (All-cons (IsSetOver all) c [] (any_set all c c_one c_none c_all) (All-nil (IsSetOver all))))

pub returns-clause-problem : goal.returns-clause-problem
returns-clause-problem c =
    let all : Rows = c.args.all.now in
    let fixed : Relation = c.in_ok-fixed.fixed in
    let first : Relation = c.in_ok-first.first in
    let second : Relation = c.in_ok-second.second in
    let a = c.in_ok-fixed.ensures in
    let p = c.in_ok-first.ensures in
    let q = c.in_ok-second.ensures in
    let sets = three_sets all c.requires.rows c.requires.arity fixed first second a.lower a.upper p.arity p.lower p.upper q.arity q.lower q.upper in
    let few : 3 * length all.rows ≤ 4096 = let l = c.requires.few in omega arith in
    let differ : (x y : List ℕ) (xs ys : List ℕ) → xs ≡ x → ys ≡ y → (get_or x 0 0 ≡ get_or y 0 0 → ⊥) → xs ≢ ys = λ x y xs ys p q h e. first_differs x y h (sym p ∙ e ∙ q) in
    let names = apart fixed first second (differ _ _ _ _ a.name p.name (λ e. omega arith)) (differ _ _ _ _ a.name q.name (λ e. omega arith)) (differ _ _ _ _ p.name q.name (λ e. omega arith)) in
    let is = sets_problem all c.requires.rows c.requires.arity (fixed ∷ first ∷ second ∷ []) sets (at_least 1 (rel 2)) (omega arith) (omega arith) few names c.requires.tops (omega arith) in
    subst (λ (rs : List Relation). IsProblem (record { relations = rs; tops = 0 ∷ []; formula = at_least 1 (rel 2) })) (sym c.in_ok-relations.ensures.items) is

pub returns-clause-symmetric : goal.returns-clause-symmetric
returns-clause-symmetric c =
    let all : Rows = c.args.all.now in
    let fixed : Relation = c.in_ok-fixed.fixed in
    let first : Relation = c.in_ok-first.first in
    let second : Relation = c.in_ok-second.second in
    let a = c.in_ok-fixed.ensures in
    let p = c.in_ok-first.ensures in
    let q = c.in_ok-second.ensures in
    let sets = three_sets all c.requires.rows c.requires.arity fixed first second a.lower a.upper p.arity p.lower p.upper q.arity q.lower q.upper in
    let is = sets_symmetric all c.requires.rows c.requires.arity (fixed ∷ first ∷ second ∷ []) sets (at_least 1 (rel 2)) (omega arith) in
    subst (λ (rs : List Relation). IsSymmetric (record { relations = rs; tops = 0 ∷ []; formula = at_least 1 (rel 2) })) (sym c.in_ok-relations.ensures.items) is
