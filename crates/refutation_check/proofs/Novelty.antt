-- The test for novel clauses, and how many steps of a log are novel.
use Rattle.std.proofs.Common.{◌≡◌, ◌<◌, ◌≤◌, ◌+◌, ◌++◌, [], ◌∷◌, ◌&&◌, ◌↔◌, ℕ, suc, Bool, true, false, not, List, length, get_or, take, map, arith, sym, ap, inl, inr, refl, subst, append_assoc, append-nil, eqb-true, eq-eqb}
use Rattle.std.proofs.lemmas.Bool.{cases_Bool}
use Rattle.std.proofs.lemmas.List.Folds.{list_any_at, Any-from_list_any}
use Rattle.std.specs.Prelude.{◌==◌, if◌then◌else◌}
use Rattle.std.specs.List.{Contains, list_any, list_all}
use Rattle.cnf_core.specs.declared.literal.Lit.{Lit}
use Rattle.refutation_check.specs.declared.log.Step.{Step}
use Rattle.refutation_check.specs.Chain.{members_of, Subsumes, IsNovel}
use Rattle.refutation_check.specs.SearchLog.{is_literal, subsumes, is_novel, IsAllNovel, IsNovelButLast, novel_steps}
use Rattle.refutation_check.proofs.Renumbered.{all_at}
use Rattle.refutation_check.proofs.Sights.{lit_equal}

all_from : {X : Type 0} (p : X → Bool) (xs : List X) → ((k : ℕ) (d : X) → k < length xs → p (get_or xs k d) ≡ true) → list_all p xs ≡ true
all_from p [] each = refl
all_from p (x ∷ xs) each =
    let first : p x ≡ true = each 0 x (omega arith) in
    let rest : list_all p xs ≡ true = all_from p xs (λ k d h. each (suc k) d (omega arith)) in
    rw (first, rest) refl

same_sign : (a b : Bool) → (if a then b else not b) ≡ true → a ≡ b
same_sign true true h = refl
same_sign true false h = cc
same_sign false true h = cc
same_sign false false h = refl

own_sign : (a : Bool) → (if a then a else not a) ≡ true
own_sign true = refl
own_sign false = refl

both : (a b : Bool) → (a && b) ≡ true → (a ≡ true) × (b ≡ true)
both true b h = (refl, h)
both false b h = absurd cc

literal_same : (a b : Lit) → is_literal a b ≡ true → a ≡ b
literal_same a b h =
    let two = both (a.var == b.var) (if a.positive then b.positive else not b.positive) h in
    lit_equal a b (eqb-true a.var b.var two.0) (same_sign a.positive b.positive two.1)

literal_itself : (l : Lit) → is_literal l l ≡ true
literal_itself l =
    let var : (l.var == l.var) ≡ true = eq-eqb l.var l.var refl in
    let sign : (if l.positive then l.positive else not l.positive) ≡ true = own_sign l.positive in
    rw (var, sign) refl

subsumes_true : (clause other : List Lit) → Subsumes clause other → subsumes clause other ≡ true
subsumes_true clause other all =
    all_from (λ (l : Lit). list_any (is_literal l) other) clause (λ k d h. go (get_or clause k d) (all k d h))
  where
    go : (l : Lit) → Contains other l → list_any (is_literal l) other ≡ true
    go l (k, h, is) = list_any_at (is_literal l) other k l h (subst (λ (x : Lit). is_literal l x ≡ true) (sym is) (literal_itself l))

true_subsumes : (clause other : List Lit) → subsumes clause other ≡ true → Subsumes clause other
true_subsumes clause other t k d h =
    let l : Lit = get_or clause k d in
    let some = Any-from_list_any (is_literal l) other (all_at (λ (l : Lit). list_any (is_literal l) other) clause k d t h) in
    subst (Contains other) (sym (literal_same l some.1 some.4)) (some.0, some.2, some.3)

pub novel_exact : (members : List (List Lit)) (clause : List Lit) → (is_novel members clause ≡ true) ↔ IsNovel members clause
novel_exact members clause = (to, from)
  where
    not_true : (b : Bool) → not b ≡ true → b ≡ true → ⊥
    not_true true n t = cc
    not_true false n t = cc

    to : is_novel members clause ≡ true → IsNovel members clause
    to t k d h subsumed = not_true (subsumes (get_or members k d) clause) (all_at (λ (other : List Lit). not (subsumes other clause)) members k d t h) (subsumes_true (get_or members k d) clause subsumed)

    is_not : (other : List Lit) → (Subsumes other clause → ⊥) → not (subsumes other clause) ≡ true
    is_not other no_subset =
        elim (cases_Bool (subsumes other clause)) [
          | inl t ↦ absurd (no_subset (true_subsumes other clause t))
          | inr f ↦ ap not f
        ]

    from : IsNovel members clause → is_novel members clause ≡ true
    from novel = all_from (λ (other : List Lit). not (subsumes other clause)) members (λ k d h. is_not (get_or members k d) (novel k d h))

one_at_most : (b : Bool) → (if b then 1 else 0) ≤ 1
one_at_most true = omega arith
one_at_most false = omega arith

pub novel_at_most : (given : List (List Lit)) (log : List Step) → novel_steps given log ≤ length log
novel_at_most given [] = omega arith
novel_at_most given (s ∷ log) = omega (arith, one_at_most (is_novel given s.clause), novel_at_most (given ++ s.clause ∷ []) log)

module _ (given : List (List Lit)) (s : Step) (log : List Step) where
  after : (i : ℕ) → (given ++ s.clause ∷ []) ++ map (λ (s : Step). s.clause) (take i log) ≡ members_of given (take (suc i) (s ∷ log))
  after i = append_assoc given (s.clause ∷ []) (map (λ (s : Step). s.clause) (take i log))

  counted : IsNovel given s.clause → novel_steps given (s ∷ log) ≡ 1 + novel_steps (given ++ s.clause ∷ []) log
  counted novel = let t : is_novel given s.clause ≡ true = (novel_exact given s.clause).1 novel in rw t refl

  all_first : IsAllNovel given (s ∷ log) → IsNovel given s.clause
  all_first all = subst (λ (cs : List (List Lit)). IsNovel cs s.clause) (append-nil given) (all 0 s refl)

  all_rest : IsAllNovel given (s ∷ log) → IsAllNovel (given ++ s.clause ∷ []) log
  all_rest all i t is = subst (λ (cs : List (List Lit)). IsNovel cs t.clause) (sym (after i)) (all (suc i) t is)

  but_last_rest : IsNovelButLast given (s ∷ log) → IsNovelButLast (given ++ s.clause ∷ []) log
  but_last_rest all i t is =
      elim (all (suc i) t is) [
        | inl novel ↦ inl (subst (λ (cs : List (List Lit)). IsNovel cs t.clause) (sym (after i)) novel)
        | inr (last, empty) ↦ inr (omega (arith, last), empty)
      ]

pub novel_all : (given : List (List Lit)) (log : List Step) → IsAllNovel given log → novel_steps given log ≡ length log
novel_all given [] all = refl
novel_all given (s ∷ log) all = omega (arith, counted given s log (all_first given s log all), novel_all (given ++ s.clause ∷ []) log (all_rest given s log all))

pub novel_but_last : (given : List (List Lit)) (log : List Step) → IsNovelButLast given log → length log ≤ novel_steps given log + 1
novel_but_last given [] all = omega arith
novel_but_last given (s ∷ log) all =
    elim (all 0 s refl) [
      | inl novel ↦ omega (arith, counted given s log (subst (λ (cs : List (List Lit)). IsNovel cs s.clause) (append-nil given) novel), novel_but_last (given ++ s.clause ∷ []) log (but_last_rest given s log all))
      | inr (last, empty) ↦ omega (arith, last)
    ]
