-- What clauses say once others stand behind them.
use Rattle.std.proofs.Common.{◌≡◌, ◌↔◌, ◌+◌, ◌<◌, ◌≤◌, ◌&&◌, ◌||◌, ℕ, Bool, true, false, not, List, [], ◌∷◌, ◌++◌, length, cond, All, IsTrue, inl, inr, refl, sym, ap, ◌∙◌, subst, arith, length-append}
use Rattle.std.proofs.Math.ListN.{get_or-append}
use Rattle.std.proofs.lemmas.List.Elements.{All-push, All-nil, All-cons, All-head, All-tail, All-contains, Contains-push}
use Rattle.cnf_core.specs.declared.literal.Lit.{Lit}
use Rattle.cnf_core.specs.Literal.{negation_of, HasVarsUpTo}
use Rattle.cnf_core.specs.Valuation.{literal_value, clause_value, Satisfies}
use Rattle.cnf_core.proofs.SameLiterals.{All-same, clause_value-same, clause_value-tautology}
use Rattle.circuit_cnf.specs.Encoding.{IsPushed, Adds}

pub All-front : {X : Type 0} (P : X → Type 0) (xs ys : List X) → All P (xs ++ ys) → All P xs
All-front P xs ys all k d h =
    let longer : k < length (xs ++ ys) = omega (arith, length-append xs ys) in
    subst P (get_or-append xs ys d k h) (all k d longer)

-- one clause that is pushed
pub pushed_adds : (lits : List Lit) (old new : List (List Lit)) → IsPushed lits old new → Adds 1 lits (λ v. IsTrue (clause_value v lits)) old new
pushed_adds lits old new (inl (tautology, is)) =
    record {
      means = λ v. subst (λ (cs : List (List Lit)). Satisfies v cs ↔ (Satisfies v old × IsTrue (clause_value v lits))) (sym is)
          ((λ s. (s, clause_value-tautology v lits tautology)), (λ p. p.0));
      few = let e : length new ≡ length old = ap length is in omega (arith, e);
      within = λ vars all has. subst (λ (cs : List (List Lit)). All (HasVarsUpTo vars) cs) (sym is) all;
    }
pushed_adds lits old new (inr (clause, same, is)) =
    record {
      means = λ v. subst (λ (cs : List (List Lit)). Satisfies v cs ↔ (Satisfies v old × IsTrue (clause_value v lits))) (sym is) (
        (λ s. (
          All-front (λ c. IsTrue (clause_value v c)) old (clause ∷ []) s,
          clause_value-same v lits clause same ∙ All-contains (λ c. IsTrue (clause_value v c)) (old ++ clause ∷ []) clause s (Contains-push old clause),
        )),
        (λ p. All-push (λ c. IsTrue (clause_value v c)) old clause p.0 (sym (clause_value-same v lits clause same) ∙ p.1)),
      );
      few = let e : length new ≡ length (old ++ clause ∷ []) = ap length is in omega (arith, e, length-append old (clause ∷ []));
      within = λ vars all has. subst (λ (cs : List (List Lit)). All (HasVarsUpTo vars) cs) (sym is)
          (All-push (HasVarsUpTo vars) old clause all (All-same (λ l. l.var ≤ vars) lits clause same has));
    }

-- what is said twice over
pub adds_more : (m n : ℕ) (lits more all : List Lit) (F G H : (ℕ → Bool) → Type 0) (a b c : List (List Lit)) →
    ((vars : ℕ) → HasVarsUpTo vars all → HasVarsUpTo vars lits) → ((vars : ℕ) → HasVarsUpTo vars all → HasVarsUpTo vars more) →
    ((v : ℕ → Bool) → (F v × G v) ↔ H v) → Adds m lits F a b → Adds n more G b c → Adds (m + n) all H a c
adds_more m n lits more all F G H a b c in_first in_second says p q =
    record {
      means = λ v. (
        (λ s. let at_b = (q.means v).0 s in let at_a = (p.means v).0 at_b.0 in (at_a.0, (says v).0 (at_a.1, at_b.1))),
        (λ s. let both = (says v).1 s.1 in (q.means v).1 ((p.means v).1 (s.0, both.0), both.1)),
      );
      few = omega (arith, p.few, q.few);
      within = λ vars old has. q.within vars (p.within vars old (in_first vars has)) (in_second vars has);
    }

-- the negation of a literal has the other value
pub negation_value : (v : ℕ → Bool) (l : Lit) → literal_value v (negation_of l) ≡ not (literal_value v l)
negation_value v l = other l.positive (v l.var)
  where
    other : (p b : Bool) → cond (not p) b (not b) ≡ not (cond p b (not b))
    other true true = refl
    other true false = refl
    other false true = refl
    other false false = refl

-- a conjunction by its three clauses
conjunction : (x a b : Bool) →
    ((((not x || (a || false)) ≡ true) × ((not x || (b || false)) ≡ true)) × ((x || (not a || (not b || false))) ≡ true)) ↔ (x ≡ (a && b))
conjunction true true true = ((λ _. refl), (λ _. ((refl, refl), refl)))
conjunction true true false = ((λ h. cc), (λ h. cc))
conjunction true false true = ((λ h. cc), (λ h. cc))
conjunction true false false = ((λ h. cc), (λ h. cc))
conjunction false true true = ((λ h. cc), (λ h. cc))
conjunction false true false = ((λ _. refl), (λ _. ((refl, refl), refl)))
conjunction false false true = ((λ _. refl), (λ _. ((refl, refl), refl)))
conjunction false false false = ((λ _. refl), (λ _. ((refl, refl), refl)))

by_clauses : (x a b nx na nb : Bool) → nx ≡ not x → na ≡ not a → nb ≡ not b →
    ((((nx || (a || false)) ≡ true) × ((nx || (b || false)) ≡ true)) × ((x || (na || (nb || false))) ≡ true)) ↔ (x ≡ (a && b))
by_clauses x a b nx na nb ex ea eb = rw ex (rw ea (rw eb (conjunction x a b)))

-- all of three, and of the negations of some
module _ (P : Lit → Type 0) (same : (l : Lit) → P l → P (negation_of l)) (x a b : Lit) (has : All P (x ∷ a ∷ b ∷ [])) where
  first : P x
  first = All-head P x (a ∷ b ∷ []) has

  second : P a
  second = All-head P a (b ∷ []) (All-tail P x (a ∷ b ∷ []) has)

  third : P b
  third = All-head P b [] (All-tail P a (b ∷ []) (All-tail P x (a ∷ b ∷ []) has))

  pub not_first_second : All P (negation_of x ∷ a ∷ [])
  not_first_second = All-cons P (negation_of x) (a ∷ []) (same x first) (All-cons P a [] second (All-nil P))

  pub not_first_third : All P (negation_of x ∷ b ∷ [])
  not_first_third = All-cons P (negation_of x) (b ∷ []) (same x first) (All-cons P b [] third (All-nil P))

  pub others_negated : (na nb : Lit) → na ≡ negation_of a → nb ≡ negation_of b → All P (x ∷ na ∷ nb ∷ [])
  others_negated na nb ea eb =
      All-cons P x (na ∷ nb ∷ []) first
      (All-cons P na (nb ∷ []) (subst P (sym ea) (same a second)) (All-cons P nb [] (subst P (sym eb) (same b third)) (All-nil P)))

-- the three clauses of a conjunction
pub conjunction_adds : (x a b nx na nb : Lit) (c d e f : List (List Lit)) → nx ≡ negation_of x → na ≡ negation_of a → nb ≡ negation_of b →
    IsPushed (nx ∷ a ∷ []) c d → IsPushed (nx ∷ b ∷ []) d e → IsPushed (x ∷ na ∷ nb ∷ []) e f →
    Adds 3 (x ∷ a ∷ b ∷ []) (λ v. literal_value v x ≡ (literal_value v a && literal_value v b)) c f
conjunction_adds x a b nx na nb c d e f ex ea eb p q r =
    let first = subst (λ n. IsPushed (n ∷ a ∷ []) c d) ex p in
    let second = subst (λ n. IsPushed (n ∷ b ∷ []) d e) ex q in
    let last = subst (λ n. IsPushed (x ∷ negation_of a ∷ n ∷ []) e f) eb (subst (λ n. IsPushed (x ∷ n ∷ nb ∷ []) e f) ea r) in
    let lits : List Lit = x ∷ a ∷ b ∷ [] in
    let F : (ℕ → Bool) → Type 0 = λ v. IsTrue (clause_value v (negation_of x ∷ a ∷ [])) in
    let G : (ℕ → Bool) → Type 0 = λ v. IsTrue (clause_value v (negation_of x ∷ b ∷ [])) in
    let H : (ℕ → Bool) → Type 0 = λ v. IsTrue (clause_value v (x ∷ negation_of a ∷ negation_of b ∷ [])) in
    let same : (vars : ℕ) (l : Lit) → l.var ≤ vars → (negation_of l).var ≤ vars = λ vars l h. h in
    let two = adds_more 1 1 (negation_of x ∷ a ∷ []) (negation_of x ∷ b ∷ []) lits F G (λ v. F v × G v) c d e
    (λ vars has. not_first_second (λ l. l.var ≤ vars) (same vars) x a b has) (λ vars has. not_first_third (λ l. l.var ≤ vars) (same vars) x a b has)
    (λ v. ((λ h. h), (λ h. h))) (pushed_adds _ _ _ first) (pushed_adds _ _ _ second) in
    adds_more 2 1 lits (x ∷ negation_of a ∷ negation_of b ∷ []) lits (λ v. F v × G v) H _ c e f
    (λ vars has. has) (λ vars has. others_negated (λ l. l.var ≤ vars) (same vars) x a b has _ _ refl refl)
    (λ v. by_clauses (literal_value v x) (literal_value v a) (literal_value v b) _ _ _ (negation_value v x) (negation_value v a) (negation_value v b))
    two (pushed_adds _ _ _ last)
