-- What an accepted log derives is entailed.
use Rattle.std.proofs.Common.{Some, None, ◌≡◌, ◌<◌, ◌≤◌, ◌-◌, ◌++◌, [], ◌∷◌, ◌⊎◌, ℕ, zero, suc, Bool, true, false, not, cond, List, length, get_or, take, map, All, arith, sym, ◌∙◌, ap, inl, inr, refl, subst, below_more, length-take}
use Rattle.std.proofs.lemmas.Bool.{cases_eq, cases_Bool, false_from_ne_true}
use Rattle.std.proofs.lemmas.List.{get_or-take}
use Rattle.std.proofs.lemmas.List.Folds.{list_any_at, Any-from_list_any}
use Rattle.std.proofs.lemmas.List.Elements.{All-contains, All-append, Contains-push_cases, All-map}
use Rattle.std.proofs.lemmas.Option.{slice_get_cases}
use Rattle.std.specs.List.{Contains, slice_get}
use Rattle.std.specs.Bool.{IsTrue}
use Rattle.cnf_core.specs.declared.literal.Lit.{Lit}
use Rattle.cnf_core.specs.Literal.{negation_of}
use Rattle.cnf_core.proofs.Literals.{not_itself}
use Rattle.cnf_core.specs.Valuation.{literal_value, clause_value, Satisfies, Entails}
use Rattle.refutation_check.specs.declared.log.Step.{Step}
use Rattle.refutation_check.specs.Chain.{Forces, Reaches, IsChain, members_of, IsAccepted, IsRefutation, EachEntailed}
use Rattle.refutation_check.proofs.Sights.{lit_cases}
use Rattle.refutation_check.proofs.Chains.{names_all}

-- two literals are equal or not
pub lit_equal_or_not : (a b : Lit) → (a ≡ b) ⊎ (a ≡ b → ⊥)
lit_equal_or_not a b =
    elim (cases_eq a.var b.var) [
      | inl same ↦ elim (lit_cases a b same) [
        | inl one ↦ inl one
        | inr opposite ↦ inr (λ e. not_itself b.positive (ap (λ (x : Lit). x.positive) (sym e ∙ opposite)))
      ]
      | inr other ↦ inr (λ e. other (ap (λ (x : Lit). x.var) e))
    ]

sign_flips : (p b : Bool) → cond p b (not b) ≡ true → cond (not p) b (not b) ≡ false
sign_flips true true h = refl
sign_flips true false h = cc
sign_flips false true h = cc
sign_flips false false h = refl

-- each of these literals is false under the valuation
abbrev pub AreFalse : (ℕ → Bool) → List Lit → Type 0
AreFalse v falses = (l : Lit) → Contains falses l → literal_value v l ≡ false

pub false_clause : (v : ℕ → Bool) (clause : List Lit) → clause_value v clause ≡ false → AreFalse v clause
false_clause v clause h l (k, in', is) =
    false_from_ne_true (literal_value v l) (λ t. let e : literal_value v (get_or clause k l) ≡ true = ap (literal_value v) is ∙ t in
    let f : clause_value v clause ≡ true = list_any_at (literal_value v) clause k l in' e in absurd cc)

module _ (v : ℕ → Bool) (members : List (List Lit)) (hold : All (λ c. IsTrue (clause_value v c)) members) where
  forced_true : (falses : List Lit) (hint : ℕ) (l : Lit) → Forces members falses hint l → AreFalse v falses → literal_value v l ≡ true
  forced_true falses hint l f are =
      let t : clause_value v f.clause ≡ true = names_all (λ c. IsTrue (clause_value v c)) members hint f.clause hold f.named in
      let some = Any-from_list_any (literal_value v) f.clause t in
      let k : Lit = some.1 in
      let k_true : literal_value v k ≡ true = some.4 in
      elim (lit_equal_or_not k l) [
        | inl one ↦ subst (λ (x : Lit). literal_value v x ≡ true) one k_true
        | inr other ↦ let k_false : literal_value v k ≡ false = are k (f.unit.others k (some.0, some.2, some.3) other) in absurd cc
      ]

  pub reaches_false : (falses : List Lit) (hints : List ℕ) (after : List Lit) → Reaches members falses hints after → AreFalse v falses → AreFalse v after
  reaches_false falses [] after same are = subst (AreFalse v) (sym same) are
  reaches_false falses (hint ∷ hints) after (l, forced, rest) are =
      let t : literal_value v l ≡ true = forced_true falses hint l forced are in
      reaches_false (falses ++ negation_of l ∷ []) hints after rest
      (λ k h. elim (Contains-push_cases falses (negation_of l) k h) [
        | inl old ↦ are k old
        | inr one ↦ subst (λ (x : Lit). literal_value v x ≡ false) one (sign_flips l.positive (v l.var) t)
      ])

  pub chain_holds : (clause : List Lit) (hints : List ℕ) → IsChain members clause hints → clause_value v clause ≡ true
  chain_holds clause hints chain =
      elim (cases_Bool (clause_value v clause)) [
        | inl t ↦ t
        | inr f ↦
            let are = reaches_false clause chain.before chain.after chain.reached (false_clause v clause f) in
            let t : clause_value v chain.refuted.clause ≡ true = names_all (λ c. IsTrue (clause_value v c)) members chain.last chain.refuted.clause hold chain.refuted.named in
            let some = Any-from_list_any (literal_value v) chain.refuted.clause t in
            let k_true : literal_value v some.1 ≡ true = some.4 in
            let k_false : literal_value v some.1 ≡ false = are some.1 (All-contains (Contains chain.after) chain.refuted.clause some.1 chain.refuted.falsified (some.0, some.2, some.3)) in
            absurd cc
      ]

module _ (v : ℕ → Bool) (clauses : List (List Lit)) (steps : List Step) (accepted : IsAccepted clauses steps) (holds : Satisfies v clauses) where
  pub steps_hold : (n : ℕ) → n ≤ length steps → (j : ℕ) (d : Step) → j < n → clause_value v (get_or steps j d).clause ≡ true
  steps_hold zero h j d l = absurd (omega arith)
  steps_hold (suc n) h j d l =
      let before = steps_hold n (omega arith) in
      let taken : All (λ (s : Step). clause_value v s.clause ≡ true) (take n steps) = λ k e m.
      let below : k < n = omega (arith, length-take n steps) in
      subst (λ (s : Step). clause_value v s.clause ≡ true) (sym (get_or-take n steps k e below)) (before k e below) in
      let members : All (λ c. IsTrue (clause_value v c)) (members_of clauses (take n steps)) =
      All-append (λ c. IsTrue (clause_value v c)) clauses (map (λ s. s.clause) (take n steps)) holds (All-map (λ c. IsTrue (clause_value v c)) (λ (s : Step). s.clause) (take n steps) taken) in
      below_more (λ (j : ℕ). (d : Step) → clause_value v (get_or steps j d).clause ≡ true) n (λ k m e. before k e m)
      (λ e. chain_holds v (members_of clauses (take n steps)) members _ _ (accepted n e (omega arith)))
      j (omega arith) d

pub each_entailed : (clauses : List (List Lit)) (steps : List Step) → IsAccepted clauses steps → EachEntailed clauses steps
each_entailed clauses steps accepted k d h v holds = steps_hold v clauses steps accepted holds (length steps) (omega arith) k d h

-- what is so of each is so of the one at a place
at_place : {X : Type 0} → (P : X → Type 0) (xs : List X) (i : ℕ) (x : X) → All P xs → slice_get xs i ≡ Some x → P x
at_place P xs i x all is =
    elim (slice_get_cases xs i).1 [
      | inl (y, in', here, there) ↦ let e : Some y ≡ Some x = sym here ∙ is in let f : y ≡ x = cc in subst P (there ∙ f) (all i y in')
      | inr (past, none) ↦ let e : None ≡ Some x = sym none ∙ is in absurd cc
    ]

pub no_valuation : (clauses : List (List Lit)) (steps : List Step) → IsRefutation clauses steps → (v : ℕ → Bool) → Satisfies v clauses → ⊥
no_valuation clauses steps (accepted, (s, there, is_empty)) v holds =
    let t : clause_value v s.clause ≡ true = at_place (λ (s : Step). Entails clauses s.clause) steps (length steps - 1) s (each_entailed clauses steps accepted) there v holds in
    let f : clause_value v s.clause ≡ false = ap (clause_value v) is_empty in
    cc
