-- What the marks say of literals and clauses.
use Rattle.std.proofs.Common.{◌≡◌, ◌<◌, ◌≤◌, ◌+◌, ◌++◌, [], ◌∷◌, ◌⊎◌, ℕ, Bool, true, false, not, Option, Some, None, List, length, get_or, set, arith, sym, ◌∙◌, ap, inl, inr, refl, below_more, subst, get_or-set_other, get_or-set_same, length-set}
use Rattle.std.specs.Option.{is_some}
use Rattle.std.proofs.Math.Bool.{beq}
use Rattle.std.proofs.lemmas.List.{get_or_default}
use Rattle.std.proofs.lemmas.List.Elements.{All-contains, Contains-get_or, Contains-push_cases, Contains-append_left, Contains-push}
use Rattle.std.proofs.lemmas.Bool.{cases_eq}
use Rattle.std.specs.List.{AllPairs, Contains}
use Rattle.cnf_core.specs.declared.literal.Lit.{Lit}
use Rattle.cnf_core.specs.Literal.{negation_of}
use Rattle.cnf_core.proofs.Literals.{not_itself}
use Rattle.refutation_check.specs.declared.marks.Sight.{Sight}
use Rattle.refutation_check.specs.declared.marks.Sight.TheVariants.{Falsified, Unit, Neither}
use Rattle.refutation_check.specs.Chain.{IsFalsified, IsUnit}
use Rattle.refutation_check.specs.Marks.{IsFalseIn, Marks, IsSeen, IsWithin}
use Rattle.refutation_check.specs.Assumed.{IsOpen}

-- two literals with equal fields are equal
pub lit_equal : (a b : Lit) → a.var ≡ b.var → a.positive ≡ b.positive → a ≡ b
lit_equal a b v s =
    let mk : ℕ → Bool → Lit = λ n p. record { var = n; positive = p } in
    let first : mk a.var a.positive ≡ mk b.var a.positive = ap (λ (n : ℕ). mk n a.positive) v in
    let second : mk b.var a.positive ≡ mk b.var b.positive = ap (λ (p : Bool). mk b.var p) s in
    first ∙ second

pub not_same : (a b : Bool) → not a ≡ not b → a ≡ b
not_same true true h = refl
not_same true false h = cc
not_same false true h = cc
not_same false false h = refl

pub not_not : (a : Bool) → not (not a) ≡ a
not_not true = refl
not_not false = refl

pub sign_cases : (a b : Bool) → (a ≡ b) ⊎ (a ≡ not b)
sign_cases true true = inl refl
sign_cases true false = inr refl
sign_cases false true = inr refl
sign_cases false false = inl refl

pub beq_differ : (a b : Bool) → beq a b ≡ false → a ≡ not b
beq_differ true true h = cc
beq_differ true false h = refl
beq_differ false true h = refl
beq_differ false false h = cc

-- of one variable there are two literals
pub lit_cases : (a b : Lit) → a.var ≡ b.var → (a ≡ b) ⊎ (a ≡ negation_of b)
lit_cases a b v =
    elim (sign_cases a.positive b.positive) as (λ _. (a ≡ b) ⊎ (a ≡ negation_of b)) [
      | inl p ↦ inl (lit_equal a b v p)
      | inr p ↦ inr (lit_equal a (negation_of b) v p)
    ]

-- one more literal is false
pub Marks-set : (marks : List (Option Bool)) (falses more : List Lit) (lit : Lit) (value : Option Bool) → Marks marks falses → lit.var < length marks → value ≡ Some (not lit.positive) →
    ((k : Lit) → Contains falses k → k.var ≡ lit.var → ⊥) → ((k : Lit) → Contains more k → Contains falses k ⊎ (lit ≡ k)) → ((k : Lit) → Contains falses k → Contains more k) → Contains more lit →
    Marks (set marks lit.var value) more
Marks-set marks falses more lit value was in' is fresh split keeps has k within =
    let in_marks : k.var < length marks = rw length-set at within in
    elim (cases_eq k.var lit.var) [
      | inl same ↦
          let read : get_or (set marks lit.var value) k.var None ≡ Some (not lit.positive) = ap (λ (i : ℕ). get_or (set marks lit.var value) i None) same ∙ (get_or-set_same marks lit.var value None in' ∙ is) in (
            λ h. let e : Some (not lit.positive) ≡ Some (not k.positive) = sym read ∙ h in
                let signs : not lit.positive ≡ not k.positive = cc in
                let one : lit ≡ k = lit_equal lit k (sym same) (not_same _ _ signs) in
                subst (λ (x : Lit). Contains more x) one has,
            λ c. elim (split k c) [ inl old ↦ absurd (fresh k old same) | inr one ↦ read ∙ ap (λ (x : Lit). Some (not x.positive)) one ],
          )
      | inr other ↦
          let read : get_or (set marks lit.var value) k.var None ≡ get_or marks k.var None = get_or-set_other marks lit.var k.var value None other in (
            λ h. keeps k ((was k in_marks).0 (sym read ∙ h)),
            λ c. elim (split k c) [ inl old ↦ read ∙ (was k in_marks).1 old | inr one ↦ absurd (other (ap (λ (x : Lit). x.var) (sym one))) ],
          )
    ]

-- where an open literal is taken for false
pub Marks-push : (marks : List (Option Bool)) (falses : List Lit) (l : Lit) → Marks marks falses → IsOpen falses l → l.var < length marks → Marks (set marks l.var (Some (not l.positive))) (falses ++ l ∷ [])
Marks-push marks falses l marked is_open in' =
    Marks-set marks falses (falses ++ l ∷ []) l (Some (not l.positive)) marked in' refl
    (λ k h same. elim (lit_cases k l same) [
      | inl one ↦ is_open.0 (subst (Contains falses) one h)
      | inr one ↦ is_open.1 (subst (Contains falses) one h)
    ])
    (λ k h. Contains-push_cases falses l k h)
    (λ k h. Contains-append_left falses (l ∷ []) k h)
    (Contains-push falses l)

-- no literal is false
pub Marks-none : (marks : List (Option Bool)) → ((k : ℕ) → k < length marks → get_or marks k None ≡ None) → Marks marks []
Marks-none marks clean l in' = (λ h. let e : get_or marks l.var None ≡ None = clean l.var in' in let n : None ≡ Some (not l.positive) = sym e ∙ h in absurd cc, λ c. absurd (omega (arith, c.1)))

-- the first n literals of the clause as the marks have them: each is false, but for one that is open
abbrev pub Scanned : List (Option Bool) → List Lit → ℕ → Option Lit → Type 0
Scanned marks lits n None = (j : ℕ) (d : Lit) → j < n → IsFalseIn marks (get_or lits j d)
Scanned marks lits n (Some l) = (k : ℕ) × (k < n) × ((d : Lit) → get_or lits k d ≡ l) × (get_or marks l.var None ≡ None) × ((j : ℕ) (d : Lit) → j < n → (j ≡ k → ⊥) → IsFalseIn marks (get_or lits j d))

module _ (marks : List (Option Bool)) (lits : List Lit) where
  -- a literal that is true
  pub seen_true : (lit : Lit) → Contains lits lit → get_or marks lit.var None ≡ Some lit.positive → IsSeen (IsFalseIn marks) lits Neither
  seen_true lit in' is =
      let not_false : IsFalseIn marks lit → ⊥ = λ f. let e : Some lit.positive ≡ Some (not lit.positive) = sym is ∙ f in let s : lit.positive ≡ not lit.positive = cc in not_itself _ s in (
        λ all. not_false (All-contains (IsFalseIn marks) lits lit all in'),
        λ l u. not_false (u.others lit in' (λ e. u.not_true (subst (λ (x : Lit). IsFalseIn marks (negation_of x)) e (is ∙ ap Some (sym (not_not lit.positive)))))),
      )

  open_not_false : (l : Lit) → get_or marks l.var None ≡ None → IsFalseIn marks l → ⊥
  open_not_false l is f = let n : None ≡ Some (not l.positive) = sym is ∙ f in cc

  -- two literals that are open
  pub seen_two : (a b : Lit) → Contains lits a → Contains lits b → (a ≡ b → ⊥) → get_or marks a.var None ≡ None → get_or marks b.var None ≡ None → IsSeen (IsFalseIn marks) lits Neither
  seen_two a b in_a in_b differ open_a open_b = (
    λ all. open_not_false a open_a (All-contains (IsFalseIn marks) lits a all in_a),
    λ l u. open_not_false a open_a (u.others a in_a (λ e. open_not_false b open_b (u.others b in_b (λ f. differ (e ∙ sym f))))),
  )

  pub seen_all : (n : ℕ) → length lits ≤ n → Scanned marks lits n None → IsSeen (IsFalseIn marks) lits Falsified
  seen_all n all was j d in' = was j d (omega arith)

  pub seen_one : (n : ℕ) (l : Lit) → n ≡ length lits → Scanned marks lits n (Some l) → IsSeen (IsFalseIn marks) lits (Unit l)
  seen_one n l all (k, below, is, unset, others) =
      record {
        member = (k, omega arith, is l);
        not_false = open_not_false l unset;
        not_true = open_not_false (negation_of l) unset;
        others = λ other (j, in_j, is_j) differ. subst (IsFalseIn marks) is_j (others j other (omega arith) (λ same. differ (sym is_j ∙ (ap (λ (i : ℕ). get_or lits i other) same ∙ is other))));
      }

  pub scanned_false : (n : ℕ) (unset : Option Lit) → Scanned marks lits n unset → ((d : Lit) → IsFalseIn marks (get_or lits n d)) → Scanned marks lits (n + 1) unset
  scanned_false n None was here = λ j d h. below_more (λ (j : ℕ). (d : Lit) → IsFalseIn marks (get_or lits j d)) n (λ j h d. was j d h) here j h d
  scanned_false n (Some l) (k, below, is, unset, others) here = (k, omega arith, is, unset, λ j d h differ. below_more (λ (j : ℕ). (d : Lit) → (j ≡ k → ⊥) → IsFalseIn marks (get_or lits j d)) n (λ j h d m. others j d h m) (λ d m. here d) j h d differ)

  pub scanned_open : (n : ℕ) (l : Lit) → Scanned marks lits n None → ((d : Lit) → get_or lits n d ≡ l) → get_or marks l.var None ≡ None → Scanned marks lits (n + 1) (Some l)
  scanned_open n l was is unset = (n, omega arith, is, unset, λ j d h differ. was j d (omega (arith, differ)))

-- a second literal that is open
pub second_open : (marks : List (Option Bool)) (lits : List Lit) (n : ℕ) (seen : Option Lit) (d : Lit) → n < length lits → AllPairs (λ a b. a.var < b.var) lits → Scanned marks lits n seen → is_some seen ≡ true → get_or marks (get_or lits n d).var None ≡ None → IsSeen (IsFalseIn marks) lits Neither
second_open marks lits n None d in' rising was some unset = absurd cc
second_open marks lits n (Some l) d in' rising (k, below, is, unset_l, others) some unset =
    let up : (get_or lits k d).var < (get_or lits n d).var = rising k n d below in' in
    let v : (get_or lits k d).var ≡ l.var = ap (λ (x : Lit). x.var) (is d) in
    seen_two marks lits l (get_or lits n d) (k, omega arith, is l) (Contains-get_or lits n d in') (λ e. let f : l.var ≡ (get_or lits n d).var = ap (λ (x : Lit). x.var) e in omega arith) unset_l unset

pub first_open : (marks : List (Option Bool)) (lits : List Lit) (n : ℕ) (seen : Option Lit) (d : Lit) → n < length lits → Scanned marks lits n seen → is_some seen ≡ false → get_or marks (get_or lits n d).var None ≡ None → Scanned marks lits (n + 1) (Some (get_or lits n d))
first_open marks lits n None d in' was some unset = scanned_open marks lits n (get_or lits n d) was (λ e. get_or_default lits n e d in') unset
first_open marks lits n (Some l) d in' was some unset = absurd cc

-- a literal that is false
pub next_false : (marks : List (Option Bool)) (lits : List Lit) (n : ℕ) (seen : Option Lit) (d : Lit) (value : Bool) → n < length lits → Scanned marks lits n seen → get_or marks (get_or lits n d).var None ≡ Some value → beq value (get_or lits n d).positive ≡ false → Scanned marks lits (n + 1) seen
next_false marks lits n seen d value in' was is differ =
    scanned_false marks lits n seen was (λ e.
    subst (IsFalseIn marks) (get_or_default lits n d e in') (is ∙ ap Some (beq_differ _ _ differ)))

module _ (marks : List (Option Bool)) (falses : List Lit) (marked : Marks marks falses) (clause : List Lit) (within : IsWithin (length marks) clause) where
  in_marks : (l : Lit) → Contains clause l → l.var < length marks
  in_marks l h = All-contains (λ (l : Lit). l.var < length marks) clause l within h

  pub falsified_to : IsFalsified (IsFalseIn marks) clause → IsFalsified (Contains falses) clause
  falsified_to all k d h = (marked (get_or clause k d) (within k d h)).0 (all k d h)

  pub falsified_from : IsFalsified (Contains falses) clause → IsFalsified (IsFalseIn marks) clause
  falsified_from all k d h = (marked (get_or clause k d) (within k d h)).1 (all k d h)

  pub unit_to : (l : Lit) → IsUnit (IsFalseIn marks) clause l → IsUnit (Contains falses) clause l
  unit_to l u =
      record {
        member = u.member;
        not_false = λ f. u.not_false ((marked l (in_marks l u.member)).1 f);
        not_true = λ f. u.not_true ((marked (negation_of l) (in_marks l u.member)).1 f);
        others = λ other h d. (marked other (in_marks other h)).0 (u.others other h d);
      }

  pub unit_from : (l : Lit) → IsUnit (Contains falses) clause l → IsUnit (IsFalseIn marks) clause l
  unit_from l u =
      record {
        member = u.member;
        not_false = λ f. u.not_false ((marked l (in_marks l u.member)).0 f);
        not_true = λ f. u.not_true ((marked (negation_of l) (in_marks l u.member)).0 f);
        others = λ other h d. (marked other (in_marks other h)).1 (u.others other h d);
      }

  -- what the marks say of the clause is so of the literals that are false
  pub seen_to : (s : Sight) → IsSeen (IsFalseIn marks) clause s → IsSeen (Contains falses) clause s
  seen_to Falsified seen = falsified_to seen
  seen_to (Unit l) seen = unit_to l seen
  seen_to Neither seen = (λ all. seen.0 (falsified_from all), λ l u. seen.1 l (unit_from l u))
