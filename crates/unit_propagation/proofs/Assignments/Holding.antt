-- What an assignment keeps, as it grows.
use Rattle.std.proofs.Common.{◌≡◌, ◌<◌, ◌≤◌, ◌+◌, ◌++◌, [], ◌∷◌, ℕ, Bool, true, false, not, Option, Some, None, List, length, get_or, set, take, All, arith, sym, ◌∙◌, ap, inl, inr, refl, length-append, length-take, get_or-set_other, get_or-set_same}
use Rattle.std.proofs.Math.Bool.{beq}
use Rattle.std.proofs.lemmas.Bool.{cases_lt}
use Rattle.std.proofs.lemmas.List.{get_or_default, get_or_append_left, get_or_push, get_or-take, take-take, take_at}
use Rattle.std.specs.List.{Contains}
use Rattle.cnf_core.specs.declared.literal.Lit.{Lit}
use Rattle.cnf_core.specs.Literal.{negation_of}
use Rattle.refutation_check.specs.Marks.{Marks, IsWithin}
use Rattle.refutation_check.specs.Assumed.{IsOpen}
use Rattle.refutation_check.proofs.Sights.{not_not, lit_cases}
use Rattle.unit_propagation.specs.declared.assignment_trail.assigned.Assigned.{Assigned}
use Rattle.unit_propagation.specs.Assignments.Trail.{falses_of, IsVarUpTo}
use Rattle.unit_propagation.specs.Assignments.Held.{AreLevels}
use Rattle.unit_propagation.proofs.Assignments.Trails.{neg_neg, false_from, true_false}

pub beq_same : (a b : Bool) → beq a b ≡ true → a ≡ b
beq_same true true h = refl
beq_same true false h = cc
beq_same false true h = cc
beq_same false false h = refl

pub value_open : (marks : List (Option Bool)) (falses : List Lit) (l : Lit) → Marks marks falses → l.var < length marks → get_or marks l.var None ≡ None → IsOpen falses l
value_open marks falses l marked in' is =
    (λ h. let e : None ≡ Some (not l.positive) = sym is ∙ (marked l in').1 h in cc, λ h. let e : None ≡ Some (not (not l.positive)) = sym is ∙ (marked (negation_of l) in').1 h in cc)

pub value_true : (marks : List (Option Bool)) (falses : List Lit) (l : Lit) (v : Bool) → Marks marks falses → l.var < length marks → get_or marks l.var None ≡ Some v → v ≡ l.positive → Contains falses (negation_of l)
value_true marks falses l v marked in' is same = (marked (negation_of l) in').0 (is ∙ ap Some (same ∙ sym (not_not l.positive)))

pub value_false : (marks : List (Option Bool)) (falses : List Lit) (l : Lit) (v : Bool) → Marks marks falses → l.var < length marks → get_or marks l.var None ≡ Some v → v ≡ not l.positive → Contains falses l
value_false marks falses l v marked in' is same = (marked l in').0 (is ∙ ap Some same)

-- an open literal is none of the trail, nor an opposite
open_apart : (assigned : List Assigned) (l : Lit) → IsOpen (falses_of assigned) l → (i : ℕ) (d : Assigned) → i < length assigned → (get_or assigned i d).lit.var ≡ l.var → ⊥
open_apart assigned l is_open i d h same =
    elim (lit_cases (get_or assigned i d).lit l same) [
      | inl e ↦ is_open.1 (true_false assigned l i h (λ f. ap (λ (a : Assigned). a.lit) (get_or_default assigned i f d h) ∙ e))
      | inr e ↦ is_open.0 (false_from assigned l i h (λ f. ap (λ (a : Assigned). negation_of a.lit) (get_or_default assigned i f d h) ∙ (ap negation_of e ∙ neg_neg l)))
    ]

pub levels_push : (levels : List ℕ) (assigned : List Assigned) (a : Assigned) → AreLevels levels assigned → IsOpen (falses_of assigned) a.lit → a.lit.var < length levels → AreLevels (set levels a.lit.var a.level) (assigned ++ a ∷ [])
levels_push levels assigned a are is_open in' i d h =
    elim (cases_lt i (length assigned)) [
      | inl lt ↦
          let old : get_or (assigned ++ a ∷ []) i d ≡ get_or assigned i d = get_or_append_left assigned (a ∷ []) d i lt in
          let other : (get_or assigned i d).lit.var ≡ a.lit.var → ⊥ = open_apart assigned a.lit is_open i d lt in
          rw old (get_or-set_other levels a.lit.var (get_or assigned i d).lit.var a.level 0 other ∙ are i d lt)
      | inr ge ↦
          let last : get_or (assigned ++ a ∷ []) i d ≡ a = get_or_push assigned a d i (omega (arith, length-append assigned (a ∷ []))) in
          rw last (get_or-set_same levels a.lit.var a.level 0 in')
    ]

-- where the newest of the oldest so many goes
pub cut_facts : (old now rest : List Assigned) (a : Assigned) → now ≡ rest ++ a ∷ [] → now ≡ take (length now) old → length now ≤ length old → (take (length rest) old ≡ rest) × (get_or old (length rest) a ≡ a) × (length now ≡ length rest + 1)
cut_facts old now rest a is stays few =
    let n : length now ≡ length rest + 1 = ap length is ∙ length-append rest (a ∷ []) in
    let both : take (length now) old ≡ rest ++ a ∷ [] = sym stays ∙ is in (
      sym (take-take (length rest) (length now) old (omega arith)) ∙ (ap (take (length rest)) both ∙ take_at rest (a ∷ []) (length rest) refl),
      sym (get_or-take (length now) old (length rest) a (omega arith)) ∙ (ap (λ (xs : List Assigned). get_or xs (length rest) a) both ∙ get_or_push rest a a (length rest) refl),
      n,
    )

pub levels_cut : (levels : List ℕ) (assigned : List Assigned) (count : ℕ) → AreLevels levels assigned → AreLevels levels (take count assigned)
levels_cut levels assigned count are i d h =
    let short : length (take count assigned) ≤ count = omega (arith, length-take count assigned) in
    let read : get_or (take count assigned) i d ≡ get_or assigned i d = get_or-take count assigned i d (omega (arith, h)) in
    rw read (are i d (omega (arith, h, length-take count assigned)))

pub within_held : (n vars : ℕ) (assigned : List Assigned) → n ≡ vars + 1 → All (IsVarUpTo vars) assigned → All (λ a. a.lit.var < n) assigned
within_held n vars assigned is all k d h = let low = all k d h in omega (arith, low.1)

-- the literals of a clause have marks
pub within_marks : (n vars : ℕ) (lits : List Lit) → n ≡ vars + 1 → All (λ l. l.var ≤ vars) lits → IsWithin n lits
within_marks n vars lits is all k d h = let low : (get_or lits k d).var ≤ vars = all k d h in omega (arith, low, is)
