-- What the marks of variables say of a trail.
use Rattle.std.proofs.Common.{◌≡◌, ◌<◌, ◌+◌, ◌++◌, [], ◌∷◌, ℕ, Bool, not, cond, Option, Some, None, List, length, get_or, set, arith, sym, ◌∙◌, ap, inl, inr, subst, length-set, get_or-set_other, get_or-set_same}
use Rattle.std.proofs.lemmas.Bool.{cases_eq}
use Rattle.std.proofs.lemmas.List.Elements.{Contains-push_cases, Contains-append_left, Contains-push}
use Rattle.std.proofs.lemmas.List.Sums.{sum_by-set}
use Rattle.std.specs.List.{Contains, sum_by, count_by}
use Rattle.std.specs.Option.{is_none}
use Rattle.cnf_core.specs.declared.literal.Lit.{Lit}
use Rattle.cnf_core.specs.Literal.{negation_of}
use Rattle.cnf_core.proofs.Literals.{not_itself}
use Rattle.refutation_check.specs.Marks.{Marks}
use Rattle.refutation_check.specs.Assumed.{IsOpen}
use Rattle.refutation_check.proofs.Sights.{Marks-push, lit_cases, not_not}
use Rattle.unit_propagation.proofs.Assignments.Trails.{neg_neg}

-- one more literal is true
pub Marks-true : (marks : List (Option Bool)) (falses : List Lit) (l : Lit) → Marks marks falses → IsOpen falses l → l.var < length marks → Marks (set marks l.var (Some l.positive)) (falses ++ negation_of l ∷ [])
Marks-true marks falses l marked is_open in' =
    let opposite : IsOpen falses (negation_of l) = (is_open.1, λ h. is_open.0 (subst (Contains falses) (neg_neg l) h)) in
    subst (λ (value : Bool). Marks (set marks l.var (Some value)) (falses ++ negation_of l ∷ [])) (not_not l.positive) (Marks-push marks falses (negation_of l) marked opposite in')

-- no literal is false with its opposite
pub marks_consistent : (marks : List (Option Bool)) (falses : List Lit) → Marks marks falses → (l : Lit) → l.var < length marks → Contains falses l → Contains falses (negation_of l) → ⊥
marks_consistent marks falses marked l in' here there =
    let a : get_or marks l.var None ≡ Some (not l.positive) = (marked l in').1 here in
    let b : get_or marks l.var None ≡ Some (not (not l.positive)) = (marked (negation_of l) in').1 there in
    let both : Some (not l.positive) ≡ Some (not (not l.positive)) = sym a ∙ b in
    let signs : not l.positive ≡ not (not l.positive) = cc in
    not_itself (not l.positive) signs

-- the newest literal is undone
pub Marks-unset : (marks : List (Option Bool)) (falses : List Lit) (l : Lit) → Marks marks (falses ++ negation_of l ∷ []) → IsOpen falses l → l.var < length marks → Marks (set marks l.var None) falses
Marks-unset marks falses l marked is_open in' k within =
    let in_marks : k.var < length marks = rw length-set at within in
    elim (cases_eq k.var l.var) [
      | inl same ↦
          let read : get_or (set marks l.var None) k.var None ≡ None = ap (λ (i : ℕ). get_or (set marks l.var None) i None) same ∙ get_or-set_same marks l.var None None in' in (
            λ h. let e : None ≡ Some (not k.positive) = sym read ∙ h in absurd cc,
            λ c. elim (lit_cases k l same) [
              | inl one ↦ absurd (is_open.0 (subst (Contains falses) one c))
              | inr one ↦ absurd (is_open.1 (subst (Contains falses) one c))
            ],
          )
      | inr other ↦
          let read : get_or (set marks l.var None) k.var None ≡ get_or marks k.var None = get_or-set_other marks l.var k.var None None other in (
            λ h. elim (Contains-push_cases falses (negation_of l) k ((marked k in_marks).0 (sym read ∙ h))) [
              | inl c ↦ c
              | inr one ↦ absurd (other (ap (λ (x : Lit). x.var) (sym one)))
            ],
            λ c. read ∙ (marked k in_marks).1 (Contains-append_left falses (negation_of l ∷ []) k c),
          )
    ]

pub count_unmarked : (marks : List (Option Bool)) (falses : List Lit) (l : Lit) → Marks marks (falses ++ negation_of l ∷ []) → l.var < length marks → count_by is_none (set marks l.var None) ≡ count_by is_none marks + 1
count_unmarked marks falses l marked in' =
    let f : Option Bool → ℕ = λ o. cond (is_none o) 1 0 in
    let is : get_or marks l.var None ≡ Some (not (not l.positive)) = (marked (negation_of l) in').1 (Contains-push falses (negation_of l)) in
    let e : sum_by f (set marks l.var None) + f (get_or marks l.var None) ≡ sum_by f marks + f None = sum_by-set f marks l.var None None in' in
    let g : f (get_or marks l.var None) ≡ 0 = ap f is in
    omega (arith, e, g)
