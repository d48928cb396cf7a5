-- Lemmas on what a trail holds.
use Rattle.std.proofs.Common.{◌≡◌, ◌<◌, ◌≤◌, ◌+◌, ◌-◌, ◌*◌, ◌++◌, [], ◌∷◌, ℕ, Bool, true, false, Option, Some, None, List, length, get_or, take, map, arith, sym, ◌∙◌, ap, inl, inr, refl, subst, append_assoc, length-append}
use Rattle.std.proofs.lemmas.List.{append-nil, map-append}
use Rattle.std.proofs.lemmas.List.{get_or_default, take_more}
use Rattle.std.proofs.lemmas.Option.{get_or_from_slice_get}
use Rattle.std.specs.List.{Contains, slice_get}
use Rattle.cnf_core.specs.declared.literal.Lit.{Lit}
use Rattle.cnf_core.specs.Formula.{Formula}
use Rattle.unit_propagation.specs.Clauses.Codes.{literal_of}
use Rattle.unit_propagation.proofs.Clauses.Coded.{literal_of-code_of}
use Rattle.refutation_check.specs.declared.log.Step.{Step}
use Rattle.refutation_check.specs.Chain.{members_of}
use Rattle.unit_propagation.specs.declared.assignment_trail.assigned.Assigned.{Assigned}
use Rattle.unit_propagation.specs.Assignments.AssignmentState.{IsValueOf}
use Rattle.unit_propagation.specs.Assignments.Trail.{ForcesMore}
use Rattle.unit_propagation.specs.Propagation.Closed.{IsClosedBut}
use Rattle.sat_trail.specs.Closed.{IsClosed}
use Rattle.sat_trail.specs.Rounds.{IsQuiet, AreQuiet}
use Rattle.sat_trail.specs.Trailed.{Trailed, IsBase, IsValue}

-- the value of a variable is that of its positive literal
value_of_var : (falses : List Lit) (var : ℕ) (o : Option Bool) → IsValueOf falses (record { var = var; positive = true }) o → IsValue falses var o
value_of_var falses var None is_open = λ p. elim p as (λ p. Contains falses (record { var = var; positive = p }) → ⊥) [ true ↦ is_open.0 | false ↦ is_open.1 ]
value_of_var falses var (Some true) is = is.0
value_of_var falses var (Some false) is = is.0

pub value_of_code : (falses : List Lit) (var code : ℕ) (o : Option Bool) → code ≡ 2 * var + 1 → IsValueOf falses (literal_of code) o → IsValue falses var o
value_of_code falses var code o is value =
    let l : Lit = record { var = var; positive = true } in
    let same : literal_of code ≡ l = ap literal_of is ∙ literal_of-code_of l in
    value_of_var falses var o (subst (λ (k : Lit). IsValueOf falses k o) same value)

-- where no clause but a marked one is falsified or a unit, and no marked one either, all is closed
pub closed_all : (clauses : List (List Lit)) (falses : List Lit) (flags : List Bool) → IsClosedBut clauses falses flags → AreQuiet clauses falses flags → IsClosed clauses falses
closed_all clauses falses flags but quiet k d h =
    let here : IsQuiet falses (get_or clauses k []) = elim (but k h) [ inl m ↦ quiet k m | inr both ↦ both ] in
    subst (IsQuiet falses) (get_or_default clauses k [] d h) here

-- a trail that is no longer than before is the same
pub same_if_long : (old new : List Assigned) → ForcesMore old new → length new ≤ length old → new ≡ old
same_if_long old new more long = nothing more.more more.added
  where
    nothing : (rest : List Assigned) → new ≡ old ++ rest → new ≡ old
    nothing [] is = is ∙ append-nil old
    nothing (a ∷ rest) is = let n : length new ≡ length old + length (a ∷ rest) = ap length is ∙ length-append old (a ∷ rest) in absurd (omega (arith, n, long))

pub more_long : (old new : List Assigned) → ForcesMore old new → length old ≤ length new
more_long old new more = let n : length new ≡ length old + length more.more = ap length more.added ∙ length-append old more.more in omega (arith, n)

-- one clause more is put in
abbrev pub with_clauses : Trailed → List (List Lit) → Trailed
with_clauses t clauses = record { vars = t.vars; clauses = clauses; assigned = t.assigned }

pub filled_more : (first now new : Trailed) (done more : List (List Lit)) (c : List Lit) → now ≡ with_clauses first (first.clauses ++ done) → new ≡ with_clauses now (now.clauses ++ c ∷ []) → done ++ c ∷ [] ≡ more → new ≡ with_clauses first (first.clauses ++ more)
filled_more first now new done more c was is next =
    is ∙ (ap (λ (t : Trailed). with_clauses t (t.clauses ++ c ∷ [])) was ∙ ap (with_clauses first) (append_assoc first.clauses done (c ∷ []) ∙ ap (λ (xs : List (List Lit)). first.clauses ++ xs) next))

-- the given clauses, the local ones and those of the steps are put in
pub filled_all : (vars : ℕ) (first second third last : Trailed) (clauses local : List (List Lit)) (steps : List Step) → first ≡ record { vars = vars; clauses = []; assigned = [] } → second ≡ with_clauses first (first.clauses ++ clauses) →
    third ≡ with_clauses second (second.clauses ++ local) → last ≡ with_clauses third (third.clauses ++ map (λ s. s.clause) steps) → last ≡ record { vars = vars; clauses = members_of (clauses ++ local) steps; assigned = [] }
filled_all vars first second third last clauses local steps one two three four =
    let put : List (List Lit) → Trailed → Trailed = λ more t. with_clauses t (t.clauses ++ more) in
    four ∙ ap (put (map (λ (s : Step). s.clause) steps)) (three ∙ ap (put local) (two ∙ ap (put clauses) one))

pub next_is : {X : Type 0} (f : X → List Lit) (xs : List X) (i : ℕ) (x : X) → i < length xs → x ≡ get_or xs i x → map f (take i xs) ++ f x ∷ [] ≡ map f (take (i + 1) xs)
next_is {X = X} f xs i x h is = sym (map-append f (take i xs) (x ∷ [])) ∙ ap (map f) (ap (λ (y : X). take i xs ++ y ∷ []) is ∙ sym (take_more xs i x h))

pub next_clause : (clauses : List (List Lit)) (i : ℕ) (c : List Lit) → i < length clauses → c ≡ get_or clauses i c → take i clauses ++ c ∷ [] ≡ take (i + 1) clauses
next_clause clauses i c h is = ap (λ (x : List Lit). take i clauses ++ x ∷ []) is ∙ sym (take_more clauses i c h)

pub named_is : (clauses : List (List Lit)) (i : ℕ) (c : List Lit) → slice_get clauses ((i + 1) - 1) ≡ Some c → c ≡ get_or clauses i c
named_is clauses i c is =
    let back : (i + 1) - 1 ≡ i = omega arith in
    sym (get_or_from_slice_get clauses i c c (ap (slice_get clauses) (sym back) ∙ is))

pub steps_long : (extra : List Step) → length (map (λ (s : Step). s.clause) extra) ≡ length extra
steps_long [] = refl
steps_long (s ∷ ss) = let e = steps_long ss in omega (arith, e)

-- what a trail is behind a base, with the local clauses and those of the steps
pub record Grown (f : Formula) (base last : Trailed) (local : List (List Lit)) (steps : List Step) : Type 0 where
  pub clauses_are : last.clauses ≡ members_of (f.clauses ++ local) steps
  pub vars_are : last.vars ≡ base.vars
  pub none : last.assigned ≡ []

-- the local clauses and those of the steps are put behind those of a formula
pub grown_all : (f : Formula) (base first second last : Trailed) (local : List (List Lit)) (steps : List Step) → IsBase f base → first ≡ base → second ≡ with_clauses first (first.clauses ++ local)
    → last ≡ with_clauses second (second.clauses ++ map (λ s. s.clause) steps) → Grown f base last local steps
grown_all f base first second last local steps is one two three =
    let clauses_of : Trailed → List (List Lit) = λ t. t.clauses in
    let vars_of : Trailed → ℕ = λ t. t.vars in
    let assigned_of : Trailed → List Assigned = λ t. t.assigned in
    let start : first.clauses ≡ f.clauses = ap clauses_of one ∙ is.clauses_are in
    let middle : second.clauses ≡ f.clauses ++ local = ap clauses_of two ∙ ap (λ (cs : List (List Lit)). cs ++ local) start in
    record {
      clauses_are = ap clauses_of three ∙ ap (λ (cs : List (List Lit)). cs ++ map (λ (s : Step). s.clause) steps) middle;
      vars_are = ap vars_of three ∙ (ap vars_of two ∙ ap vars_of one);
      none = ap assigned_of three ∙ (ap assigned_of two ∙ (ap assigned_of one ∙ is.none));
    }
