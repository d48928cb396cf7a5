-- Where a literal that is false has another one true, at no higher level.
use Rattle.std.proofs.Common.{◌≡◌, ◌<◌, ◌≤◌, ◌/◌, ℕ, List, length, get_or, arith, sym, ◌∙◌, ap}
use Rattle.std.specs.List.{Contains}
use Rattle.cnf_core.specs.declared.literal.Lit.{Lit}
use Rattle.cnf_core.specs.Literal.{negation_of}
use Rattle.unit_propagation.specs.Clauses.Codes.{literal_of}
use Rattle.unit_propagation.specs.declared.assignment_trail.assigned.Assigned.{Assigned}
use Rattle.unit_propagation.specs.Assignments.Trail.{falses_of}
use Rattle.unit_propagation.proofs.Assignments.Trails.{neg_neg, false_from, from_falses}
use Rattle.sat_trail.specs.Settling.{IsHeldUp}

-- a literal that is not false
pub held_up_free : (assigned : List Assigned) (code other : ℕ) → (Contains (falses_of assigned) (literal_of code) → ⊥) → IsHeldUp assigned code other
held_up_free assigned code other free i h is = absurd (free (false_from assigned (literal_of code) i h is))

-- the level that is kept of a literal
abbrev pub IsLevelOf : List Assigned → ℕ → ℕ → Type 0
IsLevelOf assigned code level = (i : ℕ) (d : Assigned) → i < length assigned → (get_or assigned i d).lit.var ≡ code / 2 → level ≡ (get_or assigned i d).level

negation_back : (k l : Lit) → negation_of k ≡ negation_of l → k ≡ l
negation_back k l e = sym (neg_neg k) ∙ (ap negation_of e ∙ neg_neg l)

-- the other one is true, at no higher level
pub held_up_true : (assigned : List Assigned) (code other low high : ℕ) → Contains (falses_of assigned) (negation_of (literal_of other)) → IsLevelOf assigned other low → IsLevelOf assigned code high → low ≤ high → IsHeldUp assigned code other
held_up_true assigned code other low high is_true low_is high_is le i h is =
    let found = from_falses assigned (negation_of (literal_of other)) is_true in
    let same : (d : Assigned) → (get_or assigned found.0 d).lit ≡ literal_of other = λ d. negation_back (get_or assigned found.0 d).lit (literal_of other) (found.2 d) in (
      found.0,
      found.1,
      same,
      λ d.
          let there : low ≡ (get_or assigned found.0 d).level = low_is found.0 d found.1 (ap (λ (l : Lit). l.var) (same d)) in
          let here : high ≡ (get_or assigned i d).level = high_is i d h (ap (λ (l : Lit). l.var) (is d)) in
          omega (arith, there, here, le),
    )
