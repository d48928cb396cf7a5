-- Trails on which cells are made present in turn.
use Rattle.std.proofs.Common.{◌≡◌, ◌≤◌, ◌+◌, ◌-◌, [], ℕ, Bool, not, List, length, All, Contains, refl, sym, subst, arith}
use Rattle.cnf_core.specs.declared.literal.Lit.{Lit}
use Rattle.cnf_core.specs.Literal.{negation_of}
use Rattle.refutation_check.specs.Assumed.{IsOpen}
use Rattle.unit_propagation.specs.Assignments.Trail.{IsTrail, falses_of}
use Rattle.unit_propagation.proofs.Assignments.Trails.{neg_neg}
use Rattle.sat_trail.specs.Trailed.{Trailed}
use Rattle.sat_core.specs.Answers.{IsModel}
use Rattle.sat_core.specs.Lent.{with_units}
use Rattle.sat_core.specs.Search.{IsFound, IsVarIn}
use Rattle.sat_core.proofs.Searches.{found_model, searching_from, standing_at_none}
use Rattle.minimiser.specs.Lowering.{HasValue}

-- a literal is open where its opposite is
pub open_other : (falses : List Lit) (lit : Lit) → IsOpen falses lit → IsOpen falses (negation_of lit)
open_other falses lit is = (is.1, subst (λ (l : Lit). Contains falses l → ⊥) (sym (neg_neg lit)) is.0)

-- a literal that is true gives its variable a value
pub value_behind : (trail : Trailed) (lit : Lit) → 1 ≤ lit.var → Contains (falses_of trail.assigned) (negation_of lit) → HasValue trail (lit.var - 1) lit.positive
value_behind trail lit low h =
    let same : lit.var ≡ lit.var - 1 + 1 = omega arith in
    subst (λ (n : ℕ). Contains (falses_of trail.assigned) (record { var = n; positive = not lit.positive })) same h

-- the values of a trail where each variable has one satisfy the clauses, and what was assumed
pub filled_model : (vars : ℕ) (clauses : List (List Lit)) (assumed : List Lit) (trail : Trailed) (values : List Bool) → trail.clauses ≡ clauses → trail.vars ≡ vars → IsTrail trail.clauses trail.assigned → All (IsVarIn vars) assumed → IsFound trail assumed values →
    (length values ≡ vars) × IsModel vars (with_units clauses assumed) values
filled_model vars clauses assumed trail values same same_vars ordered in_range found =
    let start : Trailed = record { vars = vars; clauses = clauses; assigned = [] } in
    let was = searching_from assumed 0 start [] refl in_range (standing_at_none assumed start refl) in
    found_model clauses vars assumed 0 start [] was trail same same_vars ordered values found
