use Rattle.std.proofs.Common.{◌++◌, ◌∙◌, ℕ, List, length, max, arith, ap}
use Rattle.cnf_core.specs.declared.literal.Lit.{Lit}
use Rattle.unit_propagation.specs.declared.assignment_trail.assigned.Assigned.{Assigned}
use Rattle.sat_trail.specs.Trailed.{Trailed}
use Rattle.sat_trail.proofs.trail.Trail.over.Goals as goal

pub fill_from-requires-clause-vars : goal.fill_from-requires-clause-vars
fill_from-requires-clause-vars c = omega (arith, ap (λ (t : Trailed). t.vars) c.in_ok-trail.ensures, c.vars.ensures.vars, c.max.ensures)

pub fill_from-requires-clause-few : goal.fill_from-requires-clause-few
fill_from-requires-clause-few c = omega (arith, ap (λ (t : Trailed). length t.clauses) c.in_ok-trail.ensures, c.vars.ensures.formula.few)

pub returns-clause-base : goal.returns-clause-base
returns-clause-base c =
    let f = c.args.f.now in
    let vars_of : Trailed → ℕ = λ t. t.vars in
    let clauses_of : Trailed → List (List Lit) = λ t. t.clauses in
    let assigned_of : Trailed → List Assigned = λ t. t.assigned in
    record {
      clauses_are = ap clauses_of c.in_ok-fill_from.ensures ∙ ap (λ (t : Trailed). t.clauses ++ f.clauses) c.in_ok-trail.ensures;
      enough = omega (arith, ap vars_of c.in_ok-fill_from.ensures, ap vars_of c.in_ok-trail.ensures, c.vars.ensures.vars, c.max.ensures);
      none = ap assigned_of c.in_ok-fill_from.ensures ∙ ap assigned_of c.in_ok-trail.ensures;
    }

pub returns-clause-vars : goal.returns-clause-vars
returns-clause-vars c =
    let vars_of : Trailed → ℕ = λ t. t.vars in
    ap vars_of c.in_ok-fill_from.ensures ∙ (ap vars_of c.in_ok-trail.ensures ∙ (c.max.ensures ∙ ap (max c.args.vars) c.vars.ensures.vars))
