use Rattle.std.proofs.Common.{◌≡◌, ◌<◌, ◌∙◌, ℕ, arith, ap, get_or, length, subst, sym}
use Rattle.cnf_core.specs.declared.literal.Lit.{Lit}
use Rattle.unit_propagation.specs.declared.assignment_trail.assigned.Assigned.{Assigned}
use Rattle.unit_propagation.specs.Assignments.AssignmentState.{IsValueOf}
use Rattle.unit_propagation.specs.Assignments.Trail.{falses_of}
use Rattle.sat_trail.proofs.Heights.{open_from, valued_most}
use Rattle.sat_trail.proofs.Waiting.{open_value}
use Rattle.sat_trail.proofs.levels.level_or_next.Goals as goal

pub returns-then-is_none-clause-from : goal.returns-then-is_none-clause-from
returns-then-is_none-clause-from c =
    let falses = falses_of c.args.now.now.assigned in
    let value : IsValueOf falses c.args.lit c.value.result = subst (λ (l : Lit). IsValueOf falses l c.value.result) c.code_of-code.ensures.literal c.value.ensures in
    open_from c.args.now.now.assigned c.args.lit c.args.next (open_value falses c.args.lit c.value.result c.is_none.result value c.is_none.ensures c.if-is_none.true)

pub returns : goal.returns
returns c =
    let xs = c.args.now.now.assigned in
    let value : IsValueOf (falses_of xs) c.args.lit c.value.result = subst (λ (l : Lit). IsValueOf (falses_of xs) l c.value.result) c.code_of-code.ensures.literal c.value.ensures in
    let of : (i : ℕ) (d : Assigned) → i < length xs → (get_or xs i d).lit.var ≡ c.args.lit.var → c.level_of.result ≡ (get_or xs i d).level =
    λ i d h var. c.level_of.ensures i d h (var ∙ sym (ap (λ (l : Lit). l.var) c.code_of-code.ensures.literal)) in
    let most = valued_most xs c.args.lit c.level_of.result c.args.next c.value.result c.is_none.result value c.is_none.ensures c.if-is_none.false of c.requires.above in
    record {
      from = λ i d h var. let e = of i d h var in omega (arith, e);
      within = omega (arith, most.0);
      highest = λ level low from. most.1 level from;
    }
