use Rattle.std.proofs.Common.{◌≡◌, ◌<◌, length, get_or, arith, ap, sym, ◌∙◌, subst, below_more}
use Rattle.std.proofs.lemmas.List.{get_or-map, length-map}
use Rattle.std.specs.List.{Contains}
use Rattle.unit_propagation.specs.Clauses.Codes.{literal_of}
use Rattle.unit_propagation.specs.Assignments.Trail.{falses_of}
use Rattle.unit_propagation.proofs.watched_literals.walk.replacement.Goals as goal
use Rattle.unit_propagation.proofs.watched_literals.walk.replacement.Goals.{then-code-other+in-Some-false, else-code-other}

pub loop-code-preserved : goal.loop-code-preserved
loop-code-preserved c =
    elim c.if-code-other.branch [
      | then-code-other+in-Some-false w ↦ below_more _ _ c.loop-code.invariant (λ ne. let seen = rw w.in-Some-false.field-0-test at w.in-Some-false.ensures in seen.0)
      | else-code-other w ↦ below_more _ _ c.loop-code.invariant (λ ne. absurd (ne (ap literal_of w.if-code-other.false)))
    ]

pub returns : goal.returns
returns c = λ l (k, h, is) ne.
    let in' : k < length c.args.codes.now = omega (arith, length-map c.args.codes.now literal_of, c.loop-code-test.false) in
    let same : literal_of (get_or c.args.codes.now k 0) ≡ l = sym (get_or-map literal_of c.args.codes.now k 0 l in') ∙ is in
    let reached : k < c.loop-code.code-index = omega (arith, in', c.loop-code-test.false) in
    subst (Contains (falses_of c.args.now.now.assigned)) same (c.loop-code.invariant k reached (λ e. ne (sym same ∙ e)))
