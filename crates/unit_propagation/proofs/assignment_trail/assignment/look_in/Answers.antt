use Rattle.std.proofs.Common.{◌≡◌, arith, sym, refl, length}
use Rattle.std.proofs.lemmas.List.{length-map}
use Rattle.refutation_check.proofs.Sights.{seen_one}
use Rattle.unit_propagation.specs.Clauses.Codes.{literal_of, literals_of}
use Rattle.unit_propagation.proofs.Assignments.Holding.{beq_same}
use Rattle.unit_propagation.proofs.Assignments.Looks.{looked_within, looked_true, looked_second, looked_first, looked_false}
use Rattle.unit_propagation.proofs.assignment_trail.assignment.look_in.Goals as goal
use Rattle.unit_propagation.proofs.assignment_trail.assignment.look_in.Goals.{in-Some+else-value-lit, in-None-2}

pub bounds : goal.bounds
bounds c = looked_within c.args.marks.now c.args.codes.now c.loop-code.code-index _ c.literal_of-lit.result c.loop-code-test.true refl c.literal_of-lit.ensures c.requires.in_range

pub returns-in-Some : goal.returns-in-Some
returns-in-Some c = looked_true c.args.marks.now c.args.codes.now c.loop-code.code-index _ c.literal_of-lit.result c.loop-code-test.true refl c.literal_of-lit.ensures c.in-Some.value c.in-Some.is (beq_same _ _ c.if-value-lit.true)

pub returns-in-Some-open : goal.returns-in-Some-open
returns-in-Some-open c =
    let all : c.loop-code.code-index ≡ length (literals_of c.args.codes.now) = omega (arith, c.loop-code-test.false, c.loop-code.auto.code-index-end, length-map c.args.codes.now literal_of) in
    seen_one c.args.marks.now (literals_of c.args.codes.now) c.loop-code.code-index c.in-Some-open.lit all (rw c.in-Some-open.is at c.loop-code.invariant)

pub returns-in-None : goal.returns-in-None
returns-in-None c = looked_second c.args.marks.now c.args.codes.now c.loop-code.code-index _ c.literal_of-lit.result c.loop-code-test.true refl c.literal_of-lit.ensures _ c.requires.clause c.loop-code.invariant (sym c.if-is_some.ensures) c.in-None.is

pub loop-code-preserved : goal.loop-code-preserved
loop-code-preserved c =
    elim c.match-marks-lit.branch [
      | in-Some+else-value-lit w ↦ rw w.open-is (looked_false c.args.marks.now c.args.codes.now c.loop-code.code-index _ c.literal_of-lit.result c.loop-code-test.true refl c.literal_of-lit.ensures _ w.in-Some.value c.loop-code.invariant w.in-Some.is w.if-value-lit.false)
      | in-None-2 w ↦ rw w.open-is (looked_first c.args.marks.now c.args.codes.now c.loop-code.code-index _ c.literal_of-lit.result c.loop-code-test.true refl c.literal_of-lit.ensures _ c.loop-code.invariant (sym w.if-is_some.ensures) w.in-None.is)
    ]
