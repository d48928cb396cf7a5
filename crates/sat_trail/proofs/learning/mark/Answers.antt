use Rattle.std.proofs.Common.{◌≡◌, ◌<◌, ◌+◌, List, true, false, get_or, set, take, length, arith, ap, subst, length-set}
use Rattle.std.proofs.lemmas.List.{get_or-map, length-map, take_all}
use Rattle.cnf_core.specs.declared.literal.Lit.{Lit}
use Rattle.unit_propagation.specs.Clauses.Codes.{literal_of, literals_of}
use Rattle.sat_trail.specs.Learning.{Marking}
use Rattle.sat_trail.proofs.Learned.{Marking-more}
use Rattle.sat_trail.proofs.learning.mark.Goals as goal

pub index_mut-requires : goal.index_mut-requires
index_mut-requires c =
    let d : Lit = record { var = 0; positive = false } in
    let lits : List Lit = literals_of c.args.codes.now in
    let in' : c.loop-code.code-index < length lits = omega (arith, c.loop-code-test.true, length-map c.args.codes.now literal_of) in
    let at : get_or lits c.loop-code.code-index d ≡ literal_of (get_or c.args.codes.now c.loop-code.code-index 0) = get_or-map literal_of c.args.codes.now c.loop-code.code-index 0 d c.loop-code-test.true in
    let low = c.requires c.loop-code.code-index d in' in
    omega (arith, low, ap (λ (l : Lit). l.var) at, c.loop-code.invariant.long)

pub loop-code-preserved : goal.loop-code-preserved
loop-code-preserved c =
    let d : Lit = record { var = 0; positive = false } in
    let lits : List Lit = literals_of c.args.codes.now in
    let in' : c.loop-code.code-index < length lits = omega (arith, c.loop-code-test.true, length-map c.args.codes.now literal_of) in
    let at : get_or lits c.loop-code.code-index d ≡ literal_of (get_or c.args.codes.now c.loop-code.code-index 0) = get_or-map literal_of c.args.codes.now c.loop-code.code-index 0 d c.loop-code-test.true in
    let low = c.requires c.loop-code.code-index d in' in
    record {
      marking = subst (λ (l : Lit). Marking c.args.seen.now.items (set c.loop-code.seen.items l.var true) (take (c.loop-code.code-index + 1) lits)) at
          (Marking-more _ _ lits c.loop-code.code-index d in' (omega (arith, low, c.loop-code.invariant.long)) c.loop-code.invariant.marking);
      long = simp length-set c.loop-code.invariant.long;
    }

pub returns-clause-marking : goal.returns-clause-marking
returns-clause-marking c =
    let lits : List Lit = literals_of c.args.codes.now in
    let all : take c.loop-code.code-index lits ≡ lits = take_all c.loop-code.code-index lits (omega (arith, c.loop-code-test.false, length-map c.args.codes.now literal_of)) in
    subst (λ (ls : List Lit). Marking c.args.seen.now.items c.loop-code.seen.items ls) all c.loop-code.invariant.marking
