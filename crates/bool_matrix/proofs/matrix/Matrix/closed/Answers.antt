use Rattle.std.proofs.Common.{List, length, Contains, ◌≡◌, suc, ◌+◌, ◌*◌, ◌≤◌, sym, ap, subst, arith}
use Rattle.bool_circuit.proofs.CallerLemmas.{Extends-trans}
use Rattle.bool_circuit.proofs.Values.{Extends-refl}
use Rattle.bool_matrix.specs.Cells.{Cells, IsCells, ThereIn, TrueIn, IsMatrixOf}
use Rattle.bool_matrix.specs.Closure.{Short, reach}
use Rattle.bool_matrix.specs.Terms.{tuples}
use Rattle.std.proofs.Math.Nat.{mul-le-mul_right}
use Rattle.tuple_core.specs.declared.atom.Atom.{Atom}
use Rattle.tuple_core.specs.Operators.{Closed}
use Rattle.bool_matrix.proofs.DistinctLists.{there_tuple}
use Rattle.bool_matrix.proofs.JoiningPairs.{all_behind, all_length, meetings_there}
use Rattle.bool_matrix.proofs.Squares.{halved, few_reached, closure_start, closure_step, closure_end, squared_cost}
use Rattle.bool_matrix.proofs.matrix.Matrix.closed.Goals as goal

pub loop-step-init : goal.loop-step-init
loop-step-init c =
    let old = c.args.circuit.now in
    let self = c.args.self.now in
    record {
      extends = Extends-refl old;
      is = subst (λ (m : Cells). IsMatrixOf old m 2 (λ s. Short (TrueIn old self s) (reach 0)) (Short (ThereIn self) (reach 0))) (sym c.in_ok-walks.ensures) (closure_start old self c.entries.ensures.well c.requires.arity c.requires.of);
      few = omega arith;
      size = λ rows has. omega arith;
    }

pub squared-requires-clause-room : goal.squared-requires-clause-room
squared-requires-clause-room c =
    let room = c.requires.room in
    let cost = squared_cost c.args.circuit.now c.args.self.now c.entries.ensures.well c.requires.arity c.loop-step.circuit c.loop-step.walks c.loop-step.step (subst IsCells c.walks.view_is c.walks.invariant) c.loop-step.invariant.is room.0 room.1 in
    let so_far = c.loop-step.invariant.size room.0 room.1 in
    let most = mul-le-mul_right (2 * length room.0) (let t = c.loop-step-test.true in let h : c.loop-step.step + 1 ≤ 6 = omega arith in h) in
    omega (arith, cost, so_far, most, room.2)

pub loop-step-preserved : goal.loop-step-preserved
loop-step-preserved c =
    let old = c.args.circuit.now in
    let self = c.args.self.now in
    record {
      extends = Extends-trans old c.loop-step.circuit c.squared.new.circuit c.loop-step.invariant.extends c.squared.ensures.extends;
      is = closure_step old self c.entries.ensures.well c.requires.arity c.loop-step.circuit c.squared.new.circuit c.loop-step.walks c.in_ok-walks-2.walks c.loop-step.step c.loop-step.invariant.is c.in_ok-walks-2.ensures.is;
      few =
          let next : reach (c.loop-step.step + 1) ≡ reach c.loop-step.step + reach c.loop-step.step = ap reach (let e : c.loop-step.step + 1 ≡ suc c.loop-step.step = omega arith in e) in
          halved c.first_count-left.result (reach c.loop-step.step) (reach (c.loop-step.step + 1)) c.loop-step.left c.loop-step.invariant.few next;
      size = λ rows has.
          let cost = squared_cost old self c.entries.ensures.well c.requires.arity c.loop-step.circuit c.loop-step.walks c.loop-step.step (subst IsCells c.walks.view_is c.walks.invariant) c.loop-step.invariant.is rows has in
          omega (arith, cost, c.loop-step.invariant.size rows has, c.in_ok-walks-2.ensures.size);
    }

pub returns-clause-is : goal.returns-clause-is
returns-clause-is c =
    let old = c.args.circuit.now in
    let self = c.args.self.now in
    let six : c.loop-step.step ≡ 6 = (let t = c.loop-step-test.false in let b = c.loop-step.auto.step-end in omega arith) in
    closure_end old self c.entries.ensures.well c.requires.arity c.loop-step.circuit c.loop-step.walks 6 c.requires.atoms
    (subst (λ n. IsMatrixOf c.loop-step.circuit c.loop-step.walks 2 (λ s. Short (TrueIn old self s) (reach n)) (Short (ThereIn self) (reach n))) six c.loop-step.invariant.is)

pub returns-clause-size : goal.returns-clause-size
returns-clause-size c =
    let m = c.loop-step.walks in
    let is = returns-clause-is c in
    let rows = all_behind (tuples m) (tuples m) in
    let all : (t : List Atom) → Closed (ThereIn c.args.self.now) t → Contains (tuples m) t = λ t h. there_tuple m t (is.there.back t h) in
    let so_far = c.loop-step.invariant.size rows (meetings_there (Closed (ThereIn c.args.self.now)) (Closed (ThereIn c.args.self.now)) (tuples m) (tuples m) all all) in
    let most = mul-le-mul_right (2 * length rows) c.loop-step.auto.step-end in
    omega (arith, so_far, most, all_length (tuples m) (tuples m))

pub returns-then-left-le1-clause-is : goal.returns-then-left-le1-clause-is
returns-then-left-le1-clause-is c =
    closure_end c.args.circuit.now c.args.self.now c.entries.ensures.well c.requires.arity c.loop-step.circuit c.loop-step.walks c.loop-step.step
    (few_reached (ThereIn c.args.self.now) c.first_count-left.result (reach c.loop-step.step) c.loop-step.left c.first_count-left.ensures c.loop-step.invariant.few c.if-left-le1.true) c.loop-step.invariant.is

pub returns-then-left-le1-clause-size : goal.returns-then-left-le1-clause-size
returns-then-left-le1-clause-size c =
    let m = c.loop-step.walks in
    let is = returns-then-left-le1-clause-is c in
    let rows = all_behind (tuples m) (tuples m) in
    let all : (t : List Atom) → Closed (ThereIn c.args.self.now) t → Contains (tuples m) t = λ t h. there_tuple m t (is.there.back t h) in
    let so_far = c.loop-step.invariant.size rows (meetings_there (Closed (ThereIn c.args.self.now)) (Closed (ThereIn c.args.self.now)) (tuples m) (tuples m) all all) in
    let most = mul-le-mul_right (2 * length rows) c.loop-step.auto.step-end in
    omega (arith, so_far, most, all_length (tuples m) (tuples m))
