use Rattle.std.proofs.Common.{◌≡◌, true, false, ℕ, List, Contains, refl, sym, subst, arith}
use Rattle.rel_formula.specs.Bounds.{Bounded}
use Rattle.rel_formula.specs.Instance.{IsMinimalAbove}
use Rattle.rel_formula.specs.Renaming.{IsRenamingBeside}
use Rattle.swap_symmetry.specs.Swaps.{IsSettledBeside}
use Rattle.session_rules.specs.Proofs.{IsCopy}
use Rattle.session_state.proofs.search_rounds.due.due_or_copy.Goals as goal

-- a scenario that isn't settled, and its settled renaming, which was shown
copy_of : (p : Bounded) (floor : List ℕ) (shown : List (List ℕ)) (s copied settled : List ℕ) → IsMinimalAbove p floor s → (¬ IsSettledBeside p floor s) → copied ≡ s → IsRenamingBeside p floor copied settled →
    Contains shown settled → IsCopy p floor shown s
copy_of p floor shown s copied settled minimal unsettled same renaming there = record {
  minimal = minimal;
  unsettled = unsettled;
  renamed = (settled, there, subst (λ (x : List ℕ). IsRenamingBeside p floor x settled) same renaming);
}

pub returns-then-is_settled_by : goal.returns-then-is_settled_by
returns-then-is_settled_by c = (refl, (record { minimal = c.requires.minimal; settled = c.is_settled_by.ensures.0 c.if-is_settled_by.true }, c.requires.new))

pub returns-then-not-is_among : goal.returns-then-not-is_among
returns-then-not-is_among c = (
  refl,
  (
    record {
      minimal = c.settle_by.ensures.minimal (subst (IsMinimalAbove c.args.problem.now c.args.floor.now) (sym c.in_ok-settled.ensures) c.requires.minimal);
      settled = c.settle_by.ensures.settled;
    },
    λ there. absurd (let t = c.is_among.ensures.1 there in let f = c.if-not-is_among.true in cc),
  ),
)

pub returns-then-left-eq0 : goal.returns-then-left-eq0
returns-then-left-eq0 c =
    let unsettled : ¬ IsSettledBeside c.args.problem.now c.args.floor.now c.args.scenario = λ is. absurd (let t = c.is_settled_by.ensures.1 is in let f = c.if-is_settled_by.false in cc) in
    let there = c.is_among.ensures.0 c.if-not-is_among.false in
    let copy = copy_of c.args.problem.now c.args.floor.now c.args.shown.now c.args.scenario _ c.settle_by.new.scenario c.requires.minimal unsettled c.in_ok-settled.ensures c.settle_by.ensures.renaming there in
    (refl, (copy, omega arith))

pub returns : goal.returns
returns c =
    let unsettled : ¬ IsSettledBeside c.args.problem.now c.args.floor.now c.args.scenario = λ is. absurd (let t = c.is_settled_by.ensures.1 is in let f = c.if-is_settled_by.false in cc) in
    let there = c.is_among.ensures.0 c.if-not-is_among.false in
    let copy = copy_of c.args.problem.now c.args.floor.now c.args.shown.now c.args.scenario _ c.settle_by.new.scenario c.requires.minimal unsettled c.in_ok-settled.ensures c.settle_by.ensures.renaming there in
    (refl, (refl, copy, omega arith))
