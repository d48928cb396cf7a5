use Rattle.std.proofs.Common.{◌≤◌, List, false, get_or, subst, arith}
use Rattle.std.proofs.lemmas.List.{get_or_default}
use Rattle.tuple_core.proofs.Steps.{all_step, all_done}
use Rattle.cnf_core.specs.declared.literal.Lit.{Lit}
use Rattle.cnf_core.specs.Literal.{HasVarsUpTo}
use Rattle.session_state.proofs.search_rounds.comparing.is_over.Goals as goal

pub loop-lit-preserved : goal.loop-lit-preserved
loop-lit-preserved c =
    let xs : List Lit = c.lits-lit-items.result.now in
    let i = c.loop-lit.lit-index in
    let d : Lit = record { var = 0; positive = false } in
    let x : Lit = get_or xs i d in
    let l = c.loop-lit-test.true in
    all_step (λ (lit : Lit). lit.var ≤ c.args.vars) xs i x l (get_or_default xs i d x l) c.loop-lit.invariant (omega arith)

pub returns : goal.returns
returns c = λ t.
    let xs : List Lit = c.lits-lit-items.result.now in
    let all = all_done (λ (lit : Lit). lit.var ≤ c.args.vars) xs c.loop-lit.lit-index (omega arith) c.loop-lit.invariant in
    subst (HasVarsUpTo c.args.vars) c.lits-lit-items.ensures.lits all
