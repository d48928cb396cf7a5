use Rattle.std.proofs.Common.{◌≡◌, ◌≤◌, Option, Some, None, List, All, IfSome, sym}
use Rattle.cnf_core.specs.declared.literal.Lit.{Lit}
use Rattle.cnf_core.specs.Literal.{HasSameLiterals, HasVarsUpTo}
use Rattle.cnf_core.proofs.SameLiterals.{All-same}
use Rattle.bench.proofs.refutations.implication.Goals as goal

few_vars : (made : Option (List Lit)) (lits : List Lit) → IfSome made (HasSameLiterals lits) → All (λ (l : Lit). l.var ≤ 1020) lits → IfSome made (HasVarsUpTo 1020)
few_vars None lits same few = same
few_vars (Some clause) lits same few = All-same (λ (l : Lit). l.var ≤ 1020) lits clause same few

pub returns : goal.returns
returns c =
    let few : All (λ (l : Lit). l.var ≤ 1020) c.as_slice.result.now = rw c.as_slice.ensures.value (λ k d h. (c.loop-i.invariant k d h).1) in
    few_vars c.in_ok-of.field-0 c.as_slice.result.now c.in_ok-of.ensures.same few
