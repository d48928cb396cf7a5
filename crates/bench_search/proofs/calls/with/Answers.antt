use Rattle.std.proofs.Common.{◌++◌, ◌∷◌, [], List, take, ap, sym, ◌∙◌}
use Rattle.cnf_core.specs.declared.literal.Lit.{Lit}
use Rattle.cnf_core.specs.Formula.{Formula}
use Rattle.sat_core.proofs.Numbers.{taken}
use Rattle.bench_search.proofs.calls.with.Goals as goal

pub loop-i-preserved : goal.loop-i-preserved
loop-i-preserved c =
    let clauses = c.args.f.now.clauses in
    let ok = c.in_ok-push.ensures.ok in
    record {
      vars = ap (λ (f : Formula). f.vars) ok ∙ c.loop-i.invariant.vars;
      clauses =
          ap (λ (f : Formula). f.clauses) ok
          ∙ ap (λ (cs : List (List Lit)). cs ++ c.in_ok-copy.field-0 ∷ []) c.loop-i.invariant.clauses
          ∙ ap (λ (x : List Lit). take c.loop-i.i clauses ++ x ∷ []) c.in_ok-copy.ensures
          ∙ sym (taken clauses c.loop-i.i _ c.clause.ensures.clause);
    }
