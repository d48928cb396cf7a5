use Rattle.std.proofs.Common.{◌++◌, ◌∷◌, [], List, take, ap, sym, ◌∙◌}
use Rattle.cnf_core.specs.declared.literal.Lit.{Lit}
use Rattle.cnf_core.specs.Formula.{Formula}
use Rattle.sat_core.proofs.Numbers.{taken}
use Rattle.sat_core.proofs.search.raised.Goals as goal

pub loop-i-preserved : goal.loop-i-preserved
loop-i-preserved c =
    c.in_ok-push.ensures.ok
    ∙ (ap (λ (f : Formula). let g : Formula = record { vars = f.vars; clauses = f.clauses ++ c.in_ok-copy.field-0 ∷ [] } in g) c.loop-i.invariant
    ∙ ap (λ (cs : List (List Lit)). let g : Formula = record { vars = c.args.vars; clauses = cs } in g)
    (ap (λ (x : List Lit). take c.loop-i.i c.args.f.now.clauses ++ x ∷ []) c.in_ok-copy.ensures ∙ sym (taken c.args.f.now.clauses c.loop-i.i _ c.clause.ensures.clause)))
