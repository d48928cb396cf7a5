-- Lists that are made element by element.
use Rattle.std.proofs.Common.{◌++◌, ◌∷◌, [], ◌+◌, ◌<◌, ◌^◌, List, length, arith, length-append}
use Rattle.std.proofs.lemmas.List.Elements.{All-push}
use Rattle.cnf_core.specs.Literal.{IsClause}
use Rattle.refutation_check.specs.declared.log.Step.{Step}
use Rattle.refutation_check.specs.Log.{IsLog}

pub IsLog-push : (steps : List Step) (s : Step) → IsLog steps → IsClause s.clause → length steps + 1 < 2 ^ 30 → IsLog (steps ++ s ∷ [])
IsLog-push steps s was clause room =
    record {
      clauses = All-push (λ (s : Step). IsClause s.clause) steps s was.clauses clause;
      few = omega (arith, length-append steps (s ∷ []));
    }
