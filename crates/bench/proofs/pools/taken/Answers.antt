use Rattle.std.proofs.Common.{List, append-nil, sym, subst}
use Rattle.cnf_core.specs.declared.literal.Lit.{Lit}
use Rattle.refutation_check.specs.Chain.{IsAccepted}
use Rattle.bench.proofs.pools.taken.Goals as goal

pub share-requires-clause-free : goal.share-requires-clause-free
share-requires-clause-free c = subst (λ (members : List (List Lit)). IsAccepted members c.args.log.now) (sym (append-nil c.args.formula.now.clauses)) c.requires
