use Rattle.std.proofs.Common.{List, refl, sym, subst}
use mathlib.Core.List.{IsPrefix}
use Rattle.refutation_check.specs.declared.log.Step.{Step as LogStep}
use Rattle.hub_state.specs.Journal.Journal.{pool_of}
use Rattle.hub_state.proofs.hub.Hub.import.Goals as goal

pub import_behind-requires-clause-begins : goal.import_behind-requires-clause-begins
import_behind-requires-clause-begins c =
    let pool = pool_of c.args.key c.args.self.now.journal in
    subst (λ (xs : List LogStep). IsPrefix xs pool) (sym c.new-whole.ensures) (pool, refl)
