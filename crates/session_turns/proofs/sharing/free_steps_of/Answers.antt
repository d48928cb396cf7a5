use Rattle.std.proofs.Common.{◌≤◌, ℕ, List, All, sym, subst}
use Rattle.refutation_check.specs.declared.log.Step.{Step as LogStep}
use Rattle.translation_rules.specs.Parts.{given_to}
use Rattle.session_turns.proofs.sharing.free_steps_of.Goals as goal

pub free_of-requires-clause-hints : goal.free_of-requires-clause-hints
free_of-requires-clause-hints c =
    let part = c.args.part.now in
    subst (λ (log : List LogStep). All (λ (s : LogStep). All (λ (hint : ℕ). 1 ≤ hint) s.hints) log) (sym c.log.ensures.log)
    (c.accepted_hints_name_members.ensures.from_one (given_to c.args.translation.now c.args.pool.now part) part.log c.requires.searched.accepted)
