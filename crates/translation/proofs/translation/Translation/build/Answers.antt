use Rattle.std.proofs.Common.{◌≡◌, ◌≤◌, ◌∙◌, List, length, sym, ap, subst}
use Rattle.tuple_core.specs.declared.atom.Atom.{Atom}
use Rattle.translation.specs.Numbered.{swaps_of, AreNumbered}
use Rattle.translation.proofs.NeighbourCounts.{few_pairs}
use Rattle.translation.proofs.ProblemClauses.{kept}
use Rattle.translation.proofs.translation.Translation.build.Goals as goal

pub clauses_of_pairs-requires-clause-pairs : goal.clauses_of_pairs-requires-clause-pairs
clauses_of_pairs-requires-clause-pairs c =
    subst (λ (pairs : List (Atom × Atom)). length pairs ≤ 64) (sym c.as_slice.ensures.value)
    (few_pairs c.args.problem c.in_ok-pairs.pairs.items c.requires.translatable.few_atoms (record { exactly = c.in_ok-pairs.ensures.exactly; rising = c.in_ok-pairs.ensures.rising }))

pub invariant_of-result : goal.invariant_of-result
invariant_of-result c =
    let p = c.args.problem in
    let made = c.in_ok-made.ensures in
    let pairs : List (Atom × Atom) = c.in_ok-pairs.pairs.items in
    let cnf = c.in_ok-cnf.cnf in
    let same : c.as_slice.result.now ≡ pairs = c.as_slice.ensures.value in
    let count = c.in_ok-swaps.ensures.count ∙ ap length same in
    let numbered = subst (λ last. AreNumbered p last (swaps_of pairs c.in_ok-swaps.swaps.items)) c.vars.ensures.vars
    (subst (λ (qs : List (Atom × Atom)). AreNumbered p c.vars.result (swaps_of qs c.in_ok-swaps.swaps.items)) same c.in_ok-swaps.ensures.numbered) in (
      count,
      kept p c.in_ok-made.made.circuit c.in_ok-made.made.node cnf pairs c.in_ok-swaps.swaps.items c.requires.translatable c.requires.symmetric made.inputs made.instances made.nodes
          c.in_ok-cnf.ensures.form c.in_ok-cnf.ensures.small c.vars.ensures.formula.within (record { exactly = c.in_ok-pairs.ensures.exactly; rising = c.in_ok-pairs.ensures.rising }) count numbered,
      c.in_ok-images.ensures,
    )
