use Rattle.std.proofs.Common.{◌∷◌, ℕ, List, ap, sym, ◌∙◌}
use Rattle.std.proofs.lemmas.List.Filters.{dedup_is}
use Rattle.refutation_check.specs.Chain.{members_of}
use Rattle.refutation_check.proofs.Numbers.{numbering, all_numbered, members_clauses, members_variables}
use Rattle.refutation_check.proofs.sparse.names_in.Goals as goal

pub returns-clause-numbering : goal.returns-clause-numbering
returns-clause-numbering c =
    let all = members_clauses c.args.f.now.clauses c.args.log.now c.clauses.ensures.formula.clauses c.steps.ensures.log.clauses in
    let found = c.in_ok-names.ensures ∙ ap (λ (xs : List ℕ). 0 ∷ xs) (sym (members_variables c.args.f.now.clauses c.args.log.now)) in
    rw (dedup_is _ _ _ c.dedup.ensures.filtered)
    (numbering (members_of c.args.f.now.clauses c.args.log.now) all c.in_ok-names.names.items c.sort_unstable.new.self.items found c.sort_unstable.ensures.permutation c.sort_unstable.ensures.sorted)

pub returns-clause-numbered : goal.returns-clause-numbered
returns-clause-numbered c =
    let all = members_clauses c.args.f.now.clauses c.args.log.now c.clauses.ensures.formula.clauses c.steps.ensures.log.clauses in
    let found = c.in_ok-names.ensures ∙ ap (λ (xs : List ℕ). 0 ∷ xs) (sym (members_variables c.args.f.now.clauses c.args.log.now)) in
    rw (dedup_is _ _ _ c.dedup.ensures.filtered)
    (all_numbered (members_of c.args.f.now.clauses c.args.log.now) all c.in_ok-names.names.items c.sort_unstable.new.self.items found c.sort_unstable.ensures.permutation c.sort_unstable.ensures.sorted)
