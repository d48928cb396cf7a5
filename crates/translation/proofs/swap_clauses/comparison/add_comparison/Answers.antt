use Rattle.std.proofs.Common.{ℕ, Option, subst, sym}
use Rattle.translation.specs.SwapChains.Comparison.{Compares}
use Rattle.translation.proofs.SwapChains.Cases.{compares_none, compares_some}
use Rattle.translation.proofs.swap_clauses.comparison.add_comparison.Goals as goal

pub returns-in-None : goal.returns-in-None
returns-in-None c =
    let old = c.args.clauses.now.items in
    let new = c.add_clause.new.clauses.items in
    subst (λ (image : Option ℕ). Compares c.args.so_far c.args.cell image old new) (sym c.in-None.is)
    (compares_none c.args.so_far c.args.cell _ _ _ old new c.false_at-not_so_far.ensures c.true_at-here.ensures c.true_at-alike.ensures c.in_ok-add_clause.ensures)

pub returns-in_ok-add_clause-in-Some-2 : goal.returns-in_ok-add_clause-in-Some-2
returns-in_ok-add_clause-in-Some-2 c =
    let old = c.args.clauses.now.items in
    let new = c.add_clause-in-Some-2.new.clauses.items in
    subst (λ (image : Option ℕ). Compares c.args.so_far c.args.cell image old new) (sym c.in-Some.is)
    (compares_some c.args.so_far c.args.cell c.in-Some.image _ _ _ _ old c.add_clause.new.clauses.items c.add_clause-in-Some.new.clauses.items new
    c.false_at-not_so_far.ensures c.true_at-here.ensures c.true_at-alike.ensures c.false_at-not_there.ensures
    c.in_ok-add_clause.ensures c.in_ok-add_clause-in-Some.ensures c.in_ok-add_clause-in-Some-2.ensures)
