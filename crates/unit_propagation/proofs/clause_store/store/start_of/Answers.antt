use Rattle.std.proofs.Common.{◌≡◌, ◌-◌, ℕ, suc, arith, sym, ◌∙◌, ap}
use Rattle.unit_propagation.specs.Clauses.Parts.{start_at}
use Rattle.unit_propagation.proofs.Clauses.Ends.{start_at-first, start_at-next}
use Rattle.unit_propagation.proofs.clause_store.store.start_of.Goals as goal

pub returns-then-n-eq0 : goal.returns-then-n-eq0
returns-then-n-eq0 c = let zero_is : c.args.n ≡ 0 = omega arith in sym (ap (λ (n : ℕ). start_at 0 c.args.ends.now n) zero_is ∙ start_at-first 0 c.args.ends.now)

pub returns-else-n-eq0 : goal.returns-else-n-eq0
returns-else-n-eq0 c =
    let next : c.args.n ≡ suc (c.args.n - 1) = omega arith in
    sym (ap (λ (n : ℕ). start_at 0 c.args.ends.now n) next ∙ start_at-next 0 c.args.ends.now (c.args.n - 1) 0 (omega arith))
