use Rattle.std.proofs.Common.{◌≡◌, refl, subst, Contains}
use Rattle.tuple_core.specs.Gains.{Same, SomeGives}
use Rattle.tuple_core.specs.Rows.{Rows, SetGains}
use Rattle.tuple_core.proofs.Steps.{set_same, same_gives, set_gained}
use Rattle.tuple_core.proofs.tuple_set.TupleSet.union.Goals as goal

pub returns : goal.returns
returns c =
    let g = subst (λ (r : Rows). SetGains r c.add_all.new.self (SomeGives c.rows.result.now (λ x t. t ≡ x))) c.in_ok-out.ensures c.in_ok-add_all.ensures.gains in
    set_gained c.args.self.now c.add_all.new.self c.args.self.now.arity (Contains c.args.other.now.rows) refl
    (set_same c.args.self.now c.add_all.new.self (SomeGives c.rows.result.now (λ x t. t ≡ x)) (Contains c.args.other.now.rows)
    (subst (λ zs. Same (SomeGives c.rows.result.now (λ x u. u ≡ x)) (Contains zs)) c.rows.ensures.value (same_gives c.rows.result.now)) g)
