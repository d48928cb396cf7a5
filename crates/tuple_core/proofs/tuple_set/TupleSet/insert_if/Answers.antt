use Rattle.std.proofs.Common.{◌≡◌, ◌∙◌, sym, IsTrue}
use Rattle.tuple_core.proofs.Steps.{set_same}
use Rattle.tuple_core.proofs.tuple_set.TupleSet.insert_if.Goals as goal

pub returns-in_ok-insert : goal.returns-in_ok-insert
returns-in_ok-insert c =
    set_same c.args.self.now c.insert.new.self (λ t. t ≡ c.copy.result) (λ t. (t ≡ c.args.row.now) × IsTrue c.args.keep)
    (record { to = λ t e. (e ∙ c.copy.ensures, c.if-keep.true); back = λ t p. p.0 ∙ sym c.copy.ensures }) c.in_ok-insert.ensures.gains
