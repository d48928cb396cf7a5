use Rattle.std.proofs.Common.{◌≡◌, ◌∷◌, [], ◌∙◌, sym}
use Rattle.tuple_core.proofs.Steps.{set_from_gains}
use Rattle.rel_formula.proofs.evaluate.single.Goals as goal

pub returns : goal.returns
returns c =
    set_from_gains c.new-set.result c.insert.new.self 1 (λ t. t ≡ c.single.result) (λ t. t ≡ c.args.atom ∷ []) c.new-set.ensures.rows c.new-set.ensures.arity c.in_ok-insert.ensures.gains
    (record { to = λ t e. e ∙ c.single.ensures; back = λ t e. e ∙ sym c.single.ensures })
