use Rattle.std.proofs.Common.{◌≡◌, ◌↔◌, ℕ, List, IfOk, IsTrue, Contains, subst}
use Rattle.rel_formula.specs.Instance.{with_cell}
use Rattle.rel_formula.proofs.scenario.Scenario.insert.Goals as goal

pub returns-clause-value : goal.returns-clause-value
returns-clause-value c =
    subst (λ (old : List ℕ). IfOk c.insert_number.result (λ x. c.insert_number.new.numbers.items ≡ with_cell c.args.number old)) c.self.view_is c.insert_number.ensures.value

pub returns-clause-new : goal.returns-clause-new
returns-clause-new c =
    subst (λ (old : List ℕ). IfOk c.insert_number.result (λ is_new. IsTrue is_new ↔ (Contains old c.args.number → ⊥))) c.self.view_is c.insert_number.ensures.new
