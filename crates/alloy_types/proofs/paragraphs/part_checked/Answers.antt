use Rattle.std.proofs.Common.{List, Result, take, drop, ap, sym, ◌∙◌}
use Rattle.named_model.specs.declared.named.Callee.{Callee}
use Rattle.named_model.specs.declared.named.Formulas.{Formulas}
use Rattle.named_model.specs.declared.named.Target.{Target}
use Rattle.model_types.specs.declared.fault.TypeFault.{TypeFault}
use Rattle.model_types.specs.Sorts.{Checked}
use Rattle.model_types.specs.Models.{part_checked}
use Rattle.alloy_types.specs.Outcomes.{first_fault, fault_at}
use Rattle.alloy_types.proofs.Order.{part_fields, part_fact, part_callee, part_assertion, part_command}
use Rattle.alloy_types.proofs.paragraphs.part_checked.Goals as goal

pub returns-in-Fields : goal.returns-in-Fields
returns-in-Fields c = λ m d are.
    c.first_fault.ensures ∙ ap (λ (rs : List Checked). first_fault (take c.in-Fields.count (drop c.in-Fields.first rs))) c.deref.ensures.value
    ∙ part_fields m d c.args.outcomes.now are c.in-Fields.first c.in-Fields.count ∙ ap (part_checked m d) (sym c.in-Fields.is)

pub returns-in-Fact : goal.returns-in-Fact
returns-in-Fact c = λ m d are.
    c.fault_at.ensures ∙ ap (λ (rs : List (Result Formulas TypeFault)). fault_at rs c.in-Fact.number) c.deref-in-Fact.ensures.value ∙ part_fact m d c.args.outcomes.now are c.in-Fact.number ∙ ap (part_checked m d) (sym c.in-Fact.is)

pub returns-in-Callee : goal.returns-in-Callee
returns-in-Callee c = λ m d are.
    c.fault_at-in-Callee.ensures ∙ ap (λ (rs : List (Result Callee TypeFault)). fault_at rs c.in-Callee.number) c.deref-in-Callee.ensures.value ∙ part_callee m d c.args.outcomes.now are c.in-Callee.number ∙ ap (part_checked m d) (sym c.in-Callee.is)

pub returns-in-Assertion : goal.returns-in-Assertion
returns-in-Assertion c = λ m d are.
    c.fault_at-in-Assertion.ensures ∙ ap (λ (rs : List (Result Formulas TypeFault)). fault_at rs c.in-Assertion.number) c.deref-in-Assertion.ensures.value ∙ part_assertion m d c.args.outcomes.now are c.in-Assertion.number ∙ ap (part_checked m d) (sym c.in-Assertion.is)

pub returns-in-Command : goal.returns-in-Command
returns-in-Command c = λ m d are.
    c.fault_at-in-Command.ensures ∙ ap (λ (rs : List (Result Target TypeFault)). fault_at rs c.in-Command.number) c.deref-in-Command.ensures.value ∙ part_command m d c.args.outcomes.now are c.in-Command.number ∙ ap (part_checked m d) (sym c.in-Command.is)
