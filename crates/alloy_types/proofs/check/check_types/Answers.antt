use Rattle.std.proofs.Common.{List, [], map, Ok, sym, ap, ◌∙◌}
use Rattle.named_model.specs.declared.named.Part.{Part}
use Rattle.named_model.specs.View.{callee_view, formulas_view, command_view, named_view}
use Rattle.model_types.specs.Typing.{formulas_settled}
use Rattle.model_types.specs.Models.{callee_settled, declared_in, parts_checked}
use Rattle.alloy_types.specs.Outcomes.{outcome_view}
use Rattle.alloy_types.proofs.SettledModels.{as_many, things_settled, targets_settled, typed_is}
use Rattle.alloy_types.proofs.check.check_types.Goals as goal

pub settle-requires : goal.settle-requires
settle-requires c =
    as_many (outcome_view callee_view) (callee_settled (declared_in (named_view c.args.model))) callee_view c.in_ok-outcomes.outcomes.callees.items c.args.model.callees.items c.in_ok-outcomes.ensures.callees

pub settle-requires-2 : goal.settle-requires-2
settle-requires-2 c =
    as_many (outcome_view formulas_view) (formulas_settled (declared_in (named_view c.args.model)) []) formulas_view c.in_ok-outcomes.outcomes.facts.items c.args.model.facts.items c.in_ok-outcomes.ensures.facts

pub settle-requires-3 : goal.settle-requires-3
settle-requires-3 c =
    as_many (outcome_view formulas_view) (formulas_settled (declared_in (named_view c.args.model)) []) formulas_view c.in_ok-outcomes.outcomes.assertions.items c.args.model.assertions.items c.in_ok-outcomes.ensures.assertions

pub returns : goal.returns
returns c =
    let m = named_view c.args.model in
    let d = declared_in m in
    let o = c.in_ok-outcomes.outcomes in
    let are = c.in_ok-outcomes.ensures in
    let fine = ap (λ (ps : List Part). parts_checked m d ps) (sym c.deref.ensures.value) ∙ sym (c.parts_checked.ensures m d are) ∙ c.in_ok-parts_checked.was in
    let callees = things_settled callee_view (callee_settled d) c.args.model.callees.items c.settle.new.things.items o.callees.items c.settle.ensures are.callees in
    let facts = things_settled formulas_view (formulas_settled d []) c.args.model.facts.items c.settle-2.new.things.items o.facts.items c.settle-2.ensures are.facts in
    let assertions = things_settled formulas_view (formulas_settled d []) c.args.model.assertions.items c.settle-3.new.things.items o.assertions.items c.settle-3.ensures are.assertions in
    let commands = targets_settled m o are (map command_view c.settle_targets.new.commands.items) c.settle_targets.ensures in
    typed_is m fine
    ∙ ap Ok (sym (λ i. record m { callees = callees i; facts = facts i; assertions = assertions i; commands = commands i }))
