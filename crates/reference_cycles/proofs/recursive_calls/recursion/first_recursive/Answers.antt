use Rattle.std.proofs.Common.{List, map, ap, ◌∙◌, subst, Some, None}
use Rattle.reference_cycles.specs.Cycles.Walks.{rows_of, IsFirstCyclic}
use Rattle.named_model.specs.Model.{CalleeTree}
use Rattle.named_model.specs.Faults.{callees_of}
use Rattle.named_model.specs.View.{callee_view}
use Rattle.reference_cycles.proofs.Recursion.Cycles.{some_calls_itself, none_calls_itself}
use Rattle.reference_cycles.proofs.recursive_calls.recursion.first_recursive.Goals as goal

pub returns-in-Some : goal.returns-in-Some
returns-in-Some c =
    let cs : List CalleeTree = map callee_view c.args.callees.now in
    let rows = ap rows_of c.deref.ensures.value ∙ c.in_ok-rows.ensures in
    let first = subst (IsFirstCyclic (rows_of c.deref.result.now)) c.in-Some.is c.in_ok-number.ensures in
    c.fault_of.ensures ∙ some_calls_itself cs c.in-Some.number (subst (λ rs. IsFirstCyclic rs (Some c.in-Some.number)) rows first)

pub returns : goal.returns
returns c =
    let cs : List CalleeTree = map callee_view c.args.callees.now in
    let rows = ap rows_of c.deref.ensures.value ∙ c.in_ok-rows.ensures in
    let first = subst (IsFirstCyclic (rows_of c.deref.result.now)) c.in-None.is c.in_ok-number.ensures in
    none_calls_itself cs (subst (λ rs. IsFirstCyclic rs None) rows first)
