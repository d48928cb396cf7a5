use Rattle.std.proofs.Common.{List, map, flat_map, ap, ◌∙◌, sym, subst, Some, None, slice_get, option_map}
use Rattle.alloy_syntax.specs.View.{paragraph_view}
use Rattle.named_model.specs.declared.fault.NameFault.TheVariants.{Cycle}
use Rattle.named_model.specs.Faults.{Child, children}
use Rattle.reference_cycles.specs.Cycles.Walks.{rows_of, IsFirstCyclic}
use Rattle.name_tables.specs.Parents.Graphs.{row_of}
use Rattle.name_tables.proofs.Parents.LoopAdditions.{texts_of_all}
use Rattle.name_tables.proofs.Parents.Ancestors.{some_cycle, no_cycle}
use Rattle.name_tables.proofs.parent_cycles.cycles.first_cycle.Goals as goal

pub returns-in-Some : goal.returns-in-Some
returns-in-Some c = λ have.
    let ps = map paragraph_view c.args.paragraphs.now in
    let cs : List Child = flat_map children ps in
    let rows = ap rows_of c.deref.ensures.value ∙ c.in_ok-graph.ensures.rows_are ∙ ap (λ ns. map (row_of ns) cs) (have ∙ sym (texts_of_all ps)) in
    let first = subst (IsFirstCyclic (rows_of c.deref.result.now)) c.in-Some.is c.in_ok-number.ensures in
    c.fault_of.ensures
    ∙ ap (λ places. option_map Cycle (slice_get places c.in-Some.number)) (c.deref-in-Some.ensures.value ∙ c.in_ok-graph.ensures.places_are)
    ∙ some_cycle cs c.in-Some.number (subst (λ rs. IsFirstCyclic rs (Some c.in-Some.number)) rows first)

pub returns : goal.returns
returns c = λ have.
    let ps = map paragraph_view c.args.paragraphs.now in
    let cs : List Child = flat_map children ps in
    let rows = ap rows_of c.deref.ensures.value ∙ c.in_ok-graph.ensures.rows_are ∙ ap (λ ns. map (row_of ns) cs) (have ∙ sym (texts_of_all ps)) in
    let first = subst (IsFirstCyclic (rows_of c.deref.result.now)) c.in-None.is c.in_ok-number.ensures in
    no_cycle cs (subst (λ rs. IsFirstCyclic rs None) rows first)
