use Rattle.std.proofs.Common.{◌≡◌, [], map, flat_map, ap, ◌∙◌, subst}
use Rattle.std.proofs.lemmas.Result.{err_from_is_err_and}
use Rattle.alloy_syntax.specs.View.{paragraph_view}
use Rattle.named_model.specs.Answers.{first_in}
use Rattle.named_model.specs.Declarations.{globals_of, callees_named}
use Rattle.named_model.specs.Faults.{body_faults, recursive_faults, command_faults}
use Rattle.named_model.specs.View.{callee_view}
use Rattle.name_tables.specs.InForce.{InForce}
use Rattle.name_tables.specs.Told.{IsTold}
use Rattle.sig_resolve.specs.Paragraphs.Bodies.{AreBodies}
use Rattle.sig_resolve.proofs.Lines.{none_found, one_found, first_told, second_told, third_told, none_of_three}
use Rattle.sig_resolve.proofs.naming.checked_bodies.Goals as goal

pub bodies-requires : goal.bodies-requires
bodies-requires c = record { global = ap (λ (n : InForce). n.locals) c.requires }

pub returns-in_err-said : goal.returns-in_err-said
returns-in_err-said c =
    let ps = map paragraph_view c.args.paragraphs.now in
    let g = globals_of ps in
    let e = c.in_err-said.field-0.0 in
    let p = err_from_is_err_and c.from_residual.result c.from_residual.ensures.1 in
    rw (p.1, p.2)
    (first_told (flat_map (body_faults g) ps) (recursive_faults (flat_map (callees_named g) ps)) (flat_map (command_faults ps g) ps) e
    (subst (λ (n : InForce). IsTold e (flat_map (body_faults n.globals) ps)) c.requires c.in_err-said.ensures.value))

pub returns-in_err-none_of : goal.returns-in_err-none_of
returns-in_err-none_of c =
    let ps = map paragraph_view c.args.paragraphs.now in
    let g = globals_of ps in
    let e = c.in_err-none_of.field-0.0 in
    let p = err_from_is_err_and c.from_residual-in_err-none_of.result c.from_residual-in_err-none_of.ensures.1 in
    let said = subst (λ (n : InForce). (flat_map (body_faults n.globals) ps ≡ []) × AreBodies n.globals ps c.in_ok-said.said) c.requires c.in_ok-said.ensures.value in
    let callees = ap (map callee_view) c.deref.ensures.value ∙ said.1.callees_are in
    rw (p.1, p.2)
    (second_told (flat_map (body_faults g) ps) (recursive_faults (flat_map (callees_named g) ps)) (flat_map (command_faults ps g) ps) e said.0
    (one_found c.in_ok-first_recursive.field-0 (recursive_faults (flat_map (callees_named g) ps)) e
    (c.in_ok-first_recursive.ensures ∙ ap (λ cs. first_in (recursive_faults cs)) callees) c.in_err-none_of.ensures))

pub returns-in_err-none_of-2 : goal.returns-in_err-none_of-2
returns-in_err-none_of-2 c =
    let ps = map paragraph_view c.args.paragraphs.now in
    let g = globals_of ps in
    let e = c.in_err-none_of-2.field-0.0 in
    let p = err_from_is_err_and c.from_residual-in_err-none_of-2.result c.from_residual-in_err-none_of-2.ensures.1 in
    let said = subst (λ (n : InForce). (flat_map (body_faults n.globals) ps ≡ []) × AreBodies n.globals ps c.in_ok-said.said) c.requires c.in_ok-said.ensures.value in
    let callees = ap (map callee_view) c.deref.ensures.value ∙ said.1.callees_are in
    let names = c.in_ok-said.ensures.names ∙ c.requires in
    rw (p.1, p.2)
    (third_told (flat_map (body_faults g) ps) (recursive_faults (flat_map (callees_named g) ps)) (flat_map (command_faults ps g) ps) e said.0
    (none_found c.in_ok-first_recursive.field-0 (recursive_faults (flat_map (callees_named g) ps)) (c.in_ok-first_recursive.ensures ∙ ap (λ cs. first_in (recursive_faults cs)) callees) c.in_ok-none_of.ensures)
    (one_found c.in_ok-first_fault.field-0 (flat_map (command_faults ps g) ps) e
    (c.in_ok-first_fault.ensures ∙ ap (λ (n : InForce). first_in (flat_map (command_faults ps n.globals) ps)) names) c.in_err-none_of-2.ensures))

pub returns : goal.returns
returns c =
    let ps = map paragraph_view c.args.paragraphs.now in
    let g = globals_of ps in
    let said = subst (λ (n : InForce). (flat_map (body_faults n.globals) ps ≡ []) × AreBodies n.globals ps c.in_ok-said.said) c.requires c.in_ok-said.ensures.value in
    let callees = ap (map callee_view) c.deref.ensures.value ∙ said.1.callees_are in
    let names = c.in_ok-said.ensures.names ∙ c.requires in (
      none_of_three (flat_map (body_faults g) ps) (recursive_faults (flat_map (callees_named g) ps)) (flat_map (command_faults ps g) ps) said.0
          (none_found c.in_ok-first_recursive.field-0 (recursive_faults (flat_map (callees_named g) ps)) (c.in_ok-first_recursive.ensures ∙ ap (λ cs. first_in (recursive_faults cs)) callees) c.in_ok-none_of.ensures)
          (none_found c.in_ok-first_fault.field-0 (flat_map (command_faults ps g) ps) (c.in_ok-first_fault.ensures ∙ ap (λ (n : InForce). first_in (flat_map (command_faults ps n.globals) ps)) names) c.in_ok-none_of-2.ensures),
      said.1,
    )
