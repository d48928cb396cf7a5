use Rattle.std.proofs.Common.{◌≡◌, [], map, flat_map, ap, subst}
use Rattle.std.proofs.lemmas.Result.{err_from_is_err_and}
use Rattle.alloy_syntax.specs.View.{paragraph_view}
use Rattle.named_model.specs.Declarations.{globals_of}
use Rattle.named_model.specs.Faults.{signature_faults}
use Rattle.name_tables.specs.InForce.{InForce}
use Rattle.name_tables.specs.Told.{IsTold}
use Rattle.name_tables.specs.Signatures.Named.{AreDeclared}
use Rattle.sig_resolve.specs.Stages.{repeated_in, cyclic_in}
use Rattle.sig_resolve.proofs.Lines.{none_found, one_found, first_told, second_told, third_told, none_of_three}
use Rattle.sig_resolve.proofs.naming.checked_declarations.Goals as goal

pub returns-in_err-none_of : goal.returns-in_err-none_of
returns-in_err-none_of c =
    let ps = map paragraph_view c.args.paragraphs.now in
    let e = c.in_err-none_of.field-0.0 in
    let p = err_from_is_err_and c.from_residual-in_err-none_of.result c.from_residual-in_err-none_of.ensures.1 in
    rw (p.1, p.2)
    (first_told (repeated_in ps) (flat_map (signature_faults (globals_of ps)) ps) (cyclic_in ps) e
    (one_found c.in_ok-first_repeated.field-0 (repeated_in ps) e c.in_ok-first_repeated.ensures c.in_err-none_of.ensures))

pub returns-in_err-declared : goal.returns-in_err-declared
returns-in_err-declared c =
    let ps = map paragraph_view c.args.paragraphs.now in
    let e = c.in_err-declared.field-0.0 in
    let p = err_from_is_err_and c.from_residual-in_err-declared.result c.from_residual-in_err-declared.ensures.1 in
    rw (p.1, p.2)
    (second_told (repeated_in ps) (flat_map (signature_faults (globals_of ps)) ps) (cyclic_in ps) e
    (none_found c.in_ok-first_repeated.field-0 (repeated_in ps) c.in_ok-first_repeated.ensures c.in_ok-none_of.ensures)
    (subst (λ (n : InForce). IsTold e (flat_map (signature_faults n.globals) ps)) c.requires c.in_err-declared.ensures))

pub returns-in_err-none_of-2 : goal.returns-in_err-none_of-2
returns-in_err-none_of-2 c =
    let ps = map paragraph_view c.args.paragraphs.now in
    let e = c.in_err-none_of-2.field-0.0 in
    let p = err_from_is_err_and c.from_residual-in_err-none_of-2.result c.from_residual-in_err-none_of-2.ensures.1 in
    let declared = subst (λ (n : InForce). (flat_map (signature_faults n.globals) ps ≡ []) × AreDeclared n.globals ps c.in_ok-declared.declared) c.requires c.in_ok-declared.ensures in
    rw (p.1, p.2)
    (third_told (repeated_in ps) (flat_map (signature_faults (globals_of ps)) ps) (cyclic_in ps) e
    (none_found c.in_ok-first_repeated.field-0 (repeated_in ps) c.in_ok-first_repeated.ensures c.in_ok-none_of.ensures) declared.0
    (one_found c.in_ok-first_cycle.field-0 (cyclic_in ps) e (c.in_ok-first_cycle.ensures (ap (λ (n : InForce). n.globals.signatures) c.requires)) c.in_err-none_of-2.ensures))

pub returns : goal.returns
returns c =
    let ps = map paragraph_view c.args.paragraphs.now in
    let declared = subst (λ (n : InForce). (flat_map (signature_faults n.globals) ps ≡ []) × AreDeclared n.globals ps c.in_ok-declared.declared) c.requires c.in_ok-declared.ensures in (
      none_of_three (repeated_in ps) (flat_map (signature_faults (globals_of ps)) ps) (cyclic_in ps)
          (none_found c.in_ok-first_repeated.field-0 (repeated_in ps) c.in_ok-first_repeated.ensures c.in_ok-none_of.ensures) declared.0
          (none_found c.in_ok-first_cycle.field-0 (cyclic_in ps) (c.in_ok-first_cycle.ensures (ap (λ (n : InForce). n.globals.signatures) c.requires)) c.in_ok-none_of-2.ensures),
      declared.1,
    )
