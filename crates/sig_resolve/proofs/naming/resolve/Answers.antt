use Rattle.std.proofs.Common.{◌≡◌, List, [], map, flat_map, subst}
use Rattle.std.proofs.lemmas.Result.{err_from_is_err_and}
use Rattle.alloy_syntax.specs.declared.tree.Paragraph.{Paragraph}
use Rattle.alloy_syntax.specs.View.{model_view, paragraph_view}
use Rattle.named_model.specs.Declarations.{globals_of, fact_names, parts_behind}
use Rattle.name_tables.specs.Told.{IsTold}
use Rattle.name_tables.specs.Signatures.Named.{AreDeclared}
use Rattle.sig_resolve.specs.Paragraphs.Bodies.{AreBodies}
use Rattle.sig_resolve.specs.Stages.{declared_faults, said_faults}
use Rattle.sig_resolve.proofs.ModelParts.{declared_told, said_told, nothing_told, named_is}
use Rattle.sig_resolve.proofs.naming.resolve.Goals as goal

pub returns-in_err-declared : goal.returns-in_err-declared
returns-in_err-declared c =
    let m = model_view c.args.tree.now in
    let e = c.in_err-declared.field-0.0 in
    let p = err_from_is_err_and c.from_residual-in_err-declared.result c.from_residual-in_err-declared.ensures.1 in
    rw (p.1, p.2)
    (declared_told m e (subst (λ (ps : List Paragraph). IsTold e (declared_faults (map paragraph_view ps))) c.as_slice-paragraphs.ensures.value c.in_err-declared.ensures))

pub returns-in_err-said : goal.returns-in_err-said
returns-in_err-said c =
    let m = model_view c.args.tree.now in
    let e = c.in_err-said.field-0.0 in
    let p = err_from_is_err_and c.from_residual-in_err-said.result c.from_residual-in_err-said.ensures.1 in
    rw (p.1, p.2)
    (said_told m e (subst (λ (ps : List Paragraph). declared_faults (map paragraph_view ps) ≡ []) c.as_slice-paragraphs.ensures.value c.in_ok-declared.ensures.0)
    (subst (λ (ps : List Paragraph). IsTold e (said_faults (map paragraph_view ps))) c.as_slice-paragraphs.ensures.value c.in_err-said.ensures))

pub returns : goal.returns
returns c =
    let m = model_view c.args.tree.now in
    let d = c.in_ok-declared.declared in
    let s = c.in_ok-said.said in
    let declared = subst (λ (ps : List Paragraph). (declared_faults (map paragraph_view ps) ≡ []) × AreDeclared (globals_of (map paragraph_view ps)) (map paragraph_view ps) d) c.as_slice-paragraphs.ensures.value c.in_ok-declared.ensures in
    let said = subst (λ (ps : List Paragraph). (said_faults (map paragraph_view ps) ≡ []) × AreBodies (globals_of (map paragraph_view ps)) (map paragraph_view ps) s) c.as_slice-paragraphs.ensures.value c.in_ok-said.ensures in
    let names = subst (λ (ps : List Paragraph). c.in_ok-fact_names.fact_names.items ≡ flat_map fact_names (map paragraph_view ps)) c.as_slice-paragraphs.ensures.value c.in_ok-fact_names.ensures in
    let parts = subst (λ (ps : List Paragraph). c.in_ok-parts.parts.items ≡ parts_behind [] (map paragraph_view ps)) c.as_slice-paragraphs.ensures.value c.in_ok-parts.ensures in (
      nothing_told m declared.0 said.0,
      named_is m.paragraphs d s c.in_ok-fact_names.fact_names.items c.in_ok-parts.parts.items declared.1 said.1 names parts,
    )
