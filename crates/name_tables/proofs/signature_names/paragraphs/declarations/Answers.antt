use Rattle.std.proofs.Common.{◌+◌, [], List, map, flat_map, drop, refl}
use Rattle.std.proofs.lemmas.List.Concat.{flat_map-cons}
use Rattle.std.proofs.lemmas.Result.{err_from_is_err_and}
use Rattle.alloy_syntax.specs.declared.tree.Paragraph.{Paragraph}
use Rattle.alloy_syntax.specs.View.{paragraph_view}
use Rattle.named_model.specs.declared.fault.NameFault.{NameFault}
use Rattle.named_model.specs.Names.{Globals}
use Rattle.named_model.specs.Declarations.{signatures_named, fields_named}
use Rattle.named_model.specs.Faults.{signature_faults}
use Rattle.named_model.specs.View.{field_view}
use Rattle.name_tables.proofs.Signatures.Gaining.{gained_more, gained_fault, no_fault, all_gained}
use Rattle.name_tables.proofs.signature_names.paragraphs.declarations.Goals as goal

abbrev faults_in : Globals → List Paragraph → List NameFault
faults_in g ps = flat_map (signature_faults g) (map paragraph_view ps)

pub loop-paragraph-preserved : goal.loop-paragraph-preserved
loop-paragraph-preserved c =
    let g = c.args.names.now.globals in
    let l = c.loop-paragraph in
    let p = paragraph_view c.paragraph-item.result in
    let rest = map paragraph_view (drop (l.paragraph-index + 1) c.args.paragraphs.now) in
    let adds = c.in_ok-add_paragraph.ensures in
    record {
      signatures = gained_more (faults_in g) (λ ps. flat_map (signatures_named g) (map paragraph_view ps)) c.args.paragraphs.now l.paragraph-index [] l.declared.signatures.items l.invariant.signatures
          c.paragraph-item.result c.add_paragraph.new.declared.signatures.items (signatures_named g p) (signature_faults g p) c.loop-paragraph-test.true c.paragraph-item.is (flat_map-cons (signature_faults g) p rest) adds.0 (flat_map-cons (signatures_named g) p rest) adds.1.signatures_are;
      fields = gained_more (faults_in g) (λ ps. flat_map (fields_named g) (map paragraph_view ps)) c.args.paragraphs.now l.paragraph-index [] (map field_view l.declared.fields.items) l.invariant.fields
          c.paragraph-item.result (map field_view c.add_paragraph.new.declared.fields.items) (fields_named g p) (signature_faults g p) c.loop-paragraph-test.true c.paragraph-item.is (flat_map-cons (signature_faults g) p rest) adds.0 (flat_map-cons (fields_named g) p rest) adds.1.fields_are;
    }

pub returns-in_err-add_paragraph : goal.returns-in_err-add_paragraph
returns-in_err-add_paragraph c =
    let g = c.args.names.now.globals in
    let l = c.loop-paragraph in
    let p = err_from_is_err_and c.from_residual.result c.from_residual.ensures.1 in
    rw (p.1, p.2)
    (gained_fault (faults_in g) (λ ps. flat_map (signatures_named g) (map paragraph_view ps)) c.args.paragraphs.now l.paragraph-index [] l.declared.signatures.items l.invariant.signatures
    c.paragraph-item.result (signature_faults g (paragraph_view c.paragraph-item.result)) c.in_err-add_paragraph.field-0.0 c.loop-paragraph-test.true c.paragraph-item.is
    (flat_map-cons (signature_faults g) (paragraph_view c.paragraph-item.result) (map paragraph_view (drop (l.paragraph-index + 1) c.args.paragraphs.now))) c.in_err-add_paragraph.ensures)

pub returns : goal.returns
returns c =
    let g = c.args.names.now.globals in
    let l = c.loop-paragraph in
    let values = λ (ps : List Paragraph). flat_map (signatures_named g) (map paragraph_view ps) in (
      no_fault (faults_in g) values c.args.paragraphs.now l.paragraph-index [] l.declared.signatures.items l.invariant.signatures c.loop-paragraph-test.false refl,
      record {
        signatures_are = all_gained (faults_in g) values c.args.paragraphs.now l.paragraph-index [] l.declared.signatures.items l.invariant.signatures c.loop-paragraph-test.false refl;
        fields_are = all_gained (faults_in g) (λ ps. flat_map (fields_named g) (map paragraph_view ps)) c.args.paragraphs.now l.paragraph-index [] (map field_view l.declared.fields.items) l.invariant.fields c.loop-paragraph-test.false refl;
      },
    )
