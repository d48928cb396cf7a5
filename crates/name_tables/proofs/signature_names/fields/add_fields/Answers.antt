use Rattle.std.proofs.Common.{◌+◌, List, map, flat_map, drop, refl}
use Rattle.std.proofs.lemmas.List.Concat.{flat_map-cons}
use Rattle.std.proofs.lemmas.Result.{err_from_is_err_and}
use Rattle.alloy_syntax.specs.declared.tree.Field.{Field as Written}
use Rattle.alloy_syntax.specs.declared.tree.Name.{Name}
use Rattle.alloy_syntax.specs.Tree as tree
use Rattle.alloy_syntax.specs.View.{field_view}
use Rattle.named_model.specs.declared.fault.NameFault.{NameFault}
use Rattle.named_model.specs.Model.{FieldTree}
use Rattle.named_model.specs.Names.{Globals}
use Rattle.named_model.specs.Faults.{bound_faults}
use Rattle.named_model.specs.View as seen
use Rattle.name_tables.specs.Signatures.Named.{fields_of}
use Rattle.name_tables.proofs.Signatures.Gaining.{gained_more, gained_fault, no_fault, all_gained}
use Rattle.name_tables.proofs.signature_names.fields.add_fields.Goals as goal

abbrev faults_at : Globals → tree.FieldTree → List NameFault
faults_at g f = bound_faults g f.bound

abbrev faults_in : Globals → List Written → List NameFault
faults_in g xs = flat_map (faults_at g) (map field_view xs)

abbrev values_of : Globals → List Name → List Written → List FieldTree
values_of g owners xs = flat_map (fields_of g owners) (map field_view xs)

pub loop-each-preserved : goal.loop-each-preserved
loop-each-preserved c =
    let g = c.args.names.now.globals in
    let l = c.loop-each in
    let owners = c.args.owners.now in
    let f = field_view c.each-item.result in
    let rest = map field_view (drop (l.each-index + 1) c.args.written.now) in
    gained_more (faults_in g) (values_of g owners) c.args.written.now l.each-index (map seen.field_view c.args.fields.now.items) (map seen.field_view l.fields.items) l.invariant
    c.each-item.result (map seen.field_view c.add_field.new.fields.items) (fields_of g owners f) (bound_faults g f.bound) c.loop-each-test.true c.each-item.is
    (flat_map-cons (faults_at g) f rest) c.in_ok-add_field.ensures.0 (flat_map-cons (fields_of g owners) f rest) c.in_ok-add_field.ensures.1

pub returns-in_err-add_field : goal.returns-in_err-add_field
returns-in_err-add_field c =
    let g = c.args.names.now.globals in
    let l = c.loop-each in
    let p = err_from_is_err_and c.from_residual.result c.from_residual.ensures.1 in
    rw (p.1, p.2)
    (gained_fault (faults_in g) (values_of g c.args.owners.now) c.args.written.now l.each-index (map seen.field_view c.args.fields.now.items) (map seen.field_view l.fields.items) l.invariant
    c.each-item.result (bound_faults g (field_view c.each-item.result).bound) c.in_err-add_field.field-0.0 c.loop-each-test.true c.each-item.is
    (flat_map-cons (faults_at g) (field_view c.each-item.result) (map field_view (drop (l.each-index + 1) c.args.written.now))) c.in_err-add_field.ensures)

pub returns : goal.returns
returns c =
    let g = c.args.names.now.globals in
    let l = c.loop-each in
    let old = map seen.field_view c.args.fields.now.items in
    let now = map seen.field_view l.fields.items in (
      no_fault (faults_in g) (values_of g c.args.owners.now) c.args.written.now l.each-index old now l.invariant c.loop-each-test.false refl,
      all_gained (faults_in g) (values_of g c.args.owners.now) c.args.written.now l.each-index old now l.invariant c.loop-each-test.false refl,
    )
