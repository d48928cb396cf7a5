use Rattle.std.proofs.Common.{List, map, ap, ◌∙◌, length}
use Rattle.alloy_syntax.specs.declared.tree.Field.{Field}
use Rattle.alloy_syntax.specs.View.{field_view}
use Rattle.sig_resolve.proofs.DeclaredCounts.{names_of, fields_counted}
use Rattle.sig_resolve.proofs.parts.fields_in.Goals as goal

pub returns-in-Some : goal.returns-in-Some
returns-in-Some c =
    let w = c.args.written.now in
    fields_counted w.names.items (map field_view w.fields.items) c.in_ok-names.names c.len.result c.in-Some.product c.in-Some.ensures.1
    (c.in_ok-names.ensures ∙ ap (λ (fs : List Field). length (names_of (map field_view fs))) c.deref.ensures.value) (c.len.ensures ∙ w.names.ok.0)
