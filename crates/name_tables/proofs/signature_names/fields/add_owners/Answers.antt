use Rattle.std.proofs.Common.{[], ◌∷◌, ◌++◌, map, refl, ap, ◌∙◌}
use Rattle.std.proofs.lemmas.List.{map_push}
use Rattle.alloy_syntax.specs.View.{field_view}
use Rattle.named_model.specs.Declarations.{field_named}
use Rattle.named_model.specs.View as seen
use Rattle.name_tables.proofs.Signatures.Gaining.{gained_more, all_gained}
use Rattle.name_tables.proofs.signature_names.fields.add_owners.Goals as goal

pub loop-owner-preserved : goal.loop-owner-preserved
loop-owner-preserved c =
    let value = field_named c.args.names.now.globals (field_view c.args.written.now) c.args.name.now in
    gained_more (λ _. []) (map value) c.args.owners.now c.loop-owner.owner-index (map seen.field_view c.args.fields.now.items) (map seen.field_view c.loop-owner.fields.items) c.loop-owner.invariant
    c.owner-item.result (map seen.field_view c.push.new.self.items) (value c.owner-item.result ∷ []) [] c.loop-owner-test.true c.owner-item.is refl refl refl
    (ap (map seen.field_view) c.in_ok-push.ensures.items ∙ map_push seen.field_view c.loop-owner.fields.items c.in_ok-another.another ∙ ap (λ y. map seen.field_view c.loop-owner.fields.items ++ y ∷ []) c.in_ok-another.ensures.1)

pub returns : goal.returns
returns c =
    (refl, all_gained (λ _. []) (map (field_named c.args.names.now.globals (field_view c.args.written.now) c.args.name.now)) c.args.owners.now c.loop-owner.owner-index (map seen.field_view c.args.fields.now.items) (map seen.field_view c.loop-owner.fields.items) c.loop-owner.invariant c.loop-owner-test.false refl)
