use Rattle.std.proofs.Common.{List, ◌∙◌, sym, map, flat_map, refl}
use Rattle.std.proofs.lemmas.List.Concat.{flat_map-cons}
use Rattle.alloy_syntax.specs.declared.tree.Name.{Name}
use Rattle.name_tables.proofs.Globals.GrowingNames.{fields_more, fields_none}
use Rattle.name_tables.proofs.global_names.declaring.enter_field.Goals as goal

pub loop-name-preserved : goal.loop-name-preserved
loop-name-preserved c =
    fields_more (λ (xs : List Name). flat_map (λ (n : Name). map (λ (owner : Name). n) c.args.owners.now) xs) (λ (n : Name). map (λ (owner : Name). n) c.args.owners.now) (λ x rest. flat_map-cons (λ (n : Name). map (λ (owner : Name). n) c.args.owners.now) x rest)
    c.loop-name.names c.enter_each.new.names _ c.args.new.now c.loop-name.name-index c.name-item.result c.loop-name-test.true c.name-item.is c.in_ok-enter_each.ensures c.loop-name.invariant

pub returns : goal.returns
returns c = sym (fields_none (λ (xs : List Name). flat_map (λ (n : Name). map (λ (owner : Name). n) c.args.owners.now) xs) (λ (n : Name). map (λ (owner : Name). n) c.args.owners.now) refl c.loop-name.names c.args.new.now c.loop-name.name-index c.loop-name-test.false) ∙ c.loop-name.invariant
