-- The names in force, with more of them.
use Rattle.std.specs.Prelude.{ℕ, List, ◌++◌, map, flat_map}
use Rattle.alloy_syntax.specs.declared.tree.Name.{Name}
use Rattle.alloy_syntax.specs.Tree.{FieldTree, ParagraphTree}
use Rattle.named_model.specs.Names.{Header}
use Rattle.named_model.specs.Declarations.{texts, signature_names, field_names, headers, assertion_names}
use Rattle.name_tables.specs.InForce.{InForce}

-- the names of a field, each once for each of these signatures
abbrev pub owned : List Name → FieldTree → List Name
owned owners f = flat_map (λ (n : Name). map (λ (owner : Name). n) owners) f.names

abbrev pub with_names : InForce → List (List ℕ) → List (List ℕ) → List Header → List (List ℕ) → InForce
with_names n signatures fields callees assertions = record {
  globals = record {
    signatures = n.globals.signatures ++ signatures;
    fields = n.globals.fields ++ fields;
    callees = n.globals.callees ++ callees;
    assertions = n.globals.assertions ++ assertions;
  };
  locals = n.locals;
}

abbrev pub with_signatures : InForce → List (List ℕ) → InForce
with_signatures n more = record { globals = record { signatures = n.globals.signatures ++ more; fields = n.globals.fields; callees = n.globals.callees; assertions = n.globals.assertions }; locals = n.locals }

abbrev pub with_fields : InForce → List (List ℕ) → InForce
with_fields n more = record { globals = record { signatures = n.globals.signatures; fields = n.globals.fields ++ more; callees = n.globals.callees; assertions = n.globals.assertions }; locals = n.locals }

-- with those that these paragraphs declare
abbrev pub with_paragraphs : InForce → List ParagraphTree → InForce
with_paragraphs n ps = with_names n (texts (flat_map signature_names ps)) (texts (flat_map field_names ps)) (flat_map headers ps) (texts (flat_map assertion_names ps))

abbrev pub with_paragraph : InForce → ParagraphTree → InForce
with_paragraph n p = with_names n (texts (signature_names p)) (texts (field_names p)) (headers p) (texts (assertion_names p))
