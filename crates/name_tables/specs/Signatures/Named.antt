-- Signatures under a parent that has a number, and what a model's paragraphs declare.
use Rattle.std.specs.Prelude.{◌≡◌, ◌++◌, ℕ, List, map, flat_map, Bool, Option}
use Rattle.alloy_syntax.specs.declared.tree.Name.{Name}
use Rattle.alloy_syntax.specs.declared.tree.MultiplicityWord.{MultiplicityWord}
use Rattle.alloy_syntax.specs.declared.tree.Manner.{Manner}
use Rattle.alloy_syntax.specs.Tree as tree
use Rattle.alloy_syntax.specs.Tree.{ParagraphTree}
use Rattle.named_model.specs.declared.named.Signature.{Signature}
use Rattle.named_model.specs.Model.{FieldTree}
use Rattle.named_model.specs.View.{field_view}
use Rattle.named_model.specs.Names.{Globals}
use Rattle.named_model.specs.Declarations.{signatures_named, field_named, fields_named}
use Rattle.name_tables.specs.declared.signature_names.paragraphs.Declared.{Declared}

abbrev pub signature_under : Bool → Option MultiplicityWord → Option (Manner × ℕ) → Name → Signature
signature_under is_abstract mark parent n = record { name = n.text; place = n.place; is_abstract = is_abstract; mark = mark; parent = parent }

-- the fields of one bound, name by name, each once for each of these signatures
abbrev pub fields_of : Globals → List Name → tree.FieldTree → List FieldTree
fields_of g owners f = flat_map (λ (n : Name). map (field_named g f n) owners) f.names

-- the signatures and the fields that these paragraphs declare
pub record AreDeclared (g : Globals) (paragraphs : List ParagraphTree) (d : Declared) : Type 0 where
  pub signatures_are : d.signatures.items ≡ flat_map (signatures_named g) paragraphs
  pub fields_are : map field_view d.fields.items ≡ flat_map (fields_named g) paragraphs

-- what a paragraph declares came behind the rest
pub record Adds (g : Globals) (paragraph : ParagraphTree) (old new : Declared) : Type 0 where
  pub signatures_are : new.signatures.items ≡ old.signatures.items ++ signatures_named g paragraph
  pub fields_are : map field_view new.fields.items ≡ map field_view old.fields.items ++ fields_named g paragraph
