-- A model by its two parts.
use Rattle.std.proofs.Common.{◌≡◌, ℕ, Option, List, [], ◌++◌, map, flat_map, refl, sym, ◌∙◌, subst}
use Rattle.alloy_syntax.specs.Tree.{ModelTree, ParagraphTree}
use Rattle.named_model.specs.declared.fault.NameFault.{NameFault}
use Rattle.named_model.specs.declared.named.Part.{Part}
use Rattle.named_model.specs.Model.{NamedTree}
use Rattle.named_model.specs.View.{field_view, callee_view, formulas_view, command_view}
use Rattle.named_model.specs.Declarations.{globals_of, callees_named, fact_names, parts_behind, paragraphs_named}
use Rattle.named_model.specs.Faults.{signature_faults, body_faults, recursive_faults, command_faults, faults_in}
use Rattle.name_tables.specs.Told.{IsTold}
use Rattle.name_tables.proofs.Telling.{told_first}
use Rattle.name_tables.specs.declared.signature_names.paragraphs.Declared.{Declared}
use Rattle.name_tables.specs.Signatures.Named.{AreDeclared}
use Rattle.sig_resolve.specs.declared.paragraph_bodies.adding.Said.{Said}
use Rattle.sig_resolve.specs.Paragraphs.Bodies.{AreBodies}
use Rattle.sig_resolve.specs.Stages.{repeated_in, cyclic_in, declared_faults, said_faults}
use Rattle.sig_resolve.proofs.Lines.{told_behind, none_behind, six_lists}

pub two_parts : (m : ModelTree) → declared_faults m.paragraphs ++ said_faults m.paragraphs ≡ faults_in m
two_parts m =
    let ps = m.paragraphs in
    let g = globals_of ps in
    six_lists (repeated_in ps) (flat_map (signature_faults g) ps) (cyclic_in ps) (flat_map (body_faults g) ps) (recursive_faults (flat_map (callees_named g) ps)) (flat_map (command_faults ps g) ps)

pub declared_told : (m : ModelTree) (e : NameFault) → IsTold e (declared_faults m.paragraphs) → IsTold e (faults_in m)
declared_told m e told = subst (IsTold e) (two_parts m) (told_first e (declared_faults m.paragraphs) (said_faults m.paragraphs) told)

pub said_told : (m : ModelTree) (e : NameFault) → declared_faults m.paragraphs ≡ [] → IsTold e (said_faults m.paragraphs) → IsTold e (faults_in m)
said_told m e none told = subst (IsTold e) (two_parts m) (told_behind e (declared_faults m.paragraphs) (said_faults m.paragraphs) none told)

pub nothing_told : (m : ModelTree) → declared_faults m.paragraphs ≡ [] → said_faults m.paragraphs ≡ [] → faults_in m ≡ []
nothing_told m none nothing = sym (two_parts m) ∙ none_behind (declared_faults m.paragraphs) (said_faults m.paragraphs) none nothing

-- the resolved tree of what is declared and said
abbrev pub tree_with : Declared → Said → List (Option (List ℕ)) → List Part → NamedTree
tree_with d s names parts = record {
  signatures = d.signatures.items;
  fields = map field_view d.fields.items;
  callees = map callee_view s.callees.items;
  facts = map formulas_view s.facts.items;
  fact_names = names;
  assertions = map formulas_view s.assertions.items;
  commands = map command_view s.commands.items;
  parts = parts;
}

pub named_is : (ps : List ParagraphTree) (d : Declared) (s : Said) (names : List (Option (List ℕ))) (parts : List Part) → AreDeclared (globals_of ps) ps d → AreBodies (globals_of ps) ps s → names ≡ flat_map fact_names ps → parts ≡ parts_behind [] ps
    → tree_with d s names parts ≡ paragraphs_named (globals_of ps) ps
named_is ps d s names parts declared said named are = rw (declared.signatures_are, declared.fields_are, said.callees_are, said.facts_are, named, said.assertions_are, said.commands_are, are) refl
