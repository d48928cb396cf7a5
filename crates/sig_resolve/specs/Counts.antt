-- How many things of each kind paragraphs declare.
use Rattle.std.specs.Prelude.{◌≡◌, ◌+◌, [], List, length}
use Rattle.alloy_syntax.specs.Tree.{ParagraphTree}
use Rattle.named_model.specs.Declarations.{count_in, field_names, facts_named, headers, assertion_names, commands_named, globals_of}
use Rattle.sig_resolve.specs.declared.parts.Counts.{Counts}

pub record AreCounts (before : List ParagraphTree) (c : Counts) : Type 0 where
  pub fields_are : c.fields ≡ count_in field_names before
  pub facts_are : c.facts ≡ count_in (facts_named (globals_of [])) before
  pub callees_are : c.callees ≡ count_in headers before
  pub assertions_are : c.assertions ≡ count_in assertion_names before
  pub commands_are : c.commands ≡ count_in (commands_named (globals_of [])) before

-- with those of one paragraph more
pub record AreMore (p : ParagraphTree) (old new : Counts) : Type 0 where
  pub fields_are : new.fields ≡ old.fields + length (field_names p)
  pub facts_are : new.facts ≡ old.facts + length (facts_named (globals_of []) p)
  pub callees_are : new.callees ≡ old.callees + length (headers p)
  pub assertions_are : new.assertions ≡ old.assertions + length (assertion_names p)
  pub commands_are : new.commands ≡ old.commands + length (commands_named (globals_of []) p)
