-- What paragraphs say.
use Rattle.std.specs.Prelude.{◌≡◌, ◌++◌, List, map, flat_map}
use Rattle.alloy_syntax.specs.Tree.{ParagraphTree}
use Rattle.named_model.specs.Names.{Globals}
use Rattle.named_model.specs.View.{callee_view, formulas_view, command_view}
use Rattle.named_model.specs.Declarations.{callees_named, facts_named, assertions_named, commands_named}
use Rattle.sig_resolve.specs.declared.paragraph_bodies.adding.Said.{Said}

-- these are what the paragraphs say
pub record AreBodies (g : Globals) (paragraphs : List ParagraphTree) (b : Said) : Type 0 where
  pub callees_are : map callee_view b.callees.items ≡ flat_map (callees_named g) paragraphs
  pub facts_are : map formulas_view b.facts.items ≡ flat_map (facts_named g) paragraphs
  pub assertions_are : map formulas_view b.assertions.items ≡ flat_map (assertions_named g) paragraphs
  pub commands_are : map command_view b.commands.items ≡ flat_map (commands_named g) paragraphs

-- what a paragraph says was put behind the others
pub record IsLonger (g : Globals) (paragraph : ParagraphTree) (old new : Said) : Type 0 where
  pub callees_are : map callee_view new.callees.items ≡ map callee_view old.callees.items ++ callees_named g paragraph
  pub facts_are : map formulas_view new.facts.items ≡ map formulas_view old.facts.items ++ facts_named g paragraph
  pub assertions_are : map formulas_view new.assertions.items ≡ map formulas_view old.assertions.items ++ assertions_named g paragraph
  pub commands_are : map command_view new.commands.items ≡ map command_view old.commands.items ++ commands_named g paragraph
