-- A loop over paragraphs: what was said by those before, with what those that are left say, is what all say.
use Rattle.std.proofs.Common.{◌≡◌, ℕ, ◌+◌, ◌<◌, ◌≤◌, List, [], ◌++◌, map, flat_map, length, get_or, drop, refl}
use Rattle.std.proofs.lemmas.List.Concat.{flat_map-cons}
use Rattle.alloy_syntax.specs.declared.tree.Paragraph.{Paragraph}
use Rattle.alloy_syntax.specs.Tree.{ParagraphTree}
use Rattle.alloy_syntax.specs.View.{paragraph_view}
use Rattle.named_model.specs.declared.fault.NameFault.{NameFault}
use Rattle.named_model.specs.Names.{Globals}
use Rattle.named_model.specs.Declarations.{callees_named, facts_named, assertions_named, commands_named}
use Rattle.named_model.specs.Faults.{body_faults}
use Rattle.named_model.specs.View.{callee_view, formulas_view, command_view}
use Rattle.name_tables.specs.Told.{IsTold}
use Rattle.name_tables.proofs.Signatures.Gaining.{Gained, gained_more, gained_fault, no_fault, all_gained}
use Rattle.sig_resolve.specs.declared.paragraph_bodies.adding.Said.{Said}
use Rattle.sig_resolve.specs.Paragraphs.Bodies.{AreBodies, IsLonger}

abbrev pub faults : Globals → List Paragraph → List NameFault
faults g ps = flat_map (body_faults g) (map paragraph_view ps)

abbrev pub said : {Y : Type 0} → (ParagraphTree → List Y) → List Paragraph → List Y
said values ps = flat_map values (map paragraph_view ps)

-- of one kind of things
module _ {Y : Type 0} (values : ParagraphTree → List Y) (g : Globals) (all : List Paragraph) (i : ℕ) where
  kind_more : (x : Paragraph) (now more : List Y) → i < length all → x ≡ get_or all i x → body_faults g (paragraph_view x) ≡ []
      → more ≡ now ++ values (paragraph_view x) → Gained (faults g) (said values) all (drop i all) [] now → Gained (faults g) (said values) all (drop (i + 1) all) [] more
  kind_more x now more l is none pushed before =
      gained_more (faults g) (said values) all i [] now before x more (values (paragraph_view x)) (body_faults g (paragraph_view x)) l is
      (flat_map-cons (body_faults g) (paragraph_view x) (map paragraph_view (drop (i + 1) all))) none
      (flat_map-cons values (paragraph_view x) (map paragraph_view (drop (i + 1) all))) pushed

  kind_all : (now : List Y) → length all ≤ i → Gained (faults g) (said values) all (drop i all) [] now → now ≡ said values all
  kind_all now l before = all_gained (faults g) (said values) all i [] now before l refl

pub record SoFar (g : Globals) (all rest : List Paragraph) (b : Said) : Type 0 where
  pub callees : Gained (faults g) (said (callees_named g)) all rest [] (map callee_view b.callees.items)
  pub facts : Gained (faults g) (said (facts_named g)) all rest [] (map formulas_view b.facts.items)
  pub assertions : Gained (faults g) (said (assertions_named g)) all rest [] (map formulas_view b.assertions.items)
  pub commands : Gained (faults g) (said (commands_named g)) all rest [] (map command_view b.commands.items)

module _ (g : Globals) (all : List Paragraph) (i : ℕ) (b : Said) (before : SoFar g all (drop i all) b) where
  pub so_far_more : (x : Paragraph) (more : Said) → i < length all → x ≡ get_or all i x → body_faults g (paragraph_view x) ≡ []
      → IsLonger g (paragraph_view x) b more → SoFar g all (drop (i + 1) all) more
  so_far_more x more l is none longer = record {
    callees = kind_more (callees_named g) g all i x (map callee_view b.callees.items) (map callee_view more.callees.items) l is none longer.callees_are before.callees;
    facts = kind_more (facts_named g) g all i x (map formulas_view b.facts.items) (map formulas_view more.facts.items) l is none longer.facts_are before.facts;
    assertions = kind_more (assertions_named g) g all i x (map formulas_view b.assertions.items) (map formulas_view more.assertions.items) l is none longer.assertions_are before.assertions;
    commands = kind_more (commands_named g) g all i x (map command_view b.commands.items) (map command_view more.commands.items) l is none longer.commands_are before.commands;
  }

  pub so_far_fault : (x : Paragraph) (e : NameFault) → i < length all → x ≡ get_or all i x → IsTold e (body_faults g (paragraph_view x)) → IsTold e (faults g all)
  so_far_fault x e l is told =
      gained_fault (faults g) (said (callees_named g)) all i [] (map callee_view b.callees.items) before.callees x (body_faults g (paragraph_view x)) e l is
      (flat_map-cons (body_faults g) (paragraph_view x) (map paragraph_view (drop (i + 1) all))) told

  pub so_far_all : length all ≤ i → (faults g all ≡ []) × AreBodies g (map paragraph_view all) b
  so_far_all l = (
    no_fault (faults g) (said (callees_named g)) all i [] (map callee_view b.callees.items) before.callees l refl,
    record {
      callees_are = kind_all (callees_named g) g all i (map callee_view b.callees.items) l before.callees;
      facts_are = kind_all (facts_named g) g all i (map formulas_view b.facts.items) l before.facts;
      assertions_are = kind_all (assertions_named g) g all i (map formulas_view b.assertions.items) l before.assertions;
      commands_are = kind_all (commands_named g) g all i (map command_view b.commands.items) l before.commands;
    },
  )
