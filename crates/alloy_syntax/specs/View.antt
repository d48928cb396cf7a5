-- What contracts see of a tree: lists where it has vectors, and what its boxes hold.
use Rattle.std.specs.Prelude.{List, map, option_map}
use Rattle.alloy_syntax.specs.declared.tree.Node.{Node, fold-Node}
use Rattle.alloy_syntax.specs.declared.tree.Node.TheOpen.{Node-F, Step-F, Binding-F, Declaration-F, Link-F}
use Rattle.alloy_syntax.specs.declared.tree.Step.{Step, fold-Step}
use Rattle.alloy_syntax.specs.declared.tree.Binding.{Binding, fold-Binding}
use Rattle.alloy_syntax.specs.declared.tree.Declaration.{Declaration, fold-Declaration}
use Rattle.alloy_syntax.specs.declared.tree.Link.{Link, fold-Link}
use Rattle.alloy_syntax.specs.declared.tree.Bound.{Bound, fold-Bound}
use Rattle.alloy_syntax.specs.declared.tree.Bound.TheOpen.{Bound-F, BoundArrow-F}
use Rattle.alloy_syntax.specs.declared.tree.BoundArrow.{BoundArrow, fold-BoundArrow}
use Rattle.alloy_syntax.specs.declared.tree.Field.{Field}
use Rattle.alloy_syntax.specs.declared.tree.Signatures.{Signatures}
use Rattle.alloy_syntax.specs.declared.tree.Block.{Block}
use Rattle.alloy_syntax.specs.declared.tree.Target.{Target}
use Rattle.alloy_syntax.specs.declared.tree.Target.TheVariants as target
use Rattle.alloy_syntax.specs.declared.tree.Scope.{Scope}
use Rattle.alloy_syntax.specs.declared.tree.Command.{Command}
use Rattle.alloy_syntax.specs.declared.tree.Function.{Function}
use Rattle.alloy_syntax.specs.declared.tree.Paragraph.{Paragraph}
use Rattle.alloy_syntax.specs.declared.tree.Paragraph.TheVariants as paragraph
use Rattle.alloy_syntax.specs.declared.tree.Model.{Model}
use Rattle.alloy_syntax.specs.Tree.{Tree, named, numbered, constant, bracketed, block, prefixed, chain, path, compared, implies, implies_else, quantified, bound_by_let, LinkTree, StepTree, joined, in_brackets, DeclarationTree, BindingTree, trees_of, links_of, steps_of}
use Rattle.alloy_syntax.specs.Tree.{declarations_of, bindings_of, BoundTree, bound_named, bound_bracketed, bound_union, bound_arrows, BoundArrowTree, unions_of, arrows_of, FieldTree, BlockTree, TargetTree, at_name, at_block, ScopeTree, ParagraphTree, signatures, fact, predicate, function, assertion, command, ModelTree}

-- one level of a node, with each part inside already seen as its tree
abbrev pub node_level : Node-F Tree StepTree BindingTree DeclarationTree LinkTree → Tree
node_level (Node-F.Named n) = named n
node_level (Node-F.Numbered n) = numbered n
node_level (Node-F.Constant c p) = constant c p
node_level (Node-F.Bracketed p x) = bracketed p x.value
node_level (Node-F.Block p xs) = block p (trees_of xs.items)
node_level (Node-F.Prefixed f p x) = prefixed f p x.value
node_level (Node-F.Chain x ls) = chain x.value (links_of ls.items)
node_level (Node-F.Path x ss) = path x.value (steps_of ss.items)
node_level (Node-F.Compared x c y) = compared x.value c y.value
node_level (Node-F.Implies x p y) = implies x.value p y.value
node_level (Node-F.ImpliesElse x p y z) = implies_else x.value p y.value z.value
node_level (Node-F.Quantified q p ds x) = quantified q p (declarations_of ds.items) x.value
node_level (Node-F.Let p bs x) = bound_by_let p (bindings_of bs.items) x.value

abbrev pub step_level : Step-F Tree StepTree BindingTree DeclarationTree LinkTree → StepTree
step_level (Step-F.Join p x) = joined p x
step_level (Step-F.Brackets p xs) = in_brackets p xs.items

abbrev pub binding_level : Binding-F Tree StepTree BindingTree DeclarationTree LinkTree → BindingTree
binding_level b = record { name = b.name; value = b.value }

abbrev pub declaration_level : Declaration-F Tree StepTree BindingTree DeclarationTree LinkTree → DeclarationTree
declaration_level d = record { disjoint = d.disjoint; names = d.names.items; mark = d.mark; domain = d.domain }

abbrev pub link_level : Link-F Tree StepTree BindingTree DeclarationTree LinkTree → LinkTree
link_level l = record { operator = l.operator; place = l.place; operand = l.operand }

abbrev pub view : Node → Tree
view = fold-Node Tree StepTree BindingTree DeclarationTree LinkTree node_level step_level binding_level declaration_level link_level

abbrev pub step_view : Step → StepTree
step_view = fold-Step Tree StepTree BindingTree DeclarationTree LinkTree node_level step_level binding_level declaration_level link_level

abbrev pub binding_view : Binding → BindingTree
binding_view = fold-Binding Tree StepTree BindingTree DeclarationTree LinkTree node_level step_level binding_level declaration_level link_level

abbrev pub declaration_view : Declaration → DeclarationTree
declaration_view = fold-Declaration Tree StepTree BindingTree DeclarationTree LinkTree node_level step_level binding_level declaration_level link_level

abbrev pub link_view : Link → LinkTree
link_view = fold-Link Tree StepTree BindingTree DeclarationTree LinkTree node_level step_level binding_level declaration_level link_level

abbrev pub views : List Node → List Tree
views = map view

-- ---- bounds

abbrev pub bound_level : Bound-F BoundTree BoundArrowTree → BoundTree
bound_level (Bound-F.Named n) = bound_named n
bound_level (Bound-F.Bracketed p b) = bound_bracketed p b.value
bound_level (Bound-F.Union b bs) = bound_union b.value (unions_of bs.items)
bound_level (Bound-F.Arrows b arrows) = bound_arrows b.value (arrows_of arrows.items)

abbrev pub arrow_level : BoundArrow-F BoundTree BoundArrowTree → BoundArrowTree
arrow_level a = record { left = a.left; place = a.place; right = a.right; side = a.side }

abbrev pub bound_view : Bound → BoundTree
bound_view = fold-Bound BoundTree BoundArrowTree bound_level arrow_level

abbrev pub arrow_view : BoundArrow → BoundArrowTree
arrow_view = fold-BoundArrow BoundTree BoundArrowTree bound_level arrow_level

-- ---- paragraphs

abbrev pub field_view : Field → FieldTree
field_view f = record { names = f.names.items; mark = f.mark; bound = bound_view f.bound }

abbrev pub block_view : Block → BlockTree
block_view b = record { place = b.place; formulas = views b.formulas.items }

abbrev pub target_view : Target → TargetTree
target_view (target.Named n) = at_name n
target_view (target.Block label b) = at_block label (block_view b)

abbrev pub scope_view : Scope → ScopeTree
scope_view s = record { default = s.default; entries = s.entries.items }

abbrev pub signatures_view : Signatures → ParagraphTree
signatures_view s = signatures s.is_abstract s.mark s.names.items s.parent (map field_view s.fields.items)

abbrev pub command_view : Command → ParagraphTree
command_view c = command c.kind c.place (target_view c.target) (option_map scope_view c.scope) c.expected

abbrev pub function_view : Function → ParagraphTree
function_view f = function f.name (map declaration_view f.parameters.items) f.mark (view f.range) (view f.body)

abbrev pub paragraph_view : Paragraph → ParagraphTree
paragraph_view (paragraph.Signatures s) = signatures_view s
paragraph_view (paragraph.Fact n b) = fact n (block_view b)
paragraph_view (paragraph.Predicate n ds b) = predicate n (map declaration_view ds.items) (block_view b)
paragraph_view (paragraph.Function f) = function_view f
paragraph_view (paragraph.Assertion n b) = assertion n (block_view b)
paragraph_view (paragraph.Command c) = command_view c

abbrev pub model_view : Model → ModelTree
model_view m = record { heading = m.heading; opens = m.opens.items; paragraphs = map paragraph_view m.paragraphs.items }
