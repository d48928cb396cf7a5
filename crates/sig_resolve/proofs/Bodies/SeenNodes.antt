-- What each kind of node is seen as.
use Rattle.std.proofs.Common.{◌≡◌, ap, ◌∙◌, sym, map, Box, Vec, Global}
use Rattle.alloy_lex.specs.declared.token.Place.{Place}
use Rattle.alloy_syntax.specs.declared.tree.Binding.{Binding}
use Rattle.alloy_syntax.specs.declared.tree.Comparing.{Comparing}
use Rattle.alloy_syntax.specs.declared.tree.Constant.{Constant}
use Rattle.alloy_syntax.specs.declared.tree.Declaration.{Declaration}
use Rattle.alloy_syntax.specs.declared.tree.Link.{Link}
use Rattle.alloy_syntax.specs.declared.tree.Name.{Name}
use Rattle.alloy_syntax.specs.declared.tree.Node.{Node, fold-roll-Node}
use Rattle.alloy_syntax.specs.declared.tree.Node.TheOpen.{Node-F}
use Rattle.alloy_syntax.specs.declared.tree.Node.TheVariants as node
use Rattle.alloy_syntax.specs.declared.tree.Number.{Number}
use Rattle.alloy_syntax.specs.declared.tree.Prefix.{Prefix}
use Rattle.alloy_syntax.specs.declared.tree.Quantifier.{Quantifier}
use Rattle.alloy_syntax.specs.declared.tree.Step.{Step}
use Rattle.alloy_syntax.specs.Tree as tree
use Rattle.alloy_syntax.specs.Tree.{Tree, trees_of, links_of, steps_of, declarations_of, bindings_of}
use Rattle.alloy_syntax.specs.View.{view, views, link_view, step_view, declaration_view, binding_view, node_level, step_level, binding_level, declaration_level, link_level}

pub bracketed_node : (p : Place) (x : Box Node Global) → view (node.Bracketed p x) ≡ tree.bracketed p (view x.value)
bracketed_node p x = ap view (sym (node.rolls-Bracketed p x)) ∙ fold-roll-Node Tree tree.StepTree tree.BindingTree tree.DeclarationTree tree.LinkTree node_level step_level binding_level declaration_level link_level (Node-F.Bracketed p x)

pub block_node : (p : Place) (xs : Vec Node Global) → view (node.Block p xs) ≡ tree.block p (trees_of (views xs.items))
block_node p xs = ap view (sym (node.rolls-Block p xs)) ∙ fold-roll-Node Tree tree.StepTree tree.BindingTree tree.DeclarationTree tree.LinkTree node_level step_level binding_level declaration_level link_level (Node-F.Block p xs)

pub prefixed_node : (f : Prefix) (p : Place) (x : Box Node Global) → view (node.Prefixed f p x) ≡ tree.prefixed f p (view x.value)
prefixed_node f p x = ap view (sym (node.rolls-Prefixed f p x)) ∙ fold-roll-Node Tree tree.StepTree tree.BindingTree tree.DeclarationTree tree.LinkTree node_level step_level binding_level declaration_level link_level (Node-F.Prefixed f p x)

pub chain_node : (x : Box Node Global) (ls : Vec Link Global) → view (node.Chain x ls) ≡ tree.chain (view x.value) (links_of (map link_view ls.items))
chain_node x ls = ap view (sym (node.rolls-Chain x ls)) ∙ fold-roll-Node Tree tree.StepTree tree.BindingTree tree.DeclarationTree tree.LinkTree node_level step_level binding_level declaration_level link_level (Node-F.Chain x ls)

pub compared_node : (x : Box Node Global) (c : Comparing) (y : Box Node Global) → view (node.Compared x c y) ≡ tree.compared (view x.value) c (view y.value)
compared_node x c y = ap view (sym (node.rolls-Compared x c y)) ∙ fold-roll-Node Tree tree.StepTree tree.BindingTree tree.DeclarationTree tree.LinkTree node_level step_level binding_level declaration_level link_level (Node-F.Compared x c y)

pub implies_node : (x : Box Node Global) (p : Place) (y : Box Node Global) → view (node.Implies x p y) ≡ tree.implies (view x.value) p (view y.value)
implies_node x p y = ap view (sym (node.rolls-Implies x p y)) ∙ fold-roll-Node Tree tree.StepTree tree.BindingTree tree.DeclarationTree tree.LinkTree node_level step_level binding_level declaration_level link_level (Node-F.Implies x p y)

pub else_node : (x : Box Node Global) (p : Place) (y z : Box Node Global) → view (node.ImpliesElse x p y z) ≡ tree.implies_else (view x.value) p (view y.value) (view z.value)
else_node x p y z = ap view (sym (node.rolls-ImpliesElse x p y z)) ∙ fold-roll-Node Tree tree.StepTree tree.BindingTree tree.DeclarationTree tree.LinkTree node_level step_level binding_level declaration_level link_level (Node-F.ImpliesElse x p y z)

pub named_node : (x : Name) → view (node.Named x) ≡ tree.named x
named_node x = ap view (sym (node.rolls-Named x)) ∙ fold-roll-Node Tree tree.StepTree tree.BindingTree tree.DeclarationTree tree.LinkTree node_level step_level binding_level declaration_level link_level (Node-F.Named x)

pub numbered_node : (k : Number) → view (node.Numbered k) ≡ tree.numbered k
numbered_node k = ap view (sym (node.rolls-Numbered k)) ∙ fold-roll-Node Tree tree.StepTree tree.BindingTree tree.DeclarationTree tree.LinkTree node_level step_level binding_level declaration_level link_level (Node-F.Numbered k)

pub constant_node : (c : Constant) (p : Place) → view (node.Constant c p) ≡ tree.constant c p
constant_node c p = ap view (sym (node.rolls-Constant c p)) ∙ fold-roll-Node Tree tree.StepTree tree.BindingTree tree.DeclarationTree tree.LinkTree node_level step_level binding_level declaration_level link_level (Node-F.Constant c p)

pub path_node : (x : Box Node Global) (ss : Vec Step Global) → view (node.Path x ss) ≡ tree.path (view x.value) (steps_of (map step_view ss.items))
path_node x ss = ap view (sym (node.rolls-Path x ss)) ∙ fold-roll-Node Tree tree.StepTree tree.BindingTree tree.DeclarationTree tree.LinkTree node_level step_level binding_level declaration_level link_level (Node-F.Path x ss)

pub quantified_node : (q : Quantifier) (p : Place) (ds : Vec Declaration Global) (x : Box Node Global) → view (node.Quantified q p ds x) ≡ tree.quantified q p (declarations_of (map declaration_view ds.items)) (view x.value)
quantified_node q p ds x = ap view (sym (node.rolls-Quantified q p ds x)) ∙ fold-roll-Node Tree tree.StepTree tree.BindingTree tree.DeclarationTree tree.LinkTree node_level step_level binding_level declaration_level link_level (Node-F.Quantified q p ds x)

pub let_node : (p : Place) (bs : Vec Binding Global) (x : Box Node Global) → view (node.Let p bs x) ≡ tree.bound_by_let p (bindings_of (map binding_view bs.items)) (view x.value)
let_node p bs x = ap view (sym (node.rolls-Let p bs x)) ∙ fold-roll-Node Tree tree.StepTree tree.BindingTree tree.DeclarationTree tree.LinkTree node_level step_level binding_level declaration_level link_level (Node-F.Let p bs x)
