-- Each part of a node is smaller than the node, so the calls for its parts come to an end.
use Rattle.std.proofs.Common.{◌≡◌, ℕ, ◌+◌, ◌*◌, ◌<◌, ◌≤◌, List, length, get_or, Vec, Box, Global, ap, arith, rules}
use denote.Param.Weighed.{most, at_most}
use Rattle.alloy_syntax.proofs.tree.Node.TheLaws.{the_size}
use Rattle.alloy_syntax.proofs.tree.Link.TheLaws.{the_size as link_size}
use Rattle.alloy_syntax.proofs.tree.Step.TheLaws.{the_size as step_size}
use Rattle.alloy_syntax.proofs.tree.Declaration.TheLaws.{the_size as declaration_size}
use Rattle.alloy_syntax.proofs.tree.Binding.TheLaws.{the_size as binding_size}
use Rattle.alloy_syntax.specs.declared.tree.Node.{Node}
use Rattle.alloy_syntax.specs.declared.tree.Link.{Link}
use Rattle.alloy_syntax.specs.declared.tree.Step.{Step}
use Rattle.alloy_syntax.specs.declared.tree.Declaration.{Declaration}
use Rattle.alloy_syntax.specs.declared.tree.Binding.{Binding}
use Rattle.alloy_syntax.specs.declared.tree.Node.TheVariants as node
use Rattle.alloy_syntax.specs.declared.tree.Step.TheVariants as step
use Rattle.alloy_syntax.specs.declared.tree.Node.TheViews.{the_lemmas}

-- a call by a function of rank s for one of rank r, where there are five ranks
module _ (r s t : ℕ) where
  module _ {X Y : Type 0} (size : X → ℕ) (size_of_part : Y → ℕ) (below : r < 5) (whole seen : X) (measured : 5 * size whole + s ≡ t) (is : whole ≡ seen) where
    -- for a part of what is measured
    pub part_falls : (part given : Y) → given ≡ part → size_of_part part < size seen → 5 * size_of_part given + r < t
    part_falls part given same smaller = let a = ap size is in let b = ap size_of_part same in omega arith

    -- for a row of parts
    pub row_falls : (parts given : List Y) → given ≡ parts → most size_of_part parts < size seen → 5 * most size_of_part given + r < t
    row_falls parts given same smaller = let a = ap size is in let b = ap (most size_of_part) same in omega arith

  -- for one of a row
  pub item_falls : {X : Type 0} (size : X → ℕ) → r < s → (xs : List X) (i : ℕ) (x : X) → 5 * most size xs + s ≡ t → i < length xs → x ≡ get_or xs i x → 5 * size x + r < t
  item_falls size lower xs i x measured there is = let a = ap size is in let b : size (get_or xs i x) ≤ most size xs = at_most size xs i x there in omega arith

  -- for the same
  pub rank_falls : (n : ℕ) → r < s → n + s ≡ t → n + r < t
  rank_falls n lower measured = omega arith

pub bracketed_smaller : (p : _) (x : Box Node Global) → the_size x.value < the_size (node.Bracketed p x)
bracketed_smaller p x = search (rules, the_lemmas)

pub block_smaller : (p : _) (xs : Vec Node Global) → most the_size xs.items < the_size (node.Block p xs)
block_smaller p xs = search (rules, the_lemmas)

pub prefixed_smaller : (f p : _) (x : Box Node Global) → the_size x.value < the_size (node.Prefixed f p x)
prefixed_smaller f p x = search (rules, the_lemmas)

pub first_smaller : (x : Box Node Global) (ls : Vec Link Global) → the_size x.value < the_size (node.Chain x ls)
first_smaller x ls = search (rules, the_lemmas)

pub links_smaller : (x : Box Node Global) (ls : Vec Link Global) → most link_size ls.items < the_size (node.Chain x ls)
links_smaller x ls = search (rules, the_lemmas)

pub head_smaller : (x : Box Node Global) (ss : Vec Step Global) → the_size x.value < the_size (node.Path x ss)
head_smaller x ss = search (rules, the_lemmas)

pub steps_smaller : (x : Box Node Global) (ss : Vec Step Global) → most step_size ss.items < the_size (node.Path x ss)
steps_smaller x ss = search (rules, the_lemmas)

pub left_smaller : (x : Box Node Global) (c : _) (y : Box Node Global) → the_size x.value < the_size (node.Compared x c y)
left_smaller x c y = search (rules, the_lemmas)

pub right_smaller : (x : Box Node Global) (c : _) (y : Box Node Global) → the_size y.value < the_size (node.Compared x c y)
right_smaller x c y = search (rules, the_lemmas)

pub premise_smaller : (x : Box Node Global) (p : _) (y : Box Node Global) → the_size x.value < the_size (node.Implies x p y)
premise_smaller x p y = search (rules, the_lemmas)

pub conclusion_smaller : (x : Box Node Global) (p : _) (y : Box Node Global) → the_size y.value < the_size (node.Implies x p y)
conclusion_smaller x p y = search (rules, the_lemmas)

pub condition_smaller : (x : Box Node Global) (p : _) (y z : Box Node Global) → the_size x.value < the_size (node.ImpliesElse x p y z)
condition_smaller x p y z = search (rules, the_lemmas)

pub then_smaller : (x : Box Node Global) (p : _) (y z : Box Node Global) → the_size y.value < the_size (node.ImpliesElse x p y z)
then_smaller x p y z = search (rules, the_lemmas)

pub else_smaller : (x : Box Node Global) (p : _) (y z : Box Node Global) → the_size z.value < the_size (node.ImpliesElse x p y z)
else_smaller x p y z = search (rules, the_lemmas)

pub declarations_smaller : (q p : _) (ds : Vec Declaration Global) (x : Box Node Global) → most declaration_size ds.items < the_size (node.Quantified q p ds x)
declarations_smaller q p ds x = search (rules, the_lemmas)

pub body_smaller : (q p : _) (ds : Vec Declaration Global) (x : Box Node Global) → the_size x.value < the_size (node.Quantified q p ds x)
body_smaller q p ds x = search (rules, the_lemmas)

pub bindings_smaller : (p : _) (bs : Vec Binding Global) (x : Box Node Global) → most binding_size bs.items < the_size (node.Let p bs x)
bindings_smaller p bs x = search (rules, the_lemmas)

pub let_body_smaller : (p : _) (bs : Vec Binding Global) (x : Box Node Global) → the_size x.value < the_size (node.Let p bs x)
let_body_smaller p bs x = search (rules, the_lemmas)

pub operand_smaller : (l : Link) → the_size l.operand < link_size l
operand_smaller l = search (rules, the_lemmas)

pub domain_smaller : (d : Declaration) → the_size d.domain < declaration_size d
domain_smaller d = search (rules, the_lemmas)

pub value_smaller : (b : Binding) → the_size b.value < binding_size b
value_smaller b = search (rules, the_lemmas)

pub joined_smaller : (p : _) (x : Node) → the_size x < step_size (step.Join p x)
joined_smaller p x = search (rules, the_lemmas)

pub in_brackets_smaller : (p : _) (xs : Vec Node Global) → most the_size xs.items < step_size (step.Brackets p xs)
in_brackets_smaller p xs = search (rules, the_lemmas)
