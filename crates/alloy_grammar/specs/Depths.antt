-- How deep constructs nest in a tree: brackets of each kind, prefixes and words that count, quantifiers, lets, and the right
-- sides of `=>` and `else`. Empty brackets have nothing under them.
use Rattle.std.specs.Prelude.{ℕ, suc, max}
use Rattle.alloy_syntax.specs.Tree.{Tree, named, numbered, constant, bracketed, block, prefixed, chain, path, compared, implies, implies_else, quantified, bound_by_let, Trees, no_trees, more_trees, Links, no_links, more_links, Steps, no_steps, join_first, brackets_first, Declarations, no_declarations, more_declarations, Bindings, no_bindings, more_bindings}

unfoldable mutual
  pub depth_of : Tree → ℕ
  depth_of (named n) = 0
  depth_of (numbered n) = 0
  depth_of (constant c p) = 0
  depth_of (bracketed p x) = suc (depth_of x)
  depth_of (block p xs) = depth_inside xs
  depth_of (prefixed f p x) = suc (depth_of x)
  depth_of (chain x ls) = max (depth_of x) (depth_of_links ls)
  depth_of (path x ss) = max (depth_of x) (depth_of_steps ss)
  depth_of (compared x c y) = max (depth_of x) (depth_of y)
  depth_of (implies x p y) = max (depth_of x) (suc (depth_of y))
  depth_of (implies_else x p y z) = max (depth_of x) (max (suc (depth_of y)) (suc (depth_of z)))
  depth_of (quantified q p ds x) = suc (max (depth_of_declarations ds) (depth_of x))
  depth_of (bound_by_let p bs x) = suc (max (depth_of_bindings bs) (depth_of x))

  -- of brackets round these
  pub depth_inside : Trees → ℕ
  depth_inside no_trees = 0
  depth_inside (more_trees x xs) = max (suc (depth_of x)) (depth_inside xs)

  pub depth_of_links : Links → ℕ
  depth_of_links no_links = 0
  depth_of_links (more_links o p x ls) = max (depth_of x) (depth_of_links ls)

  pub depth_of_steps : Steps → ℕ
  depth_of_steps no_steps = 0
  depth_of_steps (join_first p x ss) = max (depth_of x) (depth_of_steps ss)
  depth_of_steps (brackets_first p xs ss) = max (depth_inside xs) (depth_of_steps ss)

  pub depth_of_declarations : Declarations → ℕ
  depth_of_declarations no_declarations = 0
  depth_of_declarations (more_declarations d ns m x ds) = max (depth_of x) (depth_of_declarations ds)

  pub depth_of_bindings : Bindings → ℕ
  depth_of_bindings no_bindings = 0
  depth_of_bindings (more_bindings n x bs) = max (depth_of x) (depth_of_bindings bs)
