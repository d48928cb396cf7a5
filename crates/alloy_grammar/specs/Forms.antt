-- Which trees have no form that the language refuses: no `lone` or `one` binds several variables.
use Rattle.std.specs.Prelude.{◌≡◌, Bool, false, ◌&&◌, ◌||◌}
use Rattle.alloy_syntax.specs.Nodes.{is_single, are_several}
use Rattle.alloy_syntax.specs.Tree.{Tree, named, numbered, constant, bracketed, block, prefixed, chain, path, compared, implies, implies_else, quantified, bound_by_let, Trees, no_trees, more_trees, Links, no_links, more_links, Steps, no_steps, join_first, brackets_first, Declarations, no_declarations, more_declarations, Bindings, no_bindings, more_bindings}
use Rattle.alloy_grammar.specs.Nodes.{has_declarations}

abbrev pub binds_several : Declarations → Bool
binds_several no_declarations = false
binds_several (more_declarations d ns m x ds) = are_several ns || has_declarations ds

unfoldable mutual
  pub IsPlain : Tree → Type 0
  IsPlain (named n) = Unit {0}
  IsPlain (numbered n) = Unit {0}
  IsPlain (constant c p) = Unit {0}
  IsPlain (bracketed p x) = IsPlain x
  IsPlain (block p xs) = ArePlain xs
  IsPlain (prefixed f p x) = IsPlain x
  IsPlain (chain x ls) = IsPlain x × ArePlainLinks ls
  IsPlain (path x ss) = IsPlain x × ArePlainSteps ss
  IsPlain (compared x c y) = IsPlain x × IsPlain y
  IsPlain (implies x p y) = IsPlain x × IsPlain y
  IsPlain (implies_else x p y z) = IsPlain x × IsPlain y × IsPlain z
  IsPlain (quantified q p ds x) = ((is_single q && binds_several ds) ≡ false) × ArePlainDeclarations ds × IsPlain x
  IsPlain (bound_by_let p bs x) = ArePlainBindings bs × IsPlain x

  pub ArePlain : Trees → Type 0
  ArePlain no_trees = Unit {0}
  ArePlain (more_trees x xs) = IsPlain x × ArePlain xs

  pub ArePlainLinks : Links → Type 0
  ArePlainLinks no_links = Unit {0}
  ArePlainLinks (more_links o p x ls) = IsPlain x × ArePlainLinks ls

  pub ArePlainSteps : Steps → Type 0
  ArePlainSteps no_steps = Unit {0}
  ArePlainSteps (join_first p x ss) = IsPlain x × ArePlainSteps ss
  ArePlainSteps (brackets_first p xs ss) = ArePlain xs × ArePlainSteps ss

  pub ArePlainDeclarations : Declarations → Type 0
  ArePlainDeclarations no_declarations = Unit {0}
  ArePlainDeclarations (more_declarations d ns m x ds) = IsPlain x × ArePlainDeclarations ds

  pub ArePlainBindings : Bindings → Type 0
  ArePlainBindings no_bindings = Unit {0}
  ArePlainBindings (more_bindings n x bs) = IsPlain x × ArePlainBindings bs
