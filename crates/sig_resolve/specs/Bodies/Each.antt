-- A step and a domain by themselves.
use Rattle.std.specs.Prelude.{List, ℕ, length}
use Rattle.alloy_syntax.specs.Tree as tree
use Rattle.alloy_syntax.specs.Tree.{trees_of}
use Rattle.named_model.specs.declared.fault.NameFault.{NameFault}
use Rattle.named_model.specs.Phrase as phrase
use Rattle.named_model.specs.Names.{Globals, resolved, all_resolved, faults_of, all_faults, trees_count}

-- how many parts stand in the brackets of a step
abbrev pub parts_in : tree.StepTree → ℕ
parts_in (tree.joined p t) = 0
parts_in (tree.in_brackets p ts) = trees_count (trees_of ts)

-- the faults of a step
abbrev pub faults_of_step : Globals → List (List ℕ) → tree.StepTree → List NameFault
faults_of_step g locals (tree.joined p t) = faults_of g locals 0 t
faults_of_step g locals (tree.in_brackets p ts) = all_faults g locals (trees_of ts)

-- a step with every name tied to its declaration, before others
abbrev pub resolved_before : Globals → List (List ℕ) → tree.StepTree → phrase.StepTrees → phrase.StepTrees
resolved_before g locals (tree.joined p t) rest = phrase.join_first p (resolved g locals t) rest
resolved_before g locals (tree.in_brackets p ts) rest = phrase.brackets_first p (all_resolved g locals (trees_of ts)) rest

abbrev pub domain_resolved : Globals → List (List ℕ) → tree.DeclarationTree → phrase.DomainTree
domain_resolved g locals d = record { disjoint = d.disjoint; count = length d.names; mark = d.mark; domain = resolved g locals d.domain }
