use Rattle.std.proofs.Common.{◌≡◌, ◌++◌, take, map, codes}
use Rattle.script_text.specs.Lines.{atom_text, separated}
use Rattle.script_text.proofs.relation_lines.push_tuple.Given as goal

abbrev pub invariant-loop-place : goal.invariant-loop-place
invariant-loop-place l = l.out.items ≡ l.fn.out.items ++ separated (codes "->") (map (atom_text l.fn.problem) (take l.place l.fn.atoms))
