-- Problems of a set of atoms and of a relation that may have any tuple over it: they are as those of `sample_links`.
use Rattle.std.proofs.Common.{◌≡◌, ◌≢◌, ℕ, ◌+◌, ◌≤◌, inl, List, [], ◌∷◌, length, Contains, sym, subst}
use Rattle.tuple_core.specs.Operators.{Multiplied}
use Rattle.tuple_core.specs.Rows.{Rows, IsRows, IsSetOf}
use Rattle.rel_formula.specs.declared.problem.Relation.{Relation}
use Rattle.rel_formula.specs.Kernel.{FormulaTree}
use Rattle.rel_formula.specs.Bounds.{IsProblem}
use Rattle.rel_formula.specs.Renaming.{IsSymmetric}
use Rattle.rel_formula.specs.Shape.{IsProper}
use Rattle.samples.proofs.Links.Linked.{HasAllOver, atoms_over, product_over, links_symmetric, links_problem}
use Rattle.bench.specs.Powers.{AreAtoms, IsPower}

over : (atoms v : Rows) → IsPower atoms v → HasAllOver atoms v
over atoms v is = record { tuples = is.tuples }

power_of : (atoms v : Rows) → HasAllOver atoms v → IsPower atoms v
power_of atoms v is = record { tuples = is.tuples }

-- the atoms themselves
pub one_power : (atoms : Rows) → IsRows atoms → atoms.arity ≡ 1 → IsPower atoms atoms
one_power atoms rows one = power_of atoms atoms (atoms_over atoms rows one)

-- each tuple of the one followed by each of the other
pub product_power : (atoms left right both : Rows) → IsPower atoms left → IsPower atoms right →
    IsSetOf both (left.arity + right.arity) (Multiplied (Contains left.rows) (Contains right.rows)) → IsPower atoms both
product_power atoms left right both first second set = power_of atoms both (product_over atoms left right both (over atoms left first) (over atoms right second) set)

-- every renaming keeps the bounds
pub powers_symmetric : (atoms : Rows) (set relation : Relation) (formula : FormulaTree) → IsRows atoms → atoms.arity ≡ 1 → set.lower ≡ atoms → set.upper ≡ atoms → relation.lower.rows ≡ [] → IsPower atoms relation.upper →
    IsSymmetric (record { relations = set ∷ relation ∷ []; tops = 0 ∷ []; formula = formula })
powers_symmetric atoms set relation formula rows one low high none power = links_symmetric atoms set relation formula rows one (inl low) high none (over atoms relation.upper power)

-- it is a problem
pub power_problem : (atoms : Rows) (set relation : Relation) (formula : FormulaTree) → IsRows atoms → AreAtoms atoms → set.lower ≡ atoms → set.upper ≡ atoms → IsRows relation.lower → IsRows relation.upper →
    relation.lower.rows ≡ [] → relation.lower.arity ≡ relation.upper.arity → IsPower atoms relation.upper → set.name ≢ relation.name → length atoms.rows + length relation.upper.rows ≤ 4096 →
    IsProper (1 ∷ relation.upper.arity ∷ []) 0 formula → IsProblem (record { relations = set ∷ relation ∷ []; tops = 0 ∷ []; formula = formula })
power_problem atoms set relation formula rows are low high lower upper none same power names few proper =
    links_problem atoms set relation formula rows are.arity (inl low) high none (over atoms relation.upper power) are.tops (subst IsRows (sym low) rows) lower upper same names few proper
