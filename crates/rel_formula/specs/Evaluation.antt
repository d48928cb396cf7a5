-- What the evaluator's steps tell.
use Rattle.std.specs.Prelude.{◌≡◌, List, [], ◌∷◌, All, AllPairs, Any}
use Rattle.tuple_core.specs.declared.atom.Atom.{Atom}
use Rattle.tuple_core.specs.Operators.{Pred}
use Rattle.rel_formula.specs.declared.connectives.Connective.{Connective}
use Rattle.rel_formula.specs.declared.connectives.Connective.TheVariants as connective
use Rattle.rel_formula.specs.declared.connectives.Quantifier.{Quantifier}
use Rattle.rel_formula.specs.declared.connectives.Quantifier.TheVariants as quantifier
use Rattle.rel_formula.specs.Kernel.{FormulaTree}
use Rattle.rel_formula.specs.Meaning.{Structure, Truth}

-- the row has one atom, and the formula is true where the innermost variable is that atom
abbrev pub IsTrueAt : Structure → List Atom → FormulaTree → Pred
IsTrueAt M env f row = (a : Atom) × (row ≡ a ∷ []) × Truth M (a ∷ env) f

-- the formula is false at one of the two rows
abbrev pub AreNotBothTrue : Structure → List Atom → FormulaTree → List Atom → List Atom → Type 0
AreNotBothTrue M env f s t = IsTrueAt M env f s → IsTrueAt M env f t → ⊥

-- all of the list have the fact, or some
abbrev pub HoldsOf : {X : Type 0} → Connective → (X → Type 0) → List X → Type 0
HoldsOf connective.And P xs = All P xs
HoldsOf connective.Or P xs = Any P xs

-- the formula is true at all rows, at some, at no two
abbrev pub IsTrueAtRows : Quantifier → Structure → List Atom → FormulaTree → List (List Atom) → Type 0
IsTrueAtRows quantifier.All M env f rows = All (IsTrueAt M env f) rows
IsTrueAtRows quantifier.Exists M env f rows = Any (IsTrueAt M env f) rows
IsTrueAtRows quantifier.Lone M env f rows = AllPairs (AreNotBothTrue M env f) rows
