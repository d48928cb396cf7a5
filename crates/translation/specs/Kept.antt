-- What a translation keeps: that it stands for its problem, which is symmetric and has few terms, and how large it is.
use Rattle.std.specs.Prelude.{◌≡◌, ◌↔◌, ◌+◌, ◌*◌, ◌≤◌, ℕ, List, length, map, AllPairs, Contains}
use Rattle.std.specs.declared.cmp.Ordering.TheVariants.{Less}
use Rattle.tuple_core.specs.declared.atom.Atom.{Atom}
use Rattle.tuple_core.specs.Order.{atom_cmp}
use Rattle.rel_formula.specs.Bounds.{Bounded, cells_of}
use Rattle.rel_formula.specs.Renaming.{IsSymmetric}
use Rattle.rel_terms.specs.Terms.{HasTerms, IsTranslatable}
use Rattle.swap_symmetry.specs.Swaps.{AreNeighbours}
use Rattle.translation_rules.specs.Translation.{Translated, StandsFor}
use Rattle.translation.specs.Numbered.{pair_of, AreNumbered}

-- the swaps are those of all neighbours, in the order of atoms
pub record AreAllSwaps (p : Bounded) (pairs : List (Atom × Atom)) : Type 0 where
  pub exactly : (a b : Atom) → Contains pairs (a, b) ↔ AreNeighbours p a b
  pub rising : AllPairs (λ x y. atom_cmp x.0 y.0 ≡ Less) pairs

-- with c cells and t terms: at most 2c + 2 + 16t variables and 3c + 7 + 48t clauses
pub record IsSmall (t : Translated) (terms : ℕ) : Type 0 where
  pub variables : t.cnf.vars ≤ 2 * length (cells_of t.problem) + 2 + 16 * terms
  pub clauses : length t.cnf.clauses ≤ 3 * length (cells_of t.problem) + 7 + 48 * terms

pub record IsTranslation (t : Translated) : Type 0 where
  pub stands : StandsFor t.problem t
  pub symmetric : IsSymmetric t.problem
  pub translatable : IsTranslatable t.problem
  pub cells : length (cells_of t.problem) ≤ t.cnf.vars
  pub all : AreAllSwaps t.problem (map pair_of t.swaps)
  pub numbered : AreNumbered t.problem t.cnf.vars t.swaps
  pub small : (terms : ℕ) → HasTerms t.problem terms → IsSmall t terms
