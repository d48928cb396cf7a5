-- What stays as it is in a circuit that has grown.
use Rattle.std.proofs.Common.{◌≡◌, ℕ, Bool, true, List, ◌∷◌, ◌∙◌}
use Rattle.std.proofs.lemmas.List.Elements.{All-cons}
use Rattle.tuple_core.specs.declared.atom.Atom.{Atom}
use Rattle.tuple_core.specs.Operators.{Pred}
use Rattle.tuple_core.specs.Gains.{Same}
use Rattle.tuple_core.proofs.Congruence.{same_back, same_then}
use Rattle.bool_circuit.specs.Network.{Network}
use Rattle.bool_circuit.specs.Value.{Extends}
use Rattle.bool_circuit.proofs.CallerLemmas.{Stands-kept}
use Rattle.bool_matrix.specs.Cells.{Cells, IsCells, IsMatrixOf}
use Rattle.bool_matrix.proofs.Loops.{of_kept, true_in_kept}
use Rattle.rel_formula.specs.Bounds.{Bounded, IsAtomOf}
use Rattle.rel_translate.specs.Tables.{IsWell, AreTables, IsReady}

pub well_kept : {old new : Network} {m : Cells} {k : ℕ} {T : (ℕ → Bool) → Pred} {U : Pred} → Extends old new → IsWell old m k T U → IsWell new m k T U
well_kept {old} {new} {m} {k} {T} {U} extends w = record {
  well = w.well;
  is = record {
    arity_is = w.is.arity_is;
    of = of_kept old new m extends w.is.of;
    value = λ s. same_then (same_back (true_in_kept old new m extends w.is.of s)) (w.is.value s);
    there = w.is.there;
  };
}

-- a matrix under another name
pub well_of : {network : Network} {m : Cells} {k : ℕ} (j : ℕ) {T : (ℕ → Bool) → Pred} (T' : (ℕ → Bool) → Pred) {U : Pred} (U' : Pred) → k ≡ j → ((s : ℕ → Bool) → Same (T s) (T' s)) → Same U U' →
    IsCells m → IsMatrixOf network m k T U → IsWell network m j T' U'
well_of j T' U' e t u well is = record {
  well = well;
  is = record {
    arity_is = is.arity_is ∙ e;
    of = is.of;
    value = λ s. same_then (is.value s) (t s);
    there = same_then is.there u;
  };
}

module _ {old new : Network} {p : Bounded} {always : ℕ} {relations : List Cells} {universe : Cells} (extends : Extends old new) where
  pub tables_kept : AreTables old p always relations universe → AreTables new p always relations universe
  tables_kept t = record {
    always_is = Stands-kept old new always (λ s. true) t.always_is extends;
    count = t.count;
    each = λ r d l. well_kept extends (t.each r d l);
    universe_is = well_kept extends t.universe_is;
  }

  pub ready_kept : {env : List Atom} → IsReady old p always relations universe env → IsReady new p always relations universe env
  ready_kept r = record { problem = r.problem; few_atoms = r.few_atoms; tables = tables_kept r.tables; atoms = r.atoms }

-- one variable more
pub ready_more : {network : Network} {p : Bounded} {always : ℕ} {relations : List Cells} {universe : Cells} {env : List Atom} (a : Atom) → IsAtomOf p a → IsReady network p always relations universe env → IsReady network p always relations universe (a ∷ env)
ready_more {p = p} {env = env} a is r = record { problem = r.problem; few_atoms = r.few_atoms; tables = r.tables; atoms = All-cons (IsAtomOf p) a env is r.atoms }
