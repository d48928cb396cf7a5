-- A problem's clauses and those of its swaps are a translation.
use Rattle.std.proofs.Common.{◌≡◌, ◌↔◌, ◌<◌, ◌≤◌, ◌+◌, ◌*◌, ℕ, List, length, map, All, Contains, refl, sym, subst, arith}
use Rattle.std.proofs.lemmas.List.Elements.{All-contains}
use Rattle.tuple_core.specs.declared.atom.Atom.{Atom}
use Rattle.cnf_core.specs.declared.literal.Lit.{Lit}
use Rattle.cnf_core.specs.Formula.{Formula}
use Rattle.cnf_core.specs.Literal.{HasVarsUpTo}
use Rattle.refutation_check.specs.SearchLog.{IsVarOf}
use Rattle.bool_circuit.specs.Network.{Network}
use Rattle.circuit_cnf.specs.ClauseForm.{IsClauseForm, IsSmall as IsSmallForm}
use Rattle.rel_formula.specs.Bounds.{Bounded, cells_of}
use Rattle.rel_formula.specs.Renaming.{IsSymmetric}
use Rattle.rel_formula.proofs.OpenCells.{map_has, has_map}
use Rattle.rel_terms.specs.Terms.{HasTerms, IsTranslatable}
use Rattle.swap_symmetry.specs.Swaps.{AreNeighbours}
use Rattle.translation_rules.specs.Translation.{SwapClauses, Translated, StandsFor}
use Rattle.translation_rules.proofs.Tests.{from_each}
use Rattle.translation.specs.Numbered.{swaps_of, pair_of, AreNumbered}
use Rattle.translation.specs.Kept.{AreAllSwaps, IsSmall, IsTranslation}
use Rattle.translation.proofs.Chains.{pairs_back}
use Rattle.translation.proofs.SwapsTogether.{settled, apart, swaps_apart}
use Rattle.translation.proofs.Instances.{TellsInstances, instances}

-- the circuit has few nodes
abbrev pub HasFewNodes : Bounded → Network → Type 0
HasFewNodes p network = (terms : ℕ) → HasTerms p terms → length network.shapes ≤ length (cells_of p) + 2 + 16 * terms

module _ (p : Bounded) (network : Network) (node : ℕ) (cnf : Formula) (pairs : List (Atom × Atom)) (cnfs : List Formula)
    (translatable : IsTranslatable p) (symmetric : IsSymmetric p) (count : network.inputs ≡ length (cells_of p)) (tells : TellsInstances p network node) (nodes : HasFewNodes p network)
    (form : IsClauseForm network node cnf) (small : IsSmallForm network cnf) (within : All (HasVarsUpTo cnf.vars) cnf.clauses)
    (all : AreAllSwaps p pairs) (long : length cnfs ≡ length pairs) (numbered : AreNumbered p cnf.vars (swaps_of pairs cnfs)) where
  swaps : List SwapClauses
  swaps = swaps_of pairs cnfs

  back : map pair_of swaps ≡ pairs
  unfolding swaps
  back = pairs_back pairs cnfs long

  neighbours : All (λ (x : SwapClauses). AreNeighbours p x.first x.second) swaps
  neighbours = from_each (λ (x : SwapClauses). AreNeighbours p x.first x.second) swaps (λ x c. (all.exactly x.first x.second).0 (subst (λ qs. Contains qs (pair_of x)) back (has_map pair_of swaps x c)))

  each : (a b : Atom) → AreNeighbours p a b → (x : SwapClauses) × Contains swaps x × (pair_of x ≡ (a, b))
  each a b next =
      let h = map_has pair_of swaps (a, b) (subst (λ qs. Contains qs (a, b)) (sym back) ((all.exactly a b).1 next)) in
      (h.0, h.1, sym h.2)

  given : (var : ℕ) → IsVarOf cnf.clauses var → var ≤ cnf.vars
  given var has =
      let l = All-contains (λ (l : Lit). l.var ≤ cnf.vars) has.clause has.literal (All-contains (HasVarsUpTo cnf.vars) cnf.clauses has.clause within has.given) has.member in
      subst (λ n. n ≤ cnf.vars) has.same l

  chained : AreNumbered p cnf.vars swaps
  unfolding swaps
  chained = numbered

  stands : StandsFor p (record { problem = p; cnf = cnf; swaps = swaps })
  stands = record {
    problem = refl;
    instances = λ s scenario. instances p network node cnf count tells form s scenario;
    settled = λ picks s scenario. settled picks p s cnf.vars swaps chained neighbours each;
    swaps = neighbours;
    apart = apart p cnf.vars cnf.clauses given swaps chained;
    swaps_apart = swaps_apart p cnf.vars swaps chained;
  }

  few : (terms : ℕ) → HasTerms p terms → IsSmall (record { problem = p; cnf = cnf; swaps = swaps }) terms
  few terms is =
      let n = nodes terms is in record {
        variables = (let v = small.variables in let c = count in omega arith);
        clauses = (let k = small.clauses in omega arith);
      }

  -- and so the type is kept
  pub kept : IsTranslation (record { problem = p; cnf = cnf; swaps = swaps_of pairs cnfs })
  unfolding swaps
  kept = record {
    stands = stands;
    symmetric = symmetric;
    translatable = translatable;
    cells = (let l = small.inputs in let c = count in omega arith);
    all = subst (AreAllSwaps p) (sym back) all;
    numbered = numbered;
    small = few;
  }
