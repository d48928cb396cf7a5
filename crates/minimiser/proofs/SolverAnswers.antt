-- What an answer of the solver says of a descent.
use Rattle.std.proofs.Common.{◌≡◌, ◌↔◌, ◌<◌, ◌≤◌, ℕ, Bool, List, ◌++◌, ◌∷◌, [], length, AllPairs, Contains, IsTrue, subst}
use Rattle.cnf_core.specs.declared.literal.Lit.{Lit}
use Rattle.cnf_core.specs.Formula.{Formula}
use Rattle.cnf_core.specs.Valuation.{Satisfies}
use Rattle.refutation_check.specs.declared.log.Step.{Step as LogStep}
use Rattle.refutation_check.specs.Chain.{members_of}
use Rattle.refutation_check.specs.SearchLog.{IsSearchLog, HasNoEmpty}
use Rattle.rel_formula.specs.Bounds.{cells_of}
use Rattle.rel_formula.specs.Instance.{AreCells}
use Rattle.sat_core.specs.declared.search.Answer.{Answer}
use Rattle.sat_core.specs.declared.search.Answer.TheVariants.{Spent}
use Rattle.sat_core.specs.Answers.{log_of, IsRight, IsStopped}
use Rattle.translation_rules.specs.Translation.{Translated, var_of}
use Rattle.translation_rules.specs.Descents.{IsSmaller, descent_locals}
use Rattle.translation_rules.specs.Parts.{GoesOn}
use Rattle.translation_rules.proofs.Tests.{from_each}
use Rattle.minimiser.proofs.DescentStates.{SaysWhatIsSmaller}

-- the answer is that of a search over the translation and the clauses of a descent
pub record Told (t : Translated) (pool : List LogStep) (local : List (List Lit)) (left : ℕ) (a : Answer) : Type 0 where
  pub log : IsSearchLog (members_of (t.cnf.clauses ++ local) pool) (log_of a)
  pub few : length (log_of a) ≤ left
  pub answer : IsRight t.cnf.vars (t.cnf.clauses ++ local) pool left a

pub told : (t : Translated) (pool : List LogStep) (left : ℕ) (f : Formula) (asked local : List (List Lit)) (a : Answer) → f ≡ t.cnf → asked ≡ local →
    IsSearchLog (members_of (f.clauses ++ asked) pool) (log_of a) → length (log_of a) ≤ left → IsRight f.vars (f.clauses ++ asked) pool left a → Told t pool local left a
told t pool left f asked local a e same log few answer = record {
  log = subst (λ (g : Formula). IsSearchLog (members_of (g.clauses ++ local) pool) (log_of a)) e (subst (λ ls. IsSearchLog (members_of (f.clauses ++ ls) pool) (log_of a)) same log);
  few = few;
  answer = subst (λ (g : Formula). IsRight g.vars (g.clauses ++ local) pool left a) e (subst (λ ls. IsRight f.vars (f.clauses ++ ls) pool left a) same answer);
}

-- the part of a search that was stopped goes on
pub goes_on : (t : Translated) (pool : List LogStep) (f : Formula) (asked local : List (List Lit)) (log : List LogStep) → f ≡ t.cnf → asked ≡ local → HasNoEmpty log → IsStopped (f.clauses ++ asked) pool (Spent log) →
    GoesOn t pool (record { local = local; log = log })
goes_on t pool f asked local log e same none stopped = record {
  no_empty = none;
  step = stopped.0;
  one_more =
      subst (λ (g : Formula). IsSearchLog (members_of (g.clauses ++ local) pool) (log ++ stopped.0 ∷ [])) e
      (subst (λ ls. IsSearchLog (members_of (f.clauses ++ ls) pool) (log ++ stopped.0 ∷ [])) same stopped.1);
}

-- the cells of a valuation that was found are those of a smaller instance
pub found : (t : Translated) → SaysWhatIsSmaller t → (floor scenario : List ℕ) → AreCells t.problem floor → AreCells t.problem scenario → (count : ℕ) → count ≡ length (cells_of t.problem) →
    (v : ℕ → Bool) (s : List ℕ) → ((cell : ℕ) → Contains s cell → cell < count) → ((cell : ℕ) → cell < count → IsTrue (v (var_of cell)) ↔ Contains s cell) → AllPairs (λ m n. m < n) s →
    Satisfies v (t.cnf.clauses ++ descent_locals t.problem floor scenario) → IsSmaller t.problem floor scenario s
found t says floor scenario floor_in scenario_in count e v s below values up satisfied =
    let inside = subst (λ n. (cell : ℕ) → Contains s cell → cell < n) e below in
    (says floor scenario floor_in scenario_in s (record { cells = from_each (λ n. n < length (cells_of t.problem)) s inside; rising = up })).1
    (record { valuation = v; cells = subst (λ n. (cell : ℕ) → cell < n → IsTrue (v (var_of cell)) ↔ Contains s cell) e values; satisfied = satisfied })
