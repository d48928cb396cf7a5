-- What an answer of the solver says of a search at a floor.
use Rattle.std.proofs.Common.{◌≡◌, ◌↔◌, ◌<◌, ℕ, Bool, List, ◌++◌, length, All, AllPairs, Contains, IsTrue, subst}
use Rattle.cnf_core.specs.Valuation.{Satisfies}
use Rattle.rel_formula.specs.Bounds.{cells_of}
use Rattle.rel_formula.specs.Instance.{AreCells, IsScenario}
use Rattle.translation_rules.specs.Translation.{Translated, IsSatisfiableAt, var_of}
use Rattle.translation_rules.specs.Locals.{IsLeft, locals_of}
use Rattle.translation_rules.proofs.Tests.{from_each}

-- the local clauses say what is left to be found
abbrev pub SaysWhatIsLeft : Translated → Type 0
SaysWhatIsLeft t = (floor : List ℕ) (blocked : List (List ℕ)) → AreCells t.problem floor → All (AreCells t.problem) blocked →
    (s : List ℕ) → IsScenario t.problem s → IsLeft t.problem floor blocked s ↔ IsSatisfiableAt t.problem s (t.cnf.clauses ++ locals_of t floor blocked)

-- the cells of a valuation that was found are those of what was left
pub found_left : (t : Translated) → SaysWhatIsLeft t → (floor : List ℕ) (blocked : List (List ℕ)) → AreCells t.problem floor → All (AreCells t.problem) blocked → (count : ℕ) → count ≡ length (cells_of t.problem) →
    (v : ℕ → Bool) (s : List ℕ) → ((cell : ℕ) → Contains s cell → cell < count) → ((cell : ℕ) → cell < count → IsTrue (v (var_of cell)) ↔ Contains s cell) → AllPairs (λ m n. m < n) s →
    Satisfies v (t.cnf.clauses ++ locals_of t floor blocked) → IsLeft t.problem floor blocked s
found_left t says floor blocked floor_in blocked_in count e v s below values up satisfied =
    let inside = subst (λ n. (cell : ℕ) → Contains s cell → cell < n) e below in
    (says floor blocked floor_in blocked_in s (record { cells = from_each (λ n. n < length (cells_of t.problem)) s inside; rising = up })).1
    (record { valuation = v; cells = subst (λ n. (cell : ℕ) → cell < n → IsTrue (v (var_of cell)) ↔ Contains s cell) e values; satisfied = satisfied })
