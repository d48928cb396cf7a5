-- How a formula and a log are written.
use Rattle.std.specs.Prelude.{◌<◌, ◌≤◌, ◌++◌, [], ℕ, List, All, codes, decimal, if◌then◌else◌}
use Rattle.std.specs.List.{flat_map}
use Rattle.cnf_core.specs.declared.literal.Lit.{Lit}
use Rattle.refutation_check.specs.declared.log.Step.{Step}

-- a number and a space
abbrev pub number_text : ℕ → List ℕ
number_text n = decimal n ++ codes " "

-- a literal and a space
abbrev pub literal_text : Lit → List ℕ
literal_text l = (if l.positive then [] else codes "-") ++ number_text l.var

abbrev pub clause_text : List Lit → List ℕ
clause_text clause = codes "c " ++ flat_map literal_text clause ++ codes "0\n"

abbrev pub step_text : Step → List ℕ
step_text s = codes "s " ++ flat_map literal_text s.clause ++ codes "0 " ++ flat_map number_text s.hints ++ codes "0\n"

-- a line for each clause, and then one for each step
abbrev pub proof_text : List (List Lit) → List Step → List ℕ
proof_text clauses log = flat_map clause_text clauses ++ flat_map step_text log

-- each hint is from 1 to 2,147,483,647
abbrev pub HasHintsInRange : List Step → Type 0
HasHintsInRange log = All (λ s. All (λ hint. (1 ≤ hint) × (hint ≤ 2147483647)) s.hints) log
