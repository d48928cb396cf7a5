-- How many units the parts of a search have.
use Rattle.std.proofs.Common.{◌≤◌, ◌*◌, ◌^◌, ◌++◌, ℕ, List, length, get_or, map, All, subst}
use Rattle.std.proofs.lemmas.List.Elements.{All-append, All-map, All-weaker, All-contains}
use Rattle.std.proofs.lemmas.List.Sums.{sum_by-le}
use Rattle.cnf_core.specs.declared.literal.Lit.{Lit}
use Rattle.cnf_core.specs.Literal.{HasVarsUpTo}
use Rattle.refutation_check.specs.declared.log.Step.{Step}
use Rattle.refutation_check.specs.Log.{IsLog}
use Rattle.refutation_check.specs.Part.{Parted}
use Rattle.refutation_check.specs.SearchLog.{IsVarOf, HasVarsOf, IsSearchLog, novel_steps}
use Rattle.sat_core.specs.Limits.Over.{AreOver}
use Rattle.translation_rules.specs.Translation.{Translated}
use Rattle.translation_rules.specs.Parts.{given_to, AreSearched, novel_in}
use Rattle.work_limits.specs.Units.{AreLogs}
use Rattle.work_limits.specs.Variables.{AreOverFirst}
use Rattle.work_limits.proofs.NovelSteps.{few_novel}

var_over : (v : ℕ) (given : List (List Lit)) → All (HasVarsUpTo v) given → (var : ℕ) → IsVarOf given var → var ≤ v
var_over v given over var has =
    let l = All-contains (λ (l : Lit). l.var ≤ v) has.clause has.literal (All-contains (HasVarsUpTo v) given has.clause over has.given) has.member in
    subst (λ n. n ≤ v) has.same l

-- steps over the variables of clauses that have the first ones only
pub steps_over : (v : ℕ) (given : List (List Lit)) (log : List Step) → All (HasVarsUpTo v) given → HasVarsOf given log → AreOver v log
steps_over v given log over vars =
    All-weaker (λ (s : Step). All (λ (l : Lit). IsVarOf given l.var) s.clause) (λ (s : Step). HasVarsUpTo v s.clause)
    (λ s of. All-weaker (λ (l : Lit). IsVarOf given l.var) (λ (l : Lit). l.var ≤ v) (λ l has. var_over v given over l.var has) s.clause of) log vars

-- the local clauses of a part have the first variables only
abbrev pub IsLocalOver : ℕ → Parted → Type 0
IsLocalOver v part = All (HasVarsUpTo v) part.local

part_units : (v : ℕ) (t : Translated) (pool : List Step) (part : Parted) → AreOverFirst v t pool → IsLocalOver v part → IsSearchLog (given_to t pool part) part.log → IsLog part.log
    → novel_steps (given_to t pool part) part.log ≤ 3 ^ v
part_units v t pool part first local searched is =
    let given = given_to t pool part in
    let over : All (HasVarsUpTo v) given = All-append (HasVarsUpTo v) (t.cnf.clauses ++ part.local) (map (λ (s : Step). s.clause) pool)
    (All-append (HasVarsUpTo v) t.cnf.clauses part.local first.cnf local) (All-map (HasVarsUpTo v) (λ (s : Step). s.clause) pool first.pool) in
    few_novel v given part.log is.clauses (steps_over v given part.log over searched.vars)

-- each part has few units
pub parts_units : (v : ℕ) (t : Translated) (pool : List Step) (parts : List Parted) → AreOverFirst v t pool → All (IsLocalOver v) parts → AreSearched t pool parts → AreLogs parts
    → novel_in t pool parts ≤ length parts * 3 ^ v
parts_units v t pool parts first local searched logs =
    sum_by-le (λ (part : Parted). novel_steps (given_to t pool part) part.log) (3 ^ v) parts
    (λ k d l. part_units v t pool (get_or parts k d) first (local k d l) (searched k d l) (logs k d l))
