-- What an answer of a search says, for its check.
use Rattle.std.proofs.Common.{◌≡◌, ◌≤◌, [], ℕ, Bool, true, false, not, List, Option, Some, None, All, length, refl, sym, ◌≢◌, ◌∷◌, ◌∙◌}
use Rattle.std.specs.Prelude.{IfSome, if◌then◌else◌, ◌==◌}
use Rattle.cnf_core.specs.declared.literal.Lit.{Lit}
use Rattle.cnf_core.specs.Literal.{HasVarsUpTo, HasSameLiterals}
use Rattle.cnf_core.specs.Valuation.{literal_value, value_of}
use Rattle.cnf_core.proofs.SameLiterals.{All-same}
use Rattle.refutation_check.specs.declared.log.Step.{Step}
use Rattle.sat_core.specs.declared.search.Answer.{Answer}
use Rattle.sat_core.specs.declared.search.Answer.TheVariants.{Found, Refuted, Spent}
use Rattle.sat_core.specs.Answers.{log_of, IsRight}
use Rattle.bench_search.specs.Answers.{IsOver}

-- the literals of a clause are over the variables of those that it was made of
pub made_over : (vars : ℕ) (made : Option (List Lit)) (lits : List Lit) → IfSome made (HasSameLiterals lits) → All (λ (l : Lit). l.var ≤ vars) lits → IfSome made (HasVarsUpTo vars)
made_over vars None lits same few = same
made_over vars (Some clause) lits same few = All-same (λ (l : Lit). l.var ≤ vars) lits clause same few

-- an answer is over the variables of the formula
pub over_of : (vars budget : ℕ) (clauses : List (List Lit)) (pool : List Step) (answer : Answer) → IsRight vars clauses pool budget answer → All (λ (s : Step). HasVarsUpTo vars s.clause) (log_of answer) → IsOver vars answer
over_of vars budget clauses pool (Found valuation log) right within = right.0.enough
over_of vars budget clauses pool (Refuted log) right within = within
over_of vars budget clauses pool (Spent log) right within = tt

either_sign : (p x : Bool) → x ≡ p → (if p then x else not x) ≡ true
either_sign true true e = refl
either_sign true false e = e
either_sign false true e = sym e
either_sign false false e = refl

-- a literal is true where its variable has the value of its sign
pub literal_true : (v : ℕ → Bool) (l : Lit) → v l.var ≡ l.positive → literal_value v l ≡ true
literal_true v l e = either_sign l.positive (v l.var) e

-- a list that isn't empty
pub some_of : {X : Type 0} (xs : List X) (is_empty : Bool) → is_empty ≡ (length xs == 0) → is_empty ≡ false → xs ≢ []
some_of [] is_empty told not_so none = absurd (let k : true ≡ false = sym told ∙ not_so in cc)
some_of (x ∷ xs) is_empty told not_so none = absurd (let k : x ∷ xs ≡ [] = none in cc)
