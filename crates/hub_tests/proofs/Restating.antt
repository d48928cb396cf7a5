-- Steps that say the first clause again.
use Rattle.std.proofs.Common.{◌≡◌, ◌+◌, ◌∙◌, ◌++◌, length-append, ℕ, Some, List, [], ◌∷◌, get_or, take, length, All, append-nil, refl, sym, ap, subst, arith}
use Rattle.std.specs.Prelude.{slice_get}
use Rattle.std.proofs.lemmas.List.Elements.{All-contains, All-contains_itself, All-push, Contains-get_or}
use Rattle.std.proofs.lemmas.Option.{none-some}
use Rattle.cnf_core.specs.declared.literal.Lit.{Lit}
use Rattle.cnf_core.specs.Literal.{HasSameLiterals}
use Rattle.refutation_check.specs.declared.log.Step.{Step as LogStep}
use Rattle.refutation_check.specs.Chain.{members_of, IsChain, IsAccepted}

abbrev pub Restates : List Lit → LogStep → Type 0
Restates clause s = (s.clause ≡ clause) × (s.hints ≡ 1 ∷ [])

-- so many steps do
pub record AllRestate (clause : List Lit) (log : List LogStep) (n : ℕ) : Type 0 where
  pub all : All (Restates clause) log
  pub many : length log ≡ n

restated : (members : List (List Lit)) (clause : List Lit) (steps : List LogStep) → slice_get members 0 ≡ Some clause → IsChain (members_of members steps) clause (1 ∷ [])
restated [] clause steps is = absurd (none-some clause is)
restated (first ∷ members) clause steps is =
    let same : first ≡ clause = cc in
    record {
      before = [];
      last = 1;
      after = clause;
      in_order = refl;
      reached = refl;
      refuted = record { clause = clause; named = (omega arith, ap Some same); falsified = All-contains_itself clause };
    }

pub accepted : (members : List (List Lit)) (clause : List Lit) (log : List LogStep) → slice_get members 0 ≡ Some clause → All (Restates clause) log → IsAccepted members log
accepted members clause log is all i d inside =
    let s : LogStep = get_or log i d in
    let has : Restates clause s = All-contains (Restates clause) log s all (Contains-get_or log i d inside) in
    let step : IsChain (members_of members (take i log)) clause s.hints = subst (IsChain (members_of members (take i log)) clause) (sym has.1) (restated members clause (take i log) is) in
    subst (λ (lits : List Lit). IsChain (members_of members (take i log)) lits s.hints) (sym has.0) step

-- one more does
pub one_more : (clause : List Lit) (log : List LogStep) (n : ℕ) (s : LogStep) → s.clause ≡ clause → s.hints ≡ 1 ∷ [] → AllRestate clause log n → AllRestate clause (log ++ s ∷ []) (n + 1)
one_more clause log n s same hints all = record {
  all = All-push (Restates clause) log s all.all (same, hints);
  many = length-append log (s ∷ []) ∙ ap (λ (m : ℕ). m + 1) all.many;
}

-- a clause with the literals of no list is empty
pub no_literals : (clause : List Lit) → HasSameLiterals [] clause → clause ≡ []
no_literals [] same = refl
no_literals (l ∷ ls) same = absurd (let none = (same l).1 (0, omega arith, refl) in let inside = none.1 in omega arith)
