-- What an answer of the solver says of a search for an instance with some cells.
use Rattle.std.proofs.Common.{◌≡◌, ◌≢◌, ◌≤◌, ◌+◌, ◌-◌, ℕ, Bool, List, [], ◌∷◌, ◌++◌, length, All, refl, ap, subst, arith}
use Rattle.std.proofs.lemmas.List.{length-map}
use Rattle.std.proofs.lemmas.List.Elements.{All-map, All-take}
use Rattle.cnf_core.specs.declared.literal.Lit.{Lit}
use Rattle.cnf_core.specs.Literal.{IsVariable}
use Rattle.cnf_core.specs.Formula.{Formula}
use Rattle.refutation_check.specs.declared.log.Step.{Step as LogStep}
use Rattle.refutation_check.specs.Chain.{members_of, EachEntailed, EndsEmpty}
use Rattle.refutation_check.specs.SearchLog.{IsSearchLog, HasNoEmpty}
use Rattle.rel_formula.specs.Bounds.{Bounded, cells_of}
use Rattle.rel_formula.specs.Instance.{AreCells, IsInstance}
use Rattle.sat_core.specs.declared.search.Answer.{Answer}
use Rattle.sat_core.specs.declared.search.Answer.TheVariants.{Found, Refuted, Spent}
use Rattle.sat_core.specs.Answers.{learnt_in, log_of, HasEmptyOnlyLast, IsRight, IsStopped, NamesNoUnits}
use Rattle.sat_core.specs.Count.{raised}
use Rattle.sat_core.specs.Search.{IsAnswerTo}
use Rattle.sat_core.proofs.Counts.{learnt_novel}
use Rattle.translation_rules.specs.Translation.{Translated, IsSatisfiableAt, var_of}
use Rattle.translation_rules.specs.Locals.{literal_of, units_of}
use Rattle.translation_rules.specs.Offers.{IsPossible}
use Rattle.translation_rules.specs.Parts.{GoesOn, novel_in}
use Rattle.augmenter.specs.Search.{IsSearchFor, GivesInstance}
use Rattle.augmenter.proofs.AllNovel.{all_novel, none_empty}
use Rattle.augmenter.proofs.FreedLogs.{HintsNameMembers, all_are_free, ended_is_free}
use Rattle.augmenter.proofs.PickedInstances.{SaysWhatIsPossible, gives, impossible}

-- the answer is that of a search over the translation and the units of these cells
pub record Told (t : Translated) (pool : List LogStep) (cells : List ℕ) (budget : ℕ) (a : Answer) : Type 0 where
  pub log : IsSearchLog (members_of (t.cnf.clauses ++ units_of cells) pool) (log_of a)
  pub few : length (log_of a) ≤ budget
  pub units : NamesNoUnits (length t.cnf.clauses) (units_of cells) (log_of a)
  pub last : HasEmptyOnlyLast (log_of a)
  pub answer : IsRight t.cnf.vars (t.cnf.clauses ++ units_of cells) pool budget a

pub told : (t : Translated) (pool : List LogStep) (cells : List ℕ) (budget : ℕ) (f : Formula) (asked : List (List Lit)) (a : Answer) → f ≡ t.cnf → asked ≡ units_of cells →
    IsSearchLog (members_of (f.clauses ++ asked) pool) (log_of a) → length (log_of a) ≤ budget → NamesNoUnits (length f.clauses) asked (log_of a) → HasEmptyOnlyLast (log_of a) → IsRight f.vars (f.clauses ++ asked) pool budget a → Told t pool cells budget a
told t pool cells budget f asked a e same log few units last answer = record {
  log = subst (λ (g : Formula). IsSearchLog (members_of (g.clauses ++ units_of cells) pool) (log_of a)) e (subst (λ ls. IsSearchLog (members_of (f.clauses ++ ls) pool) (log_of a)) same log);
  few = few;
  units = subst (λ (g : Formula). NamesNoUnits (length g.clauses) (units_of cells) (log_of a)) e (subst (λ ls. NamesNoUnits (length f.clauses) ls (log_of a)) same units);
  last = last;
  answer = subst (λ (g : Formula). IsRight g.vars (g.clauses ++ units_of cells) pool budget a) e (subst (λ ls. IsRight f.vars (f.clauses ++ ls) pool budget a) same answer);
}

-- what is known of an answer over the translation itself
pub told_of : (t : Translated) (pool : List LogStep) (cells : List ℕ) (budget : ℕ) (a : Answer) → IsAnswerTo t.cnf (units_of cells) pool budget a → Told t pool cells budget a
told_of t pool cells budget a is = record { log = is.log; few = is.few; units = is.units; last = is.last; answer = is.right }

-- that the search was stopped is said over the translation itself too
pub told_stopped : (t : Translated) (pool : List LogStep) (cells : List ℕ) (f : Formula) (asked : List (List Lit)) (a : Answer) → f ≡ t.cnf → asked ≡ units_of cells → IsStopped (f.clauses ++ asked) pool a → IsStopped (t.cnf.clauses ++ units_of cells) pool a
told_stopped t pool cells f asked a e same stopped = subst (λ (g : Formula). IsStopped (g.clauses ++ units_of cells) pool a) e (subst (λ ls. IsStopped (f.clauses ++ ls) pool a) same stopped)

-- and so its part goes on
pub spent_goes_on : (t : Translated) (pool : List LogStep) (cells : List ℕ) (budget : ℕ) (log : List LogStep) → Told t pool cells budget (Spent log) → IsStopped (t.cnf.clauses ++ units_of cells) pool (Spent log) →
    GoesOn t pool (record { local = units_of cells; log = log })
spent_goes_on t pool cells budget log told stopped = record { no_empty = told.answer.2; step = stopped.0; one_more = stopped.1 }

-- what the search raised a count by is novel
pub counted : (t : Translated) (pool : List LogStep) (cells : List ℕ) (budget : ℕ) (a : Answer) (old new : ℕ) → Told t pool cells budget a → new ≡ raised old (learnt_in a) →
    new ≤ old + novel_in t pool (record { local = units_of cells; log = log_of a } ∷ [])
counted t pool cells budget a old new told rose = omega (arith, learnt_novel t.cnf.vars (t.cnf.clauses ++ units_of cells) pool budget a told.log told.answer, rose)

-- no unit is empty
units_some : (cells : List ℕ) → All (λ (c : List Lit). c ≢ []) (units_of cells)
units_some cells = All-map (λ (c : List Lit). c ≢ []) (λ cell. literal_of cell ∷ []) cells (λ k d l e. let h = ap length e in omega arith)

-- what is known beside the answer
pub record Known (t : Translated) (pool : List LogStep) (cells : List ℕ) : Type 0 where
  pub says : SaysWhatIsPossible t
  pub named : HintsNameMembers
  pub entailed : EachEntailed t.cnf.clauses pool
  pub satisfiable : (s : List ℕ) → IsInstance t.problem s → IsSatisfiableAt t.problem s t.cnf.clauses
  pub cells_in : AreCells t.problem cells

module _ (t : Translated) (pool : List LogStep) (cells : List ℕ) (budget : ℕ) (known : Known t pool cells) where
  abbrev given : List (List Lit)
  given = members_of (t.cnf.clauses ++ units_of cells) pool

  -- where there is an instance, no clause is empty that was given
  some_given : (s : List ℕ) → IsInstance t.problem s → All (λ (c : List Lit). c ≢ []) given
  some_given s is =
      let sat = known.satisfiable s is in
      none_empty t.cnf.clauses (units_of cells) pool sat.valuation sat.satisfied (units_some cells) known.entailed

  -- a log without an empty step
  whole : (log : List LogStep) → IsSearchLog given log → length log ≤ budget → NamesNoUnits (length t.cnf.clauses) (units_of cells) log → HasNoEmpty log → IsSearchFor t pool cells budget (record { local = units_of cells; log = log })
  whole log search few units none = record {
    local = refl;
    searched = search;
    free = all_are_free known.named t.cnf.clauses cells pool log search.accepted units none;
    few = few;
    novel = λ s is. all_novel given (some_given s is) log search.novel (length log) (omega arith) (All-take (λ (x : LogStep). x.clause ≢ []) (length log) log none);
  }

  pub found_part : (valuation : List Bool) (log : List LogStep) → Told t pool cells budget (Found valuation log) → IsSearchFor t pool cells budget (record { local = units_of cells; log = log })
  found_part valuation log told = whole log told.log told.few told.units told.answer.1

  pub found_answer : (valuation : List Bool) (log : List LogStep) → Told t pool cells budget (Found valuation log) → length (cells_of t.problem) ≤ t.cnf.vars → GivesInstance t.problem cells valuation × HasNoEmpty log
  found_answer valuation log told enough =
      (gives t known.says cells known.cells_in valuation (let e = told.answer.0.enough in omega arith) told.answer.0.satisfied, told.answer.1)

  pub spent_part : (log : List LogStep) → Told t pool cells budget (Spent log) → IsSearchFor t pool cells budget (record { local = units_of cells; log = log })
  spent_part log told = whole log told.log told.few told.units told.answer.2

  pub refuted_part : (log : List LogStep) → Told t pool cells budget (Refuted log) → IsSearchFor t pool cells budget (record { local = units_of cells; log = log })
  refuted_part log told = record {
    local = refl;
    searched = told.log;
    free = ended_is_free known.named t.cnf.clauses cells pool log told.log.accepted told.units told.answer.0 told.last;
    few = told.few;
    novel = λ s is. all_novel given (some_given s is) log told.log.novel (length log - 1) (omega arith) told.last;
  }

  pub refuted_answer : (log : List LogStep) → Told t pool cells budget (Refuted log) → (¬ IsPossible t.problem cells) × EndsEmpty log
  refuted_answer log told = (impossible t known.says cells known.cells_in told.answer.1, told.answer.0)

-- the cells of a problem have variables
pub variables : (p : Bounded) (cells : List ℕ) → AreCells p cells → length (cells_of p) ≤ 4096 → All (λ cell. IsVariable (var_of cell)) cells
variables p cells cells_in few k d l = let h = cells_in k d l in (omega arith, omega arith)

pub as_many : (cells : List ℕ) → length (units_of cells) ≡ length cells
as_many cells = length-map cells (λ cell. literal_of cell ∷ [])
