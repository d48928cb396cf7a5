-- How a count of steps rises.
use Rattle.std.proofs.Common.{◌≡◌, ◌≢◌, ◌≤◌, ◌+◌, [], ℕ, List, inl, inr, arith, subst}
use Rattle.std.proofs.lemmas.Option.{get_or_from_slice_get, slice_get_within}
use Rattle.cnf_core.specs.declared.literal.Lit.{Lit}
use Rattle.refutation_check.specs.declared.log.Step.{Step}
use Rattle.refutation_check.specs.Chain.{members_of}
use Rattle.refutation_check.specs.SearchLog.{IsSearchLog, IsNovelButLast, IsAllNovel, HasNoEmpty, novel_steps}
use Rattle.refutation_check.proofs.Novelty.{novel_all, novel_but_last}
use Rattle.sat_core.specs.declared.search.Answer.{Answer}
use Rattle.sat_core.specs.declared.search.Answer.TheVariants.{Found, Refuted, Spent}
use Rattle.sat_core.specs.Answers.{learnt_in, log_of, IsRight}
use Rattle.sat_core.specs.Count.{last_count, raised}

pub raised_none : (count : ℕ) → count ≤ last_count → count ≡ raised count 0
raised_none count most = omega (arith, most)

pub raised_more : (count steps : ℕ) → raised (raised count steps) 1 ≡ raised count (steps + 1)
raised_more count steps = omega arith

pub raised_within : (count steps budget : ℕ) → steps ≤ budget → raised count steps ≤ count + budget
raised_within count steps budget few = omega (arith, few)

-- a log whose steps are not empty is novel
pub all_novel : (given : List (List Lit)) (log : List Step) → IsNovelButLast given log → HasNoEmpty log → IsAllNovel given log
all_novel given log novel none i s at = elim (novel i s at) [
  | inl is ↦ is
  | inr last ↦ absurd (subst (λ (x : Step). x.clause ≢ []) (get_or_from_slice_get log i s s at) (none i s (slice_get_within log i s at)) last.1)
]

-- a step that was learnt from a conflict is novel
pub learnt_novel : (vars : ℕ) (clauses : List (List Lit)) (pool : List Step) (budget : ℕ) (a : Answer) → IsSearchLog (members_of clauses pool) (log_of a) → IsRight vars clauses pool budget a →
    learnt_in a ≤ novel_steps (members_of clauses pool) (log_of a)
learnt_novel vars clauses pool budget (Found valuation log) search right = omega (arith, novel_all (members_of clauses pool) log (all_novel (members_of clauses pool) log search.novel right.1))
learnt_novel vars clauses pool budget (Refuted log) search right = omega (arith, novel_but_last (members_of clauses pool) log search.novel)
learnt_novel vars clauses pool budget (Spent log) search right = omega (arith, novel_all (members_of clauses pool) log right.1)
