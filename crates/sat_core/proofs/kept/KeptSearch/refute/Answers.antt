use Rattle.std.proofs.Common.{◌++◌, [], ℕ, List, Option, length, subst, sym}
use Rattle.cnf_core.specs.declared.literal.Lit.{Lit}
use Rattle.std.specs.Prelude.{MatchOption}
use Rattle.refutation_check.specs.declared.log.Step.{Step}
use Rattle.refutation_check.specs.Chain.{IsChain, members_of}
use Rattle.sat_core.specs.declared.search.Answer.{Answer}
use Rattle.sat_trail.specs.Closed.{IsClosed}
use Rattle.sat_core.specs.Kept.{IsEnd}
use Rattle.sat_core.specs.Search.{IsAnswerTo, IsSoFar}
use Rattle.sat_core.proofs.Going.{told_so_far, told_clash}
use Rattle.sat_core.proofs.kept.KeptSearch.refute.Goals as goal

pub refuted-requires-clause-so_far : goal.refuted-requires-clause-so_far
refuted-requires-clause-so_far c =
    let f = c.args.f.now in
    let local = c.args.local.now in
    let pool = c.args.pool.now in
    let k = c.args.self.now in
    let open' : (hints : List ℕ) → IsChain (members_of (f.clauses ++ local) pool) [] hints → ⊥ =
    subst (λ (o : Option Answer). MatchOption o ((hints : List ℕ) → IsChain (members_of (f.clauses ++ local) pool) [] hints → ⊥) (λ a. IsAnswerTo f local pool c.args.budget a × IsEnd a)) c.in-None.is c.in_ok-answer.ensures.answer in
    subst (IsSoFar (members_of (f.clauses ++ local) pool) local (length f.clauses)) (sym c.in_ok-log-in-None.ensures) (told_so_far f local pool k.trail.clauses k.trail.vars k.assumed k.numbers k.steps c.requires.kept.holds open')

pub refuted-requires-clause-clash : goal.refuted-requires-clause-clash
refuted-requires-clause-clash c =
    let f = c.args.f.now in
    let local = c.args.local.now in
    let pool = c.args.pool.now in
    let k = c.args.self.now in
    λ falses closed. told_clash f local pool k.trail.clauses k.trail.vars k.assumed k.numbers k.steps c.requires.kept.holds c.requires.clash falses
    (subst (λ (ss : List Step). IsClosed (members_of (members_of (f.clauses ++ local) pool) ss) falses) c.in_ok-log-in-None.ensures closed)

pub told-requires : goal.told-requires
told-requires c = c.requires.kept.holds.within
