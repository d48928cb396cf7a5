use Rattle.std.proofs.Common.{◌++◌, [], ℕ, List, Option, subst}
use Rattle.std.specs.Prelude.{MatchOption}
use Rattle.refutation_check.specs.Chain.{IsChain, members_of}
use Rattle.sat_core.specs.declared.search.Answer.{Answer}
use Rattle.sat_core.specs.Kept.{IsEnd}
use Rattle.sat_core.specs.Search.{IsAnswerTo}
use Rattle.sat_core.proofs.Told.{spent_told}
use Rattle.sat_core.proofs.kept.KeptSearch.spend.Goals as goal

pub returns-in_ok-log-in-None-clause-answer : goal.returns-in_ok-log-in-None-clause-answer
returns-in_ok-log-in-None-clause-answer c =
    let f = c.args.f.now in
    let local = c.args.local.now in
    let pool = c.args.pool.now in
    let k = c.args.self.now in
    let open' : (hints : List ℕ) → IsChain (members_of (f.clauses ++ local) pool) [] hints → ⊥ =
    subst (λ (o : Option Answer). MatchOption o ((hints : List ℕ) → IsChain (members_of (f.clauses ++ local) pool) [] hints → ⊥) (λ a. IsAnswerTo f local pool c.args.budget a × IsEnd a)) c.in-None.is c.in_ok-answer.ensures.answer in
    spent_told f local pool c.args.budget k c.in_ok-log-in-None.log c.in_ok-log-in-None.ensures c.requires.kept.holds open' c.requires.all c.requires.more

pub told-requires : goal.told-requires
told-requires c = c.requires.kept.holds.within
