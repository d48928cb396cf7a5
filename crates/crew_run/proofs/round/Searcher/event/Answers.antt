use Rattle.std.proofs.Common.{List, ℕ, All, Contains, sym, subst}
use Rattle.session_state.specs.Rounds.Held.{IsHeldAt}
use Rattle.crew_run.proofs.Working.{no_import}
use Rattle.crew_run.proofs.round.Searcher.event.Goals as goal

pub round-requires-clause-held : goal.round-requires-clause-held
round-requires-clause-held c =
    let s = c.args.self.now in
    subst (λ (ts : List (List ℕ)). IsHeldAt c.args.translation.now s.pool s.floor ts s.search) (sym c.as_slice-2.ensures.value) c.requires.searcher.held

pub round-requires-clause-shown : goal.round-requires-clause-shown
round-requires-clause-shown c =
    subst (λ (ts : List (List ℕ)). All (Contains ts) c.as_slice.result.now) (sym c.as_slice-2.ensures.value)
    (subst (All (Contains c.args.reading.now.told.items)) (sym c.as_slice.ensures.value) c.requires.read.all_told)

pub round-requires-clause-import : goal.round-requires-clause-import
round-requires-clause-import c = no_import c.args.translation.now c.args.self.now.pool c.requires.searcher.no_pool

pub returns-clause-searcher : goal.returns-clause-searcher
returns-clause-searcher c =
    let s = c.args.self.now in
    record {
      no_pool = c.requires.searcher.no_pool;
      bottom = c.requires.searcher.bottom;
      held = subst (λ (ts : List (List ℕ)). IsHeldAt c.args.translation.now s.pool s.floor ts c.round.new.self) c.as_slice-2.ensures.value c.in_ok-end.ensures.held;
    }
