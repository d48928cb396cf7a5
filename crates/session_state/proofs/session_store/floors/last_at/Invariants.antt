use Rattle.std.proofs.Common.{◌≡◌, ◌++◌, ◌∷◌, [], ℕ, List, take}
use Rattle.std.specs.Option.{MatchOption}
use Rattle.session_state.specs.Store.Numbered.{scenarios_at}
use Rattle.session_state.proofs.session_store.floors.last_at.Given as goal

abbrev pub invariant-loop-one : goal.invariant-loop-one
invariant-loop-one l =
    let here = scenarios_at l.floor (take l.one-index l.found) in
    MatchOption l.last (here ≡ []) (λ s. (before : List (List ℕ)) × (here ≡ before ++ s.now ∷ []))
