use Rattle.std.proofs.Common.{◌≡◌, List, sym, subst, All, ◌∷◌, [], ℕ, arith}
use Rattle.rel_formula.specs.Bounds.{Bounded}
use Rattle.hub_state.specs.Journal.Noted.{Noted}
use Rattle.hub_state.specs.Journal.Journal.{Opens}
use Rattle.hub_tests.proofs.Ended.{may_open, others_of}
use Rattle.hub_tests.proofs.of_hub_state.second_session.Goals as goal

pub record-requires : goal.record-requires
record-requires c =
    subst (λ (ps : List Bounded). Opens ps c.args.hub.now.journal 2 0) (sym c.requires.problems) (may_open 2 c.args.hub.now.journal (others_of c.args.hub.now.journal c.requires.others))
