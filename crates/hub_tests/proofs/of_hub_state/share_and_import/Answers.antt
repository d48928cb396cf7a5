use Rattle.std.proofs.Common.{◌≡◌, ◌∙◌, length, ap}
use base.Growing.{prefix_trans}
use Rattle.hub_state.specs.Journal.Noted.{Imported}
use Rattle.hub_state.specs.Journal.Journal.{pool_of}
use Rattle.hub_state.specs.HubView.{HubView}
use Rattle.hub_turns.proofs.Going.{pool_grows}
use Rattle.hub_tests.proofs.Growing.{entry_grows}
use Rattle.hub_tests.proofs.of_hub_state.share_and_import.Goals as goal

pub import_behind-requires-clause-begins : goal.import_behind-requires-clause-begins
import_behind-requires-clause-begins c =
    prefix_trans c.args.have.now (pool_of 0 c.args.hub.now.journal) (pool_of 0 c.publish_and_share.new.hub.journal) c.requires.begins c.in_ok-publish_and_share.ensures.grows

pub returns-clause-problems : goal.returns-clause-problems
returns-clause-problems c = ap (λ (h : HubView). h.problems) c.in_ok-import_behind.ensures.entry ∙ c.in_ok-publish_and_share.ensures.problems

pub returns-clause-begins : goal.returns-clause-begins
returns-clause-begins c =
    let old = c.publish_and_share.new.hub in
    let new = c.import_behind.new.self in
    prefix_trans c.import_behind.new.have (pool_of 0 old.journal) (pool_of 0 new.journal) c.in_ok-import_behind.ensures.begins
    (pool_grows 0 old.journal new.journal (entry_grows old new 2 (Imported 0 (length (pool_of 0 old.journal))) c.in_ok-import_behind.ensures.entry))
