use Rattle.std.proofs.Common.{refl}
use Rattle.hub_state.specs.Journal.Noted.{Published, Opened}
use Rattle.hub_state.proofs.Journal.FirstEntries.{opened_once, opened_first, published_first, shared_after}
use Rattle.hub_state.proofs.journal_rules.laws.what_comes_first.Goals as goal

pub returns-clause-once : goal.returns-clause-once
returns-clause-once c = opened_once

pub returns-clause-opened : goal.returns-clause-opened
returns-clause-opened c problems before after by key budget legal = opened_first problems before (record { by = by; note = Opened key budget }) after legal key budget refl

pub returns-clause-imported : goal.returns-clause-imported
returns-clause-imported c problems before after by key t legal = published_first problems before (record { by = by; note = Published key t }) after legal key t refl

pub returns-clause-shared : goal.returns-clause-shared
returns-clause-shared c problems before after by key t legal = shared_after problems before (record { by = by; note = Published key t }) after legal key t refl
