use Rattle.std.proofs.Common.{◌≡◌, List, map, length, ◌∙◌, ap, arith}
use Rattle.std.proofs.lemmas.List.{length-map}
use Rattle.hub_state.specs.declared.journal_rules.event.Entry.{Entry}
use Rattle.hub_state.specs.Journal.Noted.{Noted, entry_of}
use Rattle.bench.proofs.journals.entries_of.Goals as goal

same_length : (entries : List Entry) (journal : List Noted) → entries ≡ map entry_of journal → length entries ≡ length journal
same_length entries journal e = ap length e ∙ length-map journal entry_of

pub overflow_cast-entries : goal.overflow_cast-entries
overflow_cast-entries c = let same = same_length c.journal-length.result.now c.args.hub.now.journal c.journal-length.ensures.entries in omega arith

pub returns : goal.returns
returns c = let same = same_length c.journal-length.result.now c.args.hub.now.journal c.journal-length.ensures.entries in omega arith
